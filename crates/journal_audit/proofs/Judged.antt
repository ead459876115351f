-- What a record's tags and fields tell, and whether it is lawful.
use Rattle.std.proofs.Common.{◌≡◌, ℕ, Bool, true, false, Some, None, List, ◌++◌, refl, sym, ap, ◌∙◌, subst}
use Rattle.std.proofs.Common.{Result, Ok, Err, IfOk, IsTrue}
use Rattle.iofd_steps.specs.Run.{Lawful, after}
use Rattle.iofd_words.specs.Record.{Record}
use Rattle.iofd_words.specs.Settings.{Settings}
use Rattle.iofd_words.specs.World.{World}
use Rattle.iofd_words.specs.declared.event.Event.{Event}
use Rattle.iofd_words.specs.declared.refusal.NoMemory.{NoMemory}
use Rattle.journal_audit.specs.Next.{IsJudged, IsNext, Tells, next_of}
use Rattle.journal_audit.specs.declared.next.Next.TheVariants as next
use Rattle.journal_audit_bytes.specs.Format.{Raw, Spells}
use Rattle.journal_audit_bytes.specs.Journal.{SpellsRecord, raw_record}
use Rattle.journal_audit_bytes.specs.Reading.{Fails, raw_of}
use Rattle.journal_audit_bytes.specs.Replies.{reply_of}
use Rattle.journal_audit_bytes.specs.declared.spelled.ReadError.{ReadError}
use Rattle.journal_audit_bytes.specs.declared.spelled.ReadError.TheVariants.{Memory, Torn}
use Rattle.journal_audit_bytes.specs.declared.spelled.SpelledRecord.{SpelledRecord}
use Rattle.journal_audit_bytes.specs.declared.spelled.SpelledReply.{SpelledReply}
use Rattle.journal_audit_bytes.specs.declared.version.Version.{Version}
use Rattle.journal_audit_world.specs.Decides.{Decides}
use Rattle.journal_audit_world.specs.Unwritten.{unwritten}
use Rattle.journal_audit.proofs.Again.{event_again, event_of, reply_again, reply_at, same_raw, text_tells}

module _ {A : Type 0} where
  pub one_told : (s : Settings) (raw : Raw) (q r : Record A) → Tells s raw q → Tells s raw r → q ≡ r
  one_told s raw q r t u = same_raw s q r t.reply u.reply (sym t.is ∙ u.is) t.gives u.gives

  -- the record that they tell decides
  pub judged : (at : ℕ) (old new : World) (raw : Raw) (r : Record A) (lawful : Bool) → Tells old.settings raw r
      → Decides lawful (Lawful at old r) → (lawful ≡ true → unwritten new ≡ unwritten (after at old r))
      → IsJudged A at old new raw lawful
  judged at old new raw r true tells is left = (r, tells, is, left refl)
  judged at old new raw r false tells is left =
      λ q told lawful. is (subst (λ (x : Record A). Lawful at old x) (one_told old.settings raw q r told tells) lawful)

  pub none_told : (s : Settings) (spelled : SpelledRecord A) → reply_of s spelled.event spelled.reply ≡ None
      → (r : Record A) → Tells s (raw_of spelled) r → ⊥
  none_told s spelled none r tells =
      let event : spelled.event ≡ r.event = sym (event_again spelled.event)
      ∙ ap (λ (raw : Raw). event_of raw.event) tells.is ∙ event_again r.event in
      let reply : spelled.reply ≡ tells.reply = sym (reply_again spelled.reply)
      ∙ ap (λ (raw : Raw). reply_at raw.reply) tells.is ∙ reply_again tells.reply in
      let never = sym none ∙ ap (λ (e : Event A). reply_of s e spelled.reply) event
      ∙ ap (λ (x : SpelledReply). reply_of s r.event x) reply ∙ tells.gives in
      cc

  -- as a test of the record says, where memory wasn't wanting
  pub if_judged : (at : ℕ) (old new : World) (raw : Raw) (r : Record A) (result : Result Bool NoMemory)
      → Tells old.settings raw r → IfOk result (λ lawful. Decides lawful (Lawful at old r))
      → IfOk result (λ lawful. IsTrue lawful → unwritten new ≡ unwritten (after at old r))
      → IfOk result (λ lawful. IsJudged A at old new raw lawful)
  if_judged at old new raw r (Ok lawful) tells is left =
      judged at old new raw r lawful tells is (λ yes. left (subst IsTrue (sym yes) refl))
  if_judged at old new raw r (Err e) tells is left = tt

  -- at the front of bytes
  pub follows : (version : Version) (at : ℕ) (old new : World) (bytes rest : List ℕ) (raw : Raw) (text : List ℕ)
      → Spells version old.settings.passes raw text → bytes ≡ text ++ rest → IsJudged A at old new raw true
      → IsNext A version at old new bytes rest next.Follows
  follows version at old new bytes rest raw text spells is (r, tells, lawful, left) = (
    r,
    text,
    record {
      reply = tells.reply;
      gives = tells.gives;
      spells = subst (λ (x : Raw). Spells version old.settings.passes x text) tells.is spells;
    },
    is,
    lawful,
    left,
  )

  pub none_follows : (version : Version) (at : ℕ) (old new : World) (bytes rest : List ℕ) (raw : Raw) (text : List ℕ)
      → Spells version old.settings.passes raw text → bytes ≡ text ++ rest → IsJudged A at old new raw false
      → IsNext A version at old new bytes rest next.Not
  none_follows version at old new bytes rest raw text spells is none =
      (raw, text, spells, is, λ r spelled lawful. none r (told r spelled) lawful)
    where
      told : (r : Record A) → SpellsRecord version old.settings r text → Tells old.settings raw r
      told r spelled =
          let same = text_tells version old.settings.passes raw (raw_record r spelled.reply) text text rest rest spells
          spelled.spells refl in
          let tells : Tells old.settings raw r = record { reply = spelled.reply; gives = spelled.gives; is = same.0 } in
          tells

pub told_next : (A : Type 0) (version : Version) (at : ℕ) (old new : World) (bytes rest : List ℕ) (raw : Raw)
    (text : List ℕ) (lawful : Bool)
    → Spells version old.settings.passes raw text → bytes ≡ text ++ rest → IsJudged A at old new raw lawful
    → IsNext A version at old new bytes rest (next_of lawful)
told_next A version at old new bytes rest raw text true spells is judged =
    follows {A = A} version at old new bytes rest raw text spells is judged
told_next A version at old new bytes rest raw text false spells is judged =
    none_follows {A = A} version at old new bytes rest raw text spells is judged

-- where bytes are torn nothing is read of them
pub none_read : {Y : Type 0} (e : ReadError) (y : Y) → e ≡ Torn → Fails e (Some y) → ⊥
none_read Torn y is fails = cc
none_read Memory y is fails = cc
