-- The place in the bytes up to which an auditor has come, and what a record there makes of it.
use Rattle.std.proofs.Common.{◌≡◌, ◌≢◌, ℕ, zero, suc, ◌+◌, ◌-◌, ◌<◌, ◌≤◌, Some, List, [], ◌∷◌, ◌++◌, length, refl, sym, ap}
use Rattle.std.proofs.Common.{◌∙◌, subst, arith, append-nil, append_assoc}
use Rattle.std.proofs.lemmas.List.{length-append}
use Rattle.iofd_steps.specs.Run.{IsRun, Lawful, after, world_of}
use Rattle.iofd_words.specs.Record.{Record}
use Rattle.iofd_words.specs.Settings.{Settings}
use Rattle.iofd_words.specs.World.{World, opening}
use Rattle.iofd_runs.proofs.OneMore.{run_more, world_more}
use Rattle.iofd_runs.proofs.Runs.{run_keeps}
use Rattle.iofd_runs.proofs.SameSettings.{keeps_settings, tabled_settings}
use Rattle.journal_audit.specs.Next.{IsNext}
use Rattle.journal_audit.specs.Verdict.{BeginNoRecord, BeginWithRun, IsVerdict}
use Rattle.journal_audit.specs.declared.next.Next.TheVariants as next
use Rattle.journal_audit.specs.declared.verdict.Verdict.TheVariants.{NotRun, Torn}
use Rattle.journal_audit_bytes.specs.Format.{Raw, Spells}
use Rattle.journal_audit_bytes.specs.Head.{SpellsHead}
use Rattle.journal_audit_bytes.specs.HeadReading.{head_at, version_at}
use Rattle.journal_audit_bytes.specs.Journal.{SpellRecords, SpellsRecord, raw_record}
use Rattle.journal_audit_bytes.specs.declared.version.Version.{Version}
use Rattle.journal_audit_bytes.proofs.Heads.{head_again}
use Rattle.journal_audit_world.specs.Kept.{IsKept}
use Rattle.journal_audit_world.specs.Unwritten.{unwritten}
use Rattle.journal_audit_world.proofs.Alike.{after_alike, kept_alike, lawful_alike}
use Rattle.journal_audit_world.proofs.KeptRun.{kept_run}
use Rattle.journal_audit.proofs.Verdicts.{grouped, some_text}

some_bytes : (version : Version) (passes : ℕ) (r : Raw) (text : List ℕ) → Spells version passes r text → 0 < length text
some_bytes version passes r [] spells = absurd (some_text version passes r [] [] spells refl)
some_bytes version passes r (byte ∷ bytes) spells = omega arith

no_head : (x : Version × Settings × List ℕ) → head_at [] ≡ Some x → ⊥
unfolding head_at version_at
no_head x is = cc

some_head : (version : Version) (s : Settings) (text : List ℕ) → SpellsHead version s text → 0 < length text
some_head version s [] head = absurd (no_head (version, s, []) (head_again version s [] [] head))
some_head version s (byte ∷ bytes) head = omega arith

-- a run stands before the rest, of so many records, and has left this world
pub record IsReached (A : Type 0) (version : Version) (bytes : List ℕ) (s : Settings) (rest : List ℕ) (world : World)
    (index : ℕ) : Type 0 where
  pub records : List (Record A)
  pub begin : BeginWithRun bytes version s records rest
  pub count : index ≡ length records
  pub left : unwritten world ≡ unwritten (world_of s records)
  pub few : index + length rest ≤ length bytes

module _ {A : Type 0} (version : Version) where
  -- ---- the start

  pub started : (bytes : List ℕ) (s : Settings) (rest : List ℕ) (world : World) (text : List ℕ)
      → SpellsHead version s text → bytes ≡ text ++ rest → world ≡ opening s → IsReached A version bytes s rest world 0
  unfolding IsRun world_of
  started bytes s rest world text head is opens =
      record {
        records = [];
        begin = record {
          front = text;
          journal = record {
            head = text;
            head_is = head;
            records = [];
            records_are = refl;
            bytes_are = sym (append-nil text);
          };
          run = tt;
          bytes_are = is;
        };
        count = refl;
        left = ap (λ (w : World). unwritten w) opens;
        few = let long : length bytes ≡ length text + length rest = ap length is ∙ length-append text rest in
            omega (arith, long);
      }

  -- ---- the world there

  same_settings : (s : Settings) (records : List (Record A)) → IsRun s records → (world_of s records).settings ≡ s
  unfolding IsRun world_of
  same_settings s records run =
      run_keeps (λ w. w.settings ≡ s) (tabled_settings s) (keeps_settings s) 0 (opening s) records run refl

  pub has_settings : (bytes : List ℕ) (s : Settings) (rest : List ℕ) (world : World) (index : ℕ)
      → IsReached A version bytes s rest world index → world.settings ≡ s
  has_settings bytes s rest world index r =
      ap (λ (w : World). w.settings) r.left ∙ same_settings s r.records r.begin.run

  pub is_kept : (bytes : List ℕ) (s : Settings) (rest : List ℕ) (world : World) (index : ℕ)
      → IsReached A version bytes s rest world index → IsKept index world
  is_kept bytes s rest world index r =
      subst (λ (n : ℕ). IsKept n world) (sym r.count)
      (kept_alike (length r.records) (world_of s r.records) world (sym r.left) (kept_run s r.records r.begin.run))

  -- ---- a lawful record more

  pushed : (s : Settings) (records : List (Record A)) (r : Record A) (text front : List ℕ)
      → SpellRecords version s records text
      → SpellsRecord version s r front → SpellRecords version s (records ++ r ∷ []) (text ++ front)
  pushed s [] r text front h is =
      (front, [], is, refl, ap (λ (t : List ℕ). t ++ front) h ∙ sym (append-nil front))
  pushed s (x ∷ records) r text front h is = (
    h.0,
    h.1 ++ front,
    h.2,
    pushed s records r h.1 front h.3 is,
    ap (λ (t : List ℕ). t ++ front) h.4 ∙ append_assoc h.0 h.1 front,
  )

  lawful_there : (bytes : List ℕ) (s : Settings) (rest : List ℕ) (world : World) (index : ℕ) (r : Record A)
      → (reached : IsReached A version bytes s rest world index) → Lawful index world r
      → Lawful (length reached.records) (world_of s reached.records) r
  lawful_there bytes s rest world index r reached lawful =
      lawful_alike (length reached.records) world (world_of s reached.records) r reached.left
      (subst (λ (n : ℕ). Lawful n world r) reached.count lawful)

  lawful_here : (bytes : List ℕ) (s : Settings) (rest : List ℕ) (world : World) (index : ℕ) (r : Record A)
      → (reached : IsReached A version bytes s rest world index)
      → Lawful (length reached.records) (world_of s reached.records) r → Lawful index world r
  lawful_here bytes s rest world index r reached lawful =
      subst (λ (n : ℕ). Lawful n world r) (sym reached.count)
      (lawful_alike (length reached.records) (world_of s reached.records) world r (sym reached.left) lawful)

  with_settings : (bytes : List ℕ) (s : Settings) (rest : List ℕ) (world : World) (index : ℕ) (r : Record A)
      (text : List ℕ) → IsReached A version bytes s rest world index → SpellsRecord version world.settings r text
      → SpellsRecord version s r text
  with_settings bytes s rest world index r text reached =
      subst (λ (x : Settings). SpellsRecord version x r text) (has_settings bytes s rest world index reached)

  begun_more : (bytes : List ℕ) (s : Settings) (records : List (Record A)) (rest behind : List ℕ)
      (r : Record A) (text : List ℕ) → BeginWithRun bytes version s records rest → SpellsRecord version s r text
      → rest ≡ text ++ behind → Lawful (length records) (world_of s records) r
      → BeginWithRun bytes version s (records ++ r ∷ []) behind
  begun_more bytes s records rest behind r text b spells is lawful =
      record {
        front = b.front ++ text;
        journal = record {
          head = b.journal.head;
          head_is = b.journal.head_is;
          records = b.journal.records ++ text;
          records_are = pushed s records r b.journal.records text b.journal.records_are spells;
          bytes_are = ap (λ (x : List ℕ). x ++ text) b.journal.bytes_are
              ∙ grouped b.journal.head b.journal.records text;
        };
        run = run_more s records r b.run lawful;
        bytes_are = b.bytes_are ∙ ap (λ (x : List ℕ). b.front ++ x) is ∙ sym (grouped b.front text behind);
      }

  pub goes_on : (bytes : List ℕ) (s : Settings) (rest behind : List ℕ) (world new : World) (index : ℕ)
      → IsReached A version bytes s rest world index → IsNext A version index world new rest behind next.Follows
      → IsReached A version bytes s behind new (index + 1)
  goes_on bytes s rest behind world new index reached (r, text, spells, is, lawful, left) =
      let here = with_settings bytes s rest world index r text reached spells in
      let there = lawful_there bytes s rest world index r reached lawful in
      let long : length rest ≡ length text + length behind = ap length is ∙ length-append text behind in
      let some = some_bytes version s.passes (raw_record r here.reply) text here.spells in
      let few : index + length rest ≤ length bytes = reached.few in
      let count : index ≡ length reached.records = reached.count in
      record {
        records = reached.records ++ r ∷ [];
        begin = begun_more bytes s reached.records rest behind r text reached.begin here is there;
        count = let more = length-append reached.records (r ∷ []) in omega (arith, more, count);
        left = left ∙ after_alike index world (world_of s reached.records) r reached.left
            ∙ ap (λ (n : ℕ). unwritten (after n (world_of s reached.records) r)) reached.count
            ∙ ap (λ (w : World). unwritten w) (sym (world_more s reached.records r));
        few = omega (arith, few, long, some);
      }

  -- ---- the end

  pub none_goes_on : (bytes : List ℕ) (s : Settings) (rest behind : List ℕ) (world new : World) (index : ℕ)
      → IsReached A version bytes s rest world index → IsNext A version index world new rest behind next.Not
      → IsVerdict A bytes (NotRun index)
  none_goes_on bytes s rest behind world new index reached (raw, text, spells, is, none) =
      let same = has_settings bytes s rest world index reached in (
        version,
        s,
        reached.records,
        rest,
        reached.begin,
        record {
          raw = raw;
          text = text;
          behind = behind;
          spells = subst (λ (x : Settings). Spells version x.passes raw text) same spells;
          rest_is = is;
          none = λ r spelled lawful.
              none r (subst (λ (x : Settings). SpellsRecord version x r text) (sym same) spelled)
              (lawful_here bytes s rest world index r reached lawful);
        },
        reached.count,
      )

  pub is_torn : (bytes : List ℕ) (s : Settings) (rest behind : List ℕ) (world new : World) (index : ℕ)
      → rest ≢ [] → IsReached A version bytes s rest world index
      → IsNext A version index world new rest behind next.Torn
      → IsVerdict A bytes (Torn (length bytes - length rest))
  is_torn bytes s rest behind world new index more reached torn =
      at_offset (length bytes - length rest) (head_long reached.begin) refl
    where
      -- there is something before it
      head_long : BeginWithRun bytes version s reached.records rest → 0 < length bytes - length rest
      head_long b =
          let long : length bytes ≡ length b.front + length rest = ap length b.bytes_are ∙ length-append b.front rest in
          let front : length b.front ≡ length b.journal.head + length b.journal.records =
          ap length b.journal.bytes_are ∙ length-append b.journal.head b.journal.records in
          let some = some_head version s b.journal.head b.journal.head_is in
          omega (arith, long, front, some)

      at_offset : (offset : ℕ) → 0 < offset → offset ≡ length bytes - length rest → IsVerdict A bytes (Torn offset)
      at_offset zero some is = absurd (omega (arith, some))
      at_offset (suc n) some is = (
        version,
        s,
        reached.records,
        rest,
        reached.begin,
        subst (λ (x : Settings). BeginNoRecord version x.passes rest) (has_settings bytes s rest world index reached)
            torn.0,
        more,
        (let few : index + length rest ≤ length bytes = reached.few in omega (arith, is, few)),
      )
