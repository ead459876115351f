-- Bytes of version 1 that aren't torn are the same with version 2's mark in place of their own.
use Rattle.std.proofs.Common.{◌≡◌, ◌≢◌, ℕ, List, [], ◌∷◌, ◌++◌, length, get_or, drop, refl, sym, ap, ◌∙◌, subst}
use Rattle.std.proofs.Common.{arith}
use Rattle.iofd_words.specs.Record.{Record}
use Rattle.iofd_words.specs.Settings.{Settings}
use Rattle.journal_audit.specs.Verdict.{BeginWithRun, IsVerdict, NoneFollows}
use Rattle.journal_audit.specs.declared.verdict.Verdict.{Verdict}
use Rattle.journal_audit.specs.declared.verdict.Verdict.TheVariants.{Run, NotRun, Torn}
use Rattle.journal_audit_bytes.specs.Head.{SpellsHead, settings_spelled}
use Rattle.journal_audit_bytes.specs.Journal.{SpellRecords, SpellsRecord, raw_record}
use Rattle.journal_audit_bytes.specs.Format.{Raw, Spells}
use Rattle.journal_audit_bytes.specs.Version.{mark}
use Rattle.journal_audit_bytes.specs.declared.version.Version.{Version}
use Rattle.journal_audit_bytes.specs.declared.version.Version.TheVariants.{One, Two}
use Rattle.journal_audit_bytes.proofs.Versions.{head_in_two, record_in_two}
use Rattle.journal_audit.proofs.Again.{text_tells}
use Rattle.journal_audit.proofs.Verdicts.{grouped, parted}

differ : ◌≡◌ {A = ℕ} 49 50 → ⊥
differ is = omega (arith, is)

-- the mark tells the version
is_one : (version : Version) (s : Settings) (rest text behind : List ℕ) → SpellsHead version s text
    → mark One ++ rest ≡ text ++ behind → version ≡ One
is_one One s rest text behind head same = refl
is_one Two s rest text behind head same =
    let marks : mark One ++ rest ≡ mark Two ++ (settings_spelled s ++ behind) =
    same ∙ ap (λ (bytes : List ℕ). bytes ++ behind) head.bytes_are
    ∙ grouped (mark Two) (settings_spelled s) behind in
    absurd (differ (ap (λ (bytes : List ℕ). get_or bytes 7 0) marks))

module _ {A : Type 0} where
  records_in_two : (s : Settings) (records : List (Record A)) (bytes : List ℕ) → SpellRecords One s records bytes
      → SpellRecords Two s records bytes
  records_in_two s [] bytes is = is
  records_in_two s (r ∷ records) bytes (front, rest, here, later, is) = (
    front,
    rest,
    record {
      reply = here.reply;
      gives = here.gives;
      spells = record_in_two s.passes (raw_record r here.reply) front here.spells;
    },
    records_in_two s records rest later,
    is,
  )

  -- a record that bytes of version 1 spell in version 2 is theirs in version 1, too
  none_in_two : (s : Settings) (records : List (Record A)) (rest : List ℕ) → NoneFollows One s records rest
      → NoneFollows Two s records rest
  none_in_two s records rest n = record {
    raw = n.raw;
    text = n.text;
    behind = n.behind;
    spells = record_in_two s.passes n.raw n.text n.spells;
    rest_is = n.rest_is;
    none = λ r spelled lawful. n.none r (in_one r spelled) lawful;
  }
    where
      in_one : (r : Record A) → SpellsRecord Two s r n.text → SpellsRecord One s r n.text
      in_one r spelled =
          let told = text_tells Two s.passes n.raw (raw_record r spelled.reply) n.text n.text [] []
          (record_in_two s.passes n.raw n.text n.spells) spelled.spells refl in
          record {
            reply = spelled.reply;
            gives = spelled.gives;
            spells = subst (λ (x : Raw). Spells One s.passes x n.text) told.0 n.spells;
          }

  one_in_two : (rest : List ℕ) (s : Settings) (records : List (Record A)) (left : List ℕ)
      → BeginWithRun (mark One ++ rest) One s records left → BeginWithRun (mark Two ++ rest) Two s records left
  one_in_two rest s records left b =
      let behind : List ℕ = settings_spelled s ++ b.journal.records in
      let front : b.front ≡ mark One ++ behind =
      b.journal.bytes_are ∙ ap (λ (bytes : List ℕ). bytes ++ b.journal.records) b.journal.head_is.bytes_are
      ∙ grouped (mark One) (settings_spelled s) b.journal.records in
      let whole : mark One ++ rest ≡ mark One ++ (behind ++ left) =
      b.bytes_are ∙ ap (λ (bytes : List ℕ). bytes ++ left) front ∙ grouped (mark One) behind left in
      let same : rest ≡ behind ++ left = ap (λ (bytes : List ℕ). drop (length (mark One)) bytes) whole in
      record {
        front = mark Two ++ behind;
        journal = record {
          head = mark Two ++ settings_spelled s;
          head_is = head_in_two s b.journal.head b.journal.head_is;
          records = b.journal.records;
          records_are = records_in_two s records b.journal.records b.journal.records_are;
          bytes_are = sym (grouped (mark Two) (settings_spelled s) b.journal.records);
        };
        run = b.run;
        bytes_are = ap (λ (bytes : List ℕ). mark Two ++ bytes) same ∙ sym (grouped (mark Two) behind left);
      }

  of_one : (rest : List ℕ) (version : Version) (s : Settings) (records : List (Record A)) (left : List ℕ)
      → BeginWithRun (mark One ++ rest) version s records left → version ≡ One
  of_one rest version s records left b =
      is_one version s rest b.journal.head (b.journal.records ++ left) b.journal.head_is
      (parted (mark One ++ rest) s records left b)

  begin_in_two : (rest : List ℕ) (version : Version) (s : Settings) (records : List (Record A)) (left : List ℕ)
      → BeginWithRun (mark One ++ rest) version s records left
      → BeginWithRun (mark Two ++ rest) Two s records left
  begin_in_two rest version s records left b =
      one_in_two rest s records left
      (subst (λ (v : Version). BeginWithRun (mark One ++ rest) v s records left)
      (of_one rest version s records left b) b)

pub in_two : (A : Type 0) (rest : List ℕ) (v : Verdict) → ((offset : ℕ) → v ≢ Torn offset)
    → IsVerdict A (mark One ++ rest) v → IsVerdict A (mark Two ++ rest) v
in_two A rest (Run count) untorn (version, s, records, b, is) =
    (Two, s, records, begin_in_two rest version s records [] b, is)
in_two A rest (NotRun index) untorn (version, s, records, left, b, none, is) = (
  Two,
  s,
  records,
  left,
  begin_in_two rest version s records left b,
  none_in_two s records left (subst (λ (v : Version). NoneFollows v s records left)
      (of_one rest version s records left b) none),
  is,
)
in_two A rest (Torn offset) untorn is = absurd (untorn offset refl)
