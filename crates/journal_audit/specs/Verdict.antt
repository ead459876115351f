-- What an auditor's word means of the bytes that it was given.
use Rattle.std.specs.Prelude.{◌≡◌, ◌≢◌, ℕ, zero, suc, ◌+◌, List, [], ◌++◌, length}
use Rattle.iofd_steps.specs.Run.{IsRun, Lawful, world_of}
use Rattle.iofd_words.specs.Record.{Record}
use Rattle.iofd_words.specs.Settings.{Settings}
use Rattle.journal_audit.specs.declared.verdict.Verdict.{Verdict}
use Rattle.journal_audit.specs.declared.verdict.Verdict.TheVariants.{Run, NotRun, Torn}
use Rattle.journal_audit_bytes.specs.Format.{Raw, Spells}
use Rattle.journal_audit_bytes.specs.Head.{SpellsHead}
use Rattle.journal_audit_bytes.specs.Journal.{IsJournal, SpellsRecord}
use Rattle.journal_audit_bytes.specs.declared.version.Version.{Version}

-- the bytes begin with no head of any version
abbrev pub BeginNoHead : List ℕ → Type 0
BeginNoHead bytes =
    (version : Version) (s : Settings) (text rest : List ℕ) → SpellsHead version s text → bytes ≡ text ++ rest → ⊥

-- they begin with no record of this version, where there are so many passes
abbrev pub BeginNoRecord : Version → ℕ → List ℕ → Type 0
BeginNoRecord version passes bytes =
    (r : Raw) (text rest : List ℕ) → Spells version passes r text → bytes ≡ text ++ rest → ⊥

module _ {A : Type 0} where
  -- the bytes are the journal of this version of these records, which are a run, and behind it the rest
  pub record BeginWithRun (bytes : List ℕ) (version : Version) (s : Settings) (records : List (Record A))
      (rest : List ℕ) : Type 0 where
    pub front : List ℕ
    pub journal : IsJournal version s records front
    pub run : IsRun s records
    pub bytes_are : bytes ≡ front ++ rest

  -- the rest begins with a record, and whatever is told by its bytes isn't lawful after the run
  pub record NoneFollows (version : Version) (s : Settings) (records : List (Record A)) (rest : List ℕ) : Type 0 where
    pub raw : Raw
    pub text : List ℕ
    pub behind : List ℕ
    pub spells : Spells version s.passes raw text
    pub rest_is : rest ≡ text ++ behind
    pub none : (r : Record A) → SpellsRecord version s r text → Lawful (length records) (world_of s records) r → ⊥

-- a journal, of either version, of so many records, which are a run; or the records in front of the one at this index,
-- counted from 0, are a run with which that one doesn't go on; or the bytes begin with no head, at 0, or behind a head
-- and a run no record begins at this offset
abbrev pub IsVerdict : Type 0 → List ℕ → Verdict → Type 0
IsVerdict A bytes (Run count) =
    (version : Version) × (s : Settings) × (records : List (Record A)) × BeginWithRun bytes version s records []
    × (count ≡ length records)
IsVerdict A bytes (NotRun index) =
    (version : Version) × (s : Settings) × (records : List (Record A)) × (rest : List ℕ)
    × BeginWithRun bytes version s records rest × NoneFollows version s records rest × (index ≡ length records)
IsVerdict A bytes (Torn zero) = BeginNoHead bytes
IsVerdict A bytes (Torn (suc offset)) =
    (version : Version) × (s : Settings) × (records : List (Record A)) × (rest : List ℕ)
    × BeginWithRun bytes version s records rest × BeginNoRecord version s.passes rest × (rest ≢ [])
    × (length bytes ≡ suc offset + length rest)
