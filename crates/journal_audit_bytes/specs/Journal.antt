-- A journal: the bytes of its head, and of each record in turn.
use Rattle.std.specs.Prelude.{◌≡◌, ℕ, zero, suc, Some, List, [], ◌∷◌, ◌++◌}
use Rattle.iofd_words.specs.Record.{Record}
use Rattle.iofd_words.specs.Settings.{Settings}
use Rattle.journal_audit_bytes.specs.Format.{Raw, Spells}
use Rattle.journal_audit_bytes.specs.Head.{SpellsHead}
use Rattle.journal_audit_bytes.specs.Reading.{of_frames, tagged_event, tagged_reply}
use Rattle.journal_audit_bytes.specs.Replies.{reply_of}
use Rattle.journal_audit_bytes.specs.declared.version.Version.{Version}
use Rattle.journal_audit_bytes.specs.declared.spelled.SpelledReply.{SpelledReply}

module _ {A : Type 0} where
  -- the record's tags and fields, where it tells its reply so
  abbrev pub raw_record : Record A → SpelledReply → Raw
  raw_record r reply =
      record {
        pass = r.pass.0;
        event = tagged_event r.event;
        reply = tagged_reply reply;
        taken = of_frames r.taken;
        given = of_frames r.given;
      }

  -- these bytes are the record's in a journal of this version with these settings: what they tell of its reply gives
  -- the reply
  pub record SpellsRecord (version : Version) (s : Settings) (r : Record A) (bytes : List ℕ) : Type 0 where
    pub reply : SpelledReply
    pub gives : reply_of s r.event reply ≡ Some r.reply
    pub spells : Spells version s.passes (raw_record r reply) bytes

  -- some bytes are the record's
  abbrev pub HasSpelling : Version → Settings → Record A → Type 0
  HasSpelling version s r = (bytes : List ℕ) × SpellsRecord version s r bytes

  -- the bytes of each record, one behind the other
  abbrev pub SpellRecords : Version → Settings → List (Record A) → List ℕ → Type 0
  SpellRecords version s [] bytes = bytes ≡ []
  SpellRecords version s (r ∷ rs) bytes =
      (front : List ℕ) × (rest : List ℕ) × SpellsRecord version s r front × SpellRecords version s rs rest
      × (bytes ≡ front ++ rest)

  -- the bytes of a head of this version, and those of the records behind it
  pub record IsJournal (version : Version) (s : Settings) (rs : List (Record A)) (bytes : List ℕ) : Type 0 where
    pub head : List ℕ
    pub head_is : SpellsHead version s head
    pub records : List ℕ
    pub records_are : SpellRecords version s rs records
    pub bytes_are : bytes ≡ head ++ records

  -- the record at this index, counted from 0, has no spelling, and each before it has one
  abbrev pub IsFirstUnspelt : Version → Settings → List (Record A) → ℕ → Type 0
  IsFirstUnspelt version s [] index = ⊥
  IsFirstUnspelt version s (r ∷ rs) zero = ¬ HasSpelling version s r
  IsFirstUnspelt version s (r ∷ rs) (suc index) = HasSpelling version s r × IsFirstUnspelt version s rs index
