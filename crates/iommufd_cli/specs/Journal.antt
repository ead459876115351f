-- What stands behind the lines of a session's steps.
use Rattle.std.specs.Prelude.{◌≡◌, ◌⊎◌, ℕ, Bool, true, false, List, [], ◌++◌, codes}
use Rattle.hex.specs.Hex.{encode_lower}
use Rattle.iofd_words.specs.Record.{Record}
use Rattle.iofd_words.specs.Settings.{Settings}
use Rattle.iommufd_cli.specs.Replies.{line, memory_text}
use Rattle.journal_audit_bytes.specs.Journal.{IsJournal}
use Rattle.journal_audit_bytes.specs.declared.version.Version.TheVariants.{Two}

module _ {A : Type 0} where
  -- the journal of these records in hex, of version 2
  abbrev pub IsJournalLine : Settings → List (Record A) → List ℕ → Type 0
  IsJournalLine settings records out =
      (bytes : List ℕ) × IsJournal Two settings records bytes × (out ≡ line (codes "journal " ++ encode_lower bytes))

  -- nothing; or where it is asked for the journal's line, or that this can't be had
  abbrev pub EndText : Bool → Settings → List (Record A) → List ℕ → Type 0
  EndText false settings records out = out ≡ []
  EndText true settings records out = IsJournalLine settings records out ⊎ (out ≡ line memory_text)
