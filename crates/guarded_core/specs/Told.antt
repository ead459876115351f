-- What a core tells of notices, of usable ranges, and of all its records.
use Rattle.std.specs.Prelude.{◌≡◌, ◌<◌, ◌^◌, ℕ, length, Result, Err, IfOk, Vec}
use Rattle.iofd_words.specs.Accesses.{notices}
use Rattle.iofd_words.specs.Bounds.{Bounds}
use Rattle.iofd_words.specs.FirstTrue.{first_true}
use Rattle.iofd_steps.specs.Look.{AreUsableRanges, notices_checks, ranges_checks}
use Rattle.iofd_words.specs.View.{view}
use Rattle.iofd_words.specs.declared.call_error.CallError.{CallError}
use Rattle.iofd_words.specs.declared.call_error.CallError.TheVariants as error
use Rattle.iofd_words.specs.declared.numbers.FileNo.{FileNo}
use Rattle.iofd_words.specs.declared.numbers.ObjId.{ObjId}
use Rattle.iommufd_core.specs.History.{History, world}
use Rattle.iommufd_core.specs.Refused.{refused_cause}
use Rattle.iova_ranges.specs.declared.range_set.RangeSet.{RangeSet}
use Rattle.journal_audit_bytes.specs.Journal.{IsFirstUnspelt, IsJournal}
use Rattle.journal_audit_bytes.specs.declared.version.Version.TheVariants.{Two}
use Rattle.journal_audit_writing.specs.Failing.{OnUnspeltAt}
use Rattle.journal_audit_writing.specs.declared.whole.JournalError.{JournalError}

-- the access object's notices in the world of the history, or why there are none; memory is wanting only where there
-- are some
pub record TellsNotices {A Z : Type 0} (h : History A) (file : FileNo) (access : ObjId)
    (answer : Result (Vec Bounds Z) CallError) : Type 0 where
  pub refused : refused_cause answer ≡ first_true (notices_checks (view (world h)) file access)
  pub spans : IfOk answer (λ spans. spans.items ≡ notices (view (world h)) file access)
  pub memory : answer ≡ Err (error.Memory (record {})) → 0 < length (notices (view (world h)) file access)

-- these are the usable ranges in the world of the history, few enough to be counted, or why there are none
pub record TellsRanges {A : Type 0} (Z : Type 0) (h : History A) (file : FileNo) (ioas : ObjId)
    (told : Result (RangeSet Z) CallError) : Type 0 where
  pub refused : refused_cause told ≡ first_true (ranges_checks (view (world h)) file ioas)
  pub ranges : IfOk told (λ set. AreUsableRanges (view (world h)) file ioas set.spans)
  pub few : IfOk told (λ set. length set.spans < 2 ^ 32)

-- these bytes are the journal, of version 2, of the history; or this record is the first that has no spelling, or
-- memory was wanting
pub record TellsJournal {A Z : Type 0} (h : History A) (answer : Result (Vec ℕ Z) JournalError) : Type 0 where
  pub bytes : IfOk answer (λ bytes. IsJournal Two h.settings h.records bytes.items)
  pub unspelt : OnUnspeltAt answer (IsFirstUnspelt Two h.settings h.records)
