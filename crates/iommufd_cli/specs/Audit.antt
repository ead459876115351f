-- What `audit` writes for the hex of a journal.
use Rattle.std.specs.Prelude.{◌≡◌, ◌⊎◌, ℕ, Ok, Err, IfSome, Option, List, ◌++◌, codes, decimal}
use Rattle.std.specs.Io.BufRead.{strip_last}
use Rattle.std.specs.Io.KnownBytes.{Keeps}
use Rattle.hex.specs.Hex.{decode_of}
use Rattle.hex.specs.declared.error.FromHexError.{FromHexError}
use Rattle.iommufd_cli.specs.Failures.{BeginsWithin, IsReadFault}
use Rattle.iommufd_cli.specs.Output.{IsFinal, IsFront, Writes}
use Rattle.iommufd_cli.specs.Replies.{line, no_memory_text}
use Rattle.iommufd_cli.specs.Session.{IsWithoutMemory}
use Rattle.iommufd_cli.specs.declared.fault.CliFault.{CliFault}
use Rattle.iommufd_cli.specs.declared.fault.CliFault.TheVariants as fault
use Rattle.journal_audit.specs.Verdict.{IsVerdict}
use Rattle.journal_audit.specs.declared.verdict.Verdict.{Verdict}
use Rattle.journal_audit.specs.declared.verdict.Verdict.TheVariants.{Run, NotRun, Torn}

abbrev pub verdict_text : Verdict → List ℕ
verdict_text (Run records) = codes "run " ++ decimal records
verdict_text (NotRun index) = codes "not a run: record " ++ decimal index
verdict_text (Torn offset) = codes "torn at " ++ decimal offset

-- the exit status
abbrev pub status_of : Verdict → ℕ
status_of (Run records) = 0
status_of (NotRun index) = 2
status_of (Torn offset) = 1

-- the digits: all bytes, but for one line feed at their end
abbrev pub digits_in : List ℕ → List ℕ
digits_in input = strip_last 10 input

-- they are no hex, of either case: that alone, and status 1
pub record IsBadHex (input out : List ℕ) (status : ℕ) : Type 0 where
  pub error : FromHexError
  pub bad : decode_of (digits_in input) ≡ Err error
  pub out_is : out ≡ line (codes "bad hex")
  pub status_is : status ≡ 1

-- they are bytes: what these are, and its status
pub record IsAudited (A : Type 0) (input out : List ℕ) (status : ℕ) : Type 0 where
  pub bytes : List ℕ
  pub good : decode_of (digits_in input) ≡ Ok bytes
  pub verdict : Verdict
  pub true_of : IsVerdict A bytes verdict
  pub out_is : out ≡ line (verdict_text verdict)
  pub status_is : status ≡ status_of verdict

-- the line and the status, or that there was no memory
abbrev pub IsAuditText : Type 0 → List ℕ → List ℕ → ℕ → Type 0
IsAuditText A input out status =
    IsBadHex input out status ⊎ IsAudited A input out status ⊎ IsWithoutMemory out status

-- the same of digits that are at hand, where a beginning of the line, and not all of it, was written
pub record BeginsLine (A : Type 0) (input out : List ℕ) : Type 0 where
  pub text : List ℕ
  pub status : ℕ
  pub audited : IsAuditText A input text status
  pub front : IsFront out text

abbrev pub BeginsAudit : Type 0 → List ℕ → List ℕ → Type 0
BeginsAudit A input out = BeginsLine A input out ⊎ IsFront out (line no_memory_text)

-- what a fault leaves: of a reader's nothing was written, and of a writer's a beginning of the line
abbrev pub LeavesAudit : Type 0 → CliFault → Option (List ℕ) → Option (List ℕ) → Option (List ℕ) → Type 0
LeavesAudit A (fault.Input reason) known old new = IsReadFault (fault.Input reason) known × Keeps old new
LeavesAudit A (fault.Output error) known old new =
    IsFinal error × IfSome known (λ input. Writes (λ out. BeginsAudit A input out × BeginsWithin input out) old new)
