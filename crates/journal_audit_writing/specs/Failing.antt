-- Why nothing was written.
use Rattle.std.specs.Prelude.{Result, Ok, Err, ℕ}
use Rattle.journal_audit_writing.specs.declared.whole.JournalError.{JournalError}
use Rattle.journal_audit_writing.specs.declared.whole.JournalError.TheVariants as whole
use Rattle.journal_audit_writing.specs.declared.records.WriteError.{WriteError}
use Rattle.journal_audit_writing.specs.declared.records.WriteError.TheVariants.{Unspelt, NoMemory}

-- where the record has no spelling
abbrev pub OnUnspelt : {X : Type 0} → Result X WriteError → Type 0 → Type 0
OnUnspelt (Ok x) P = Unit {0}
OnUnspelt (Err Unspelt) P = P
OnUnspelt (Err NoMemory) P = Unit {0}

-- where the record at an index has none
abbrev pub OnUnspeltAt : {X : Type 0} → Result X JournalError → (ℕ → Type 0) → Type 0
OnUnspeltAt (Ok x) P = Unit {0}
OnUnspeltAt (Err (whole.Unspelt index)) P = P index
OnUnspeltAt (Err whole.NoMemory) P = Unit {0}
