-- The checks of the sizes and those of the fields together decide whether a structure is refused.
use Rattle.std.proofs.Common.{◌≡◌, ℕ, Bool, List, Option, Some, None, Result, sym, ◌∙◌}
use Rattle.std.specs.Prelude.{IsErrAnd}
use Rattle.std.proofs.lemmas.Result.{err_from_is_err_and}
use Rattle.iofd_words.specs.FirstTrue.{first_true}
use Rattle.iofd_words.specs.declared.refusal.Cause.{Cause}
use Rattle.iofd_words.specs.declared.refusal.Refusal.{Refusal}
use Rattle.ioctl_codec.specs.Layout.{Structure, length_of, are_allowed}
use Rattle.ioctl_codec.specs.Refusals.{after_size, size_checks, field_checks, read_numbers, read_count, refusal_of}
use Rattle.ioctl_codec.specs.Refusals.{cause_of}
use Rattle.ioctl_codec.proofs.FirstTrue.{earlier, later}

pub refused_early : {T : Type 0} (s : Structure) (bytes : List ℕ) (r : Result T Refusal) (e : Refusal)
    → IsErrAnd r (λ x. x ≡ e) → Some e.cause ≡ first_true (size_checks (length_of s) bytes)
    → cause_of r ≡ refusal_of s bytes
unfolding refusal_of
refused_early s bytes r e is early =
    let p = err_from_is_err_and r is in
    rw (p.1, p.2) (earlier (size_checks (length_of s) bytes) _ e.cause early)

pub checked_late : (s : Structure) (bytes after : List ℕ) (supported : Bool) (count : ℕ) (outcome : Option Cause)
    → None ≡ first_true (size_checks (length_of s) bytes) → after ≡ after_size bytes
    → supported ≡ are_allowed s.fields (read_numbers s bytes) → count ≡ read_count s bytes
    → outcome ≡ first_true (field_checks supported count after) → outcome ≡ refusal_of s bytes
unfolding refusal_of
checked_late s bytes after supported count outcome e at allowed counted f =
    rw (← counted, ← allowed, ← at) (f ∙ sym
    (later (size_checks (length_of s) bytes) (field_checks supported count after) e))

pub refused_late : {T : Type 0} (s : Structure) (bytes after : List ℕ) (supported : Bool) (count : ℕ)
    (r : Result T Refusal) (e : Refusal) → IsErrAnd r (λ x. x ≡ e) → None ≡ first_true (size_checks (length_of s) bytes)
    → after ≡ after_size bytes → supported ≡ are_allowed s.fields (read_numbers s bytes) → count ≡ read_count s bytes
    → Some e.cause ≡ first_true (field_checks supported count after) → cause_of r ≡ refusal_of s bytes
refused_late s bytes after supported count r e is sizes at allowed counted late =
    let p = err_from_is_err_and r is in
    rw (p.1, p.2) (checked_late s bytes after supported count (Some e.cause) sizes at allowed counted late)
