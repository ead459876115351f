-- Look-ups by a number that counts from 1.
use Rattle.std.proofs.Common.{◌≡◌, ℕ, zero, suc, ◌-◌, ◌≤◌, List, length, Option, Some, None, slice_get, sym, refl, ap}
use Rattle.std.proofs.Common.{arith}
use Rattle.std.proofs.lemmas.Option.{slice_get_past, slice_get_read}
use Rattle.std.specs.Borrow.{Bor}
use Rattle.std.specs.Option.{option_copied}
use Rattle.std.specs.Slice.{IsItemAt}
use Rattle.iofd_words.specs.Files.{numbered}

module _ {A : Type 0} (xs : List A) where
  pub numbered_none : (n : ℕ) → (1 ≤ n → ⊥) → numbered xs n ≡ None
  numbered_none zero none = refl
  numbered_none (suc n) none = absurd (none (omega arith))

  pub numbered_at : (n : ℕ) → 1 ≤ n → numbered xs n ≡ slice_get xs (n - 1)
  numbered_at zero some = absurd (omega arith)
  numbered_at (suc n) some = ap (slice_get xs) (let at : n ≡ suc n - 1 = omega arith in at)

  -- what `get` answers
  pub looked_up : (i : ℕ) (r : Option (Bor A)) → IsItemAt xs i r → option_copied r ≡ slice_get xs i
  looked_up i None got = sym (slice_get_past xs i got.3)
  looked_up i (Some x) got = sym (slice_get_read xs (length xs) i x.now refl got.3.0 got.1)
