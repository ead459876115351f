-- A clause of what an `Ok` holds says nothing of an `Err`.
use Rattle.std.proofs.Common.{Result, Ok, Err, IfOk, is_err, ◌≡◌, true}
use Rattle.std.proofs.lemmas.Bool.{false≢true}

pub unsaid : {T E : Type 0} (P : T → Type 0) (r : Result T E) → is_err r ≡ true → IfOk r P
unsaid P (Ok x) e = absurd (false≢true e)
unsaid P (Err x) e = tt
