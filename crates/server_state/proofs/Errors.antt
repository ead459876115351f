-- What is known where memory was wanting.
use Rattle.std.proofs.Common.{Result, Ok, Err}
use Rattle.std.specs.Result.{OnErr}

-- what holds anyway holds on an error
pub on_err_same : {X E : Type 0} (r : Result X E) (P : Type 0) → P → OnErr r P
on_err_same (Ok x) P known = tt
on_err_same (Err e) P known = known
