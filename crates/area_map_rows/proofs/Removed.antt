-- What is left where one area of a list goes.
use Rattle.std.proofs.Common.{◌≡◌, ◌∙◌, ℕ, suc, ◌-◌, ◌<◌, ◌≤◌, List, ◌++◌, length, take, ap, append-nil, arith}
use Rattle.std.specs.List.{remove}
use Rattle.std.proofs.lemmas.List.{take-take, drop_all, length-take-le}
use Rattle.std.proofs.lemmas.List.Edits.{remove-append_left}
use Rattle.iofd_words.specs.declared.rows.Area.{Area}

-- the last of those before the place goes
pub last_goes : (xs behind : List Area) (at : ℕ) → 0 < at → at ≤ length xs
    → remove (take at xs ++ behind) (at - 1) ≡ take (at - 1) xs ++ behind
last_goes xs behind at some within =
    let count = length-take-le at xs within in
    let none = drop_all (suc (at - 1)) (take at xs) (omega (arith, count)) in
    let left = take-take (at - 1) at xs (omega arith) in
    remove-append_left (take at xs) behind (at - 1) (omega (arith, count))
    ∙ ap (λ (ys : List Area). ys ++ behind) (rw (left, none) (append-nil (take (at - 1) xs)))
