-- One element in place of some side by side.
use Rattle.std.proofs.Common.{◌≡◌, ℕ, ◌+◌, ◌≤◌, List, [], ◌∷◌, ◌++◌, length, take, drop, set, append_assoc, arith}
use Rattle.std.specs.List.{remove_range}
use Rattle.std.proofs.lemmas.List.{take_more_set, drop-set-lt}
use Rattle.iofd_words.specs.Bounds.{Bounds}

pub replaced : (xs : List Bounds) (from to : ℕ) (x : Bounds) → from + 1 ≤ to → to ≤ length xs
    → remove_range (set xs from x) (from + 1) to ≡ take from xs ++ x ∷ drop to xs
replaced xs from to x some within =
    rw (take_more_set xs from x (omega arith), drop-set-lt to xs from x (omega arith))
    (append_assoc (take from xs) (x ∷ []) (drop to xs))
