use Rattle.std.proofs.Common.{◌≡◌, ◌&&◌, ℕ, not}
use Rattle.dirty_bitmap.specs.Marks.{is_marked}
use Rattle.dirty_bitmap.proofs.Kept.{is_gone}
use Rattle.dirty_bitmap.proofs.marks.Marks.clear.Given as goal

abbrev pub invariant-loop-number : goal.invariant-loop-number
invariant-loop-number g l = (page : ℕ)
    → is_marked l.self page ≡ (is_marked l.fn.self page && not (is_gone l.first l.last l.number page))
