use Rattle.std.proofs.Common.{◌≡◌, ◌<◌, ◌||◌, ℕ, false, eqb, length, drop, get_or}
use Rattle.std.specs.List.{list_any}
use Rattle.journal_audit_world.proofs.frames.mark_pins.Given as goal

-- what is marked, and what is to be marked still
abbrev pub invariant-loop-pin : goal.invariant-loop-pin
invariant-loop-pin l =
    (f : ℕ) → f < length l.fn.reached
    → (get_or l.reached f false || list_any (λ row. eqb row.frame.0 f) (drop l.pin-index l.pins))
    ≡ (get_or l.fn.reached f false || list_any (λ row. eqb row.frame.0 f) l.pins)
