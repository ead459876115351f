use Rattle.std.proofs.Common.{◌≡◌, ◌-◌, ◌∷◌, []}
use Rattle.std.specs.Int.{w32}
use Rattle.journal_audit_bytes.specs.Reading.{elements_at, of_frames}
use Rattle.journal_audit_bytes.proofs.Elements.{with_front}
use Rattle.journal_audit_bytes.proofs.lists.frames_from.Given as goal

-- those so far, and those still to be read, are all
abbrev pub invariant-loop : goal.invariant-loop
invariant-loop g l =
    with_front (of_frames l.frames.items) (elements_at (l.count - l.counter) (w32 ∷ []) l.rest)
    ≡ elements_at l.count (w32 ∷ []) l.bytes
