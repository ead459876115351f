use Rattle.std.proofs.Common.{◌≡◌, ◌++◌}
use Rattle.access_pins.proofs.Noticed.{noticed}
use Rattle.access_pins.proofs.notices.spans_among.Given as goal

-- the spans so far
abbrev pub invariant-loop-area : goal.invariant-loop-area
invariant-loop-area g l =
    l.spans.items ++ noticed l.fn.pins l.fn.file l.fn.access l.area-iterator
    ≡ noticed l.fn.pins l.fn.file l.fn.access l.fn.areas.areas
