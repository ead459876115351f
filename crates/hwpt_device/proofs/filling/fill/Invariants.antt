use Rattle.hwpt_device.proofs.Filled.{AreFilling}
use Rattle.hwpt_device.proofs.filling.fill.Given as goal

-- some of the areas are mapped
abbrev pub invariant-loop-area : goal.invariant-loop-area
invariant-loop-area g l =
    AreFilling l.fn.file l.fn.id l.fn.memory l.fn.areas l.area-iterator l.initial.page_tables l.page_tables
    l.initial.pool l.pool l.initial.taken l.taken
