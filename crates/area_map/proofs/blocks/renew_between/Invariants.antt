use Rattle.area_map.specs.Blocks.{AreBlocksBut}
use Rattle.area_map.proofs.blocks.renew_between.Given as goal

abbrev pub invariant-loop-number : goal.invariant-loop-number
invariant-loop-number g l =
    AreBlocksBut l.from l.to l.initial.blocks l.rows → AreBlocksBut l.number l.to l.blocks l.rows
