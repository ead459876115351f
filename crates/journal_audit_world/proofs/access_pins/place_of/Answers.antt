use Rattle.iofd_words.specs.Accesses.{pin_of}
use Rattle.journal_audit_world.proofs.PinTaken.{taken_here}
use Rattle.journal_audit_world.proofs.access_pins.place_of.Goals as goal

pub returns-then-is_asked : goal.returns-then-is_asked
returns-then-is_asked c =
    taken_here (pin_of c.args.file c.args.access c.args.request) c.args.pins.now c.loop-index.index _
    c.loop-index-test.true c.index-pins-index.is c.is_asked.ensures c.if-is_asked.true c.loop-index.invariant
