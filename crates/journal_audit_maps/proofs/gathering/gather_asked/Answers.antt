use Rattle.journal_audit_maps.proofs.Unspanned.{none_asked}
use Rattle.journal_audit_maps.proofs.gathering.gather_asked.Goals as goal

pub returns-then-not-is_asked : goal.returns-then-not-is_asked
returns-then-not-is_asked g c =
    none_asked c.args.memory.now c.args.user_pages.now c.args.pins.now c.args.areas.now c.args.file c.args.ioas
    c.args.asked c.args.object c.args.found.now.items (c.requires c.if-not-is_asked.true)
