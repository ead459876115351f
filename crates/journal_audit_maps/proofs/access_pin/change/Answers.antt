use Rattle.journal_audit_maps.proofs.AccessPinned.{never_unattached}
use Rattle.journal_audit_maps.proofs.access_pin.change.Goals as goal

pub unreachable-requires : goal.unreachable-requires
unreachable-requires g c =
    never_unattached _ c.args.world.now c.args.file c.args.id c.args.request _ _ c.world.view_is c.requires.granted
    c.deref.ensures.value c.access_ioas_of.ensures c.in_default-access_ioas_of.is
