use Rattle.journal_audit_maps.proofs.Waits.{waits_by}
use Rattle.journal_audit_maps.proofs.waiting.waits.Goals as goal

pub returns : goal.returns
returns g c =
    waits_by c.args.at _ c.args.world.now c.args.file c.args.request _ _ _ _ c.wait_by_rows.result
    c.world.view_is c.requires.kept c.requires.granted c.deref.ensures.value c.deref-2.ensures.value
    c.deref-3.ensures.value c.deref-4.ensures.value c.wait_by_rows.ensures
