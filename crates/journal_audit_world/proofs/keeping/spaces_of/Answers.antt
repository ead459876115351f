use Rattle.journal_audit_world.proofs.Kept.{no_space, space_added}
use Rattle.journal_audit_world.proofs.keeping.spaces_of.Goals as goal

pub loop-object-init : goal.loop-object-init
loop-object-init g c = no_space c.args.objects.now _ c.new-spaces.ensures

pub loop-object-preserved : goal.loop-object-preserved
loop-object-preserved g c =
    space_added c.args.objects.now _ _ c.loop-object.object-index _ c.loop-object-test.true c.in_ok-add_space.ensures
    c.loop-object.invariant
