use Rattle.std.proofs.Common.{◌&&◌, cond, arith}
use Rattle.iofd_words.specs.Objects.{is_access, is_object}
use Rattle.iofd_words.specs.declared.rows.Object.{Object}
use Rattle.iofd_words.specs.declared.rows.ObjectKind.TheVariants as kind
use Rattle.journal_audit_world.proofs.InPlace.{map_over_at}
use Rattle.journal_audit_world.proofs.objects.attach_access.Goals as goal

pub loop-object-preserved : goal.loop-object-preserved
loop-object-preserved g c =
    map_over_at (λ (object : Object). cond (is_object c.args.file c.args.id object && is_access object.kind)
    (record object { kind = kind.Access c.args.ioas }) object) c.deref_mut-object-items.result.now
    c.loop-object.object-items c.loop-object.object-index _ _ (omega arith) (omega arith) c.loop-object.invariant
    c.attach_one.ensures
