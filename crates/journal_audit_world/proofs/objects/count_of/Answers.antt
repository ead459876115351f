use Rattle.std.proofs.Common.{◌==◌, ◌∙◌, sym}
use Rattle.std.proofs.lemmas.List.Sums.{length-filter}
use Rattle.iofd_words.specs.declared.rows.Object.{Object}
use Rattle.journal_audit_world.proofs.RowByRow.{counted_all}
use Rattle.journal_audit_world.proofs.objects.count_of.Goals as goal

pub returns : goal.returns
returns c =
    counted_all (λ (o : Object). o.file.0 == c.args.file.0) c.args.objects.now c.loop-object.object-index
    c.loop-object.count _ c.loop-object-test.false c.loop-object.invariant.all
    ∙ sym (length-filter (λ (o : Object). o.file.0 == c.args.file.0) c.args.objects.now)
