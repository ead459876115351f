use Rattle.std.proofs.Common.{List, ap, sym, ◌∙◌}
use Rattle.iofd_words.specs.Objects.{automatic_hwpt}
use Rattle.iofd_words.specs.World.{World}
use Rattle.iofd_words.specs.declared.rows.Object.{Object}
use Rattle.journal_audit_page_tables.proofs.Joined.{automatic_there}
use Rattle.journal_audit_page_tables.proofs.attach.make_automatic.Goals as goal

pub returns-in-Some : goal.returns-in-Some
returns-in-Some g c =
    automatic_there c.args.at c.args.world.now c.args.file c.args.ioas c.args.id c.args.width c.in-Some.field-0
    c.requires.kept.pins
    (sym (c.in-Some.ensures
    ∙ ap (λ (rows : List Object). automatic_hwpt rows c.args.file c.args.ioas c.args.width)
    (c.deref.ensures.value ∙ ap (λ (x : World). x.objects) c.world.view_is)))
