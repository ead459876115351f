use Rattle.std.proofs.Common.{ap, sym, ◌∙◌}
use Rattle.iofd_words.specs.World.{World}
use Rattle.journal_audit_events.specs.Gone.{is_gone}
use Rattle.journal_audit_tables.specs.Moved.{may_give}
use Rattle.journal_audit_tables.proofs.Leaving.{given_is}
use Rattle.journal_audit_tables.proofs.given.are_given.Goals as goal

pub returns : goal.returns
returns g c =
    given_is (is_gone c.args.gone) (may_give c.args.gone c.args.world.now.objects c.args.world.now.areas c.args.space)
    c.args.world.now.table_frames c.args.given.now _ _ _ c.are_in.result c.have_all.result
    (sym c.are_rising.ensures ∙ c.if-not-are_rising.false) c.in_ok-set.ensures
    (rw (c.deref.ensures.value ∙ ap (λ (w : World). w.table_frames) c.world.view_is) at c.are_in.ensures)
    c.if-not-are_in.false c.in_ok-leaving.ensures c.have_all.ensures
