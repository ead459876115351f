use Rattle.std.proofs.Common.{sym, ◌∙◌}
use Rattle.journal_audit_page_tables.proofs.Narrowed.{narrowed_by_width}
use Rattle.journal_audit_page_tables.proofs.narrowing.narrows_by_width.Goals as goal

pub returns : goal.returns
returns g c =
    narrowed_by_width c.args.world.now c.args.file c.args.ioas c.in_ok-unusable.unusable c.in-Some.width
    c.are_outside.result c.in_ok-unusable.ensures c.add_width.new.self c.args.id
    (sym c.width_under.ensures ∙ c.in-Some.is) c.add_width.ensures c.are_outside.ensures
