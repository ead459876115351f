use Rattle.std.proofs.Common.{sym, ◌∙◌}
use Rattle.journal_audit_page_tables.proofs.Narrowed.{narrowed}
use Rattle.journal_audit_page_tables.proofs.narrowing.narrows.Goals as goal

pub returns : goal.returns
returns g c =
    narrowed c.args.world.now c.args.file c.args.ioas c.in_ok-unusable.unusable c.in-Some.width
    c.are_outside.result c.in_ok-unusable.ensures
    c.add_width.new.self c.add_device.new.self c.args.device (sym c.width_of.ensures ∙ c.in-Some.is)
    c.add_width.ensures c.in_ok-add_device.ensures c.are_outside.ensures
