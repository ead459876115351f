use Rattle.std.proofs.Common.{sym, ◌∙◌}
use Rattle.iommufd_script.proofs.Spans.{two_dashes}
use Rattle.iommufd_script.proofs.span_texts.span_of.Goals as goal

pub returns-then-is_some : goal.returns-then-is_some
returns-then-is_some c =
    two_dashes c.args.field.now c.in_ok-first.first.now c.in_ok-first.last.now c.split_at_byte-2.result
    (sym c.is_some.ensures ∙ c.if-is_some.true) c.in_ok-first.ensures
    c.split_at_byte-2.ensures
