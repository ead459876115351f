use Rattle.std.proofs.Common.{◌∙◌, arith}
use Rattle.page_table_spans.proofs.SpanNeeds.{span_needs}
use Rattle.page_table_spans.proofs.needing.needs.Goals as goal

pub returns : goal.returns
returns g c = λ rows pages stands. c.needs.ensures rows pages stands
    ∙ span_needs rows c.args.table.now.width c.args.span c.requires.span (omega arith)
