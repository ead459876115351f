use Rattle.std.proofs.Common.{ap, ◌∙◌}
use Rattle.iofd_words.specs.Bounds.{Bounds}
use Rattle.journal_audit_page_tables.proofs.narrowing.range_of.Goals as goal

pub returns : goal.returns
returns c =
    ap (λ n. let span : Bounds = record { first = n; last = c.last.result } in span) c.first.ensures.value
    ∙ ap (λ n. let span : Bounds = record { first = c.args.span.first; last = n } in span) c.last.ensures.value
