use Rattle.std.proofs.Common.{ltb, leb, ◌&&◌, arith}
use Rattle.std.proofs.lemmas.Bool.{and_right, le-ltb}
use Rattle.iofd_words.specs.declared.rows.Area.{Area}
use Rattle.page_table_spans.proofs.IdleAreas.{never}
use Rattle.page_table_spans.proofs.idle.meets_before.Goals as goal

pub returns-then-first-end : goal.returns-then-first-end
returns-then-first-end g c =
    never _ c.args.areas.now.areas (λ (area : Area). and_right (leb area.span.first c.args.last && leb c.args.first area.span.last) _
    (and_right (ltb area.span.first c.args.end) _ (le-ltb c.args.first c.args.end (omega (arith, c.if-first-end.true)))))
