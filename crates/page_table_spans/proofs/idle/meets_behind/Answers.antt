use Rattle.std.proofs.Common.{ltb, leb, ◌&&◌, arith}
use Rattle.std.proofs.lemmas.Bool.{and_right, le-ltb}
use Rattle.iofd_words.specs.declared.rows.Area.{Area}
use Rattle.page_table_spans.proofs.IdleAreas.{never}
use Rattle.page_table_spans.proofs.idle.meets_behind.Goals as goal

pub returns-then-last-start : goal.returns-then-last-start
returns-then-last-start g c =
    never _ c.args.areas.now.areas (λ (area : Area). and_right (leb area.span.first c.args.last && leb c.args.first area.span.last) _
    (and_right (ltb c.args.start area.span.last) _ (le-ltb c.args.start c.args.last (omega (arith, c.if-last-start.true)))))
