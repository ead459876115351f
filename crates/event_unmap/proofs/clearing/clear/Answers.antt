use Rattle.std.proofs.Common.{refl, sym, ◌∙◌}
use Rattle.event_unmap.proofs.PagesCleared.{none_over}
use Rattle.event_unmap.proofs.clearing.clear.Goals as goal
use Rattle.event_unmap.proofs.clearing.clear.Goals.{then-has_over, else-has_over}

pub returns-clause-cleared : goal.returns-clause-cleared
returns-clause-cleared g c = elim c.if-has_over.branch [
  | then-has_over w ↦ rw w.pool-is w.clear_areas.ensures.cleared
  | else-has_over w ↦ rw w.pool-is (record {
    holds = refl;
    stand = λ rows leads stand.
        none_over c.args.file c.args.ioas c.args.areas c.args.pool.now rows leads c.args.page_tables.now.tables
        (sym c.has_over.ensures ∙ w.if-has_over.false) stand;
    others = λ rows leads stand frame none. refl;
  })
]
