use Rattle.std.proofs.Common.{ℕ, ap, ◌∙◌}
use Rattle.iofd_words.specs.Levels.{levels_of}
use Rattle.page_table_words.specs.Rows.{table_at}
use Rattle.page_table_words.proofs.Tops.{at_top, ends_somewhere, goes_from_top}
use Rattle.page_table.proofs.table.Table.lowest.Goals as goal

pub descend-requires-clause-table : goal.descend-requires-clause-table
descend-requires-clause-table g c =
    rw (c.levels.ensures.value) (goes_from_top c.args.pool.now (record {
      width = c.self.inside.width;
      root = c.self.inside.root;
    }) c.args.page (rw (← c.self.view_is) at c.requires.table) (rw (←
    c.self.view_is) at c.requires.below))

pub returns-clause-lowest : goal.returns-clause-lowest
returns-clause-lowest g c =
    rw (← c.self.view_is)
    (λ rows pages stands.
    c.descend.ensures.lowest (levels_of c.self.inside.width) c.self.inside.root rows pages stands
    (ap (λ (k : ℕ). table_at rows k c.args.page) c.levels.ensures.value
    ∙ at_top c.args.pool.now (record { width = c.self.inside.width; root = c.self.inside.root }) rows pages c.args.page
    stands (rw (← c.self.view_is) at c.requires.below)))

pub returns-clause-ends : goal.returns-clause-ends
returns-clause-ends g c = ends_somewhere c.args.pool.now c.args.self.now c.descend.result.level c.args.page
    c.descend.result.frame c.requires.table (returns-clause-lowest g c)
