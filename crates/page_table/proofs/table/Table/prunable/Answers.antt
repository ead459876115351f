use Rattle.std.proofs.Common.{◌*◌, ◌-◌, ℕ, sym, ap, ◌∙◌}
use Rattle.std.proofs.lemmas.Nat.{pow_pos}
use Rattle.std.specs.List.{count_by}
use Rattle.page_table_words.specs.Cut.{goes_below}
use Rattle.iofd_words.specs.Levels.{levels_of}
use Rattle.page_table_words.specs.Rows.{table_at}
use Rattle.page_table.proofs.Parting.{root_counted}
use Rattle.page_table_words.proofs.Tops.{number-first, root_holds}
use Rattle.page_table.proofs.table.Table.prunable.Goals as goal

pub count_idle-requires-clause-within : goal.count_idle-requires-clause-within
count_idle-requires-clause-within g c = pow_pos (9 * (5 - c.levels.result))

pub count_idle-requires-clause-table : goal.count_idle-requires-clause-table
count_idle-requires-clause-table g c =
    let is = rw (← c.self.view_is) at c.requires in
    rw c.levels.ensures.value (root_holds c.args.pool.now (levels_of c.self.inside.width) c.self.inside.root
    is.rows is.pages is.stands)

pub returns : goal.returns
returns g c =
    rw (← c.self.view_is)
    (λ rows pages stands.
    let levels = levels_of c.self.inside.width in
    let same = c.levels.ensures.value in
    c.count_idle.ensures.idle levels c.self.inside.root rows pages 0 stands (ap (λ (k : ℕ). table_at rows k 0) same
    ∙ stands.at_root) (sym (number-first c.levels.result))
    ∙ ap (λ (k : ℕ). count_by (goes_below levels pages c.args.kept.now k 0) rows) same
    ∙ root_counted c.args.pool.now levels c.self.inside.root rows pages stands c.args.kept.now)
