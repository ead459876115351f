use Rattle.std.proofs.Common.{◌-◌, ℕ, ap, ◌∙◌, length}
use Rattle.page_table_words.specs.Under.{frames_under}
use Rattle.page_table_words.proofs.FramesUnder.{all_counted}
use Rattle.page_table.proofs.table.Table.frames.Goals as goal

pub returns : goal.returns
returns g c =
    rw (← c.self.view_is)
    (λ rows pages stands.
    c.count.ensures.value ∙ ap (λ (k : ℕ). length (frames_under c.args.pool.now (k - 1) c.self.inside.root))
    c.levels.ensures.value
    ∙ all_counted c.args.pool.now _ c.self.inside.root rows pages stands)
