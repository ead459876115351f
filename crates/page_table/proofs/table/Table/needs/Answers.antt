use Rattle.std.proofs.Common.{◌≡◌, ◌-◌, ℕ, ap, ◌∙◌, arith}
use Rattle.std.specs.List.{range_with_len, sum_by}
use Rattle.iofd_words.specs.Levels.{levels_of}
use Rattle.page_table_words.specs.Needed.{needed_at}
use Rattle.page_table_words.specs.Stands.{TableRoot}
use Rattle.page_table_words.proofs.Needs.{sum_range_more}
use Rattle.page_table.proofs.table.Table.needs.Goals as goal

pub loop-level-preserved : goal.loop-level-preserved
loop-level-preserved g c = record {
  small = omega (arith, c.needs_at-total.ensures.small, c.loop-level.invariant.small);
  needed = λ rows pages stands. sum_range_more
      (λ level. needed_at rows (levels_of c.args.self.now.width) level c.args.spans.now) c.loop-level.level
      c.loop-level.total c.needs_at-total.result (omega arith) (c.loop-level.invariant.needed rows pages stands)
      (c.needs_at-total.ensures.needed rows pages stands);
}

pub returns : goal.returns
returns g c = λ rows pages stands.
    let width_levels : c.levels-level-end.result ≡ levels_of c.args.self.now.width =
    c.levels-level-end.ensures.value ∙ ap (λ (t : TableRoot). levels_of t.width) c.self.view_is in
    let end : c.loop-level.level ≡ levels_of c.args.self.now.width =
    omega (arith, width_levels, c.levels-level-end.ensures.some) in
    c.loop-level.invariant.needed rows pages stands
    ∙ ap (λ (n : ℕ). sum_by (λ level. needed_at rows (levels_of c.args.self.now.width) level c.args.spans.now)
    (range_with_len 1 (n - 1))) end
