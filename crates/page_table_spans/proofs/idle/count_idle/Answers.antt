use Rattle.std.proofs.Common.{◌+◌, ◌≤◌, sym, ap, ◌∙◌, arith}
use Rattle.iofd_words.specs.Levels.{levels_of}
use Rattle.area_map_rows.specs.Areas.{areas_outside}
use Rattle.page_table.proofs.Parting.{count_split}
use Rattle.page_table_spans.specs.Idle.{is_idle, is_idle_at}
use Rattle.page_table_spans.proofs.IdleTables.{all_levels, count_alike, is_idle_below, next_level, none_lowest}
use Rattle.page_table_spans.proofs.Shedding.{count_never}
use Rattle.page_table_spans.proofs.idle.count_idle.Goals as goal

pub loop-level-init : goal.loop-level-init
loop-level-init g c = record {
  bound = omega arith;
  idle = λ rows pages stands needed. sym (count_never (is_idle_below (levels_of c.args.table.now.width)
      (areas_outside c.args.span c.args.areas.now.areas) 1) rows
      (none_lowest c.args.pool.now (levels_of c.args.table.now.width) c.args.table.now.root rows pages stands
      (areas_outside c.args.span c.args.areas.now.areas)));
}

pub loop-level-preserved : goal.loop-level-preserved
loop-level-preserved g c =
    let inv = c.loop-level.invariant in
    let levels = levels_of c.args.table.now.width in
    let left = areas_outside c.args.span c.args.areas.now.areas in
    let level = c.loop-level.level in
    record {
      bound = let bound = inv.bound in let small = c.count_at-total.ensures.small in omega (arith, bound, small);
      idle = λ rows pages stands needed.
          let sum = count_split (is_idle_below levels left (level + 1)) (is_idle_below levels left level)
          (is_idle_at levels left level) rows (next_level levels left level) in
          let more = c.count_at-total.ensures.idle rows pages stands needed in
          omega (arith, sum, more, inv.idle rows pages stands needed);
    }

pub returns-clause-idle : goal.returns-clause-idle
returns-clause-idle g c = λ rows pages stands needed.
    let levels = levels_of c.args.table.now.width in
    let left = areas_outside c.args.span c.args.areas.now.areas in
    let same = ap levels_of c.width.ensures in
    let top : levels ≤ c.loop-level.level = omega (arith, same) in
    c.loop-level.invariant.idle rows pages stands needed
    ∙ sym (count_alike (is_idle levels left) (is_idle_below levels left c.loop-level.level) rows
    (all_levels c.args.pool.now levels c.args.table.now.root rows pages stands left c.loop-level.level top))
