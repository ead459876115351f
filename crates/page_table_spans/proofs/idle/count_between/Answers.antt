use Rattle.std.proofs.Common.{◌≡◌, ℕ, ◌+◌, ◌≤◌, Bool, cond, sym, ap, ◌∙◌, arith}
use Rattle.std.specs.List.{count_by}
use Rattle.iofd_words.specs.Levels.{levels_of}
use Rattle.area_map_rows.specs.Areas.{areas_outside}
use Rattle.page_table.proofs.Parting.{count_never, count_split}
use Rattle.page_table_spans.specs.Idle.{is_idle_between}
use Rattle.page_table_spans.proofs.IdleTables.{is_idle_one, next_between, none_between, one_counted}
use Rattle.page_table_spans.proofs.idle.count_between.Goals as goal
use Rattle.page_table_spans.proofs.idle.count_between.Goals.{then-is_idle, else-is_idle}

pub loop-number-init : goal.loop-number-init
loop-number-init g c = record {
  small = omega arith;
  idle = λ rows pages stands. sym (count_never (is_idle_between (levels_of c.args.table.now.width)
      (areas_outside c.args.span c.args.areas.now.areas) c.args.level c.args.first c.args.first) rows
      (none_between (levels_of c.args.table.now.width) (areas_outside c.args.span c.args.areas.now.areas) c.args.level
      c.args.first));
}

pub loop-number-preserved : goal.loop-number-preserved
loop-number-preserved g c =
    let levels = levels_of c.args.table.now.width in
    let left = areas_outside c.args.span c.args.areas.now.areas in
    let level = c.args.level in
    let first = c.args.first in
    let n = c.loop-number.number in
    let low : first ≤ n = omega arith in
    let inv = c.loop-number.invariant in
    elim c.if-is_idle.branch [
      | then-is_idle w ↦ record {
        small = let few = inv.small in omega (arith, few, w.total-is);
        idle = λ rows pages stands.
            let one = one_counted c.args.pool.now levels c.args.table.now.root rows pages stands level n left c.requires.low
            ∙ ap {B = ℕ} (λ (b : Bool). cond b 1 0) (sym (c.is_idle.ensures rows pages stands) ∙ w.if-is_idle.true) in
            let more = count_split (is_idle_between levels left level first (n + 1))
            (is_idle_between levels left level first n) (is_idle_one levels left level n) rows
            (next_between levels left level first n low) in
            omega (arith, one, more, inv.idle rows pages stands, w.total-is);
      }
      | else-is_idle w ↦ record {
        small = let few = inv.small in omega (arith, few, w.total-is);
        idle = λ rows pages stands.
            let one = one_counted c.args.pool.now levels c.args.table.now.root rows pages stands level n left c.requires.low
            ∙ ap {B = ℕ} (λ (b : Bool). cond b 1 0) (sym (c.is_idle.ensures rows pages stands) ∙ w.if-is_idle.false) in
            let more = count_split (is_idle_between levels left level first (n + 1))
            (is_idle_between levels left level first n) (is_idle_one levels left level n) rows
            (next_between levels left level first n low) in
            omega (arith, one, more, inv.idle rows pages stands, w.total-is);
      }
    ]

pub returns-clause-idle : goal.returns-clause-idle
returns-clause-idle g c = λ rows pages stands.
    let end : c.loop-number.number ≡ c.args.end = omega arith in
    c.loop-number.invariant.idle rows pages stands
    ∙ ap (λ (n : ℕ). count_by (is_idle_between (levels_of c.args.table.now.width)
    (areas_outside c.args.span c.args.areas.now.areas) c.args.level c.args.first n) rows) end
