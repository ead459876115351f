use Rattle.std.proofs.Common.{◌≡◌, ℕ, sym, ◌∙◌, ap, arith}
use Rattle.std.specs.List.{count_by}
use Rattle.page_table.proofs.NextLevel.{above_one, few_below, some_below}
use Rattle.page_table.proofs.Parting.{absent_counted, count_all, count_next, count_none, cut_before, idle_counted}
use Rattle.page_table.proofs.Parting.{last_counted, number_fits, sum_fits, wanted_counted}
use Rattle.page_table_words.proofs.RowsUnder.{child_page}
use Rattle.page_table_words.proofs.Visiting.{bound_kept, entry_small, holds_within, next_holds}
use Rattle.page_table.proofs.Wanted.{child_found, child_none, child_place, unwanted, wanted}
use Rattle.page_table.proofs.prune.+count_idle.Goals.{then-is_present+then-is_idle, then-is_present+else-is_idle}
use Rattle.page_table.proofs.prune.+count_idle.Goals.{else-is_present}
use Rattle.page_table.proofs.prune.+count_idle.Goals as goal

pub returns-then-level-eq1-clause-idle : goal.returns-then-level-eq1-clause-idle
returns-then-level-eq1-clause-idle g t c =
    λ levels root rows pages page stands at number. sym
    (last_counted c.args.pool.now levels root rows pages stands c.args.kept.now c.args.level page c.if-level-eq1.true)

pub loop-index-init : goal.loop-index-init
loop-index-init g t c = record {
  small = omega arith;
  idle = λ levels root rows pages page stands at number. sym
      (count_none levels pages c.args.kept.now c.args.level page rows);
}

pub at-entry-requires-clause-frame : goal.at-entry-requires-clause-frame
at-entry-requires-clause-frame g t c = holds_within c.args.pool.now c.args.level c.args.table c.requires.table

pub frame-next-requires : goal.frame-next-requires
frame-next-requires g t c =
    let low = above_one c.args.level c.requires.some c.if-level-eq1.false in
    entry_small c.args.pool.now c.args.level c.args.table c.requires.table low
    c.loop-index.index c.loop-index-test.true c.at-entry.result.0 c.at-entry.ensures

pub is_idle-requires-clause-table : goal.is_idle-requires-clause-table
is_idle-requires-clause-table g t c =
    let low = above_one c.args.level c.requires.some c.if-level-eq1.false in
    next_holds c.args.pool.now c.args.level c.args.table c.requires.table
    low c.loop-index.index c.loop-index-test.true c.at-entry.result.0 c.at-entry.ensures c.frame-next.result
    (sym c.if-is_present.ensures) c.frame-next.ensures

pub count-total-requires-clause-table : goal.count-total-requires-clause-table
count-total-requires-clause-table g t c =
    let low = above_one c.args.level c.requires.some c.if-level-eq1.false in
    next_holds c.args.pool.now c.args.level c.args.table c.requires.table low c.loop-index.index c.loop-index-test.true
    c.at-entry.result.0 c.at-entry.ensures c.frame-next.result (sym c.if-is_present.ensures) c.frame-next.ensures

pub overflow_add-total : goal.overflow_add-total
overflow_add-total g t c =
    let fits = sum_fits c.args.level c.loop-index.total c.loop-index.index c.count-total.result c.requires.few
    (omega arith) c.loop-index.invariant.small c.count-total.ensures.small in
    omega (arith, fits)

pub count_idle-total-requires : goal.count_idle-total-requires
count_idle-total-requires g t c κs within =
    let low = above_one c.args.level c.requires.some c.if-level-eq1.false in
    let next = next_holds c.args.pool.now c.args.level c.args.table c.requires.table low c.loop-index.index
    c.loop-index-test.true c.at-entry.result.0 c.at-entry.ensures c.frame-next.result
    (sym c.if-is_present.ensures) c.frame-next.ensures in
    let fits = number_fits c.args.level c.args.number c.loop-index.index low c.requires.few
    c.loop-index-test.true c.requires.within in
    (omega arith, (within, (omega arith, (omega arith, (fits.0, next)))))

pub overflow_add-total-else-is_idle : goal.overflow_add-total-else-is_idle
overflow_add-total-else-is_idle g t c =
    let fits = sum_fits c.args.level c.loop-index.total c.loop-index.index c.count_idle-total.result c.requires.few
    (omega arith) c.loop-index.invariant.small c.count_idle-total.ensures.small in
    omega (arith, fits)

pub loop-index-preserved : goal.loop-index-preserved
loop-index-preserved g t c =
    let pool = c.args.pool.now in
    let level = c.args.level in
    let low = above_one c.args.level c.requires.some c.if-level-eq1.false in
    let kept = c.args.kept.now in
    let n = c.loop-index.index in
    elim c.if-is_present.branch [
      | then-is_present+then-is_idle w ↦ record {
        small = omega (arith, w.count-total.ensures.small, w.total-is, c.loop-index.invariant.small);
        idle = λ levels root rows pages page stands at number.
            let found = child_found pool levels root rows pages stands level page n c.args.table low
            c.loop-index-test.true at c.at-entry.result.0 c.at-entry.ensures w.frame-next.result
            (sym w.if-is_present.ensures) w.frame-next.ensures in
            let place = child_place level page n c.args.number number in
            let answer = w.is_idle.ensures levels root rows pages (child_page level page n) stands found place in
            let idle =
            unwanted pages kept level page n c.args.number w.is_idle.result number answer w.if-is_idle.true in
            omega (
              arith,
              w.total-is,
              w.count-total.ensures.value,
              idle_counted pool levels root rows pages stands kept level page n c.args.table low at
                  w.frame-next.result found idle,
              c.loop-index.invariant.idle levels root rows pages page stands at
                  number,
              count_next levels pages kept level page n low c.loop-index-test.true rows,
            );
      }
      | then-is_present+else-is_idle w ↦ record {
        small = omega (arith, w.count_idle-total.ensures.small, w.total-is, c.loop-index.invariant.small);
        idle = λ levels root rows pages page stands at number.
            let found = child_found pool levels root rows pages stands level page n c.args.table low
            c.loop-index-test.true at c.at-entry.result.0 c.at-entry.ensures w.frame-next.result
            (sym w.if-is_present.ensures) w.frame-next.ensures in
            let place = child_place level page n c.args.number number in
            let answer = w.is_idle.ensures levels root rows pages (child_page level page n) stands found place in
            let needed =
            wanted pages kept level page n c.args.number w.is_idle.result number answer w.if-is_idle.false in
            let below =
            w.count_idle-total.ensures.idle levels root rows pages (child_page level page n) stands found place in
            omega (
              arith,
              w.total-is,
              below,
              wanted_counted pool levels root rows pages stands kept level page n
                  c.args.table low at needed,
              c.loop-index.invariant.idle levels root rows pages page stands
                  at number,
              count_next levels pages kept level page n low c.loop-index-test.true rows,
            );
      }
      | else-is_present w ↦ record {
        small = omega (arith, w.total-is, c.loop-index.invariant.small);
        idle = λ levels root rows pages page stands at number.
            let none = child_none pool levels root rows pages stands level page n c.args.table low
            c.loop-index-test.true at c.at-entry.result.0 c.at-entry.ensures (sym w.if-is_present.ensures) in
            omega (
              arith,
              w.total-is,
              absent_counted pool levels root rows pages stands kept level page n c.args.table
                  low at none,
              c.loop-index.invariant.idle levels root rows pages page stands at number,
              count_next levels pages kept level page n low c.loop-index-test.true rows,
            );
      }
    ]

pub returns-clause-idle : goal.returns-clause-idle
returns-clause-idle g t c = λ levels root rows pages page stands at number.
    let end : c.loop-index.index ≡ 512 = omega arith in
    c.loop-index.invariant.idle levels root rows pages page stands at number
    ∙ ap (λ (n : ℕ). count_by (cut_before levels pages c.args.kept.now c.args.level page n) rows) end
    ∙ count_all levels pages c.args.kept.now c.args.level page rows

pub at-entry-requires-clause-within : goal.at-entry-requires-clause-within
at-entry-requires-clause-within g t c = c.loop-index-test.true

pub overflow_mul-below : goal.overflow_mul-below
overflow_mul-below g t c =
    let low = above_one c.args.level c.requires.some c.if-level-eq1.false in
    let fits = number_fits c.args.level c.args.number c.loop-index.index low c.requires.few
    c.loop-index-test.true c.requires.within in
    record { fits = omega (arith, fits) }

pub overflow_add-below : goal.overflow_add-below
overflow_add-below g t c =
    let low = above_one c.args.level c.requires.some c.if-level-eq1.false in
    let fits = number_fits c.args.level c.args.number c.loop-index.index low c.requires.few
    c.loop-index-test.true c.requires.within in
    record { fits = omega (arith, fits) }

pub overflow_sub-level : goal.overflow_sub-level
overflow_sub-level g t c = c.requires.some

pub is_idle-requires-clause-some : goal.is_idle-requires-clause-some
is_idle-requires-clause-some g t c =
    some_below c.args.level (above_one c.args.level c.requires.some c.if-level-eq1.false)

pub is_idle-requires-clause-few : goal.is_idle-requires-clause-few
is_idle-requires-clause-few g t c = few_below c.args.level c.requires.few

pub overflow_sub-level-then-is_idle : goal.overflow_sub-level-then-is_idle
overflow_sub-level-then-is_idle g t c = c.requires.some

pub count-total-requires-clause-some : goal.count-total-requires-clause-some
count-total-requires-clause-some g t c =
    some_below c.args.level (above_one c.args.level c.requires.some c.if-level-eq1.false)

pub count-total-requires-clause-few : goal.count-total-requires-clause-few
count-total-requires-clause-few g t c = few_below c.args.level c.requires.few

pub overflow_sub-level-else-is_idle : goal.overflow_sub-level-else-is_idle
overflow_sub-level-else-is_idle g t c = c.requires.some

pub loop-index-smaller : goal.loop-index-smaller
loop-index-smaller g t c = omega arith

pub returns-clause-small : goal.returns-clause-small
returns-clause-small g t c = bound_kept c.args.level c.loop-index.total c.loop-index.index c.requires.some
    c.loop-index.invariant.small (omega arith)

pub returns-then-level-eq1-clause-small : goal.returns-then-level-eq1-clause-small
returns-then-level-eq1-clause-small g t c = omega arith
