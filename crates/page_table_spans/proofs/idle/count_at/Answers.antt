use Rattle.std.proofs.Common.{◌||◌, ◌≡◌, ℕ, ◌+◌, ◌≤◌, false, List, [], ◌∷◌, max, sym, ap, ◌∙◌, arith, subst}
use Rattle.std.specs.List.{All}
use Rattle.std.proofs.lemmas.Bool.{false≢true}
use Rattle.std.proofs.lemmas.List.Elements.{All-head, All-tail}
use Rattle.iofd_words.specs.Levels.{levels_of, number_at}
use Rattle.iofd_words.specs.Pages.{page_of}
use Rattle.iofd_words.specs.Span.{lies_in}
use Rattle.iofd_words.specs.declared.rows.Area.{Area}
use Rattle.area_map_rows.specs.Areas.{areas_outside, areas_within}
use Rattle.area_map_rows.proofs.Kept.{kept-filter}
use Rattle.page_table_words.proofs.Members.{each_then}
use Rattle.page_table_words.proofs.Needs.{next_number, number_below, number_small}
use Rattle.page_table_words.proofs.RowsUnder.{IsPlaced}
use Rattle.page_table_words.specs.Rows.{TableRow}
use Rattle.page_table.proofs.Parting.{count_never}
use Rattle.page_table_spans.specs.Idle.{is_idle, is_idle_at, is_idle_between}
use Rattle.page_table_spans.specs.Spans.{IsOfPages}
use Rattle.page_table_spans.proofs.AreaTables.{at_most, shorter}
use Rattle.page_table_spans.proofs.IdleAreas.{AreLeft, all_left, gap, one_less, order}
use Rattle.page_table_spans.proofs.IdleTables.{all_between, count_alike, more_between, needed_each, none_between, number_few}
use Rattle.page_table_spans.proofs.IdleTables.{sum_between}
use Rattle.page_table_spans.proofs.idle.count_at.Goals as goal

pub loop-area-init : goal.loop-area-init
loop-area-init g c =
    let own = c.args.areas.now.areas in
    let in_span = λ (area : Area). lies_in area.span c.args.span in
    rw (c.into_iter-area-iterator.ensures.into_iter_gives, c.within-area-items.ensures.value) (record {
      are = all_left c.args.level (areas_within c.args.span own)
          (kept-filter in_span own c.within-area-items.ensures.kept).apart;
      pages = c.requires.areas.pages;
      few = omega arith;
      bound = omega arith;
      idle = λ rows pages stands needed. sym (count_never (is_idle_between (levels_of c.args.table.now.width)
          (areas_outside c.args.span own) c.args.level 0 0) rows
          (none_between (levels_of c.args.table.now.width) (areas_outside c.args.span own) c.args.level 0));
    })

pub overflow_add-next : goal.overflow_add-next
overflow_add-next g c =
    let span = c.in-Some.area.now.span in
    let last = next_number c.args.level c.number-next.result c.last.result span.last
    c.number-next.ensures c.last.ensures.value in
    let small = number_small c.args.level span.last (omega (arith, c.last.ensures.value, c.last.type_inv)) in
    omega (arith, last, small)

pub count_between-total-requires-clause-order : goal.count_between-total-requires-clause-order
count_between-total-requires-clause-order g c =
    let area = c.in-Some.area.now in
    let rest : List Area = c.next.new.self in
    let level = c.args.level in
    let are : AreLeft level c.loop-area.next (areas_within c.args.span c.args.areas.now.areas) (area ∷ rest) =
    rw c.in-Some.ensures.steps at c.loop-area.invariant.are in
    let first = next_number level c.number.result c.first.result area.span.first c.number.ensures c.first.ensures.value in
    let last =
    next_number level c.number-next.result c.last.result area.span.last c.number-next.ensures c.last.ensures.value in
    let few = order level c.loop-area.next (areas_within c.args.span c.args.areas.now.areas) area rest are
    c.max-first.result (c.max-first.ensures ∙ ap (λ (n : ℕ). max n c.loop-area.next) first) in
    omega (arith, few, last)

pub count_between-total-requires-clause-end : goal.count_between-total-requires-clause-end
count_between-total-requires-clause-end g c =
    let area = c.in-Some.area.now in
    let rest : List Area = c.next.new.self in
    let pages : All (λ (a : Area). IsOfPages c.args.table.now.width a.span) (area ∷ rest) =
    rw c.in-Some.ensures.steps at c.loop-area.invariant.pages in
    let here = All-head (λ (a : Area). IsOfPages c.args.table.now.width a.span) area rest pages in
    let last = next_number c.args.level c.number-next.result c.last.result area.span.last
    c.number-next.ensures c.last.ensures.value in
    let below = number_below c.args.table.now.width c.args.level area.span.last (omega (arith, c.requires.low)) here.below in
    omega (arith, last, below)

pub overflow_add-total : goal.overflow_add-total
overflow_add-total g c =
    let area = c.in-Some.area.now in
    let last = next_number c.args.level c.number-next.result c.last.result area.span.last
    c.number-next.ensures c.last.ensures.value in
    let small = number_small c.args.level area.span.last (omega (arith, c.last.ensures.value, c.last.type_inv)) in
    let few = c.loop-area.invariant.few in
    let bound = c.loop-area.invariant.bound in
    let more = c.count_between-total.ensures.small in
    omega (arith, last, small, few, bound, more)

pub loop-area-preserved : goal.loop-area-preserved
loop-area-preserved g c =
    let area = c.in-Some.area.now in
    let rest : List Area = c.next.new.self in
    let level = c.args.level in
    let own = c.args.areas.now.areas in
    let left = areas_outside c.args.span own in
    let levels = levels_of c.args.table.now.width in
    let next = c.loop-area.next in
    let inv = c.loop-area.invariant in
    let are : AreLeft level next (areas_within c.args.span own) (area ∷ rest) = rw c.in-Some.ensures.steps at inv.are in
    let pages : All (λ (a : Area). IsOfPages c.args.table.now.width a.span) (area ∷ rest) =
    rw c.in-Some.ensures.steps at inv.pages in
    let first = next_number level c.number.result c.first.result area.span.first c.number.ensures c.first.ensures.value in
    let last =
    next_number level c.number-next.result c.last.result area.span.last c.number-next.ensures c.last.ensures.value in
    let begins : c.max-first.result ≡ max (number_at level (page_of area.span.first)) next =
    c.max-first.ensures ∙ ap (λ (n : ℕ). max n next) first in
    let high = order level next (areas_within c.args.span own) area rest are c.max-first.result begins in
    let small = number_few c.args.table.now.width level area.span.last
    (All-head (λ (a : Area). IsOfPages c.args.table.now.width a.span) area rest pages).below in
    let low : next ≤ c.max-first.result = omega (arith, begins) in
    record {
      are = subst (λ (n : ℕ). AreLeft level n (areas_within c.args.span own) rest) (ap (λ (n : ℕ). n + 1) (sym last))
          (one_less level next (areas_within c.args.span own) area rest are);
      pages = All-tail (λ (a : Area). IsOfPages c.args.table.now.width a.span) area rest pages;
      few = let more = c.count_between-total.ensures.small in let few = inv.few in
          omega (arith, more, few, low, high, last);
      bound = omega (arith, last, small);
      idle = λ rows mapped stands needed.
          let each = needed_each c.args.pool.now levels c.args.table.now.root rows mapped own stands needed in
          let sum = sum_between levels left level next c.max-first.result (c.number-next.result + 1) rows low
          (each_then (λ (row : TableRow). IsPlaced rows row × (is_idle levels own row ≡ false))
          (λ (row : TableRow). is_idle_between levels left level 0 (c.number-next.result + 1) row
          ≡ (is_idle_between levels left level 0 next row
          || is_idle_between levels left level c.max-first.result (c.number-next.result + 1) row)) rows
          (λ row is. more_between levels own c.args.span level rows row is.0 is.1 next c.max-first.result
          (c.number-next.result + 1) low (omega (arith, high, last))
          (λ n from met. gap level next (areas_within c.args.span own) area rest are c.max-first.result n begins from met))
          each) in
          let more = c.count_between-total.ensures.idle rows mapped stands in
          let counted = inv.idle rows mapped stands needed in
          omega (arith, sum, more, counted);
    }

pub returns-clause-idle : goal.returns-clause-idle
returns-clause-idle g c = λ rows mapped stands needed.
    let levels = levels_of c.args.table.now.width in
    let own = c.args.areas.now.areas in
    let left = areas_outside c.args.span own in
    let next = c.loop-area.next in
    let are : AreLeft c.args.level next (areas_within c.args.span own) [] =
    rw c.in-None.ensures.steps.0 at c.loop-area.invariant.are in
    c.loop-area.invariant.idle rows mapped stands needed
    ∙ sym (count_alike (is_idle_at levels left c.args.level) (is_idle_between levels left c.args.level 0 next) rows
    (each_then (λ (row : TableRow). IsPlaced rows row × (is_idle levels own row ≡ false))
    (λ (row : TableRow). is_idle_at levels left c.args.level row ≡ is_idle_between levels left c.args.level 0 next row) rows
    (λ row is. all_between levels own c.args.span c.args.level rows row is.0 is.1 next
    (λ n from met. false≢true (are.rest n from met)))
    (needed_each c.args.pool.now levels c.args.table.now.root rows mapped own stands needed)))

pub count_between-total-requires-clause-table : goal.count_between-total-requires-clause-table
count_between-total-requires-clause-table g c = c.requires.table

pub count_between-total-requires-clause-uncut : goal.count_between-total-requires-clause-uncut
count_between-total-requires-clause-uncut g c = c.requires.areas.uncut

pub count_between-total-requires-clause-apart : goal.count_between-total-requires-clause-apart
count_between-total-requires-clause-apart g c = c.within-area-items.ensures.kept.apart

pub count_between-total-requires-clause-some : goal.count_between-total-requires-clause-some
count_between-total-requires-clause-some g c = c.requires.some

pub count_between-total-requires-clause-low : goal.count_between-total-requires-clause-low
count_between-total-requires-clause-low g c = c.requires.low

pub loop-area-smaller : goal.loop-area-smaller
loop-area-smaller g c =
    shorter c.loop-area.area-iterator c.next.new.self c.in-Some.area.now c.in-Some.ensures.steps

pub returns-clause-small : goal.returns-clause-small
returns-clause-small g c =
    at_most c.loop-area.total c.loop-area.next _ c.loop-area.invariant.few c.loop-area.invariant.bound
