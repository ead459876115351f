use Rattle.std.proofs.Common.{◌≡◌, ℕ, ◌+◌, ◌≤◌, false, ◌||◌, List, [], ◌∷◌, max, refl, sym, ap}
use Rattle.std.proofs.Common.{◌∙◌, arith, subst, vec_len}
use Rattle.std.specs.Prelude.{vec_capacity}
use Rattle.std.specs.List.{All, AllByRecursion}
use Rattle.std.proofs.lemmas.Bool.{false≢true}
use Rattle.std.proofs.lemmas.List.Elements.{All-head, All-tail}
use Rattle.iofd_words.specs.Levels.{levels_of, number_at}
use Rattle.iofd_words.specs.Pages.{page_of}
use Rattle.iofd_words.specs.Span.{lies_in}
use Rattle.iofd_words.specs.declared.rows.Area.{Area}
use Rattle.area_map_rows.specs.Areas.{areas_outside, areas_within}
use Rattle.area_map_rows.proofs.Kept.{kept-filter}
use Rattle.page_table_words.specs.Rows.{TableRow}
use Rattle.page_table_words.proofs.Members.{each_then}
use Rattle.page_table_words.proofs.Needs.{next_number, number_below, number_small}
use Rattle.page_table_words.proofs.RowsUnder.{IsPlaced}
use Rattle.page_table_spans.specs.Idle.{is_idle, is_idle_at, is_idle_between}
use Rattle.page_table_spans.specs.Spans.{IsOfPages}
use Rattle.page_table_spans.proofs.IdleAreas.{AreLeft, all_left, gap, one_less, order}
use Rattle.page_table_spans.proofs.IdleTables.{all_between, between_at, more_between, needed_each, none_between}
use Rattle.page_table_spans.proofs.ShedSteps.{every, room_more}
use Rattle.page_table_spans.proofs.Shedding.{may_more, sheds_alike, sheds_none, sheds_then}
use Rattle.page_table_spans.proofs.idle.remove_at.Goals as goal

pub loop-area-init : goal.loop-area-init
loop-area-init g c =
    let own = c.args.areas.now.areas in
    let in_span = λ (area : Area). lies_in area.span c.args.span in
    rw (c.into_iter-area-iterator.ensures.into_iter_gives, c.within-area-items.ensures.value) (record {
      are = all_left c.args.level (areas_within c.args.span own)
          (kept-filter in_span own c.within-area-items.ensures.kept).apart;
      pages = c.requires.areas.pages;
      bound = omega arith;
      table = refl;
      capacity = refl;
      shed = λ rows pages stands may. sheds_none c.args.pool.now c.args.table.now rows pages _ c.args.out.now.items
          (vec_len c.args.out.now) stands
          (every _ rows (none_between (levels_of c.args.table.now.width) (areas_outside c.args.span own) c.args.level 0));
    })

pub overflow_add-next : goal.overflow_add-next
overflow_add-next g c =
    let span = c.in-Some.area.now.span in
    let last = next_number c.args.level c.number-next.result c.last.result span.last
    c.number-next.ensures c.last.ensures.value in
    let small = number_small c.args.level span.last (omega (arith, c.last.ensures.value, c.last.type_inv)) in
    omega (arith, last, small)

-- the areas of the loop, this one first
pub remove_between-requires-clause-order : goal.remove_between-requires-clause-order
remove_between-requires-clause-order g c =
    let area = c.in-Some.area.now in
    let rest : List Area = c.next.new.self in
    let level = c.args.level in
    let are : AreLeft level c.loop-area.next (areas_within c.args.span c.args.areas.now.areas) (area ∷ rest) =
    rw c.in-Some.ensures.steps at c.loop-area.invariant.are in
    let first = next_number level c.number.result c.first.result area.span.first c.number.ensures c.first.ensures.value in
    let last =
    next_number level c.number-next.result c.last.result area.span.last c.number-next.ensures c.last.ensures.value in
    let few = order level c.loop-area.next (areas_within c.args.span c.args.areas.now.areas) area rest are
    c.max-first.result (c.max-first.ensures ∙ ap (λ (n : ℕ). max n c.loop-area.next) first) in
    omega (arith, few, last)

pub remove_between-requires-clause-end : goal.remove_between-requires-clause-end
remove_between-requires-clause-end g c =
    let area = c.in-Some.area.now in
    let rest : List Area = c.next.new.self in
    let pages : All (λ (a : Area). IsOfPages c.args.table.now.width a.span) (area ∷ rest) =
    rw c.in-Some.ensures.steps at c.loop-area.invariant.pages in
    let here = All-head (λ (a : Area). IsOfPages c.args.table.now.width a.span) area rest pages in
    let last = next_number c.args.level c.number-next.result c.last.result area.span.last
    c.number-next.ensures c.last.ensures.value in
    let below = number_below c.args.table.now.width c.args.level area.span.last (omega (arith, c.requires.low)) here.below in
    rw c.loop-area.invariant.table (omega (arith, last, below))

-- those before the area's last number, one by one
both : (levels level next first after : ℕ) (own : List Area) (span : _) (area : Area) (rest : List Area)
    (are : AreLeft level next (areas_within span own) (area ∷ rest)) (begins : first ≡ max (number_at level
    (page_of area.span.first)) next) (high : first ≤ after) (rows : List TableRow)
    → AllByRecursion (λ row. IsPlaced rows row × (is_idle levels own row ≡ false)) rows
    → AllByRecursion (λ row. is_idle_between levels (areas_outside span own) level 0 after row
    ≡ (is_idle_between levels (areas_outside span own) level 0 next row
    || is_idle_between levels (areas_outside span own) level first after row)) rows
both levels level next first after own span area rest are begins high rows each =
    each_then (λ (row : TableRow). IsPlaced rows row × (is_idle levels own row ≡ false))
    (λ (row : TableRow). is_idle_between levels (areas_outside span own) level 0 after row
    ≡ (is_idle_between levels (areas_outside span own) level 0 next row
    || is_idle_between levels (areas_outside span own) level first after row)) rows
    (λ row is. more_between levels own span level rows row is.0 is.1 next first after (omega (arith, begins)) high
    (λ n from met. gap level next (areas_within span own) area rest are first n begins from met)) each

pub remove_between-requires-clause-can : goal.remove_between-requires-clause-can
remove_between-requires-clause-can g c =
    let area = c.in-Some.area.now in
    let rest : List Area = c.next.new.self in
    let level = c.args.level in
    let own = c.args.areas.now.areas in
    let left = areas_outside c.args.span own in
    let levels = levels_of c.args.table.now.width in
    let next = c.loop-area.next in
    let inv = c.loop-area.invariant in
    let can = c.requires.can in
    let sheds = inv.shed can.rows can.pages can.stands can.may in
    let are : AreLeft level next (areas_within c.args.span own) (area ∷ rest) = rw c.in-Some.ensures.steps at inv.are in
    let first = next_number level c.number.result c.first.result area.span.first c.number.ensures c.first.ensures.value in
    let last =
    next_number level c.number-next.result c.last.result area.span.last c.number-next.ensures c.last.ensures.value in
    let begins : c.max-first.result ≡ max (number_at level (page_of area.span.first)) next =
    c.max-first.ensures ∙ ap (λ (n : ℕ). max n next) first in
    let high = order level next (areas_within c.args.span own) area rest are c.max-first.result begins in
    let each = needed_each c.args.pool.now levels c.args.table.now.root can.rows can.pages own can.stands can.may.needed in
    let room = room_more c.args.pool.now c.loop-area.pool c.args.table.now can.rows can.pages
    (is_idle_between levels left level 0 next)
    (is_idle_between levels left level c.max-first.result (c.number-next.result + 1))
    (is_idle_between levels left level 0 (c.number-next.result + 1)) (is_idle_at levels left level)
    c.args.out.now.items c.loop-area.out.items (vec_len c.args.out.now) (vec_len c.loop-area.out)
    (vec_capacity c.args.out.now) sheds
    (both levels level next c.max-first.result (c.number-next.result + 1) own c.args.span area rest are begins
    (omega (arith, high, last)) can.rows each)
    (between_at levels left level 0 (c.number-next.result + 1)) can.enough in
    rw (inv.table, inv.capacity) (record {
      rows = _;
      pages = can.pages;
      stands = sheds.stands;
      may = may_more levels own c.args.span level can.rows can.pages _ can.may;
      enough = room;
    })

pub loop-area-preserved : goal.loop-area-preserved
loop-area-preserved g c =
    let area = c.in-Some.area.now in
    let rest : List Area = c.next.new.self in
    let level = c.args.level in
    let own = c.args.areas.now.areas in
    let left = areas_outside c.args.span own in
    let levels = levels_of c.args.table.now.width in
    let next = c.loop-area.next in
    let inv = c.loop-area.invariant in
    let are : AreLeft level next (areas_within c.args.span own) (area ∷ rest) = rw c.in-Some.ensures.steps at inv.are in
    let pages : All (λ (a : Area). IsOfPages c.args.table.now.width a.span) (area ∷ rest) =
    rw c.in-Some.ensures.steps at inv.pages in
    let first = next_number level c.number.result c.first.result area.span.first c.number.ensures c.first.ensures.value in
    let last =
    next_number level c.number-next.result c.last.result area.span.last c.number-next.ensures c.last.ensures.value in
    let begins : c.max-first.result ≡ max (number_at level (page_of area.span.first)) next =
    c.max-first.ensures ∙ ap (λ (n : ℕ). max n next) first in
    let high = order level next (areas_within c.args.span own) area rest are c.max-first.result begins in
    let small = number_small level area.span.last (omega (arith, c.last.ensures.value, c.last.type_inv)) in
    record {
      are = subst (λ (n : ℕ). AreLeft level n (areas_within c.args.span own) rest) (ap (λ (n : ℕ). n + 1) (sym last))
          (one_less level next (areas_within c.args.span own) area rest are);
      pages = All-tail (λ (a : Area). IsOfPages c.args.table.now.width a.span) area rest pages;
      bound = omega (arith, last, small);
      table = c.remove_between.ensures.same ∙ inv.table;
      capacity = c.remove_between.ensures.capacity ∙ inv.capacity;
      shed = λ rows mapped stands may.
          let sheds = inv.shed rows mapped stands may in
          let each = needed_each c.args.pool.now levels c.args.table.now.root rows mapped own stands may.needed in
          sheds_then c.args.pool.now c.loop-area.pool c.remove_between.new.pool c.args.table.now rows mapped
          (is_idle_between levels left level 0 next)
          (is_idle_between levels left level c.max-first.result (c.number-next.result + 1))
          (is_idle_between levels left level 0 (c.number-next.result + 1))
          c.args.out.now.items c.loop-area.out.items c.remove_between.new.out.items
          (vec_len c.args.out.now) (vec_len c.loop-area.out) (vec_len c.remove_between.new.out) sheds
          ((rw (c.remove_between.ensures.same, inv.table) at c.remove_between.ensures.shed) _ mapped sheds.stands
          (may_more levels own c.args.span level rows mapped _ may))
          (both levels level next c.max-first.result (c.number-next.result + 1) own c.args.span area rest are begins
          (omega (arith, high, last)) rows each);
    }

pub returns-clause-shed : goal.returns-clause-shed
returns-clause-shed g c = λ rows mapped stands may.
    let levels = levels_of c.args.table.now.width in
    let own = c.args.areas.now.areas in
    let left = areas_outside c.args.span own in
    let level = c.args.level in
    let next = c.loop-area.next in
    let inv = c.loop-area.invariant in
    let are : AreLeft level next (areas_within c.args.span own) [] = rw c.in-None.ensures.steps.0 at inv.are in
    rw inv.table
    (sheds_alike c.args.pool.now c.loop-area.pool c.args.table.now rows mapped (is_idle_between levels left level 0 next)
    (is_idle_at levels left level) c.args.out.now.items c.loop-area.out.items
    (vec_len c.args.out.now) (vec_len c.loop-area.out) (inv.shed rows mapped stands may)
    (each_then (λ (row : TableRow). IsPlaced rows row × (is_idle levels own row ≡ false))
    (λ (row : TableRow). is_idle_at levels left level row ≡ is_idle_between levels left level 0 next row) rows
    (λ row is. all_between levels own c.args.span level rows row is.0 is.1 next
    (λ n from met. false≢true (are.rest n from met)))
    (needed_each c.args.pool.now levels c.args.table.now.root rows mapped own stands may.needed)))
