use Rattle.std.proofs.Common.{◌≡◌, ℕ, ◌+◌, refl, sym, ap, ◌∙◌, arith, subst, vec_len}
use Rattle.std.specs.Prelude.{vec_capacity}
use Rattle.iofd_words.specs.Levels.{levels_of}
use Rattle.area_map_rows.specs.Areas.{areas_outside}
use Rattle.page_table.proofs.Parting.{count_less}
use Rattle.page_table_spans.specs.Idle.{Sheds, is_idle_between}
use Rattle.page_table_spans.proofs.IdleTables.{none_between, wider_between}
use Rattle.page_table_spans.proofs.ShedSteps.{every, none_goes, one_empty, one_goes, one_room}
use Rattle.page_table_spans.proofs.Shedding.{sheds_none}
use Rattle.page_table_spans.proofs.idle.remove_between.Goals as goal
use Rattle.page_table_spans.proofs.idle.remove_between.Goals.{then-is_idle, else-is_idle}

pub loop-number-init : goal.loop-number-init
loop-number-init g c = record {
  table = refl;
  capacity = refl;
  shed = λ rows pages stands may. sheds_none c.args.pool.now c.args.table.now rows pages _ c.args.out.now.items
      (vec_len c.args.out.now) stands
      (every _ rows (none_between (levels_of c.args.table.now.width) (areas_outside c.args.span c.args.areas.now.areas)
      c.args.level c.args.first));
}

pub is_idle-requires-clause-table : goal.is_idle-requires-clause-table
is_idle-requires-clause-table g c =
    let can = c.requires.can in
    let sheds = c.loop-number.invariant.shed can.rows can.pages can.stands can.may in
    rw c.loop-number.invariant.table (record { rows = _; pages = can.pages; stands = sheds.stands })

pub remove_empty-requires-clause-table : goal.remove_empty-requires-clause-table
remove_empty-requires-clause-table g c =
    let can = c.requires.can in
    let inv = c.loop-number.invariant in
    let sheds = inv.shed can.rows can.pages can.stands can.may in
    let told = (rw inv.table at c.is_idle.ensures) _ can.pages sheds.stands in
    rw inv.table (record {
      rows = _;
      pages = can.pages;
      stands = sheds.stands;
      empty = one_empty c.args.pool.now c.loop-number.pool c.args.table.now can.rows can.pages c.args.areas.now.areas
          c.args.span c.args.level c.args.first c.loop-number.number c.args.out.now.items c.loop-number.out.items
          (vec_len c.args.out.now) (vec_len c.loop-number.out) can.may c.requires.low (omega arith) sheds
          (sym told ∙ c.if-is_idle.true);
    })

pub remove_empty-requires-clause-room : goal.remove_empty-requires-clause-room
remove_empty-requires-clause-room g c =
    let can = c.requires.can in
    let inv = c.loop-number.invariant in
    let levels = levels_of c.args.table.now.width in
    let left = areas_outside c.args.span c.args.areas.now.areas in
    let sheds = inv.shed can.rows can.pages can.stands can.may in
    let told = (rw inv.table at c.is_idle.ensures) _ can.pages sheds.stands in
    let fewer = count_less (is_idle_between levels left c.args.level c.args.first (c.loop-number.number + 1))
    (is_idle_between levels left c.args.level c.args.first c.args.end) can.rows
    (wider_between levels left c.args.level c.args.first (c.loop-number.number + 1) c.args.end (omega arith)) in
    let room = one_room c.args.pool.now c.loop-number.pool c.args.table.now can.rows can.pages c.args.areas.now.areas
    c.args.span c.args.level c.args.first c.loop-number.number c.args.out.now.items c.loop-number.out.items
    (vec_len c.args.out.now) (vec_len c.loop-number.out) can.may c.requires.low (omega arith) sheds
    (sym told ∙ c.if-is_idle.true) (vec_capacity c.args.out.now) (omega (arith, fewer, can.enough)) in
    omega (arith, room, inv.capacity)

pub loop-number-preserved : goal.loop-number-preserved
loop-number-preserved g c =
    let inv = c.loop-number.invariant in
    elim c.if-is_idle.branch [
      | then-is_idle w ↦ record {
        table = w.table-is ∙ w.remove_empty.ensures.same ∙ inv.table;
        capacity = ap (λ o. vec_capacity o) w.out-is ∙ w.remove_empty.ensures.capacity ∙ inv.capacity;
        shed = λ rows pages stands may.
            let sheds = inv.shed rows pages stands may in
            let told = (rw inv.table at c.is_idle.ensures) _ pages sheds.stands in
            let is = sym told ∙ w.if-is_idle.true in
            let empty = one_empty c.args.pool.now c.loop-number.pool c.args.table.now rows pages c.args.areas.now.areas
            c.args.span c.args.level c.args.first c.loop-number.number c.args.out.now.items c.loop-number.out.items
            (vec_len c.args.out.now) (vec_len c.loop-number.out) may c.requires.low (omega arith) sheds is in
            rw (w.pool-is, w.out-is)
            (one_goes c.args.pool.now c.loop-number.pool c.args.table.now rows pages c.args.areas.now.areas
            c.args.span c.args.level c.args.first c.loop-number.number c.args.out.now.items c.loop-number.out.items
            (vec_len c.args.out.now) (vec_len c.loop-number.out) may c.requires.low (omega arith) sheds is
            w.remove_empty.new.pool w.remove_empty.new.out.items (vec_len w.remove_empty.new.out)
            ((rw (w.remove_empty.ensures.same, inv.table) at w.remove_empty.ensures.table) _ pages sheds.stands empty)
            ((rw inv.table at w.remove_empty.ensures.given) _ pages sheds.stands empty) w.remove_empty.ensures.len);
      }
      | else-is_idle w ↦ record {
        table = w.table-is ∙ inv.table;
        capacity = ap (λ o. vec_capacity o) w.out-is ∙ inv.capacity;
        shed = λ rows pages stands may.
            let sheds = inv.shed rows pages stands may in
            let told = (rw inv.table at c.is_idle.ensures) _ pages sheds.stands in
            rw (w.pool-is, w.out-is)
            (none_goes c.args.pool.now c.loop-number.pool c.args.table.now rows pages c.args.areas.now.areas
            c.args.span c.args.level c.args.first c.loop-number.number c.args.out.now.items c.loop-number.out.items
            (vec_len c.args.out.now) (vec_len c.loop-number.out) may c.requires.low (omega arith) sheds
            (sym told ∙ w.if-is_idle.false));
      }
    ]

pub returns-clause-shed : goal.returns-clause-shed
returns-clause-shed g c = λ rows pages stands may.
    let end : c.loop-number.number ≡ c.args.end = omega arith in
    rw c.loop-number.invariant.table
    (subst (λ (n : ℕ). Sheds c.args.pool.now c.loop-number.pool c.args.table.now rows pages
    (is_idle_between (levels_of c.args.table.now.width) (areas_outside c.args.span c.args.areas.now.areas)
    c.args.level c.args.first n) c.args.out.now.items c.loop-number.out.items (vec_len c.args.out.now)
    (vec_len c.loop-number.out)) end (c.loop-number.invariant.shed rows pages stands may))
