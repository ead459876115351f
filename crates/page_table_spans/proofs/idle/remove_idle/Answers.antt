use Rattle.std.proofs.Common.{ℕ, ◌+◌, ◌≤◌, not, List, refl, ap, ◌∙◌, arith, vec_len}
use Rattle.std.specs.Prelude.{vec_capacity}
use Rattle.std.specs.List.{filter}
use Rattle.iofd_words.specs.Bounds.{Bounds}
use Rattle.iofd_words.specs.Levels.{levels_of}
use Rattle.iofd_words.specs.declared.rows.Area.{Area}
use Rattle.area_map_rows.specs.Areas.{areas_outside}
use Rattle.page_table_words.specs.Rows.{MappedPage, TableRow}
use Rattle.page_table_spans.specs.Idle.{MayShed, is_idle, is_idle_at}
use Rattle.page_table_spans.proofs.IdleTables.{all_levels, below_idle, is_idle_below, next_level, none_left, none_lowest}
use Rattle.page_table_spans.proofs.ShedSteps.{every, room_more}
use Rattle.page_table_spans.proofs.Shedding.{any_fewer, sheds_alike, sheds_none, sheds_then}
use Rattle.page_table_spans.proofs.idle.remove_idle.Goals as goal

-- of the tables that are left none below this level is idle
may_level : (levels : ℕ) (areas : List Area) (span : Bounds) (level : ℕ) (rows : List TableRow) (pages : List MappedPage)
    → MayShed levels areas span 1 rows pages
    → MayShed levels areas span level
    (filter (λ row. not (is_idle_below levels (areas_outside span areas) level row)) rows) pages
may_level levels areas span level rows pages may = record {
  needed = any_fewer _ _ rows may.needed;
  mapped = may.mapped;
  lower = none_left (is_idle_below levels (areas_outside span areas) level) rows;
}

pub loop-level-init : goal.loop-level-init
loop-level-init g c = record {
  table = refl;
  capacity = refl;
  shed = λ rows pages stands may. sheds_none c.args.pool.now c.args.table.now rows pages _ c.args.out.now.items
      (vec_len c.args.out.now) stands
      (none_lowest c.args.pool.now (levels_of c.args.table.now.width) c.args.table.now.root rows pages stands
      (areas_outside c.args.span c.args.areas.now.areas));
}

pub remove_at-requires-clause-can : goal.remove_at-requires-clause-can
remove_at-requires-clause-can g c =
    let can = c.requires.can in
    let inv = c.loop-level.invariant in
    let levels = levels_of c.args.table.now.width in
    let own = c.args.areas.now.areas in
    let left = areas_outside c.args.span own in
    let level = c.loop-level.level in
    let sheds = inv.shed can.rows can.pages can.stands can.may in
    let room = room_more c.args.pool.now c.loop-level.pool c.args.table.now can.rows can.pages
    (is_idle_below levels left level) (is_idle_at levels left level) (is_idle_below levels left (level + 1))
    (is_idle levels left) c.args.out.now.items c.loop-level.out.items (vec_len c.args.out.now)
    (vec_len c.loop-level.out) (vec_capacity c.args.out.now) sheds
    (every _ can.rows (λ row. (next_level levels left level row).0)) (below_idle levels left (level + 1)) can.enough in
    rw (inv.table, inv.capacity) (record {
      rows = _;
      pages = can.pages;
      stands = sheds.stands;
      may = may_level levels own c.args.span level can.rows can.pages can.may;
      enough = room;
    })

pub loop-level-preserved : goal.loop-level-preserved
loop-level-preserved g c =
    let inv = c.loop-level.invariant in
    let levels = levels_of c.args.table.now.width in
    let own = c.args.areas.now.areas in
    let left = areas_outside c.args.span own in
    let level = c.loop-level.level in
    record {
      table = c.remove_at.ensures.same ∙ inv.table;
      capacity = c.remove_at.ensures.capacity ∙ inv.capacity;
      shed = λ rows pages stands may.
          let sheds = inv.shed rows pages stands may in
          sheds_then c.args.pool.now c.loop-level.pool c.remove_at.new.pool c.args.table.now rows pages
          (is_idle_below levels left level) (is_idle_at levels left level) (is_idle_below levels left (level + 1))
          c.args.out.now.items c.loop-level.out.items c.remove_at.new.out.items
          (vec_len c.args.out.now) (vec_len c.loop-level.out) (vec_len c.remove_at.new.out) sheds
          ((rw (c.remove_at.ensures.same, inv.table) at c.remove_at.ensures.shed) _ pages sheds.stands
          (may_level levels own c.args.span level rows pages may))
          (every _ rows (λ row. (next_level levels left level row).0));
    }

pub returns-clause-shed : goal.returns-clause-shed
returns-clause-shed g c = λ rows pages stands may.
    let inv = c.loop-level.invariant in
    let levels = levels_of c.args.table.now.width in
    let left = areas_outside c.args.span c.args.areas.now.areas in
    let same = ap levels_of c.width.ensures in
    let top : levels ≤ c.loop-level.level = omega (arith, same) in
    rw inv.table
    (sheds_alike c.args.pool.now c.loop-level.pool c.args.table.now rows pages (is_idle_below levels left c.loop-level.level)
    (is_idle levels left) c.args.out.now.items c.loop-level.out.items (vec_len c.args.out.now)
    (vec_len c.loop-level.out) (inv.shed rows pages stands may)
    (all_levels c.args.pool.now levels c.args.table.now.root rows pages stands left c.loop-level.level top))
