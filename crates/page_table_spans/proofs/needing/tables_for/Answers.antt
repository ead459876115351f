use Rattle.std.proofs.Common.{◌≡◌, ℕ, ◌-◌, refl, ap, arith}
use Rattle.std.specs.List.{range_with_len, sum_by}
use Rattle.iofd_words.specs.Levels.{levels_of}
use Rattle.iofd_words.specs.TablePlaces.{live_pages}
use Rattle.page_table_words.proofs.Needs.{sum_range_more}
use Rattle.page_table_words.proofs.Tops.{some_levels}
use Rattle.page_table_spans.proofs.AreaTables.{nothing, root_alone}
use Rattle.page_table_spans.proofs.ByLevel.{lacked_at}
use Rattle.page_table_spans.proofs.needing.tables_for.Goals as goal

pub loop-level-preserved : goal.loop-level-preserved
loop-level-preserved g c =
    let areas = c.args.areas.now.areas in
    let level = c.loop-level.level in
    let small = c.loop-level.invariant.small in
    let value = c.loop-level.invariant.value in
    let here = c.tables_at-total.ensures.value in
    let more = sum_range_more (lacked_at nothing (live_pages areas)) level
    (sum_by (lacked_at nothing (live_pages areas)) (range_with_len 1 (level - 1))) c.tables_at-total.result
    (omega arith) refl here in
    record {
      small = omega (arith, small, c.tables_at-total.ensures.small);
      value = omega (arith, value, more);
    }

pub returns : goal.returns
returns g c =
    let pages = live_pages c.args.areas.now.areas in
    let levels : c.levels-level-end.result ≡ levels_of c.args.width = c.levels-level-end.ensures.value in
    let end : c.loop-level.level ≡ levels_of c.args.width = omega (arith, levels, c.levels-level-end.ensures.some) in
    let value = c.loop-level.invariant.value in
    let all = ap (λ (n : ℕ). sum_by (lacked_at nothing pages) (range_with_len 1 (n - 1))) end in
    let root = root_alone (levels_of c.args.width) 0 pages (some_levels c.args.width) in
    omega (arith, value, all, root)
