use Rattle.std.proofs.Common.{ℕ, ◌-◌, ◌^◌, ◌<◌, ◌≤◌, Option, List, length, inl, refl, sym, ◌∙◌, subst, vec_capacity}
use Rattle.std.proofs.Common.{vec_len}
use Rattle.std.specs.Prelude.{IfSome}
use Rattle.frame_memory.specs.Pool.{free_count}
use Rattle.page_table_set.specs.PageTables.{Hwpt}
use Rattle.iofd_words.specs.Tables.{MissingTable}
use Rattle.page_table_spans.specs.Spans.{IsOfPages}
use Rattle.hwpt_device.proofs.AreaFilled.{as_long, leaving_filled, live_filled, missing_is, of_pages}
use Rattle.hwpt_device.proofs.AreaFilled.{whole_pages}
use Rattle.hwpt_device.proofs.AreaFilled.{whole_size}
use Rattle.hwpt_device.proofs.filling.fill_area.Goals as goal

pub map_in-requires-clause-can : goal.map_in-requires-clause-can
map_in-requires-clause-can g c =
    let live = sym c.is_live.ensures ∙ c.if-is_live.true in
    let asked = c.requires in
    let lacks = missing_is c.args.area.now live c.args.file c.args.id c.args.page_tables.now.tables asked.hwpt
    asked.frames asked.found in
    record {
      frames = asked.frames;
      leads = asked.leads;
      stand = asked.stand;
      free = subst (λ (tables : List MissingTable). length tables ≤ free_count c.args.pool.now.holds) (sym lacks)
          asked.free;
      enough = subst (λ (tables : List MissingTable). length tables ≤ vec_capacity c.args.taken.now
          - vec_len c.args.taken.now) (sym lacks) asked.enough;
    }

pub map_in-requires-clause-span : goal.map_in-requires-clause-span
map_in-requires-clause-span g c =
    let can = c.requires.mappable c.args.area.now (inl refl) (sym c.is_live.ensures ∙ c.if-is_live.true) in
    subst (λ (found : Option Hwpt). IfSome found (λ h. IsOfPages h.table.width c.args.area.now.span))
    (sym c.requires.found) (of_pages c.requires.hwpt.table.width c.args.area.now c.requires.apart.1
    c.facts.ensures.end can.pages can.starts can.wide)

pub map_in-requires-clause-pages : goal.map_in-requires-clause-pages
map_in-requires-clause-pages g c =
    let live = sym c.is_live.ensures ∙ c.if-is_live.true in
    let can = c.requires.mappable c.args.area.now (inl refl) live in
    let pinned = can.pinned in
    let ordered = c.requires.apart.1 in
    let whole = whole_pages c.args.area.now ordered can.pages can.starts in
    as_long c.args.memory.now c.args.area.now c.frames.result.now (whole_size c.args.area.now ordered whole)
    pinned.object pinned.found pinned.size (c.frames.ensures.count pinned.pins)

pub returns-then-is_live-clause-filled : goal.returns-then-is_live-clause-filled
returns-then-is_live-clause-filled g c =
    let live = sym c.is_live.ensures ∙ c.if-is_live.true in
    let can = c.requires.mappable c.args.area.now (inl refl) live in
    let pinned = can.pinned in
    let ordered = c.requires.apart.1 in
    let whole = whole_pages c.args.area.now ordered can.pages can.starts in
    live_filled c.args.memory.now c.args.area.now c.frames.result.now live ordered whole
    (c.frames.ensures.each pinned.pins)
    (as_long c.args.memory.now c.args.area.now c.frames.result.now (whole_size c.args.area.now ordered whole)
    pinned.object pinned.found pinned.size (c.frames.ensures.count pinned.pins))
    c.args.file c.args.id c.args.page_tables.now.tables c.args.pool.now c.map_in.new.pool
    c.args.taken.now.items c.map_in.new.out.items
    c.map_in.ensures.stand c.map_in.ensures.others c.map_in.ensures.holds c.map_in.ensures.free c.map_in.ensures.out

pub returns-else-is_live-clause-filled : goal.returns-else-is_live-clause-filled
returns-else-is_live-clause-filled g c =
    leaving_filled c.args.file c.args.id c.args.memory.now c.args.area.now c.args.page_tables.now.tables c.args.pool.now
    c.args.taken.now.items (sym c.is_live.ensures ∙ c.if-is_live.false)
