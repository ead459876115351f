use Rattle.std.proofs.Common.{◌≡◌, ◌+◌, ◌<◌, false, List, [], ◌∷◌, length, length-append, get_or, take, ap, sym, ◌∙◌, refl, arith, subst}
use Rattle.std.specs.List.{count_by, list_any}
use Rattle.iofd_words.specs.Levels.{levels_of}
use Rattle.area_map_rows.specs.Areas.{areas_outside}
use Rattle.page_table_spans.specs.Idle.{CanLeave, is_idle}
use Rattle.page_table_words.specs.Rows.{MappedPage, TableRow}
use Rattle.page_table_words.specs.Stands.{TableStands}
use Rattle.page_table.proofs.Parting.{count_never, count_same}
use Rattle.page_table_set.proofs.Needed.{its_table, over_few, over_one, over_same}
use Rattle.page_table_set.proofs.Partly.{all_taken, at_in}
use Rattle.page_table_set.proofs.Shed.{counted_more, in_same, needed_here}
use Rattle.page_table_set.specs.Idle.{is_idle_in}
use Rattle.page_table_set.specs.OverSpans.{hwpts_over, is_over}
use Rattle.page_table_set.specs.PageTables.{Hwpt, rows_of}
use Rattle.page_table_set.proofs.idle.count.Goals as goal
use Rattle.page_table_set.proofs.idle.count.Goals.{then-is_over, else-is_over}

pub loop-hwpt-init : goal.loop-hwpt-init
loop-hwpt-init g c = record {
  total = λ frames leads stand needed. sym (count_never (is_idle_in c.args.file c.args.ioas
      (areas_outside c.args.span c.args.areas.now.areas) []) frames (λ t. refl));
  small = omega arith;
}

pub count_idle-total-requires-clause-table : goal.count_idle-total-requires-clause-table
count_idle-total-requires-clause-table g c =
    its_table c.args.pool.now c.requires.stand.frames c.requires.stand.leads c.args.tables.now c.requires.stand.stand
    c.loop-hwpt.hwpt-index c.hwpt-item.result (omega arith) c.args.file c.args.ioas c.args.span
    (record { object = c.hwpt.inside.object; table = c.hwpt.inside.table }) (c.hwpt.view_is ∙ c.hwpt-item.is)
    (ap (λ (h : Hwpt). is_over c.args.file c.args.ioas h.object) (sym c.hwpt-item.is) ∙ sym c.is_over.ensures
    ∙ c.if-is_over.true)

pub count_idle-total-requires-clause-areas : goal.count_idle-total-requires-clause-areas
count_idle-total-requires-clause-areas g c =
    let inside : Hwpt = record { object = c.hwpt.inside.object; table = c.hwpt.inside.table } in
    subst (λ (h : Hwpt). CanLeave h.table.width c.args.areas.now.areas c.args.span)
    (sym (c.hwpt.view_is ∙ c.hwpt-item.is))
    (c.requires.leave (get_or c.args.tables.now c.loop-hwpt.hwpt-index c.hwpt-item.result)
    (at_in c.args.tables.now c.loop-hwpt.hwpt-index c.hwpt-item.result (omega arith))
    (ap (λ (h : Hwpt). is_over c.args.file c.args.ioas h.object) (sym c.hwpt-item.is) ∙ sym c.is_over.ensures
    ∙ c.if-is_over.true))

pub overflow_add-total : goal.overflow_add-total
overflow_add-total g c =
    let more = c.count_idle-total.ensures.small in
    let some = over_few c.args.tables.now c.loop-hwpt.hwpt-index c.args.file c.args.ioas in
    let small = c.loop-hwpt.invariant.small in
    let few = c.requires.few in
    omega (arith, more, some, small, few)

pub loop-hwpt-preserved : goal.loop-hwpt-preserved
loop-hwpt-preserved g c =
    let left = areas_outside c.args.span c.args.areas.now.areas in
    let n = c.loop-hwpt.hwpt-index in
    let d = c.hwpt-item.result in
    let within : n < length c.args.tables.now = omega arith in
    elim c.if-is_over.branch [
      | then-is_over w ↦
          let over = ap (λ (h : Hwpt). is_over c.args.file c.args.ioas h.object) (sym c.hwpt-item.is)
          ∙ sym c.is_over.ensures ∙ w.if-is_over.true in
          record {
            total = λ frames leads stand needed.
                let its = stand.each (get_or c.args.tables.now n d) (at_in c.args.tables.now n d within) in
                let told = subst (λ (h : Hwpt). (rows : List TableRow) (pages : List MappedPage)
                → TableStands c.args.pool.now h.table rows pages
                → list_any (is_idle (levels_of h.table.width) c.args.areas.now.areas) rows ≡ false
                → w.count_idle-total.result ≡ count_by (is_idle (levels_of h.table.width) left) rows)
                (c.hwpt.view_is ∙ c.hwpt-item.is) w.count_idle-total.ensures.idle in
                w.total-is ∙ counted_more c.args.tables.now n d within c.args.file c.args.ioas c.args.areas.now.areas left
                frames leads c.args.pool.now stand over c.loop-hwpt.total w.count_idle-total.result
                (c.loop-hwpt.invariant.total frames leads stand needed)
                (told (rows_of frames (get_or c.args.tables.now n d).object) its.pages its.stands
                (needed_here c.args.tables.now n d within c.args.file c.args.ioas c.args.areas.now.areas left
                frames leads c.args.pool.now stand over needed));
            small =
                let more = w.count_idle-total.ensures.small in
                let one = ap length (over_one c.args.tables.now n d within c.args.file c.args.ioas over) in
                let long = length-append (hwpts_over c.args.file c.args.ioas (take n c.args.tables.now))
                (get_or c.args.tables.now n d ∷ []) in
                let small = c.loop-hwpt.invariant.small in
                let is = w.total-is in
                omega (arith, more, one, long, small, is);
          }
      | else-is_over w ↦
          let over = ap (λ (h : Hwpt). is_over c.args.file c.args.ioas h.object) (sym c.hwpt-item.is)
          ∙ sym c.is_over.ensures ∙ w.if-is_over.false in
          record {
            total = λ frames leads stand needed.
                w.total-is ∙ c.loop-hwpt.invariant.total frames leads stand needed
                ∙ sym (count_same (is_idle_in c.args.file c.args.ioas left (take (n + 1) c.args.tables.now))
                (is_idle_in c.args.file c.args.ioas left (take n c.args.tables.now)) frames
                (in_same c.args.tables.now n d within c.args.file c.args.ioas left over));
            small =
                let same = ap length (over_same c.args.tables.now n d within c.args.file c.args.ioas over) in
                let small = c.loop-hwpt.invariant.small in
                let is = w.total-is in
                omega (arith, same, small, is);
          }
    ]

pub returns : goal.returns
returns g c = λ frames leads stand needed.
    c.loop-hwpt.invariant.total frames leads stand needed
    ∙ ap (λ (l : List Hwpt). count_by (is_idle_in c.args.file c.args.ioas
    (areas_outside c.args.span c.args.areas.now.areas) l) frames)
    (all_taken c.args.tables.now c.loop-hwpt.hwpt-index (omega arith))
