use Rattle.std.proofs.Common.{◌≡◌, ◌+◌, ◌-◌, ◌*◌, ◌/◌, ◌^◌, ◌<◌, ◌≤◌, true, false, get_or, length, refl, ap, subst, sym}
use Rattle.std.proofs.Common.{◌∙◌, arith, vec_capacity, vec_len}
use Rattle.std.specs.List.{range_with_len}
use Rattle.iofd_words.specs.Pages.{page_of}
use Rattle.iofd_words.specs.Width.{bits_of}
use Rattle.page_table_spans.specs.Spans.{HasFrames}
use Rattle.page_table_words.specs.Stands.{TableRoot}
use Rattle.page_table_set.proofs.ClearedOver.{written_again}
use Rattle.page_table_set.proofs.MappedInTurn.{all_mapped, its_frames, mapped_next, none_mapped, passed_over}
use Rattle.page_table_set.proofs.MappedInTurn.{they_stand}
use Rattle.page_table_set.proofs.MappedOver.{as_span, end_below}
use Rattle.page_table_set.proofs.Partly.{at_in}
use Rattle.page_table_set.specs.OverSpans.{is_over}
use Rattle.page_table_set.specs.PageTables.{Hwpt}
use Rattle.page_table_set.proofs.over_spans.map.Goals as goal
use Rattle.page_table_set.proofs.over_spans.map.Goals.{then-is_over, else-is_over}

pub loop-hwpt-init : goal.loop-hwpt-init
loop-hwpt-init g c = record {
  same = refl;
  capacity = refl;
  mapped = λ frames leads stand.
      none_mapped c.args.file c.args.ioas c.args.span c.args.frames.now c.args.rights c.args.pool.now
      c.args.out.now.items c.args.tables.now frames leads stand;
}

pub map-requires-clause-table : goal.map-requires-clause-table
map-requires-clause-table g c =
    let inv = c.loop-hwpt.invariant in
    let can = c.requires.can in
    let long = ap length inv.same in
    let within : c.loop-hwpt.hwpt-index < length c.args.tables.now = omega (arith, long) in
    let one : get_or c.args.tables.now c.loop-hwpt.hwpt-index
    c.hwpt-item.result ≡ record { object = c.hwpt.inside.object; table = c.hwpt.inside.table } =
    ap (λ tables. get_or tables c.loop-hwpt.hwpt-index c.hwpt-item.result) (sym inv.same) ∙ sym c.hwpt.view_is in
    let over : is_over c.args.file c.args.ioas
    (get_or c.args.tables.now c.loop-hwpt.hwpt-index c.hwpt-item.result).object ≡ true =
    ap (λ tables. is_over c.args.file c.args.ioas (get_or tables c.loop-hwpt.hwpt-index c.hwpt-item.result).object)
    (sym inv.same) ∙ sym c.is_over.ensures ∙ c.if-is_over.true in
    let room = vec_capacity c.args.out.now - vec_len c.args.out.now in
    let left = vec_capacity c.loop-hwpt.out - vec_len c.loop-hwpt.out in
    let lens : left + length c.loop-hwpt.out.items ≡ room + length c.args.out.now.items =
    (let old = c.args.out.now.ok in let now = c.loop-hwpt.out.ok in let same = inv.capacity in omega (
      arith,
      old.0,
      old.1,
      now.0,
      now.1,
      same,
    )) in
    let first : c.first-first_page.result / 4096 ≡ page_of c.args.span.first =
    ap (λ n. n / 4096) c.first-first_page.ensures.value in
    subst (λ (h : Hwpt). HasFrames c.loop-hwpt.pool h.table
    (range_with_len (c.first-first_page.result / 4096) (length c.args.frames.now)) left) one
    (rw (first, c.requires.pages)
    (its_frames c.args.file c.args.ioas c.args.span c.args.frames.now c.args.rights c.args.pool.now c.loop-hwpt.pool
    c.args.out.now.items c.loop-hwpt.out.items
    c.args.tables.now c.loop-hwpt.hwpt-index c.hwpt-item.result within can.frames can.leads
    (inv.mapped can.frames can.leads can.stand) over room left can.free can.enough lens))

pub map-requires-clause-below : goal.map-requires-clause-below
map-requires-clause-below g c =
    let inv = c.loop-hwpt.invariant in
    let long = ap length inv.same in
    let within : c.loop-hwpt.hwpt-index < length c.args.tables.now = omega (arith, long) in
    let one : get_or c.args.tables.now c.loop-hwpt.hwpt-index
    c.hwpt-item.result ≡ record { object = c.hwpt.inside.object; table = c.hwpt.inside.table } =
    ap (λ tables. get_or tables c.loop-hwpt.hwpt-index c.hwpt-item.result) (sym inv.same) ∙ sym c.hwpt.view_is in
    let over : is_over c.args.file c.args.ioas
    (get_or c.args.tables.now c.loop-hwpt.hwpt-index c.hwpt-item.result).object ≡ true =
    ap (λ tables. is_over c.args.file c.args.ioas (get_or tables c.loop-hwpt.hwpt-index c.hwpt-item.result).object)
    (sym inv.same) ∙ sym c.is_over.ensures ∙ c.if-is_over.true in
    subst (λ (h : Hwpt). (c.first-first_page.result / 4096 + length c.args.frames.now)
    * 4096 ≤ 2 ^ bits_of h.table.width) one
    (end_below _ c.args.span (c.first-first_page.result) (length c.args.frames.now) c.first-first_page.ensures.value
    c.first-first_page.ensures.ordered c.requires.pages
    (c.requires.span (get_or c.args.tables.now c.loop-hwpt.hwpt-index c.hwpt-item.result)
    (at_in c.args.tables.now c.loop-hwpt.hwpt-index c.hwpt-item.result within) over))

pub loop-hwpt-preserved : goal.loop-hwpt-preserved
loop-hwpt-preserved g c = elim c.if-is_over.branch [
  | then-is_over w ↦
      let inv = c.loop-hwpt.invariant in
      let can = c.requires.can in
      let view : record {
        object = c.hwpt.inside.object;
        table = w.map.new.table;
      } ≡ get_or c.loop-hwpt.hwpt-items c.loop-hwpt.hwpt-index c.hwpt-item.result =
      ap (λ (t : TableRoot). let h : Hwpt = record { object = c.hwpt.inside.object; table = t } in h) w.map.ensures.same
      ∙ c.hwpt.view_is in
      let long = ap length inv.same in
      let within : c.loop-hwpt.hwpt-index < length c.args.tables.now = omega (arith, long) in
      let over : is_over c.args.file c.args.ioas
      (get_or c.args.tables.now c.loop-hwpt.hwpt-index c.hwpt-item.result).object ≡ true =
      ap (λ tables. is_over c.args.file c.args.ioas (get_or tables c.loop-hwpt.hwpt-index c.hwpt-item.result).object)
      (sym inv.same) ∙ sym c.is_over.ensures ∙ w.if-is_over.true in
      let it : c.hwpt.inside.table ≡ (get_or c.args.tables.now c.loop-hwpt.hwpt-index c.hwpt-item.result).table =
      ap (λ (h : Hwpt). h.table) (c.hwpt.view_is
      ∙ ap (λ tables. get_or tables c.loop-hwpt.hwpt-index c.hwpt-item.result) inv.same) in
      record {
        same = w.hwpt-items-is
            ∙ written_again c.loop-hwpt.hwpt-items c.args.tables.now c.loop-hwpt.hwpt-index c.hwpt-item.result _
            inv.same (omega arith) view;
        capacity = rw w.out-is (w.map.ensures.capacity ∙ inv.capacity);
        mapped = λ frames leads stand.
            rw (w.pool-is, w.out-is)
            (mapped_next c.args.file c.args.ioas c.args.span c.args.frames.now c.args.rights c.args.pool.now
            c.loop-hwpt.pool c.args.out.now.items c.loop-hwpt.out.items
            c.args.tables.now c.loop-hwpt.hwpt-index c.hwpt-item.result within frames leads
            (inv.mapped frames leads stand) over w.map.new.pool w.map.new.out.items
            (as_span c.loop-hwpt.pool w.map.new.pool c.hwpt.inside.table w.map.new.table _
            (c.first-first_page.result / 4096) c.args.span c.args.frames.now c.args.rights
            c.loop-hwpt.out.items w.map.new.out.items it w.map.ensures.same
            (ap (λ n. n / 4096) c.first-first_page.ensures.value) c.requires.pages
            w.map.ensures.mapped w.map.ensures.holds w.map.ensures.free w.map.ensures.out));
      }
  | else-is_over w ↦
      let inv = c.loop-hwpt.invariant in
      let long = ap length inv.same in
      let within : c.loop-hwpt.hwpt-index < length c.args.tables.now = omega (arith, long) in
      let other : is_over c.args.file c.args.ioas
      (get_or c.args.tables.now c.loop-hwpt.hwpt-index c.hwpt-item.result).object ≡ false =
      ap (λ tables. is_over c.args.file c.args.ioas (get_or tables c.loop-hwpt.hwpt-index c.hwpt-item.result).object)
      (sym inv.same) ∙ sym c.is_over.ensures ∙ w.if-is_over.false in
      record {
        same = w.hwpt-items-is
            ∙ written_again c.loop-hwpt.hwpt-items c.args.tables.now c.loop-hwpt.hwpt-index c.hwpt-item.result _
            inv.same (omega arith) refl;
        capacity = rw w.out-is inv.capacity;
        mapped = λ frames leads stand.
            rw (w.pool-is, w.out-is)
            (passed_over c.args.file c.args.ioas c.args.span c.args.frames.now c.args.rights c.args.pool.now
            c.loop-hwpt.pool c.args.out.now.items c.loop-hwpt.out.items
            c.args.tables.now c.loop-hwpt.hwpt-index c.hwpt-item.result within frames leads
            (inv.mapped frames leads stand) other);
      }
]

pub returns-clause-stand : goal.returns-clause-stand
returns-clause-stand g c = λ frames leads stand others mapped.
    let long = ap length c.loop-hwpt.invariant.same in
    they_stand c.args.file c.args.ioas c.args.span c.args.frames.now c.args.rights c.args.pool.now c.loop-hwpt.pool
    c.args.out.now.items c.loop-hwpt.out.items c.args.tables.now frames leads others
    (all_mapped c.args.file c.args.ioas c.args.span c.args.frames.now c.args.rights c.args.pool.now c.loop-hwpt.pool
    c.args.out.now.items c.loop-hwpt.out.items c.args.tables.now c.loop-hwpt.hwpt-index frames leads
    (omega (arith, long)) (c.loop-hwpt.invariant.mapped frames leads stand)) mapped

pub returns-clause-holds : goal.returns-clause-holds
returns-clause-holds g c = λ frames leads stand.
    let long = ap length c.loop-hwpt.invariant.same in
    (all_mapped c.args.file c.args.ioas c.args.span c.args.frames.now c.args.rights c.args.pool.now c.loop-hwpt.pool
    c.args.out.now.items c.loop-hwpt.out.items c.args.tables.now c.loop-hwpt.hwpt-index frames leads
    (omega (arith, long)) (c.loop-hwpt.invariant.mapped frames leads stand)).holds

pub returns-clause-others : goal.returns-clause-others
returns-clause-others g c = λ frames leads stand.
    let long = ap length c.loop-hwpt.invariant.same in
    (all_mapped c.args.file c.args.ioas c.args.span c.args.frames.now c.args.rights c.args.pool.now c.loop-hwpt.pool
    c.args.out.now.items c.loop-hwpt.out.items c.args.tables.now c.loop-hwpt.hwpt-index frames leads
    (omega (arith, long)) (c.loop-hwpt.invariant.mapped frames leads stand)).kept

pub returns-clause-free : goal.returns-clause-free
returns-clause-free g c = λ frames leads stand.
    let long = ap length c.loop-hwpt.invariant.same in
    (all_mapped c.args.file c.args.ioas c.args.span c.args.frames.now c.args.rights c.args.pool.now c.loop-hwpt.pool
    c.args.out.now.items c.loop-hwpt.out.items c.args.tables.now c.loop-hwpt.hwpt-index frames leads
    (omega (arith, long)) (c.loop-hwpt.invariant.mapped frames leads stand)).free

pub returns-clause-out : goal.returns-clause-out
returns-clause-out g c = λ frames leads stand.
    let long = ap length c.loop-hwpt.invariant.same in
    (all_mapped c.args.file c.args.ioas c.args.span c.args.frames.now c.args.rights c.args.pool.now c.loop-hwpt.pool
    c.args.out.now.items c.loop-hwpt.out.items c.args.tables.now c.loop-hwpt.hwpt-index frames leads
    (omega (arith, long)) (c.loop-hwpt.invariant.mapped frames leads stand)).out
