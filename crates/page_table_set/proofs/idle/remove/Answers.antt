use Rattle.std.proofs.Common.{◌≡◌, ◌+◌, ◌-◌, ◌<◌, List, length, get_or, take, ap, sym, ◌∙◌, refl, arith, subst, vec_len}
use Rattle.std.specs.Prelude.{vec_capacity}
use Rattle.iofd_words.specs.Levels.{levels_of}
use Rattle.area_map_rows.specs.Areas.{areas_outside}
use Rattle.page_table_spans.specs.Idle.{CanLeave, CanShed, is_idle}
use Rattle.page_table_words.specs.Stands.{TableRoot}
use Rattle.page_table_set.proofs.ClearedOver.{written_again}
use Rattle.page_table_set.proofs.Partly.{all_taken, at_in}
use Rattle.page_table_set.proofs.Shed.{can_one, in_same, next_sheds, same_sheds, shed_none}
use Rattle.page_table_set.specs.Idle.{Shedding, is_idle_in}
use Rattle.page_table_set.specs.OverSpans.{is_over}
use Rattle.page_table_set.specs.PageTables.{Hwpt}
use Rattle.page_table_set.proofs.idle.remove.Goals as goal
use Rattle.page_table_set.proofs.idle.remove.Goals.{then-is_over, else-is_over}

pub loop-hwpt-init : goal.loop-hwpt-init
loop-hwpt-init g c = record {
  same = refl;
  capacity = refl;
  shed = λ frames leads stand may. shed_none c.args.pool.now frames leads c.args.tables.now c.args.file c.args.ioas
      (areas_outside c.args.span c.args.areas.now.areas) c.args.out.now.items (vec_len c.args.out.now) stand;
}

pub remove_idle-requires-clause-can : goal.remove_idle-requires-clause-can
remove_idle-requires-clause-can g c =
    let can = c.requires.can in
    let inv = c.loop-hwpt.invariant in
    let n = c.loop-hwpt.hwpt-index in
    let d = c.hwpt-item.result in
    let long = ap length inv.same in
    let within : n < length c.args.tables.now = omega (arith, long) in
    let here : get_or c.args.tables.now n d ≡ record { object = c.hwpt.inside.object; table = c.hwpt.inside.table } =
    ap (λ tables. get_or tables n d) (sym inv.same) ∙ sym c.hwpt.view_is in
    let over = ap (λ tables. is_over c.args.file c.args.ioas (get_or tables n d).object) (sym inv.same)
    ∙ sym c.is_over.ensures ∙ c.if-is_over.true in
    rw inv.capacity
    (subst (λ (h : Hwpt). CanShed c.loop-hwpt.pool h.table c.args.areas.now.areas c.args.span 1
    (is_idle (levels_of h.table.width) (areas_outside c.args.span c.args.areas.now.areas))
    (vec_capacity c.args.out.now - vec_len c.loop-hwpt.out)) here
    (can_one c.args.pool.now c.loop-hwpt.pool can.frames can.leads c.args.tables.now c.args.file c.args.ioas
    c.args.areas.now.areas c.args.span can.may n d within over c.args.out.now.items c.loop-hwpt.out.items
    (vec_len c.args.out.now) (vec_len c.loop-hwpt.out) (inv.shed can.frames can.leads can.stand can.may)
    (vec_capacity c.args.out.now) can.enough))

pub remove_idle-requires-clause-areas : goal.remove_idle-requires-clause-areas
remove_idle-requires-clause-areas g c =
    let inv = c.loop-hwpt.invariant in
    let n = c.loop-hwpt.hwpt-index in
    let d = c.hwpt-item.result in
    let long = ap length inv.same in
    let within : n < length c.args.tables.now = omega (arith, long) in
    let here : get_or c.args.tables.now n d ≡ record { object = c.hwpt.inside.object; table = c.hwpt.inside.table } =
    ap (λ tables. get_or tables n d) (sym inv.same) ∙ sym c.hwpt.view_is in
    let over = ap (λ tables. is_over c.args.file c.args.ioas (get_or tables n d).object) (sym inv.same)
    ∙ sym c.is_over.ensures ∙ c.if-is_over.true in
    subst (λ (h : Hwpt). CanLeave h.table.width c.args.areas.now.areas c.args.span) here
    (c.requires.leave (get_or c.args.tables.now n d) (at_in c.args.tables.now n d within) over)

pub loop-hwpt-preserved : goal.loop-hwpt-preserved
loop-hwpt-preserved g c =
    let left = areas_outside c.args.span c.args.areas.now.areas in
    let inv = c.loop-hwpt.invariant in
    let n = c.loop-hwpt.hwpt-index in
    let d = c.hwpt-item.result in
    let long = ap length inv.same in
    let within : n < length c.args.tables.now = omega (arith, long) in
    elim c.if-is_over.branch [
      | then-is_over w ↦
          let view : record { object = c.hwpt.inside.object; table = w.remove_idle.new.table }
          ≡ get_or c.loop-hwpt.hwpt-items n d =
          ap (λ (t : TableRoot). let h : Hwpt = record { object = c.hwpt.inside.object; table = t } in h)
          w.remove_idle.ensures.same ∙ c.hwpt.view_is in
          let over = ap (λ tables. is_over c.args.file c.args.ioas (get_or tables n d).object) (sym inv.same)
          ∙ sym c.is_over.ensures ∙ w.if-is_over.true in
          record {
            same = w.hwpt-items-is ∙ written_again c.loop-hwpt.hwpt-items c.args.tables.now n d _ inv.same
                (omega arith) view;
            capacity = ap (λ o. vec_capacity o) w.out-is ∙ w.remove_idle.ensures.capacity ∙ inv.capacity;
            shed = λ frames leads stand may.
                rw (w.pool-is, w.out-is)
                (next_sheds c.args.pool.now c.loop-hwpt.pool frames leads c.args.tables.now c.args.file c.args.ioas
                c.args.areas.now.areas c.args.span may n d within over c.args.out.now.items c.loop-hwpt.out.items
                (vec_len c.args.out.now) (vec_len c.loop-hwpt.out) (inv.shed frames leads stand may)
                (record { object = c.hwpt.inside.object; table = c.hwpt.inside.table }) w.remove_idle.new.table
                (c.hwpt.view_is ∙ ap (λ tables. get_or tables n d) inv.same) w.remove_idle.ensures.same
                w.remove_idle.new.pool w.remove_idle.new.out.items (vec_len w.remove_idle.new.out)
                w.remove_idle.ensures.shed);
          }
      | else-is_over w ↦
          let over = ap (λ tables. is_over c.args.file c.args.ioas (get_or tables n d).object) (sym inv.same)
          ∙ sym c.is_over.ensures ∙ w.if-is_over.false in
          record {
            same = w.hwpt-items-is ∙ written_again c.loop-hwpt.hwpt-items c.args.tables.now n d _ inv.same
                (omega arith) refl;
            capacity = ap (λ o. vec_capacity o) w.out-is ∙ inv.capacity;
            shed = λ frames leads stand may.
                rw (w.pool-is, w.out-is)
                (same_sheds c.args.pool.now c.loop-hwpt.pool frames leads c.args.tables.now
                (is_idle_in c.args.file c.args.ioas left (take n c.args.tables.now))
                (is_idle_in c.args.file c.args.ioas left (take (n + 1) c.args.tables.now)) c.args.out.now.items
                c.loop-hwpt.out.items (vec_len c.args.out.now) (vec_len c.loop-hwpt.out) (inv.shed frames leads stand may)
                (in_same c.args.tables.now n d within c.args.file c.args.ioas left over));
          }
    ]

pub returns-clause-shed : goal.returns-clause-shed
returns-clause-shed g c = λ frames leads stand may.
    let long = ap length c.loop-hwpt.invariant.same in
    subst (λ (l : List Hwpt). Shedding c.args.pool.now c.loop-hwpt.pool frames leads c.args.tables.now
    (is_idle_in c.args.file c.args.ioas (areas_outside c.args.span c.args.areas.now.areas) l) c.args.out.now.items
    c.loop-hwpt.out.items (vec_len c.args.out.now) (vec_len c.loop-hwpt.out))
    (all_taken c.args.tables.now c.loop-hwpt.hwpt-index (omega (arith, long)))
    (c.loop-hwpt.invariant.shed frames leads stand may)
