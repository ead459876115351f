use Rattle.std.proofs.Common.{◌≡◌, ◌*◌, ◌+◌, ◌<◌, ◌≤◌, ◌^◌, sym, ap, ◌∙◌, refl, get_or, length, subst, take, arith}
use Rattle.iofd_words.specs.Width.{bits_of}
use Rattle.frame_memory.specs.Pool.{FramePool, bytes_of}
use Rattle.page_table_words.specs.Mapped.{IsTable}
use Rattle.page_table_words.specs.Stands.{TableRoot}
use Rattle.page_table_set.proofs.ClearedOver.{cleared_leads, cleared_next, leads_cleared, one_ready, others_then}
use Rattle.page_table_set.proofs.ClearedOver.{written_again}
use Rattle.page_table_set.proofs.Partly.{all_done, at_in, none_done, partly, same_then}
use Rattle.page_table_set.specs.OverSpans.{is_over}
use Rattle.page_table_set.specs.PageTables.{AllStand, Hwpt}
use Rattle.page_table_set.proofs.over_spans.clear.Goals as goal
use Rattle.page_table_set.proofs.over_spans.clear.Goals.{then-is_over, else-is_over}

pub loop-hwpt-init : goal.loop-hwpt-init
loop-hwpt-init g c = record {
  same = refl;
  holds = refl;
  stand = λ frames leads stand others cleared. none_done c.args.pool.now frames leads others c.args.tables.now stand;
  others = λ frames leads stand frame none. refl;
}

pub clear-requires-clause-table : goal.clear-requires-clause-table
clear-requires-clause-table g c =
    let start = c.requires.stand in
    let now = c.loop-hwpt.invariant.stand start.frames start.leads start.stand
    (cleared_leads c.args.file c.args.ioas c.args.first_page c.args.count start.leads)
    (leads_cleared c.args.file c.args.ioas c.args.first_page c.args.count start.leads) in
    let long = ap length c.loop-hwpt.invariant.same in
    let within : c.loop-hwpt.hwpt-index < length c.args.tables.now = omega (arith, long) in
    let one : get_or c.args.tables.now c.loop-hwpt.hwpt-index
    c.hwpt-item.result ≡ record { object = c.hwpt.inside.object; table = c.hwpt.inside.table } =
    ap (λ tables. get_or tables c.loop-hwpt.hwpt-index c.hwpt-item.result) (sym c.loop-hwpt.invariant.same)
    ∙ sym c.hwpt.view_is in
    subst (λ (h : Hwpt). IsTable c.loop-hwpt.pool h.table) one
    (one_ready c.loop-hwpt.pool start.frames start.leads
    (cleared_leads c.args.file c.args.ioas c.args.first_page c.args.count start.leads)
    c.args.tables.now c.loop-hwpt.hwpt-index c.hwpt-item.result within now)

pub clear-requires-clause-below : goal.clear-requires-clause-below
clear-requires-clause-below g c =
    let long = ap length c.loop-hwpt.invariant.same in
    let within : c.loop-hwpt.hwpt-index < length c.args.tables.now = omega (arith, long) in
    let one : get_or c.args.tables.now c.loop-hwpt.hwpt-index
    c.hwpt-item.result ≡ record { object = c.hwpt.inside.object; table = c.hwpt.inside.table } =
    ap (λ tables. get_or tables c.loop-hwpt.hwpt-index c.hwpt-item.result) (sym c.loop-hwpt.invariant.same)
    ∙ sym c.hwpt.view_is in
    subst (λ (h : Hwpt). (c.args.first_page + c.args.count) * 4096 ≤ 2 ^ bits_of h.table.width) one
    (c.requires.below (get_or c.args.tables.now c.loop-hwpt.hwpt-index c.hwpt-item.result)
    (at_in c.args.tables.now c.loop-hwpt.hwpt-index c.hwpt-item.result within)
    (ap (λ tables. is_over c.args.file c.args.ioas (get_or tables c.loop-hwpt.hwpt-index c.hwpt-item.result).object)
    (sym c.loop-hwpt.invariant.same)
    ∙ sym c.is_over.ensures ∙ c.if-is_over.true))

pub loop-hwpt-preserved : goal.loop-hwpt-preserved
loop-hwpt-preserved g c = elim c.if-is_over.branch [
  | then-is_over w ↦
      let view : record { object = c.hwpt.inside.object; table = w.clear.new.table } ≡ get_or c.loop-hwpt.hwpt-items
      c.loop-hwpt.hwpt-index c.hwpt-item.result =
      ap (λ (t : TableRoot). let h : Hwpt = record { object = c.hwpt.inside.object; table = t } in h)
      w.clear.ensures.same ∙ c.hwpt.view_is in
      let long = ap length c.loop-hwpt.invariant.same in
      let within : c.loop-hwpt.hwpt-index < length c.args.tables.now = omega (arith, long) in
      record {
        same = w.hwpt-items-is
            ∙ written_again c.loop-hwpt.hwpt-items c.args.tables.now c.loop-hwpt.hwpt-index c.hwpt-item.result _
            c.loop-hwpt.invariant.same (omega arith) view;
        holds = ap (λ (p : FramePool). p.holds) w.pool-is ∙ w.clear.ensures.holds ∙ c.loop-hwpt.invariant.holds;
        stand = λ frames leads stand others cleared.
            subst (λ (p : FramePool). AllStand p frames
            (partly (take (c.loop-hwpt.hwpt-index + 1) c.args.tables.now) leads others)
            c.args.tables.now) (sym w.pool-is)
            (cleared_next c.loop-hwpt.pool frames leads others c.args.tables.now c.loop-hwpt.hwpt-index
            c.hwpt-item.result within
            (c.loop-hwpt.invariant.stand frames leads stand others cleared)
            w.clear.new.pool c.args.file c.args.ioas c.args.first_page c.args.count
            (record { object = c.hwpt.inside.object; table = c.hwpt.inside.table }) w.clear.new.table cleared
            (ap (λ tables. is_over c.args.file c.args.ioas
            (get_or tables c.loop-hwpt.hwpt-index c.hwpt-item.result).object) (sym
            c.loop-hwpt.invariant.same)
            ∙ sym c.is_over.ensures ∙ w.if-is_over.true)
            (c.hwpt.view_is ∙ ap (λ tables. get_or tables c.loop-hwpt.hwpt-index c.hwpt-item.result)
            c.loop-hwpt.invariant.same)
            w.clear.ensures.same w.clear.ensures.cleared);
        others = λ frames leads stand frame none.
            let all = cleared_leads c.args.file c.args.ioas c.args.first_page c.args.count leads in
            let now = c.loop-hwpt.invariant.stand frames leads stand all
            (leads_cleared c.args.file c.args.ioas c.args.first_page c.args.count leads) in
            ap (λ (p : FramePool). bytes_of p frame) w.pool-is
            ∙ others_then c.loop-hwpt.pool frames leads all c.args.tables.now c.loop-hwpt.hwpt-index c.hwpt-item.result
            within now w.clear.new.pool c.args.first_page c.args.count
            (record { object = c.hwpt.inside.object; table = c.hwpt.inside.table }) w.clear.new.table
            (c.hwpt.view_is ∙ ap (λ tables. get_or tables c.loop-hwpt.hwpt-index c.hwpt-item.result)
            c.loop-hwpt.invariant.same) w.clear.ensures.cleared frame none
            ∙ c.loop-hwpt.invariant.others frames leads stand frame none;
      }
  | else-is_over w ↦
      let long = ap length c.loop-hwpt.invariant.same in
      let within : c.loop-hwpt.hwpt-index < length c.args.tables.now = omega (arith, long) in
      record {
        same = w.hwpt-items-is
            ∙ written_again c.loop-hwpt.hwpt-items c.args.tables.now c.loop-hwpt.hwpt-index c.hwpt-item.result _
            c.loop-hwpt.invariant.same (omega arith) refl;
        holds = ap (λ (p : FramePool). p.holds) w.pool-is ∙ c.loop-hwpt.invariant.holds;
        stand = λ frames leads stand others cleared.
            subst (λ (p : FramePool). AllStand p frames
            (partly (take (c.loop-hwpt.hwpt-index + 1) c.args.tables.now) leads others)
            c.args.tables.now) (sym w.pool-is)
            (same_then c.loop-hwpt.pool frames leads others c.args.tables.now c.loop-hwpt.hwpt-index
            c.hwpt-item.result within
            (λ page. cleared.others (get_or c.args.tables.now c.loop-hwpt.hwpt-index c.hwpt-item.result).object page
            (ap (λ tables. is_over c.args.file c.args.ioas
            (get_or tables c.loop-hwpt.hwpt-index c.hwpt-item.result).object) (sym
            c.loop-hwpt.invariant.same)
            ∙ sym c.is_over.ensures ∙ w.if-is_over.false))
            (c.loop-hwpt.invariant.stand frames leads stand others cleared));
        others = λ frames leads stand frame none. ap (λ (p : FramePool). bytes_of p frame) w.pool-is
            ∙ c.loop-hwpt.invariant.others frames leads stand frame none;
      }
]

pub returns-clause-stand : goal.returns-clause-stand
returns-clause-stand g c = λ frames leads stand others cleared.
    let long = ap length c.loop-hwpt.invariant.same in
    all_done c.loop-hwpt.pool frames leads others c.args.tables.now c.loop-hwpt.hwpt-index (omega (arith, long))
    (c.loop-hwpt.invariant.stand frames leads stand others cleared)
