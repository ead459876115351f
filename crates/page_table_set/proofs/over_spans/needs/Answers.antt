use Rattle.std.proofs.Common.{List, length, length-append, slice_index_or, take, ap, sym, ◌∙◌, [], ◌∷◌, arith}
use Rattle.page_table_set.proofs.Needed.{its_few, its_needs, its_span, its_table, needed_same, over_few, over_one}
use Rattle.page_table_set.proofs.Needed.{over_same}
use Rattle.page_table_set.proofs.Partly.{all_taken}
use Rattle.page_table_set.specs.OverSpans.{hwpts_over, is_over, tables_needed}
use Rattle.page_table_set.specs.PageTables.{Hwpt}
use Rattle.page_table_set.proofs.over_spans.needs.Goals as goal
use Rattle.page_table_set.proofs.over_spans.needs.Goals.{then-is_over, else-is_over}

pub needs-total-requires-clause-table : goal.needs-total-requires-clause-table
needs-total-requires-clause-table g c =
    its_table c.args.pool.now c.requires.stand.frames c.requires.stand.leads c.args.tables.now c.requires.stand.stand
    c.loop-hwpt.hwpt-index c.hwpt-item.result (omega arith) c.args.file c.args.ioas c.args.span
    (record { object = c.hwpt.inside.object; table = c.hwpt.inside.table }) (c.hwpt.view_is ∙ c.hwpt-item.is)
    (ap (λ (h : Hwpt). is_over c.args.file c.args.ioas h.object) (sym c.hwpt-item.is) ∙ sym c.is_over.ensures
    ∙ c.if-is_over.true)

pub needs-total-requires-clause-span : goal.needs-total-requires-clause-span
needs-total-requires-clause-span g c =
    its_span c.args.pool.now c.requires.stand.frames c.requires.stand.leads c.args.tables.now c.requires.stand.stand
    c.loop-hwpt.hwpt-index c.hwpt-item.result (omega arith) c.args.file c.args.ioas c.args.span
    (record { object = c.hwpt.inside.object; table = c.hwpt.inside.table }) (c.hwpt.view_is ∙ c.hwpt-item.is)
    (ap (λ (h : Hwpt). is_over c.args.file c.args.ioas h.object) (sym c.hwpt-item.is) ∙ sym c.is_over.ensures
    ∙ c.if-is_over.true)
    c.requires.span

pub overflow_add-total : goal.overflow_add-total
overflow_add-total g c =
    let more = its_few c.args.pool.now c.requires.stand.frames c.requires.stand.leads c.args.tables.now
    c.requires.stand.stand c.loop-hwpt.hwpt-index c.hwpt-item.result (omega arith)
    c.args.file c.args.ioas c.args.span
    (record { object = c.hwpt.inside.object; table = c.hwpt.inside.table }) (c.hwpt.view_is ∙ c.hwpt-item.is)
    (ap (λ (h : Hwpt). is_over c.args.file c.args.ioas h.object) (sym c.hwpt-item.is) ∙ sym c.is_over.ensures
    ∙ c.if-is_over.true)
    c.requires.span c.needs-total.result c.needs-total.ensures in
    let some = over_few c.args.tables.now c.loop-hwpt.hwpt-index c.args.file c.args.ioas in
    let small = c.loop-hwpt.invariant.small in
    let few = c.requires.few in
    omega (arith, more, some, small, few)

pub loop-hwpt-preserved : goal.loop-hwpt-preserved
loop-hwpt-preserved g c = elim c.if-is_over.branch [
  | then-is_over w ↦ record {
    total = λ frames leads stand.
        w.total-is ∙ its_needs c.args.pool.now frames leads c.args.tables.now stand c.loop-hwpt.hwpt-index
        c.hwpt-item.result (omega arith) c.args.file c.args.ioas c.args.span
        (record { object = c.hwpt.inside.object; table = c.hwpt.inside.table }) (c.hwpt.view_is ∙ c.hwpt-item.is)
        (ap (λ (h : Hwpt). is_over c.args.file c.args.ioas h.object) (sym c.hwpt-item.is) ∙ sym c.is_over.ensures
        ∙ w.if-is_over.true)
        c.loop-hwpt.total w.needs-total.result w.needs-total.ensures (c.loop-hwpt.invariant.total frames leads stand);
    small =
        let more = its_few c.args.pool.now c.requires.stand.frames c.requires.stand.leads c.args.tables.now
        c.requires.stand.stand c.loop-hwpt.hwpt-index c.hwpt-item.result (omega arith)
        c.args.file c.args.ioas c.args.span
        (record { object = c.hwpt.inside.object; table = c.hwpt.inside.table }) (c.hwpt.view_is ∙ c.hwpt-item.is)
        (ap (λ (h : Hwpt). is_over c.args.file c.args.ioas h.object) (sym c.hwpt-item.is) ∙ sym c.is_over.ensures
        ∙ w.if-is_over.true)
        c.requires.span w.needs-total.result w.needs-total.ensures in
        let one = ap length (over_one c.args.tables.now c.loop-hwpt.hwpt-index c.hwpt-item.result (omega arith)
        c.args.file c.args.ioas (ap (λ (h : Hwpt). is_over c.args.file c.args.ioas h.object)
        (sym c.hwpt-item.is) ∙ sym c.is_over.ensures ∙ w.if-is_over.true)) in
        let long = length-append (hwpts_over c.args.file c.args.ioas (take c.loop-hwpt.hwpt-index c.args.tables.now))
        (slice_index_or c.args.tables.now c.loop-hwpt.hwpt-index c.hwpt-item.result ∷ []) in
        let small = c.loop-hwpt.invariant.small in
        let is = w.total-is in
        omega (arith, more, one, long, small, is);
  }
  | else-is_over w ↦ record {
    total = λ frames leads stand.
        w.total-is ∙ needed_same c.args.tables.now c.loop-hwpt.hwpt-index c.hwpt-item.result (omega arith) c.args.file
        c.args.ioas frames c.args.span c.loop-hwpt.total
        (ap (λ (h : Hwpt). is_over c.args.file c.args.ioas h.object) (sym c.hwpt-item.is) ∙ sym c.is_over.ensures
        ∙ w.if-is_over.false)
        (c.loop-hwpt.invariant.total frames leads stand);
    small =
        let same = ap length (over_same c.args.tables.now c.loop-hwpt.hwpt-index c.hwpt-item.result (omega arith)
        c.args.file c.args.ioas (ap (λ (h : Hwpt). is_over c.args.file c.args.ioas h.object)
        (sym c.hwpt-item.is) ∙ sym c.is_over.ensures ∙ w.if-is_over.false)) in
        let small = c.loop-hwpt.invariant.small in
        let is = w.total-is in
        omega (arith, same, small, is);
  }
]

pub returns : goal.returns
returns g c = λ frames leads stand.
    c.loop-hwpt.invariant.total frames leads stand
    ∙ ap (λ (l : List Hwpt). tables_needed frames c.args.file c.args.ioas c.args.span l)
    (all_taken c.args.tables.now c.loop-hwpt.hwpt-index (omega arith))
