use Rattle.std.proofs.Common.{List, ◌+◌, eqb, get_or, length, sym, ap, ◌∙◌, arith}
use Rattle.event_destroy.proofs.FramesCounted.{count_more, count_same, first_few}
use Rattle.page_table_set.proofs.Partly.{all_taken}
use Rattle.page_table_set.specs.PageTables.{Hwpt, hwpt_of}
use Rattle.page_table_set.specs.Removed.{rows_found, rows_of_file}
use Rattle.iofd_words.specs.declared.rows.Object.{Object}
use Rattle.server_state.specs.Leads.{leads_of}
use Rattle.event_destroy.proofs.close.frames_of.Goals as goal
use Rattle.event_destroy.proofs.close.frames_of.Goals.{then-eq, else-eq}

pub overflow_add-count : goal.overflow_add-count
overflow_add-count g c =
    let w = c.requires.world in
    let tables = c.args.state.now.page_tables.tables in
    let stand = c.requires.shows.tables.stand in
    let long = ap (λ (l : List Hwpt). length l) c.as_slice-hwpt-items.ensures in
    let object_is = c.object-object.ensures ∙ ap (λ (h : Hwpt). h.object) (c.hwpt-item.is
    ∙ ap (λ (l : List Hwpt). get_or l c.loop-hwpt.hwpt-index c.hwpt-item.result)
    c.as_slice-hwpt-items.ensures) in
    let sum =
    count_more w.table_frames c.args.file tables c.loop-hwpt.hwpt-index c.hwpt-item.result (omega (arith, long))
    (ap (λ (o : Object). eqb o.file.0 c.args.file.0) (sym object_is) ∙ sym c.eq.ensures ∙ c.if-eq.true) stand.own
    c.loop-hwpt.count c.frames-count.result (c.frames-count.ensures w.table_frames (leads_of w) stand
    ∙ ap (λ (o : Object). length (rows_found w.table_frames (hwpt_of tables c.args.file o.id))) object_is)
    (c.loop-hwpt.invariant w.table_frames (leads_of w) stand) in
    let few = first_few c.requires.at w c.args.state.now c.requires.tidy c.requires.shows c.args.file
    (c.loop-hwpt.hwpt-index + 1) in
    let most = c.facts.ensures.few in
    omega (arith, sum, few, most)

pub loop-hwpt-preserved : goal.loop-hwpt-preserved
loop-hwpt-preserved g c =
    let tables = c.args.state.now.page_tables.tables in
    let long = ap (λ (l : List Hwpt). length l) c.as_slice-hwpt-items.ensures in
    let object_is = c.object-object.ensures ∙ ap (λ (h : Hwpt). h.object) (c.hwpt-item.is
    ∙ ap (λ (l : List Hwpt). get_or l c.loop-hwpt.hwpt-index c.hwpt-item.result)
    c.as_slice-hwpt-items.ensures) in
    elim c.if-eq.branch [
      | then-eq w ↦ λ frames leads stand.
          w.count-is ∙ count_more frames c.args.file tables c.loop-hwpt.hwpt-index
          c.hwpt-item.result (omega (arith, long))
          (ap (λ (o : Object). eqb o.file.0 c.args.file.0) (sym object_is) ∙ sym c.eq.ensures ∙ w.if-eq.true) stand.own
          c.loop-hwpt.count w.frames-count.result (w.frames-count.ensures frames leads stand
          ∙ ap (λ (o : Object). length (rows_found frames (hwpt_of tables c.args.file o.id))) object_is)
          (c.loop-hwpt.invariant frames leads stand)
      | else-eq w ↦ λ frames leads stand.
          w.count-is ∙ count_same frames c.args.file tables c.loop-hwpt.hwpt-index
          c.hwpt-item.result (omega (arith, long))
          (ap (λ (o : Object). eqb o.file.0 c.args.file.0) (sym object_is) ∙ sym c.eq.ensures ∙ w.if-eq.false)
          c.loop-hwpt.count (c.loop-hwpt.invariant frames leads stand)
    ]

pub returns : goal.returns
returns g c = λ frames leads stand.
    let long = ap (λ (l : List Hwpt). length l) c.as_slice-hwpt-items.ensures in
    c.loop-hwpt.invariant frames leads stand
    ∙ ap (λ (l : List Hwpt). length (rows_of_file frames c.args.file l))
    (all_taken c.args.state.now.page_tables.tables c.loop-hwpt.hwpt-index (omega (arith, long)))
