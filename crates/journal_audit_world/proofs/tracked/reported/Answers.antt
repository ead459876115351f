use Rattle.iofd_words.specs.Dirty.{is_marked, reported_span}
use Rattle.iofd_words.specs.DirtyWords.{is_reported}
use Rattle.journal_audit_world.proofs.TrackedWords.{no_more, table_more, table_none}
use Rattle.journal_audit_world.proofs.tracked.reported.Goals as goal

pub loop-row-init : goal.loop-row-init
loop-row-init g c =
    λ n. table_none c.new-pages.result (is_reported (is_marked c.args.rows.now c.args.file c.args.request.hwpt)
    (reported_span c.args.request)) n c.new-pages.ensures

pub loop-row-preserved : goal.loop-row-preserved
loop-row-preserved g c =
    table_more c.args.file c.args.request.hwpt (reported_span c.args.request) c.args.rows.now c.loop-row.pages
    c.add_marked.new.numbers (is_reported (is_marked c.args.rows.now c.args.file c.args.request.hwpt)
    (reported_span c.args.request)) c.loop-row.row-index c.row-item.result c.loop-row-test.true c.row-item.is
    c.in_ok-add_marked.ensures c.loop-row.invariant

pub returns : goal.returns
returns g c =
    no_more c.args.file c.args.request.hwpt (reported_span c.args.request) c.args.rows.now c.loop-row.pages
    (is_reported (is_marked c.args.rows.now c.args.file c.args.request.hwpt) (reported_span c.args.request))
    c.loop-row.row-index c.loop-row-test.false c.loop-row.invariant
