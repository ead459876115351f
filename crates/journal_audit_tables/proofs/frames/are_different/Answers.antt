use Rattle.std.proofs.Common.{sym, ap, ◌∙◌}
use Rattle.iofd_rows.proofs.Bools.{not_true}
use Rattle.iofd_runs.proofs.NotRefused.{not_not}
use Rattle.journal_audit_tables.proofs.Free.{apart_off, apart_on, are_apart, none_apart}
use Rattle.journal_audit_tables.proofs.frames.are_different.Goals as goal

pub loop-frame-init : goal.loop-frame-init
loop-frame-init g c =
    none_apart c.args.frames.now ∙ ap (λ keys. are_apart keys c.args.frames.now) (sym c.new-set.ensures.empty)

pub loop-frame-preserved : goal.loop-frame-preserved
loop-frame-preserved g c =
    apart_on c.args.frames.now _ _ c.loop-frame.frame-index _ _ c.loop-frame-test.true c.in_ok-insert.ensures.updates.0
    (not_true _ (sym c.in_ok-insert.ensures.added ∙ c.if-not-branch.false)) c.loop-frame.invariant

pub returns-then-not-branch : goal.returns-then-not-branch
returns-then-not-branch g c =
    apart_off c.args.frames.now _ c.loop-frame.frame-index _ _ c.loop-frame-test.true
    (not_not _ (sym c.in_ok-insert.ensures.added ∙ c.if-not-branch.true)) c.loop-frame.invariant
