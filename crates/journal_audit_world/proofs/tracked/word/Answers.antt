use Rattle.std.proofs.Common.{◌+◌, arith}
use Rattle.journal_audit_world.specs.Keys.{has_number}
use Rattle.journal_audit_world.proofs.TrackedWords.{none_yet, word_fits, word_more}
use Rattle.journal_audit_world.proofs.tracked.word.Goals as goal

pub loop-k-init : goal.loop-k-init
loop-k-init g c = (none_yet (λ k. has_number c.args.pages.now (c.args.page + k)), omega arith)

pub overflow_add-word : goal.overflow_add-word
overflow_add-word g c =
    let below = word_fits (λ k. has_number c.args.pages.now (c.args.page + k)) c.loop-k.k c.loop-k.word
    c.bit-word.result (omega (arith, c.loop-k-test.true)) c.loop-k.invariant.1 c.bit-word.ensures in
    omega (arith, below)

pub loop-k-preserved : goal.loop-k-preserved
loop-k-preserved g c =
    word_more (λ k. has_number c.args.pages.now (c.args.page + k)) c.loop-k.k c.loop-k.word c.bit-word.result
    c.loop-k.invariant.0 c.loop-k.invariant.1 c.bit-word.ensures
