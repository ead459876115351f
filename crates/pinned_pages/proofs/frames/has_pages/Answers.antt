use Rattle.std.proofs.Common.{◌+◌, sym, ◌∙◌, ap, arith}
use Rattle.std.specs.Prelude.{is_some}
use Rattle.iofd_words.specs.Frames.{frame_at}
use Rattle.iofd_words.specs.Pages.{page_of}
use Rattle.iofd_words.specs.declared.numbers.FrameNo.{FrameNo}
use Rattle.std.proofs.Common.{Option}
use Rattle.pinned_pages.specs.Access.{frame_in, row_at}
use Rattle.pinned_pages.specs.Pages.{or_else}
use Rattle.pinned_pages.proofs.Runs.{all_more, one_fails}
use Rattle.pinned_pages.proofs.frames.has_pages.Goals as goal

pub returns-then-not-is_there : goal.returns-then-not-is_there
returns-then-not-is_there g c =
    let there = λ (o : Option FrameNo). is_some (or_else o
    (frame_at c.args.users.now.pages c.args.user (page_of c.args.va + c.loop-index.index))) in
    sym (one_fails (λ index. is_some (or_else (frame_in (row_at c.args.access.now.rows index))
    (frame_at c.args.users.now.pages c.args.user (page_of c.args.va + index)))) 0 c.args.count c.loop-index.index
    (omega arith) (omega (arith, c.loop-index-test.true))
    (ap there (sym c.frame-pinned.ensures) ∙ sym c.if-not-is_there.ensures))

pub loop-index-preserved : goal.loop-index-preserved
loop-index-preserved g c =
    let there = λ (o : Option FrameNo). is_some (or_else o
    (frame_at c.args.users.now.pages c.args.user (page_of c.args.va + c.loop-index.index))) in
    all_more (λ index. is_some (or_else (frame_in (row_at c.args.access.now.rows index))
    (frame_at c.args.users.now.pages c.args.user (page_of c.args.va + index)))) 0 c.loop-index.index
    c.loop-index.index (omega arith) c.loop-index.invariant
    (ap there (sym c.frame-pinned.ensures) ∙ sym c.if-not-is_there.ensures)
