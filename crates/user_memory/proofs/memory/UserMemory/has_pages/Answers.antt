use Rattle.std.proofs.Common.{◌+◌, ◌∙◌, sym, ap, arith}
use Rattle.std.specs.Prelude.{is_some}
use Rattle.iofd_words.specs.Frames.{frame_at}
use Rattle.iofd_words.specs.Pages.{page_of}
use Rattle.pinned_pages.proofs.Runs.{all_more, one_fails}
use Rattle.user_memory.specs.Memory.{Memory}
use Rattle.user_memory.proofs.memory.UserMemory.has_pages.Goals as goal

pub returns-then-is_none : goal.returns-then-is_none
returns-then-is_none g c =
    let here = ap (λ (m : Memory). is_some (frame_at m.pages c.args.user (page_of c.args.va + c.loop-index.index)))
    (sym c.self.view_is) ∙ sym (ap is_some c.frame_of_page.ensures) ∙ c.if-is_none.ensures in
    sym (one_fails (λ i. is_some (frame_at c.args.self.now.pages c.args.user (page_of c.args.va + i))) 0 c.args.count
    c.loop-index.index (omega arith) (omega (arith, c.loop-index-test.true)) here)

pub loop-index-preserved : goal.loop-index-preserved
loop-index-preserved g c =
    let here = ap (λ (m : Memory). is_some (frame_at m.pages c.args.user (page_of c.args.va + c.loop-index.index)))
    (sym c.self.view_is) ∙ sym (ap is_some c.frame_of_page.ensures) ∙ c.if-is_none.ensures in
    all_more (λ i. is_some (frame_at c.args.self.now.pages c.args.user (page_of c.args.va + i))) 0 c.loop-index.index
    c.loop-index.index (omega arith) c.loop-index.invariant here
