use Rattle.std.proofs.Common.{◌+◌, ◌∙◌, Option, sym, ap, arith}
use Rattle.std.specs.Prelude.{is_some}
use Rattle.iofd_words.specs.declared.numbers.FrameNo.{FrameNo}
use Rattle.pinned_pages.specs.Pages.{MemoryPages, frame_now, frame_of, or_else}
use Rattle.pinned_pages.proofs.Runs.{all_more, one_fails}
use Rattle.pinned_pages.proofs.pages.Pages.has_run.Goals as goal

pub returns-then-not-is_there : goal.returns-then-not-is_there
returns-then-not-is_there g c =
    let at = c.args.first + c.loop-at.at in
    let rows = c.args.users.now.pages in
    let now = ap (λ (v : MemoryPages). frame_now v.pages rows at) c.self.view_is in
    let there = λ (o : Option FrameNo). is_some (or_else o (frame_now c.args.self.now.pages rows at)) in
    sym (one_fails (λ i. is_some (or_else (frame_of c.args.self.now.pages i) (frame_now c.args.self.now.pages rows i)))
    c.args.first c.args.count at (omega arith) (omega (arith, c.loop-at-test.true))
    (ap there (sym c.frame-pinned.ensures.frame)
    ∙ ap (λ o. is_some (or_else c.frame-pinned.result o)) (sym now) ∙ sym c.if-not-is_there.ensures))

pub loop-at-preserved : goal.loop-at-preserved
loop-at-preserved g c =
    let at = c.args.first + c.loop-at.at in
    let rows = c.args.users.now.pages in
    let now = ap (λ (v : MemoryPages). frame_now v.pages rows at) c.self.view_is in
    let there = λ (o : Option FrameNo). is_some (or_else o (frame_now c.args.self.now.pages rows at)) in
    all_more (λ i. is_some (or_else (frame_of c.args.self.now.pages i) (frame_now c.args.self.now.pages rows i)))
    c.args.first c.loop-at.at at (omega arith) c.loop-at.invariant
    (ap there (sym c.frame-pinned.ensures.frame)
    ∙ ap (λ o. is_some (or_else c.frame-pinned.result o)) (sym now) ∙ sym c.if-not-is_there.ensures)
