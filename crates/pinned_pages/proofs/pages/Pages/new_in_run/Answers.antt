use Rattle.std.proofs.Common.{◌+◌, ◌∙◌, cond, ℕ, not, sym, ap, arith}
use Rattle.std.specs.Prelude.{is_none}
use Rattle.pinned_pages.specs.Pages.{frame_of}
use Rattle.pinned_pages.proofs.Runs.{counted_more, none_some}
use Rattle.pinned_pages.proofs.pages.Pages.new_in_run.Goals as goal
use Rattle.pinned_pages.proofs.pages.Pages.new_in_run.Goals.{then-is_none, else-is_none}

pub loop-at-preserved : goal.loop-at-preserved
loop-at-preserved g c =
    let at = c.args.first + c.loop-at.at in
    let p = λ (i : ℕ). is_none (frame_of c.args.self.now.pages i) in
    let more = counted_more p c.args.first c.loop-at.at at (omega arith) in
    elim c.if-is_none.branch [
      | then-is_none w ↦
          let none = ap is_none (sym c.frame.ensures.frame) ∙ none_some c.frame.result ∙ ap not w.if-is_none.ensures in
          let one = ap {B = ℕ} (λ b. cond b 1 0) none in
          rw w.new-is (record {
            new = omega (arith, more, one, c.loop-at.invariant.new);
            few = omega (arith, c.loop-at.invariant.few);
          })
      | else-is_none w ↦
          let some = ap is_none (sym c.frame.ensures.frame) ∙ none_some c.frame.result ∙ ap not w.if-is_none.ensures in
          let zero = ap {B = ℕ} (λ b. cond b 1 0) some in
          rw w.new-is (record {
            new = omega (arith, more, zero, c.loop-at.invariant.new);
            few = omega (arith, c.loop-at.invariant.few);
          })
    ]
