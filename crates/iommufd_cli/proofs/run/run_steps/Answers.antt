use Rattle.std.proofs.Common.{[], ◌++◌, ℕ, List, refl, sym, ap, ◌∙◌, subst}
use Rattle.std.proofs.lemmas.Result.{on_err_weaker, on_ok_weaker}
use Rattle.std.specs.Io.KnownBytes.{Appends}
use Rattle.iommufd_cli.proofs.Written.{appends_none, begun_last, begun_more, kept_more, on_err, written_last}
use Rattle.iommufd_cli.specs.Output.{IsFront, Writes}
use Rattle.iommufd_cli.specs.Steps.{text_of}
use Rattle.iommufd_cli.proofs.run.run_steps.Goals as goal
use Rattle.iommufd_cli.proofs.run.run_steps.Goals.{then-bytes-room, else-bytes-room+in_ok-hand_on}

pub loop-step-init : goal.loop-step-init
loop-step-init g c = ([], [], refl, appends_none _, (c.new-page.ensures, refl))

pub loop-step-preserved-after-bytes-room : goal.loop-step-preserved-after-bytes-room
loop-step-preserved-after-bytes-room g c =
    let line = text_of c.answer_step-long.result c.answer_step-long.new.out in
    let more = kept_more _ _ _ _ _ _ _ _ _ (g.W.Write.contents c.if-bytes-room.writer) _ line c.loop-step.invariant
    c.in-Some.ensures c.answer_step-long.ensures in
    elim c.if-bytes-room.branch [
      | then-bytes-room w ↦ more [] c.if-bytes-room.page
          (subst (λ x. Appends (g.W.Write.contents c.loop-step.writer) (g.W.Write.contents x) []) (sym w.writer-is)
          (appends_none _))
          (w.page-is ∙ w.push_slice.ensures ∙ ap (λ (l : List ℕ). c.loop-step.page ++ l) c.answered-bytes.ensures)
      | else-bytes-room+in_ok-hand_on w ↦
          let (handed, is, written) = w.in_ok-hand_on.ensures.ok in
          more handed c.if-bytes-room.page
          (subst (λ x. Appends (g.W.Write.contents c.loop-step.writer) (g.W.Write.contents x) handed) (sym w.writer-is)
          written)
          (ap (λ (l : List ℕ). handed ++ l) w.page-is ∙ is
          ∙ ap (λ (l : List ℕ). c.loop-step.page ++ l) c.answered-bytes.ensures)
    ]

pub loop-step-preserved : goal.loop-step-preserved
loop-step-preserved g c =
    let line = text_of c.answer_step-long.result c.answer_step-long.new.out in
    let more = kept_more _ _ _ _ _ _ _ _ _ (g.W.Write.contents c.if-bytes-room.writer) _ line c.loop-step.invariant
    c.in-Some.ensures c.answer_step-long.ensures in
    elim c.if-bytes-room.branch [
      | then-bytes-room w ↦ more [] c.if-bytes-room.page
          (subst (λ x. Appends (g.W.Write.contents c.loop-step.writer) (g.W.Write.contents x) []) (sym w.writer-is)
          (appends_none _))
          (w.page-is ∙ w.push_slice.ensures ∙ ap (λ (l : List ℕ). c.loop-step.page ++ l) c.answered-bytes.ensures)
      | else-bytes-room+in_ok-hand_on w ↦
          let (handed, is, written) = w.in_ok-hand_on.ensures.ok in
          more handed c.if-bytes-room.page
          (subst (λ x. Appends (g.W.Write.contents c.loop-step.writer) (g.W.Write.contents x) handed) (sym w.writer-is)
          written)
          (ap (λ (l : List ℕ). handed ++ l) w.page-is ∙ is
          ∙ ap (λ (l : List ℕ). c.loop-step.page ++ l) c.answered-bytes.ensures)
    ]

pub returns-in_err-hand_on-clause-begun : goal.returns-in_err-hand_on-clause-begun
returns-in_err-hand_on-clause-begun g c =
    let line = text_of c.answer_step-long.result c.answer_step-long.new.out in
    let begun = subst (λ (text : List ℕ). Writes (λ out. IsFront out (c.loop-step.page ++ text))
    (g.W.Write.contents c.loop-step.writer) (g.W.Write.contents c.hand_on.new.writer)) c.answered-bytes.ensures
    c.in_err-hand_on.ensures.err in
    on_err c.from_residual.result
    (begun_more _ _ _ _ _ _ _ _ _ _ _ line c.loop-step.invariant c.in-Some.ensures c.answer_step-long.ensures begun)

pub returns-clause-begun : goal.returns-clause-begun
returns-clause-begun g c = on_err_weaker c.put.result
    (λ h. begun_last _ _ _ _ _ _ _ _ c.loop-step.invariant
    (subst (λ (text : List ℕ). Writes (λ out. IsFront out text) (g.W.Write.contents c.loop-step.writer)
    (g.W.Write.contents c.put.new.writer)) c.as_slice.ensures h)) c.put.ensures.err

pub returns-clause-text : goal.returns-clause-text
returns-clause-text g c = on_ok_weaker c.put.result
    (λ h. written_last _ _ _ _ _ _ _ _ c.loop-step.invariant c.in_default.ensures.0
    (subst (λ (text : List ℕ). Appends (g.W.Write.contents c.loop-step.writer) (g.W.Write.contents c.put.new.writer)
    text) c.as_slice.ensures h)) c.put.ensures.ok
