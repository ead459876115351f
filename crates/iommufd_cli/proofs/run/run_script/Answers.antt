use Rattle.std.proofs.Common.{List, ℕ, ap, ◌∙◌, inr, refl, subst}
use Rattle.std.proofs.lemmas.Result.{on_err_weaker}
use Rattle.iommufd_core.specs.Server.{Server}
use Rattle.iommufd_cli.specs.Output.{IsFront}
use Rattle.iommufd_cli.proofs.Written.{begins_run_text, if_ok_weaker, run_text}
use Rattle.iommufd_cli.proofs.run.run_script.Goals as goal

pub returns-in-Ok-clause-begun : goal.returns-in-Ok-clause-begun
returns-in-Ok-clause-begun g c =
    on_err_weaker c.run_whole.result
    (λ h. (
      h.0,
      begins_run_text c.args.config.now c.args.steps.now c.args.journal c.insert.result.now c.run_whole.new.core
          c.args.server.now h.0
          (ap (λ (s : Server g.row.A.Denot). s.history) c.insert.ensures.value ∙ c.in-Ok.ensures) h.1,
      h.2,
    ))
    c.run_whole.ensures.begun

pub returns-in-Ok-clause-text : goal.returns-in-Ok-clause-text
returns-in-Ok-clause-text g c =
    if_ok_weaker c.run_whole.result _ _ (λ status h. (
      h.0,
      run_text c.args.config.now c.args.steps.now c.args.journal c.insert.result.now c.run_whole.new.core
          c.args.server.now h.0
          (ap (λ (s : Server g.row.A.Denot). s.history) c.insert.ensures.value ∙ c.in-Ok.ensures) status h.1,
      h.2,
    ))
    c.run_whole.ensures.text

pub returns-in-Err-clause-begun : goal.returns-in-Err-clause-begun
returns-in-Err-clause-begun g c =
    on_err_weaker c.told.result
    (λ h. (h.0, (inr (subst (λ (text : List ℕ). IsFront h.0 text) c.no_memory_line.ensures h.1), refl), h.2))
    c.told.ensures.begun
