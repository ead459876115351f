use Rattle.std.proofs.Common.{List, ℕ, rules, ◌∙◌, ap, inr, refl, subst}
use Rattle.std.proofs.lemmas.Result.{on_err_weaker}
use Rattle.std.specs.Option.{option_or}
use Rattle.iommufd_cli.specs.Output.{IsFront}
use Rattle.iommufd_cli.proofs.Written.{begins_text, if_ok_weaker, read_text}
use Rattle.iommufd_cli.proofs.run.run_text.Goals as goal

pub returns-in-Ok-clause-begun : goal.returns-in-Ok-clause-begun
returns-in-Ok-clause-begun g c =
    on_err_weaker c.run_script.result
    (λ h. let (text, same) = begins_text _ _ _ _ _ (search rules) h.1.0 in
    (h.0, (text, h.1.1 ∙ ap (λ server. option_or server c.args.server.now) same), h.2))
    c.run_script.ensures.begun

pub returns-in-Ok-clause-text : goal.returns-in-Ok-clause-text
returns-in-Ok-clause-text g c =
    if_ok_weaker c.run_script.result _ _
    (λ status h. let (text, same) = read_text _ _ _ _ _ _ (search rules) h.1.0 in
    (h.0, (text, h.1.1 ∙ ap (λ server. option_or server c.args.server.now) same), h.2))
    c.run_script.ensures.text

pub returns-in-Err-NoMemory-clause-begun : goal.returns-in-Err-NoMemory-clause-begun
returns-in-Err-NoMemory-clause-begun g c =
    on_err_weaker c.told-in-Err-NoMemory.result
    (λ h. (h.0, (inr (inr (subst (λ (text : List ℕ). IsFront h.0 text) c.no_memory_line.ensures h.1)), refl), h.2))
    c.told-in-Err-NoMemory.ensures.begun
