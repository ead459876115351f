use Rattle.std.proofs.Common.{◌≡◌, ℕ, List, Result, Ok, None, sym, ap, ◌∙◌}
use Rattle.iofd_words.specs.Limits.{first_outside}
use Rattle.iofd_words.specs.Settings.{Settings}
use Rattle.iommufd_script.specs.Opening.{script_of, script_or, settings_of}
use Rattle.iommufd_script.specs.Script.{first_bad_line, steps_of}
use Rattle.iommufd_script.specs.declared.line.Step.{Step}
use Rattle.iommufd_script.proofs.Within.{good_settings}
use Rattle.iommufd_script.proofs.opening.read_script.Goals as goal

good_script : (text : List ℕ) (settings : Settings) (steps : List Step) → first_bad_line text ≡ None
    → settings ≡ settings_of text → steps ≡ steps_of text → script_of text ≡ Ok (settings, steps)
unfolding script_of
good_script text settings steps good set taken =
    ap (script_or (settings_of text) (steps_of text)) good
    ∙ ap (λ (s : Settings). let r : Result (Settings × List Step) ℕ = Ok (s, steps_of text) in r) (sym set)
    ∙ ap (λ (more : List Step). let r : Result (Settings × List Step) ℕ = Ok (settings, more) in r) (sym taken)

pub opened-requires : goal.opened-requires
opened-requires g c =
    ap (λ (s : Settings). first_outside s) c.in_ok-head.ensures
    ∙ good_settings c.args.text.now c.in_ok-steps.ensures.good

pub returns : goal.returns
returns g c =
    good_script c.args.text.now c.opened.result c.in_ok-steps.steps c.in_ok-steps.ensures.good
    (c.opened.ensures ∙ c.in_ok-head.ensures) c.in_ok-steps.ensures.ok
