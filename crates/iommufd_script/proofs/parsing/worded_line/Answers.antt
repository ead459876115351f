use Rattle.std.proofs.Common.{◌≡◌, ℕ, List, ◌∷◌, Option, Some, sym, ap, ◌∙◌}
use Rattle.iommufd_script.proofs.Words.{step_is_worded}
use Rattle.iommufd_script.specs.Fields.{fields}
use Rattle.iommufd_script.specs.Grammar.{head_keyword, step_keyword}
use Rattle.iommufd_script.specs.Lines.{head_or_step, step_line, worded}
use Rattle.iommufd_script.specs.declared.keyword.StepKeyword.{StepKeyword}
use Rattle.iommufd_script.specs.declared.line.Line.{Line}
use Rattle.iommufd_script.proofs.parsing.worded_line.Goals as goal

-- a line of a step, and one of the head, by its first word and the fields behind it
a_step : (text word : List ℕ) (given texts : List (List ℕ)) (k : StepKeyword) (r : Option Line) → given ≡ fields text
    → given ≡ word ∷ texts → step_keyword word ≡ Some k → r ≡ step_line (Some k) texts → r ≡ worded (fields text)
a_step text word given texts k r of parts is made =
    made ∙ (sym (step_is_worded word texts k is) ∙ ap worded (sym parts ∙ of))

a_heading : (text word : List ℕ) (given texts : List (List ℕ)) (r : Option Line) → given ≡ fields text
    → given ≡ word ∷ texts → r ≡ head_or_step word (head_keyword word) texts → r ≡ worded (fields text)
a_heading text word given texts r of parts made = made ∙ ap worded (sym parts ∙ of)

pub heading_line-requires : goal.heading_line-requires
heading_line-requires c = sym c.step_keyword.ensures ∙ c.in-None.is

pub returns-in-Some : goal.returns-in-Some
returns-in-Some c =
    a_step c.args.text.now c.in_ok-word.word.now c.of.result c.in_ok-word.fields c.in-Some.keyword c.step_line.result
    c.of.ensures c.in_ok-word.ensures (sym c.step_keyword.ensures ∙ c.in-Some.is) c.step_line.ensures

pub returns-in-None : goal.returns-in-None
returns-in-None c =
    a_heading c.args.text.now c.in_ok-word.word.now c.of.result c.in_ok-word.fields c.heading_line.result c.of.ensures
    c.in_ok-word.ensures c.heading_line.ensures
