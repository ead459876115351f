-- The lines of a script's text, and what each is.
use Rattle.std.specs.Prelude.{ℕ, ◌==◌, Bool, true, if◌then◌else◌, List, [], ◌∷◌, Option, Some, None}
use Rattle.std.specs.Prelude.{option_map, not}
use Rattle.std.specs.Char.{is_ascii}
use Rattle.std.specs.List.{list_all, onto_first}
use Rattle.iommufd_script.specs.Fields.{fields}
use Rattle.iommufd_script.specs.Grammar.{head_keyword, head_of, step_keyword, step_at}
use Rattle.iommufd_script.specs.declared.keyword.HeadKeyword.{HeadKeyword}
use Rattle.iommufd_script.specs.declared.keyword.StepKeyword.{StepKeyword}
use Rattle.iommufd_script.specs.declared.line.Line.{Line}
use Rattle.iommufd_script.specs.declared.line.Line.TheVariants as line

-- each line ends with a line feed, which the last one may lack
abbrev pub lines : List ℕ → List (List ℕ)
lines [] = []
lines (c ∷ text) = if c == 10 then [] ∷ lines text else onto_first c (lines text)

abbrev pub is_skipped : List ℕ → Bool
is_skipped [] = true
is_skipped (c ∷ rest) = c == 35

abbrev pub step_line : Option StepKeyword → List (List ℕ) → Option Line
step_line None texts = None
step_line (Some keyword) texts = option_map (λ step. line.Step step) (step_at keyword texts)

-- a line that begins with this word: of the head, or else a step
abbrev pub head_or_step : List ℕ → Option HeadKeyword → List (List ℕ) → Option Line
head_or_step word None texts = step_line (step_keyword word) texts
head_or_step word (Some keyword) texts = option_map (λ heading. line.Head heading) (head_of keyword texts)

abbrev pub worded : List (List ℕ) → Option Line
worded [] = None
worded (word ∷ texts) = head_or_step word (head_keyword word) texts

-- what a line is, if it's of the grammar
unfoldable pub line_of : List ℕ → Option Line
line_of text =
    if not (list_all is_ascii text) then None
    else if is_skipped text then Some line.Skipped
    else worded (fields text)
