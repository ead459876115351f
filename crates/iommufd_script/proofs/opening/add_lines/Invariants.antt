use Rattle.std.proofs.Common.{◌≡◌, length}
use Rattle.std.specs.List.{fold}
use Rattle.iommufd_script.specs.Lines.{lines}
use Rattle.iommufd_script.specs.Opening.{headings, set_by}
use Rattle.iommufd_script.proofs.opening.add_lines.Given as goal

-- what is added so far, and by the lines to come, is what all lines add
abbrev pub invariant-loop-rest : goal.invariant-loop-rest
invariant-loop-rest g l =
    fold set_by l.head (headings (lines l.rest)) ≡ fold set_by l.initial.head (headings (lines l.initial.rest))

abbrev pub decreases-loop-rest : goal.decreases-loop-rest
decreases-loop-rest g l = length l.rest
