use Rattle.std.proofs.Common.{◌≡◌, true, take}
use Rattle.memory_objects.specs.Objects.{all_pass, is_of, standing}
use Rattle.memory_objects.proofs.questions.are_of.Given as goal

-- the objects of the numbers so far pass
abbrev pub invariant-loop-number : goal.invariant-loop-number
invariant-loop-number g l = all_pass (is_of l.user.0) (standing l.entries) (take l.number-index l.numbers) ≡ true
