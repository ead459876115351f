use Rattle.std.proofs.Common.{◌≡◌, true, take}
use Rattle.memory_objects.specs.Objects.{all_pass, can_pin, standing}
use Rattle.memory_objects.proofs.questions.can_pin.Given as goal

-- the objects of the numbers so far pass
abbrev pub invariant-loop-number : goal.invariant-loop-number
invariant-loop-number g l = all_pass (can_pin l.users.pages) (standing l.entries) (take l.number-index l.numbers) ≡ true
