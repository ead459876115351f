use Rattle.std.proofs.Common.{◌≡◌, ◌≤◌, ◌*◌, ◌^◌, take}
use Rattle.memory_objects.specs.Objects.{new_pages, standing}
use Rattle.memory_objects.proofs.questions.new_pages.Given as goal

-- the sum of the numbers so far
abbrev pub invariant-loop-i : goal.invariant-loop-i
invariant-loop-i g l = record {
  sum : l.sum ≡ new_pages (standing l.entries) (take l.i l.numbers);
  few : l.sum ≤ 2 ^ 36 * l.i;
}
