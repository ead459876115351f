use Rattle.std.proofs.Common.{◌≡◌, ℕ, ◌-◌, ◌<◌, ◌≤◌, ◌^◌, true, get_or, length, take}
use Rattle.std.specs.Str.Parse.{digits_value}
use Rattle.iommufd_script.specs.Digits.{are_digits}
use Rattle.iommufd_script.proofs.digits.hexadecimal_field.Given as goal

abbrev pub invariant-loop-end : goal.invariant-loop-end
invariant-loop-end l = record {
  within : l.end ≤ length l.line;
  before : (k : ℕ) → k < l.end → get_or l.line k 0 ≡ 32 → ⊥;
  digits : are_digits 16 (take l.end l.line) ≡ true;
  value : l.number ≡ digits_value 16 (take l.end l.line);
  few : l.end ≤ 16;
  small : l.number < 16 ^ l.end;
}

abbrev pub decreases-loop-end : goal.decreases-loop-end
decreases-loop-end l = length l.line - l.end
