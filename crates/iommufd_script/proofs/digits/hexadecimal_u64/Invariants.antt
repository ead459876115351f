use Rattle.std.proofs.Common.{◌≡◌, ◌<◌, ◌^◌, true, take}
use Rattle.std.specs.Str.Parse.{digits_value}
use Rattle.iommufd_script.specs.Digits.{are_digits}
use Rattle.iommufd_script.proofs.digits.hexadecimal_u64.Given as goal

abbrev pub invariant-loop-c : goal.invariant-loop-c
invariant-loop-c l = record {
  digits : are_digits 16 (take l.c-index l.text) ≡ true;
  value : l.number ≡ digits_value 16 (take l.c-index l.text);
  small : l.number < 16 ^ l.c-index;
}
