use Rattle.std.proofs.Common.{◌≡◌, take}
use Rattle.std.specs.List.{list_all}
use Rattle.iommufd_script.specs.Digits.{is_lower_digit}
use Rattle.iommufd_script.proofs.hex_bytes.are_lower_digits.Given as goal

abbrev pub invariant-loop-c : goal.invariant-loop-c
invariant-loop-c l = l.all ≡ list_all is_lower_digit (take l.c-index l.text)
