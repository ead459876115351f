-- Numbers and bytes as a script spells them. `digit_value` is std's: 0 to 9 for the digits, 10 and on for the
-- letters of either case, and 36 for any other byte.
use Rattle.std.specs.Prelude.{ℕ, ◌+◌, ◌*◌, ◌^◌, ◌%◌, ◌==◌, ◌&&◌, not, nat_lt, nat_le, Bool}
use Rattle.std.specs.Prelude.{if◌then◌else◌, List, []}
use Rattle.std.specs.Prelude.{◌∷◌, length, codes, Option, Some, None}
use Rattle.std.specs.Char.{digit_value}
use Rattle.std.specs.List.{list_all}
use Rattle.std.specs.Str.{bytes_eq}
use Rattle.std.specs.Str.Parse.{digits_value}
use Rattle.iofd_words.specs.Settings.{is_between}

-- digits of this base and nothing else, leading zeros allowed
abbrev pub are_digits : ℕ → List ℕ → Bool
are_digits base text = list_all (λ c. nat_lt (digit_value c) base) text

-- the number below 2^bits that at least one digit spells
unfoldable pub number_of : ℕ → ℕ → List ℕ → Option ℕ
number_of base bits text =
    if nat_lt 0 (length text) && are_digits base text && nat_lt (digits_value base text) (2 ^ bits)
    then Some (digits_value base text)
    else None

-- a decimal number, of any number of digits
abbrev pub decimal : ℕ → List ℕ → Option ℕ
decimal bits text = number_of 10 bits text

-- a hexadecimal number, of at most 16 digits
abbrev pub hexadecimal : ℕ → List ℕ → Option ℕ
hexadecimal bits text = if nat_le (length text) 16 then number_of 16 bits text else None

-- ---- bytes, each as two digits, the high four bits first

-- a hexadecimal digit in lower case
abbrev pub is_lower_digit : ℕ → Bool
is_lower_digit c = nat_lt (digit_value c) 16 && not (is_between 65 90 c)

abbrev pub pairs : List ℕ → List ℕ
pairs [] = []
pairs (high ∷ []) = []
pairs (high ∷ low ∷ text) = (16 * digit_value high + digit_value low) ∷ pairs text

-- `-` for no bytes, or the digits of at least one
unfoldable pub bytes_of : List ℕ → Option (List ℕ)
bytes_of text =
    if bytes_eq text (codes "-") then Some []
    else if nat_lt 0 (length text) && (length text % 2 == 0) && list_all is_lower_digit text then Some (pairs text)
    else None
