-- Pages of 4096 bytes (VT-d, "Second-Stage Translation").
use Rattle.std.specs.Prelude.{ℕ, ◌+◌, ◌/◌, ◌%◌, ◌^◌, Bool, ◌==◌, ◌||◌, nat_lt}

-- a multiple of a page
abbrev pub is_whole : ℕ → Bool
is_whole n = n % 4096 == 0

-- the page of an address, and the offset in it
abbrev pub page_of : ℕ → ℕ
page_of address = address / 4096

abbrev pub offset_of : ℕ → ℕ
offset_of address = address % 4096

-- start plus length is above 2^64, or above 2^48, where user addresses end; a sum of just that is good
abbrev pub is_above_sum : ℕ → ℕ → Bool
is_above_sum start length = nat_lt (2 ^ 64) (start + length)

abbrev pub is_above_user : ℕ → ℕ → Bool
is_above_user start length = nat_lt (2 ^ 48) (start + length)

-- an access of no bytes or more than 64, or one that leaves its page
abbrev pub crosses : ℕ → ℕ → Bool
crosses address length = length == 0 || nat_lt 64 length || nat_lt 4096 (offset_of address + length)
