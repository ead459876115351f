-- What users hold and may hold. Users are numbered from 1.
use Rattle.std.specs.Prelude.{ℕ, ◌+◌, ◌-◌, Bool, ◌&&◌, nat_le, List, length, slice_index_or, slice_set}
use Rattle.mem_account.specs.declared.Account.{Account}

-- an account that holds nothing
abbrev pub fresh : ℕ → Account
fresh limit = record { limit = limit; held = 0 }

abbrev pub is_user : List Account → ℕ → Bool
is_user accounts user = nat_le 1 user && nat_le user (length accounts)

abbrev pub account_of : List Account → ℕ → Account
account_of accounts user = slice_index_or accounts (user - 1) (fresh 0)

-- the pages that the user holds, and may hold
abbrev pub held_by : List Account → ℕ → ℕ
held_by accounts user = (account_of accounts user).held

abbrev pub limit_of : List Account → ℕ → ℕ
limit_of accounts user = (account_of accounts user).limit

-- the user may hold so many more
abbrev pub has_room : List Account → ℕ → ℕ → Bool
has_room accounts user pages = nat_le (held_by accounts user + pages) (limit_of accounts user)

-- the user holds so many
abbrev pub with_held : List Account → ℕ → ℕ → List Account
with_held accounts user held = slice_set accounts (user - 1) (record { limit = limit_of accounts user; held = held })

-- the user holds so many more, or fewer; the others hold what they held
abbrev pub charged : List Account → ℕ → ℕ → List Account
charged accounts user pages = with_held accounts user (held_by accounts user + pages)

abbrev pub refunded : List Account → ℕ → ℕ → List Account
refunded accounts user pages = with_held accounts user (held_by accounts user - pages)
