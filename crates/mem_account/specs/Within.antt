-- No user holds more than the limit allows.
use Rattle.std.specs.Prelude.{◌≤◌, All, List}
use Rattle.mem_account.specs.declared.Account.{Account}

abbrev pub AreWithin : List Account → Type 0
AreWithin accounts = All (λ account. account.held ≤ account.limit) accounts
