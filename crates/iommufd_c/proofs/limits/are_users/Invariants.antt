use Rattle.std.proofs.Common.{◌≡◌, take}
use Rattle.std.specs.List.{list_all}
use Rattle.iofd_words.specs.Settings.{is_between}
use Rattle.iommufd_c.proofs.limits.are_users.Given as goal

-- of the users so far
abbrev pub invariant-loop-user : goal.invariant-loop-user
invariant-loop-user l = l.all ≡ list_all (is_between 1 l.count) (take l.user-index l.users)
