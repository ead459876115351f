use Rattle.std.proofs.Common.{◌≡◌, map, take}
use Rattle.iommufd_c.specs.Configured.{user_of}
use Rattle.iommufd_c.proofs.configuring.files_of.Given as goal

-- the user of each file so far
abbrev pub invariant-loop-user : goal.invariant-loop-user
invariant-loop-user l = l.files.items ≡ map user_of (take l.user-index l.users)
