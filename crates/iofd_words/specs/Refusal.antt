-- The table of refusals: number, errno, cause. Errno numbers are Linux's (`errno-base.h`, `errno.h`).
use Rattle.std.specs.Prelude.{ℕ}
use Rattle.iofd_words.specs.declared.refusal.Errno.{Errno}
use Rattle.iofd_words.specs.declared.refusal.Errno.TheVariants.{EPERM, ENOENT, E2BIG, EAGAIN, ENOMEM, EFAULT, EBUSY}
use Rattle.iofd_words.specs.declared.refusal.Errno.TheVariants.{EEXIST, EINVAL, ENOTTY, ENOSPC, EDEADLOCK, EOVERFLOW}
use Rattle.iofd_words.specs.declared.refusal.Errno.TheVariants.{EMSGSIZE, EOPNOTSUPP, EADDRINUSE}
use Rattle.iofd_words.specs.declared.refusal.Cause.{Cause}
use Rattle.iofd_words.specs.declared.refusal.Cause.TheVariants as cause

-- a row of the table: the refusal's number and its errno
pub record Row : Type 0 where
  pub number : ℕ
  pub errno : Errno

abbrev row : ℕ → Errno → Row
row number errno = record { number = number; errno = errno }

abbrev pub row_of : Cause → Row
row_of cause.Number = row 1 ENOTTY
row_of cause.Short = row 2 EINVAL
row_of cause.Tail = row 3 E2BIG
row_of cause.Unsupported = row 4 EOPNOTSUPP
row_of cause.Array = row 5 EINVAL
row_of cause.Frames = row 6 ENOMEM
row_of cause.Account = row 7 ENOMEM
row_of cause.Absent = row 8 EFAULT
row_of cause.Overlap = row 9 EEXIST
row_of cause.Span = row 10 ENOENT
row_of cause.Id = row 11 ENOENT
row_of cause.InUse = row 12 EBUSY
row_of cause.Bound = row 13 EBUSY
row_of cause.Width = row 14 EINVAL
row_of cause.Narrow = row 15 EADDRINUSE
row_of cause.Rights = row 16 EPERM
row_of cause.Leaving = row 17 EINVAL
row_of cause.NotHeld = row 18 EINVAL
row_of cause.Sum = row 19 EOVERFLOW
row_of cause.Align = row 20 EINVAL
row_of cause.NoRight = row 21 EINVAL
row_of cause.Reserved = row 22 EINVAL
row_of cause.Full = row 23 ENOSPC
row_of cause.List = row 24 EINVAL
row_of cause.Places = row 25 EMSGSIZE
row_of cause.Cross = row 26 EINVAL
row_of cause.InterruptRange = row 27 EINVAL
row_of cause.Unattached = row 28 ENOENT
row_of cause.Pending = row 29 EBUSY
row_of cause.Tracking = row 30 EINVAL

abbrev pub number_of : Cause → ℕ
number_of cause = (row_of cause).number

abbrev pub errno_of : Cause → Errno
errno_of cause = (row_of cause).errno

abbrev pub errno_number : Errno → ℕ
errno_number EPERM = 1
errno_number ENOENT = 2
errno_number E2BIG = 7
errno_number EAGAIN = 11
errno_number ENOMEM = 12
errno_number EFAULT = 14
errno_number EBUSY = 16
errno_number EEXIST = 17
errno_number EINVAL = 22
errno_number ENOTTY = 25
errno_number ENOSPC = 28
errno_number EDEADLOCK = 35
errno_number EOVERFLOW = 75
errno_number EMSGSIZE = 90
errno_number EOPNOTSUPP = 95
errno_number EADDRINUSE = 98
