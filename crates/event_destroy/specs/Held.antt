-- What keeps a file from being closed.
use Rattle.std.specs.Prelude.{Bool, ◌||◌}
use Rattle.iofd_words.specs.Objects.{is_access, is_bound_device}
use Rattle.iofd_words.specs.declared.rows.ObjectKind.{ObjectKind}

-- a device that is bound, or an access object
abbrev pub keeps_open : ObjectKind → Bool
keeps_open kind = is_bound_device kind || is_access kind
