-- Ids of objects, and the devices that they bind.
use Rattle.std.specs.Prelude.{◌≤◌, Bool, true, ◌&&◌, not, List, [], ◌∷◌}
use Rattle.std.specs.List.{count_by, list_any}
use Rattle.iofd_words.specs.Objects.{is_bound_as, is_object}
use Rattle.iofd_words.specs.declared.numbers.DeviceNo.{DeviceNo}
use Rattle.iofd_words.specs.declared.rows.Object.{Object}

-- no id is that of a later object of the same file too
abbrev pub have_own_ids : List Object → Bool
have_own_ids [] = true
have_own_ids (object ∷ objects) = not (list_any (is_object object.file object.id) objects) && have_own_ids objects

-- each device is bound by at most one object
abbrev pub AreBoundOnce : List Object → Type 0
AreBoundOnce objects = (device : DeviceNo) → count_by (λ object. is_bound_as device object.kind) objects ≤ 1
