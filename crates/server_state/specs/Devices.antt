-- The objects by which devices are bound, as they are kept: by rising device.
use Rattle.std.specs.Prelude.{ℕ, Bool, true, ◌&&◌, nat_lt, nat_le, List, [], ◌∷◌}
use Rattle.std.specs.List.{list_all}
use Rattle.iofd_words.specs.Objects.{is_bound_device}
use Rattle.iofd_words.specs.Sorted.{inserted}
use Rattle.iofd_words.specs.declared.rows.Object.{Object}
use Rattle.iofd_words.specs.declared.rows.ObjectKind.{ObjectKind}
use Rattle.iofd_words.specs.declared.rows.ObjectKind.TheVariants as kind

-- the number of the device that is bound by it; 0 where none is
abbrev pub bound_number : ObjectKind → ℕ
bound_number kind.Ioas = 0
bound_number (kind.Hwpt ioas width automatic) = 0
bound_number (kind.Device device) = device.0
bound_number (kind.Access attached) = 0

-- a device is bound by each, and none has a higher number than those behind it
abbrev pub are_bindings : List Object → Bool
are_bindings [] = true
are_bindings (b ∷ bindings) =
    is_bound_device b.kind
    && (list_all (λ c. nat_le (bound_number b.kind) (bound_number c.kind)) bindings && are_bindings bindings)

-- the first binds a lower device
abbrev pub binds_lower : Object → Object → Bool
binds_lower b c = nat_lt (bound_number b.kind) (bound_number c.kind)

-- one more, by rising device
abbrev pub with_binding : Object → List Object → List Object
with_binding = inserted binds_lower
