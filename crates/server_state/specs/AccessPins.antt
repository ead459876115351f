-- The pins of access objects that are kept: those of the world, each in the address space to which its access object is
-- attached.
use Rattle.std.specs.Prelude.{◌≡◌, Bool, true, false, ◌==◌, Some, None, List}
use Rattle.std.specs.List.{count_by, list_all}
use Rattle.held_pins.specs.declared.pin.HeldPin.{HeldPin}
use Rattle.iofd_words.specs.Objects.{access_ioas_of}
use Rattle.iofd_words.specs.declared.rows.AccessPin.{AccessPin}
use Rattle.iofd_words.specs.declared.rows.Object.{Object}

-- the pin's row in the world
abbrev pub row_of : HeldPin → AccessPin
row_of pin = record { file = pin.file; access = pin.access; span = pin.span; write = pin.write }

-- its access object is attached to its address space
abbrev pub is_in_space : List Object → HeldPin → Bool
is_in_space objects pin =
    elim (access_ioas_of objects pin.file pin.access) [ Some ioas ↦ ioas.0 == pin.ioas.0 | None ↦ false ]

pub record AccessPinsShown (objects : List Object) (access_pins : List AccessPin) (kept : List HeldPin) : Type 0 where
  -- the same rows, in whatever order
  pub counts : (test : AccessPin → Bool) → count_by test access_pins ≡ count_by (λ pin. test (row_of pin)) kept
  pub spaces : list_all (is_in_space objects) kept ≡ true
