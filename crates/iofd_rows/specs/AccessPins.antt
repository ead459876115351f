-- Who holds an access pin is attached, and areas of its address space lie under the whole of it: so none of them may
-- go, and none may come there. Access objects are attached to address spaces of their own file alone.
use Rattle.std.specs.Prelude.{◌≡◌, ℕ, Bool, true, ◌&&◌, Some, None, List, [], ◌∷◌}
use Rattle.std.specs.List.{list_all, list_any}
use Rattle.iofd_words.specs.Areas.{is_of}
use Rattle.iofd_words.specs.Objects.{access_ioas, has_ioas, kind_of}
use Rattle.iofd_words.specs.Span.{holds}
use Rattle.iofd_words.specs.declared.numbers.FileNo.{FileNo}
use Rattle.iofd_words.specs.declared.numbers.ObjId.{ObjId}
use Rattle.iofd_words.specs.declared.rows.AccessPin.{AccessPin}
use Rattle.iofd_words.specs.declared.rows.Area.{Area}
use Rattle.iofd_words.specs.declared.rows.Object.{Object}
use Rattle.iofd_words.specs.declared.rows.ObjectKind.TheVariants as kind

-- some area of the address space, of any phase, holds the address
abbrev pub is_under : List Area → FileNo → ObjId → ℕ → Bool
is_under areas file ioas n = list_any (λ area. is_of file ioas area && holds area.span n) areas

pub record IsHeld (objects : List Object) (areas : List Area) (pin : AccessPin) : Type 0 where
  -- the address space to which the access object is attached
  pub ioas : ObjId
  pub attached : kind_of objects pin.file pin.access ≡ Some (kind.Access (Some ioas))
  pub space : kind_of objects pin.file ioas ≡ Some kind.Ioas
  pub under : (n : ℕ) → holds pin.span n ≡ true → is_under areas pin.file ioas n ≡ true

abbrev pub AreHeld : List Object → List Area → List AccessPin → Type 0
AreHeld objects areas [] = Unit {0}
AreHeld objects areas (pin ∷ pins) = IsHeld objects areas pin × AreHeld objects areas pins

-- the object's address space is there, if it is an access object that is attached
abbrev pub is_in_space : List Object → Object → Bool
is_in_space objects object =
    elim (access_ioas object.kind) [ Some ioas ↦ has_ioas objects object.file ioas | None ↦ true ]

abbrev pub are_in_spaces : List Object → Bool
are_in_spaces objects = list_all (is_in_space objects) objects
