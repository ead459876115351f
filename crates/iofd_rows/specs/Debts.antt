-- Who owes an area a flush is attached to that area's address space.
use Rattle.std.specs.Prelude.{◌≡◌, ℕ, Bool, true, false, ◌==◌, ◌&&◌, not, Some, None}
use Rattle.std.specs.Prelude.{List, [], ◌∷◌}
use Rattle.std.specs.List.{list_any, list_all}
use Rattle.iofd_words.specs.Attachments.{attachment_of, ioas_of, ioas_of_attachment, is_attached_to}
use Rattle.iofd_words.specs.Objects.{has_ioas}
use Rattle.iofd_words.specs.World.{World}
use Rattle.iofd_words.specs.declared.numbers.FileNo.{FileNo}
use Rattle.iofd_words.specs.declared.numbers.ObjId.{ObjId}
use Rattle.iofd_words.specs.declared.rows.Attachment.{Attachment}
use Rattle.iofd_words.specs.declared.rows.Object.{Object}
use Rattle.iofd_words.specs.declared.rows.Phase.{Phase}
use Rattle.iofd_words.specs.declared.rows.Phase.TheVariants.{Live, Leaving}

-- ---- one row

-- the devices that still have to flush before the area may go: none where it is live
abbrev pub debtors_of : Phase → List ℕ
debtors_of Live = []
debtors_of (Leaving owed tries) = owed

-- the device of this number is attached, and to this address space
abbrev pub is_attached : List Object → List Attachment → FileNo → ObjId → ℕ → Bool
is_attached objects attachments file ioas device =
    elim (attachment_of attachments (record { 0 = device }))
    [ Some a ↦ is_attached_to objects file ioas a | None ↦ false ]

-- the attachment is by a page table over an address space, both of the attachment's file
abbrev pub is_by_table : List Object → Attachment → Bool
is_by_table objects a =
    elim (ioas_of_attachment objects a) [ Some ioas ↦ has_ioas objects a.file ioas | None ↦ false ]

-- the object is over an address space of its file, if it is a page table
abbrev pub is_over_space : List Object → Object → Bool
is_over_space objects object =
    elim (ioas_of object.kind) [ Some ioas ↦ has_ioas objects object.file ioas | None ↦ true ]

-- ---- all rows

-- no device is that of a later attachment too
abbrev pub attach_once : List Attachment → Bool
attach_once [] = true
attach_once (a ∷ attachments) = not (list_any (λ b. b.device.0 == a.device.0) attachments) && attach_once attachments

pub record DebtsAttached (w : World) : Type 0 where
  -- each device is attached at most once
  pub once : attach_once w.attachments ≡ true
  -- each device that owes an area a flush is attached to that area's address space
  pub debtors : list_all (λ area. list_all (is_attached w.objects w.attachments area.file area.ioas)
      (debtors_of area.phase)) w.areas ≡ true
  -- each attachment is by a page table over an address space of its file
  pub tables : list_all (is_by_table w.objects) w.attachments ≡ true
  -- each page table is over an address space of its file
  pub spaces : list_all (is_over_space w.objects) w.objects ≡ true
  -- each area is of an address space that its file has
  pub areas : list_all (λ area. has_ioas w.objects area.file area.ioas) w.areas ≡ true
