-- How many use an object: page tables use the address space over which they stand, access objects the one to which they
-- are attached, and devices the page table by which they translate. No other object has users.
use Rattle.std.specs.Prelude.{◌≡◌, ℕ, ◌+◌, false, ◌==◌, ◌&&◌, Some, None, List, find}
use Rattle.std.specs.List.{count_by}
use Rattle.iofd_words.specs.Objects.{has_ioas, is_access_to, is_hwpt_over}
use Rattle.iofd_words.specs.declared.numbers.FileNo.{FileNo}
use Rattle.iofd_words.specs.declared.numbers.ObjId.{ObjId}
use Rattle.iofd_words.specs.declared.rows.Attachment.{Attachment}
use Rattle.iofd_words.specs.declared.rows.Object.{Object}
use Rattle.object_table.specs.Table.{Row, is_at}

-- how many page tables stand over the file's address space of this id
abbrev pub tables_over : List Object → FileNo → ObjId → ℕ
tables_over objects file id =
    count_by (λ object. object.file.0 == file.0 && is_hwpt_over id object.kind) objects

-- how many access objects are attached to it
abbrev pub accesses_to : List Object → FileNo → ObjId → ℕ
accesses_to objects file id =
    count_by (λ object. object.file.0 == file.0 && is_access_to id object.kind) objects

-- access objects are attached to address spaces alone
abbrev pub AccessSpaces : List Object → Type 0
AccessSpaces objects =
    (file : FileNo) (id : ObjId) → has_ioas objects file id ≡ false → accesses_to objects file id ≡ 0

-- how many devices translate by the file's page table of this id
abbrev pub devices_on : List Attachment → FileNo → ObjId → ℕ
devices_on attachments file hwpt = count_by (λ a. a.file.0 == file.0 && a.hwpt.0 == hwpt.0) attachments

module _ {V : Type 0} where
  -- how many users are counted with the file's object of this id; where there is none, none
  abbrev pub users_at : List (Row V) → FileNo → ObjId → ℕ
  users_at rows file id = elim (find (is_at file id) rows) [ Some row ↦ row.users | None ↦ 0 ]

  -- with each object as many are counted as page tables stand over it, access objects are attached to it and devices
  -- translate by it
  abbrev pub AreCounted : List Object → List Attachment → List (Row V) → Type 0
  AreCounted objects attachments rows =
      (file : FileNo) (id : ObjId)
      → users_at rows file id
      ≡ tables_over objects file id + accesses_to objects file id + devices_on attachments file id
