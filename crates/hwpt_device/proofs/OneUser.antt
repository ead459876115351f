-- Whether a page table has one user, by their number.
use Rattle.std.proofs.Common.{◌≡◌, ℕ, Bool, false, eqb, Option, Some, None, sym, ap}
use Rattle.std.specs.Option.{option_map}
use Rattle.iofd_words.specs.declared.numbers.FileNo.{FileNo}
use Rattle.iofd_words.specs.declared.numbers.ObjId.{ObjId}
use Rattle.server_state.specs.Held.{own}
use Rattle.server_state.specs.declared.held.Held.{Held}
use Rattle.object_table.specs.Table.{Row, Table}
use Rattle.object_table.specs.declared.kind.Kind.TheVariants as of_kind
use Rattle.hwpt_device.specs.Attaching.{has_one_user}

module _ {A : Type 0} (table : Table (Held A)) (file : FileNo) (hwpt : ObjId) where
  -- one user is counted with the row
  abbrev is_once : Option (Row (Held A)) → Bool
  is_once o = elim o [ Some row ↦ eqb row.users 1 | None ↦ false ]

  pub users_there : (n : ℕ) → option_map (λ (row : Row (Held A)). row.users) (own table file of_kind.Hwpt hwpt) ≡ Some n
      → eqb n 1 ≡ has_one_user table file hwpt
  users_there n is = by_row (own table file of_kind.Hwpt hwpt) is
    where
      by_row : (o : Option (Row (Held A))) → option_map (λ (row : Row (Held A)). row.users) o ≡ Some n
          → eqb n 1 ≡ is_once o
      by_row None is = cc
      by_row (Some row) is = let same : row.users ≡ n = cc in ap (λ (m : ℕ). eqb m 1) (sym same)

  pub none_there : own table file of_kind.Hwpt hwpt ≡ None → false ≡ has_one_user table file hwpt
  none_there none = ap is_once (sym none)
