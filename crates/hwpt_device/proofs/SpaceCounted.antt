-- A page table that comes is counted with its address space.
use Rattle.std.proofs.Common.{◌≡◌, ℕ, ◌+◌, ◌<◌, Bool, true, false, Option, Some, None, List, IfSome, refl, sym, ◌∙◌, ap}
use Rattle.std.proofs.Common.{arith}
use Rattle.std.specs.List.{find}
use Rattle.iofd_words.specs.Objects.{has_ioas, is_hwpt, is_ioas, kind_of}
use Rattle.iofd_words.specs.View.{view}
use Rattle.iofd_words.specs.World.{World}
use Rattle.iofd_words.specs.declared.numbers.FileNo.{FileNo}
use Rattle.iofd_words.specs.declared.numbers.ObjId.{ObjId}
use Rattle.iofd_words.specs.declared.rows.Object.{Object}
use Rattle.iofd_words.specs.declared.rows.ObjectKind.{ObjectKind}
use Rattle.iofd_words.specs.declared.rows.ObjectKind.TheVariants as kind
use Rattle.iofd_words.specs.declared.width.Width.{Width}
use Rattle.object_table.specs.Table.{Row, Table, changed_at, is_at, with_users}
use Rattle.object_table.specs.declared.kind.Kind.TheVariants as of_kind
use Rattle.server_state.proofs.Counted.{few_standing, space_row, users_of_row, where_found}
use Rattle.server_state.proofs.DevicesOn.{on_tables}
use Rattle.server_state.specs.Shows.{Shows}
use Rattle.server_state.specs.Step.{IsTidy}
use Rattle.server_state.specs.Held.{own}
use Rattle.server_state.specs.declared.held.Held.{Held}
use Rattle.server_state.specs.declared.state.State.{State}
use Rattle.hwpt_device.specs.Making.{IsRoomy}

-- the address space has one more user
pub record CountsOne {A : Type 0} (old : Table (Held A)) (file : FileNo) (ioas : ObjId) (new : Table (Held A)) : Type 0
  where
    pub of : Row (Held A)
    pub found : find (is_at file ioas) old.rows ≡ Some of
    pub changed : new.rows ≡ changed_at file ioas (with_users (of.users + 1)) old.rows

module _ {A : Type 0} where
  pub counts_one : (at : ℕ) (w : World) (s : State A) (file : FileNo) (ioas : ObjId) (width : Width)
      (base : Table (Held A)) → IsTidy at w → Shows w s → IsRoomy (view w) file ioas width
      → IfSome (own s.objects file of_kind.Ioas ioas) (λ row. row.users < 4294967295
      → base.rows ≡ changed_at file ioas (with_users (row.users + 1)) s.objects.rows)
      → CountsOne s.objects file ioas base
  counts_one at w s file ioas width base tidy shows roomy counts =
      let (row, is_own, there) = space_row s.objects.rows file ioas
      (ap (λ (l : List Object). has_ioas l file ioas) (sym shows.objects.rows) ∙ roomy.space) in
      let many = users_of_row w.objects w.attachments s.objects.rows shows.objects.counted file ioas row there in
      let few = few_standing w.objects file ioas roomy.roomy in
      let none = on_tables w.objects w.attachments file ioas tidy.debts.tables
      (no_table (kind_of w.objects file ioas) roomy.space) in
      record {
        of = row;
        found = there;
        changed = where_found (λ (r : Row (Held A)). r.users < 4294967295
            → base.rows ≡ changed_at file ioas (with_users (r.users + 1)) s.objects.rows)
            (own s.objects file of_kind.Ioas ioas) row is_own counts (omega (arith, many, few, none));
      }
    where
      no_table : (o : Option ObjectKind) → elim o as (λ _. Bool) [ Some k ↦ is_ioas k | None ↦ false ] ≡ true
          → elim o as (λ _. Bool) [ Some k ↦ is_hwpt k | None ↦ false ] ≡ false
      no_table None is = refl
      no_table (Some kind.Ioas) is = refl
      no_table (Some (kind.Hwpt over of automatic)) is = cc
      no_table (Some (kind.Device device)) is = refl
      no_table (Some (kind.Access attached)) is = refl
