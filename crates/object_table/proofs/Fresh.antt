-- A table whose files are all open and empty.
use Rattle.std.proofs.Common.{◌≡◌, ℕ, zero, suc, ◌+◌, [], ◌∷◌, true, None, map, replicate, refl, ap, arith}
use Rattle.slab.specs.Slab.{Slab}
use Rattle.object_table.specs.declared.file_objects.FileObjects.{FileObjects}
use Rattle.object_table.specs.Table.{fresh_table}
use Rattle.object_table.specs.Layout.{AllInLimits, next_id, rows_from, table_of}
use Rattle.object_table.proofs.Tables.{no_value, same_table}

abbrev pub fresh_slab : {T : Type 0} → Slab T
fresh_slab = record { slots = []; vacant_key = 0; capacity = 0 }

pub is_fresh_slab : {T : Type 0} (s : Slab T) → s.slots ≡ [] → s.vacant_key ≡ 0 → s.capacity ≡ 0 → s ≡ fresh_slab
is_fresh_slab s slots key capacity = λ i. record { slots = slots i; vacant_key = key i; capacity = capacity i }

abbrev pub fresh_file : {V A : Type 0} → FileObjects V A
fresh_file = record { is_open = true; objects = fresh_slab }

module _ (V A : Type 0) where
  marks : (n : ℕ) → map (λ (f : FileObjects V A). f.is_open) (replicate n fresh_file) ≡ replicate n true
  marks zero = refl
  marks (suc n) = ap (λ xs. true ∷ xs) (marks n)

  rooms : (n : ℕ) → map next_id (replicate n (fresh_file {V = V} {A = A})) ≡ replicate n None
  rooms zero = refl
  rooms (suc n) = ap (λ xs. None ∷ xs) (rooms n)

  no_rows : (first n : ℕ) → rows_from first (replicate n (fresh_file {V = V} {A = A})) ≡ []
  no_rows first zero = refl
  no_rows first (suc n) = no_rows (first + 1) n

  pub table_of-fresh : (n : ℕ) → table_of (replicate n (fresh_file {V = V} {A = A})) ≡ fresh_table n
  table_of-fresh n = same_table _ _ (marks n) (rooms n) (no_rows 1 n)

  -- a file without an object is in its limits
  pub AllInLimits-fresh : (n : ℕ) → AllInLimits (replicate n (fresh_file {V = V} {A = A}))
  AllInLimits-fresh zero = tt
  AllInLimits-fresh (suc n) =
      (record { count = omega arith; keys = λ key there. absurd (no_value there) }, AllInLimits-fresh n)
