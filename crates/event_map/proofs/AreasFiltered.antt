-- The areas of one address space, taken from all areas, where one more comes.
use Rattle.std.proofs.Common.{◌≡◌, Bool, true, false, cond, ◌&&◌, ltb, List, [], ◌∷◌, refl, arith}
use Rattle.std.proofs.lemmas.Bool.Decides.{nat_tests}
use Rattle.area_map_rows.specs.Areas as own
use Rattle.iofd_rows.proofs.Inserted.{filter-inserted}
use Rattle.iofd_words.specs.Areas.{areas_of, is_of}
use Rattle.iofd_words.specs.Areas as world
use Rattle.iofd_words.specs.declared.numbers.FileNo.{FileNo}
use Rattle.iofd_words.specs.declared.numbers.ObjId.{ObjId}
use Rattle.iofd_words.specs.declared.rows.Area.{Area}

module _ (x : Area) where
  same_space : is_of x.file x.ioas x ≡ true
  same_space = grind (arith, nat_tests)

  -- among those of its address space
  pub with_area_own : (areas : List Area) → areas_of (world.with_area x areas) x.file x.ioas ≡ own.with_area x
      (areas_of areas x.file x.ioas)
  with_area_own [] = rw same_space refl
  with_area_own (a ∷ areas) =
      by_tests (is_of x.file x.ioas a) (ltb x.span.first a.span.first) refl refl (with_area_own areas)
    where
      by_tests : (b l : Bool) → is_of x.file x.ioas a ≡ b → ltb x.span.first a.span.first ≡ l
          → areas_of (world.with_area x areas) x.file x.ioas ≡ own.with_area x (areas_of areas x.file x.ioas)
          → areas_of (cond (b && l) (x ∷ a ∷ areas) (a ∷ world.with_area x areas)) x.file x.ioas ≡ own.with_area x
          (cond b (a ∷ areas_of areas x.file x.ioas) (areas_of areas x.file x.ioas))
      by_tests true true is before rest = rw (same_space, is, before) refl
      by_tests true false is before rest = rw (is, before, rest) refl
      by_tests false l is before rest = rw is rest

  -- another address space has those that it had
  pub with_area_other : (areas : List Area) (f : FileNo) (i : ObjId) → is_of f i x ≡ false
      → areas_of (world.with_area x areas) f i ≡ areas_of areas f i
  with_area_other areas f i = filter-inserted world.lies_before (is_of f i) x areas
