-- The pages that a new page table pins.
use Rattle.std.proofs.Common.{◌≡◌, ℕ, ◌+◌, Bool, true, false, ◌&&◌, ◌||◌, eqb, List, refl, sym, ◌∙◌, arith}
use Rattle.std.proofs.lemmas.Bool.Decides.{nat_tests}
use Rattle.iofd_words.specs.Areas.{areas_of}
use Rattle.iofd_words.specs.Objects.{has_hwpt, with_object}
use Rattle.user_memory_rows.proofs.Gone.{table_lost}
use Rattle.user_memory_rows.specs.Shown.{over, translated}
use Rattle.iofd_words.specs.declared.numbers.FileNo.{FileNo}
use Rattle.iofd_words.specs.declared.numbers.ObjId.{ObjId}
use Rattle.iofd_words.specs.declared.rows.Area.{Area}
use Rattle.iofd_words.specs.declared.rows.Object.{Object}
use Rattle.iofd_words.specs.declared.width.Width.{Width}
use Rattle.hwpt_device.specs.Making.{made_object}
use Rattle.iofd_rows.proofs.Bools.{and_true, both_true}
use Rattle.iofd_rows.proofs.PageTables.{hwpt-with_object, hwpt_alike}

-- ---- the pages that a new page table pins

module _ (objects : List Object) (areas : List Area) (file : FileNo) (ioas id : ObjId) (width : Width)
    (automatic : Bool) where
  abbrev left : List Object
  left = with_object (made_object file ioas id width automatic) objects

  -- a second page table pins nothing anew
  pub same_tables : has_hwpt objects file ioas ≡ true → (f : FileNo) (i : ObjId)
      → has_hwpt left f i ≡ has_hwpt objects f i
  same_tables had f i = hwpt-with_object (made_object file ioas id width automatic) objects f i
      ∙ by_test (eqb file.0 f.0 && eqb ioas.0 i.0) refl
    where
      by_test : (b : Bool) → (eqb file.0 f.0 && eqb ioas.0 i.0) ≡ b → (b || has_hwpt objects f i) ≡ has_hwpt objects f i
      by_test true is = let parts =
          and_true (eqb file.0 f.0) (eqb ioas.0 i.0) is in sym (hwpt_alike objects file f ioas i parts.0 parts.1 ∙ had)
      by_test false is = refl

  -- the first page table translates the areas of its address space, and no others anew
  pub table_gained : has_hwpt objects file ioas ≡ false → (n : ℕ)
      → translated left areas n ≡ translated objects areas n + over (areas_of areas file ioas) n
  table_gained none n =
      let lost = table_lost left objects areas file ioas here none elsewhere n in
      sym lost
    where
      here : has_hwpt left file ioas ≡ true
      here = hwpt-with_object (made_object file ioas id width automatic) objects file ioas
          ∙ first (eqb file.0 file.0 && eqb ioas.0 ioas.0) (has_hwpt objects file ioas)
          (both_true _ _ (own file.0) (own ioas.0))
        where
          own : (m : ℕ) → eqb m m ≡ true
          own m = grind (arith, nat_tests)

          first : (b c : Bool) → b ≡ true → (b || c) ≡ true
          first true c is = refl
          first false c is = cc

      elsewhere : (f : FileNo) (i : ObjId) → (eqb f.0 file.0 && eqb i.0 ioas.0) ≡ false
          → has_hwpt objects f i ≡ has_hwpt left f i
      elsewhere f i other = sym (hwpt-with_object (made_object file ioas id width automatic) objects f i
          ∙ by_names f.0 file.0 i.0 ioas.0 (has_hwpt objects f i) other)
        where
          by_names : (f g i j : ℕ) (had : Bool) → (eqb f g && eqb i j) ≡ false → ((eqb g f && eqb j i) || had) ≡ had
          by_names f g i j had is = grind (arith, nat_tests)
