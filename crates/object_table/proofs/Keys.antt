-- Every file is in its limits, after a change of one file too, and so is what an iterator has left.
use Rattle.std.proofs.Common.{◌≡◌, ℕ, zero, suc, ◌+◌, ◌<◌, Bool, true, false, cond, List, [], ◌∷◌, length, Option, Some}
use Rattle.std.proofs.Common.{None, IsSome, map, get_or, set, refl, arith}
use Rattle.std.specs.List.{AllByRecursion}
use Rattle.slab.specs.Slab.{entries, entries_from}
use Rattle.iofd_words.specs.declared.numbers.FileNo.{FileNo}
use Rattle.object_table.specs.declared.file_objects.Entry.{Entry}
use Rattle.object_table.specs.declared.file_objects.FileObjects.{FileObjects}
use Rattle.object_table.specs.Layout.{key_end, IsInLimits, HaveIds, AllInLimits, keyed_row, file_rows, rows_left}

module _ {V A : Type 0} where
  pub AllInLimits-set : (files : List (FileObjects V A)) (at : ℕ) (new : FileObjects V A) → AllInLimits files
      → IsInLimits new → AllInLimits (set files at new)
  AllInLimits-set [] at new fit fits = tt
  AllInLimits-set (file ∷ files) zero new fit fits = (fits, fit.1)
  AllInLimits-set (file ∷ files) (suc at) new fit fits = (fit.0, AllInLimits-set files at new fit.1 fits)

  pub IsInLimits-at : (files : List (FileObjects V A)) (at : ℕ) (f : FileObjects V A) → at < length files
      → f ≡ get_or files at f → AllInLimits files → IsInLimits f
  IsInLimits-at [] at f within stands fit = absurd (omega arith)
  IsInLimits-at (file ∷ files) zero f within stands fit =
      let here : f ≡ file = stands in
      rw here fit.0
  IsInLimits-at (file ∷ files) (suc at) f within stands fit = IsInLimits-at files at f (omega arith) stands fit.1

entries_fit : {T : Type 0} (end first : ℕ) (slots : List (Option T))
    → ((key : ℕ) → IsSome (get_or slots key None) → first + key < end)
    → AllByRecursion (λ e. e.0 < end) (entries_from first slots)
entries_fit end first [] fits = tt
entries_fit end first (None ∷ rest) fits =
    entries_fit end (first + 1) rest (λ key some. let later = fits (suc key) some in omega arith)
entries_fit end first (Some value ∷ rest) fits =
    let here = fits 0 refl in
    (omega arith, entries_fit end (first + 1) rest (λ key some. let later = fits (suc key) some in omega arith))

module _ {V A : Type 0} where
  -- what an iterator over an open file begins with
  abbrev pub all_left : FileObjects V A → Option (List (ℕ × Entry V))
  all_left f = cond f.is_open (Some (entries f.objects)) None

  pub HaveIds-all : (f : FileObjects V A) → IsInLimits f → HaveIds (all_left f)
  HaveIds-all f fits = by_mark f.is_open
    where
      by_mark : (b : Bool) → HaveIds (cond b (Some (entries f.objects)) None)
      by_mark false = tt
      by_mark true = entries_fit key_end 0 f.objects.slots (λ key some. let fit = fits.keys key some in omega arith)

  pub rows_left-all : (file : FileNo) (f : FileObjects V A) → rows_left file (all_left f) ≡ file_rows file.0 f
  rows_left-all file f = by_mark f.is_open
    where
      by_mark : (b : Bool) → rows_left file (cond b (Some (entries f.objects)) None) ≡ cond b
          (map (keyed_row file.0) (entries f.objects)) []
      by_mark false = refl
      by_mark true = refl
