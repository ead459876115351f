-- Over a memory object lie at most 65,535 * 65,535 areas: those of one file, which has so many address spaces at most,
-- each with so many areas.
use Rattle.std.proofs.Common.{◌≡◌, ◌≤◌, ℕ, ◌*◌, Bool, true, false, ◌&&◌, ◌||◌, not, eqb, refl, ap, ◌∙◌, arith}
use Rattle.std.specs.List.{count_by, list_any}
use Rattle.std.proofs.lemmas.Bool.Decides.{nat_tests}
use Rattle.iofd_rows.proofs.Bools.{both_true}
use Rattle.iofd_rows.proofs.Each.{IsIn, in_kept, of_any, of_each}
use Rattle.iofd_rows.proofs.Named.{object_of_kind}
use Rattle.iofd_rows.proofs.Owed.{space_of}
use Rattle.iofd_rows.proofs.OwnMemory.{all_of_file}
use Rattle.iofd_rows.proofs.PageCounts.{count_none}
use Rattle.iofd_rows.proofs.Unusable.{each_not}
use Rattle.iofd_rows.specs.Debts.{DebtsAttached}
use Rattle.iofd_rows.specs.Pinned.{share_in_files}
use Rattle.iofd_runs.proofs.Accessed.{some_in}
use Rattle.iofd_runs.proofs.CoveredFew.{spread_few}
use Rattle.iofd_runs.proofs.KeepsFew.{of_file}
use Rattle.iofd_runs.specs.Few.{RowsFew}
use Rattle.iofd_words.specs.Areas.{is_of}
use Rattle.iofd_words.specs.Objects.{has_ioas, objects_of}
use Rattle.iofd_words.specs.World.{World}
use Rattle.iofd_words.specs.declared.numbers.FileNo.{FileNo}
use Rattle.iofd_words.specs.declared.numbers.ObjId.{ObjId}
use Rattle.iofd_words.specs.declared.rows.Area.{Area}
use Rattle.iofd_words.specs.declared.rows.Object.{Object}

module _ (w : World) (few : RowsFew w) (own : share_in_files w.areas ≡ true) (debts : DebtsAttached w) where
  abbrev is_over : ℕ → Area → Bool
  is_over number area = eqb area.memory number

  itself : (n : ℕ) → eqb n n ≡ true
  itself n = grind (arith, nat_tests)

  -- an area of the file is in some address space of it
  in_some_space : (file : FileNo) (area : Area) → IsIn w.areas area → eqb area.file.0 file.0 ≡ true
      → list_any (λ (o : Object). is_of file o.id area) (objects_of w.objects file) ≡ true
  in_some_space file area among of =
      let has = of_each (λ (a : Area). has_ioas w.objects a.file a.ioas) w.areas area debts.areas among in
      let (x, first, there, of_area, of_id, of_kind) =
      object_of_kind w.objects area.file area.ioas _ (space_of w.objects area.file area.ioas has) in
      of_any (λ (o : Object). is_of file o.id area) (objects_of w.objects file) x
      (in_kept (of_file file) w.objects x there (ap (λ (f : FileNo). eqb f.0 file.0) of_area ∙ of))
      (both_true _ _ of (ap (λ (i : ObjId). eqb area.ioas.0 i.0) of_id ∙ itself area.ioas.0))

  -- where one of the object's areas is of this file
  of_its_file : (number : ℕ) (file : FileNo)
      → list_any (λ (a : Area). eqb a.file.0 file.0 && is_over number a) w.areas ≡ true
      → count_by (is_over number) w.areas ≤ 65535 * 65535
  of_its_file number file has =
      let all = all_of_file w.areas file number own has in
      spread_few w.objects file (is_over number) (is_of file) w.areas (few.objects file) (few.areas file)
      (λ area among over. in_some_space file area among (its_file (is_over number area) over
      (of_each (λ (a : Area). not (is_over number a) || eqb a.file.0 file.0) w.areas area all among)))
    where
      its_file : {of : Bool} (over : Bool) → over ≡ true → (not over || of) ≡ true → of ≡ true
      its_file true is among = among
      its_file false is among = cc

  pub shared_few : (number : ℕ) → count_by (is_over number) w.areas ≤ 65535 * 65535
  shared_few number = by_area (list_any (is_over number) w.areas) refl
    where
      by_area : (b : Bool) → list_any (is_over number) w.areas ≡ b
          → count_by (is_over number) w.areas ≤ 65535 * 65535
      by_area true is =
          let (area, among, over) = some_in (is_over number) w.areas is in
          of_its_file number area.file (of_any (λ (a : Area). eqb a.file.0 area.file.0 && is_over number a) w.areas area
          among (both_true _ _ (itself area.file.0) over))
      by_area false is =
          let none = count_none (is_over number) w.areas (λ area among. each_not (is_over number) w.areas area is among)
          in omega (arith, none)
