-- At most 65,535 objects a file and areas an address space, and ids within their bounds.
use Rattle.std.proofs.Common.{◌≡◌, ◌≤◌, ℕ, ◌+◌, Bool, true, false, cond, ◌&&◌, eqb, leb, List, [], ◌∷◌}
use Rattle.std.proofs.Common.{refl, ap, sym, ◌∙◌, arith, subst}
use Rattle.std.specs.List.{count_by, list_all}
use Rattle.iofd_steps.specs.After.{changed}
use Rattle.iofd_steps.specs.Run.{IsRun, world_of}
use Rattle.iofd_words.specs.Record.{Record}
use Rattle.iofd_words.specs.Settings.{Settings, is_between}
use Rattle.iofd_words.specs.Tables.{with_tables}
use Rattle.iofd_words.specs.World.{opening}
use Rattle.iofd_words.specs.declared.rows.Area.{Area}
use Rattle.iofd_words.specs.declared.rows.Object.{Object}
use Rattle.iofd_rows.proofs.Bools.{and_true}
use Rattle.iofd_rows.proofs.Each.{of_all, of_each}
use Rattle.iofd_rows.proofs.PageCounts.{count-cons}
use Rattle.iofd_runs.proofs.KeepsFew.{keeps_few, opening_few, tabled_few}
use Rattle.iofd_runs.proofs.Runs.{run_keeps}
use Rattle.iofd_runs.specs.Few.{RowsFew}
use Rattle.iofd_promises.specs.Bounded.{how_many}
use Rattle.iofd_promises.proofs.Comes.{Came, came, HasNewId, WasAccess, WasThere}
use Rattle.iofd_words.specs.declared.numbers.ObjId.{ObjId}

-- ---- counts

pub how_many_are : {X : Type 0} (p : X → Bool) (xs : List X) → how_many p xs ≡ count_by p xs
how_many_are p [] = refl
how_many_are p (x ∷ xs) = by_test (p x) (how_many_are p xs) ∙ sym (count-cons p x xs)
  where
    by_test : (b : Bool) → how_many p xs ≡ count_by p xs
        → cond b (1 + how_many p xs) (how_many p xs) ≡ cond b 1 0 + count_by p xs
    by_test true rest = ap (λ n. 1 + n) rest
    by_test false rest = rw rest (omega arith)

few_of : {A : Type 0} (settings : Settings) (records : List (Record A)) → IsRun settings records
    → RowsFew (world_of settings records)
unfolding IsRun world_of
few_of settings records run =
    run_keeps RowsFew tabled_few keeps_few 0 (opening settings) records run (opening_few settings)

-- ---- objects of a file, and areas of an address space

pub few_objects : {A : Type 0} (settings : Settings) (records : List (Record A)) (file : ℕ) → IsRun settings records
    → how_many (λ (o : Object). eqb o.file.0 file) (world_of settings records).objects ≤ 65535
few_objects settings records file run =
    subst (λ (n : ℕ). n ≤ 65535)
    (sym (how_many_are (λ (o : Object). eqb o.file.0 file) (world_of settings records).objects))
    ((few_of settings records run).objects (record { 0 = file }))

pub few_areas : {A : Type 0} (settings : Settings) (records : List (Record A)) (file ioas : ℕ) → IsRun settings records
    → how_many (λ (a : Area). eqb a.file.0 file && eqb a.ioas.0 ioas) (world_of settings records).areas ≤ 65535
few_areas settings records file ioas run =
    subst (λ (n : ℕ). n ≤ 65535)
    (sym (how_many_are (λ (a : Area). eqb a.file.0 file && eqb a.ioas.0 ioas) (world_of settings records).areas))
    ((few_of settings records run).areas (record { 0 = file }) (record { 0 = ioas }))

-- ---- ids

abbrev pub has_good_id : Object → Bool
has_good_id object = leb 1 object.id.0 && leb object.id.0 0x7fff_ffff

good_by : (old : List Object) (x : Object) → Came old x → list_all has_good_id old ≡ true → has_good_id x ≡ true
good_by old x (WasThere before) all = of_each has_good_id old x all before
good_by old x (HasNewId fresh) all = (and_true (is_between 1 0x7fff_ffff x.id.0) _ fresh).0
good_by old x (WasAccess a before file_is id_is access) all =
    ap (λ (i : ObjId). leb 1 i.0 && leb i.0 0x7fff_ffff) id_is ∙ of_each has_good_id old a all before

pub good_ids : {A : Type 0} (settings : Settings) (records : List (Record A)) → IsRun settings records
    → list_all has_good_id (world_of settings records).objects ≡ true
unfolding IsRun world_of with_tables
good_ids settings records run =
    run_keeps (λ w. list_all has_good_id w.objects ≡ true) (λ w taken given all. all)
    (λ at w e answer none answers all. of_all has_good_id (changed at w e answer).objects
    (λ x within. good_by w.objects x (came at w e answer none answers x within) all))
    0 (opening settings) records run refl
