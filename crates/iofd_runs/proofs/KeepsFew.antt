-- A file has at most 65,535 objects, and an address space at most 65,535 areas.
use Rattle.std.proofs.Common.{◌≡◌, ◌≤◌, ◌<◌, ℕ, ◌+◌, Bool, true, false, cond, ◌&&◌, not, eqb, leb, None, List, [], ◌∷◌}
use Rattle.std.proofs.Common.{length, map, refl, sym, subst, arith}
use Rattle.std.specs.List.{count_by, filter}
use Rattle.std.proofs.lemmas.Bool.Decides.{nat_tests}
use Rattle.std.proofs.lemmas.List.Sums.{length-filter}
use Rattle.iofd_rows.proofs.Accesses.{count_reattached}
use Rattle.iofd_rows.proofs.Bools.{and_true}
use Rattle.iofd_rows.proofs.Inserted.{count-inserted}
use Rattle.iofd_rows.proofs.Named.{file_is, id_is}
use Rattle.iofd_rows.proofs.PageCounts.{count-cons}
use Rattle.iofd_runs.proofs.Moves.{AreasMove, Fewer, FewerAreas, More, ObjectsMove, OneArea, OtherPhases, Reattached}
use Rattle.iofd_runs.proofs.Moves.{Same, SameAreas, changed_moves}
use Rattle.iofd_runs.specs.Few.{RowsFew}
use Rattle.iofd_steps.specs.After.{changed, mapped_area}
use Rattle.iofd_steps.specs.Answers.{Answers}
use Rattle.iofd_words.specs.Areas.{areas_of, is_of, lies_before, with_phase}
use Rattle.iofd_refusals.specs.Checks.{refusal}
use Rattle.iofd_words.specs.Objects.{comes_before, is_full, objects_of}
use Rattle.iofd_words.specs.Settings.{Settings}
use Rattle.iofd_words.specs.Tables.{with_tables}
use Rattle.iofd_words.specs.World.{World, opening}
use Rattle.iofd_words.specs.declared.event.Event.{Event}
use Rattle.iofd_words.specs.declared.numbers.FileNo.{FileNo}
use Rattle.iofd_words.specs.declared.numbers.FrameNo.{FrameNo}
use Rattle.iofd_words.specs.declared.numbers.ObjId.{ObjId}
use Rattle.iofd_words.specs.declared.reply.Reply.{Reply}
use Rattle.iofd_words.specs.declared.rows.Area.{Area}
use Rattle.iofd_words.specs.declared.rows.Object.{Object}
use Rattle.iofd_words.specs.declared.rows.Phase.{Phase}

pub opening_few : (settings : Settings) → RowsFew (opening settings)
opening_few settings = record { objects = λ file. omega arith; areas = λ file ioas. omega arith }

-- ---- counts

pub count_fewer : {X : Type 0} (p q : X → Bool) (xs : List X) → count_by p (filter q xs) ≤ count_by p xs
count_fewer p q [] = omega arith
count_fewer p q (x ∷ xs) = rw (count-cons p x xs) (by_test (q x) (count_fewer p q xs))
  where
    by_test : (b : Bool) → count_by p (filter q xs) ≤ count_by p xs
        → count_by p (cond b (x ∷ filter q xs) (filter q xs)) ≤ cond (p x) 1 0 + count_by p xs
    by_test true rest = rw (count-cons p x (filter q xs)) (omega (arith, rest))
    by_test false rest = omega (arith, rest)

same_spaces : (file : FileNo) (ioas : ObjId) (phase : Area → Phase) (areas : List Area)
    → count_by (is_of file ioas) (map (λ (a : Area). with_phase (phase a) a) areas) ≡ count_by (is_of file ioas) areas
same_spaces file ioas phase [] = refl
same_spaces file ioas phase (a ∷ areas) =
    let rest = same_spaces file ioas phase areas in
    let here = count-cons (is_of file ioas) (with_phase (phase a) a)
    (map (λ (a : Area). with_phase (phase a) a) areas) in
    let before = count-cons (is_of file ioas) a areas in
    omega (arith, rest, here, before)

-- ---- every event

abbrev pub of_file : FileNo → Object → Bool
of_file file object = eqb object.file.0 file.0

few_objects : {A : Type 0} (file : FileNo) (w : World) (e : Event A) (answer : Reply) (new : World)
    → ObjectsMove w e answer new → refusal w e ≡ None → count_by (of_file file) w.objects ≤ 65535
    → count_by (of_file file) new.objects ≤ 65535
few_objects file w e answer new (Same is) none few = rw is few
few_objects file w e answer new (Fewer stays stay bound is) none few =
    let less = count_fewer (of_file file) stays w.objects in rw is (omega (arith, less, few))
few_objects file w e answer new (Reattached own id attached is) none few =
    rw is (subst (λ (n : ℕ). n ≤ 65535)
    (sym (count_reattached own id attached (of_file file) (λ o before after kind. refl) w.objects)) few)
few_objects file w e answer new (More object fresh admitted makes is) none few =
    rw (is, count-inserted comes_before (of_file file) object w.objects) (by_file (of_file file object) refl)
  where
    by_file : (b : Bool) → eqb object.file.0 file.0 ≡ b → cond b 1 0 + count_by (of_file file) w.objects ≤ 65535
    by_file false other = omega (arith, few)
    by_file true own =
        let roomy : is_full w.objects file ≡ false = rw (← file_is object.file file own) (admitted none).roomy in
        let many : length (objects_of w.objects file) ≡ count_by (of_file file) w.objects =
        length-filter (of_file file) w.objects in
        let below : length (objects_of w.objects file) < 65535 = search (roomy, arith, nat_tests) in
        omega (arith, many, below)

few_areas : {A : Type 0} (file : FileNo) (ioas : ObjId) (at : ℕ) (w : World) (e : Event A) (answer : Reply)
    (new : World) → AreasMove at w e answer new → refusal w e ≡ None → count_by (is_of file ioas) w.areas ≤ 65535
    → count_by (is_of file ioas) new.areas ≤ 65535
few_areas file ioas at w e answer new (SameAreas is same) none few = rw is few
few_areas file ioas at w e answer new (FewerAreas goes by is left free) none few =
    let less = count_fewer (is_of file ioas) (λ (a : Area). not (goes a)) w.areas in rw is (omega (arith, less, few))
few_areas file ioas at w e answer new (OtherPhases phase lives is same) none few =
    rw (is, same_spaces file ioas phase w.areas) few
few_areas file ioas at w e answer new (OneArea number own request iova passed lies makes alike is under) none few =
    rw (is, count-inserted lies_before (is_of file ioas) (mapped_area number own request iova) w.areas)
    (by_space (is_of file ioas (mapped_area number own request iova)) refl)
  where
    by_space : (b : Bool) → (eqb own.0 file.0 && eqb request.ioas.0 ioas.0) ≡ b
        → cond b 1 0 + count_by (is_of file ioas) w.areas ≤ 65535
    by_space false other = omega (arith, few)
    by_space true here =
        let names = and_true (eqb own.0 file.0) (eqb request.ioas.0 ioas.0) here in
        let roomy : leb 65535 (length (areas_of w.areas file ioas)) ≡ false =
        rw (← file_is own file names.0, ← id_is request.ioas ioas names.1) (passed none).roomy in
        let many : length (areas_of w.areas file ioas) ≡ count_by (is_of file ioas) w.areas =
        length-filter (is_of file ioas) w.areas in
        let below : length (areas_of w.areas file ioas) < 65535 = search (roomy, arith, nat_tests) in
        omega (arith, many, below)

pub keeps_few : {A : Type 0} → (at : ℕ) (w : World) (e : Event A) (answer : Reply) → refusal w e ≡ None
    → Answers w e answer → RowsFew w → RowsFew (changed at w e answer)
keeps_few at w e answer none answers few =
    let m = changed_moves at w e answer in
    record {
      objects = λ file. few_objects file w e answer (changed at w e answer) m.objects none (few.objects file);
      areas = λ file ioas.
          few_areas file ioas at w e answer (changed at w e answer) m.areas none (few.areas file ioas);
    }

-- the frames of tables are no part of it
pub tabled_few : (w : World) (taken given : List FrameNo) → RowsFew w → RowsFew (with_tables taken given w)
unfolding with_tables
tabled_few w taken given few = record { objects = few.objects; areas = few.areas }
