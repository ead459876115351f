-- Areas of an address space stay apart.
use Rattle.std.proofs.Common.{◌≡◌, ℕ, Bool, true, false, cond, ◌&&◌, ◌||◌, not, ltb, None, List, [], ◌∷◌}
use Rattle.std.proofs.Common.{refl, ap, sym, ◌∙◌, arith}
use Rattle.std.specs.Prelude.{map}
use Rattle.std.specs.List.{filter}
use Rattle.std.proofs.lemmas.Bool.Decides.{nat_tests}
use Rattle.iofd_steps.specs.After.{changed, mapped_area}
use Rattle.iofd_steps.specs.Answers.{Answers}
use Rattle.iofd_words.specs.Areas.{areas_meet, areas_of, is_of, lies_before, meets_area, with_area, with_phase}
use Rattle.iofd_words.specs.Bounds.{Bounds}
use Rattle.iofd_refusals.specs.Checks.{refusal}
use Rattle.iofd_runs.specs.Apart.{are_apart}
use Rattle.iofd_words.specs.Span.{meets}
use Rattle.iofd_words.specs.World.{World}
use Rattle.iofd_words.specs.declared.event.Event.{Event}
use Rattle.iofd_words.specs.declared.numbers.FileNo.{FileNo}
use Rattle.iofd_words.specs.declared.numbers.ObjId.{ObjId}
use Rattle.iofd_words.specs.declared.reply.Reply.{Reply}
use Rattle.iofd_words.specs.declared.rows.Area.{Area}
use Rattle.iofd_words.specs.declared.rows.Phase.{Phase}
use Rattle.iofd_rows.proofs.Bools.{or_false, and_true, both_false, not_true}
use Rattle.iofd_rows.proofs.Inserted.{any-inserted}
use Rattle.iofd_rows.proofs.ListTests.{any-filter}
use Rattle.iofd_runs.proofs.Moves.{AreasMove, SameAreas, FewerAreas, OtherPhases, OneArea, changed_moves}

-- a and b are of one address space, and have an address in common
abbrev clash : Area → Area → Bool
clash a b = is_of a.file a.ioas b && meets b.span a.span

clash_both : (a b : Area) → clash a b ≡ clash b a
clash_both a b = grind (arith, nat_tests)

-- whether a span meets the first area or a later one
meets_first : (a : Area) (areas : List Area) (file : FileNo) (ioas : ObjId) (span : Bounds)
    → meets_area (a ∷ areas) file ioas span ≡ ((is_of file ioas a && meets a.span span)
    || meets_area areas file ioas span)
meets_first a areas file ioas span = by_test (is_of file ioas a)
  where
    by_test : (b : Bool) → areas_meet span (cond b (a ∷ areas_of areas file ioas) (areas_of areas file ioas))
        ≡ ((b && meets a.span span) || meets_area areas file ioas span)
    by_test true = refl
    by_test false = refl

-- ---- one more area

meets_area-with_area : (x : Area) (areas : List Area) (file : FileNo) (ioas : ObjId) (span : Bounds)
    → meets_area (with_area x areas) file ioas span ≡ ((is_of file ioas x && meets x.span span)
    || meets_area areas file ioas span)
meets_area-with_area x areas file ioas span =
    any-filter (λ (a : Area). meets a.span span) (is_of file ioas) (with_area x areas)
    ∙ any-inserted lies_before (λ (a : Area). is_of file ioas a && meets a.span span) x areas
    ∙ ap (λ b. (is_of file ioas x && meets x.span span) || b)
    (sym (any-filter (λ (a : Area). meets a.span span) (is_of file ioas) areas))

pub are_apart-with_area : (x : Area) (areas : List Area) → meets_area areas x.file x.ioas x.span ≡ false
    → are_apart areas ≡ true → are_apart (with_area x areas) ≡ true
are_apart-with_area x [] free apart = refl
are_apart-with_area x (a ∷ areas) free apart =
    let frees = or_false (clash x a) _ (sym (meets_first a areas x.file x.ioas x.span) ∙ free) in
    let aparts = and_true (not (meets_area areas a.file a.ioas a.span)) (are_apart areas) apart in
    let others : meets_area (with_area x areas) a.file a.ioas a.span ≡ false =
    meets_area-with_area x areas a.file a.ioas a.span
    ∙ both_false (clash a x) _ (clash_both a x ∙ frees.0) (not_true _ aparts.0) in
    added (is_of x.file x.ioas a && ltb x.span.first a.span.first) (rw (free, apart) refl)
    (rw (others, are_apart-with_area x areas frees.1 aparts.1) refl)
  where
    added : (b : Bool) → are_apart (x ∷ a ∷ areas) ≡ true → are_apart (a ∷ with_area x areas) ≡ true
        → are_apart (cond b (x ∷ a ∷ areas) (a ∷ with_area x areas)) ≡ true
    added true first later = first
    added false first later = later

-- ---- fewer areas

pub meets_area-filter : (p : Area → Bool) (areas : List Area) (file : FileNo) (ioas : ObjId) (span : Bounds)
    → meets_area areas file ioas span ≡ false → meets_area (filter p areas) file ioas span ≡ false
meets_area-filter p [] file ioas span free = refl
meets_area-filter p (a ∷ areas) file ioas span free =
    let frees = or_false (is_of file ioas a && meets a.span span) _ (sym (meets_first a areas file ioas span) ∙ free) in
    kept (p a) (meets_area-filter p areas file ioas span frees.1) frees.0
  where
    kept : (b : Bool) → meets_area (filter p areas) file ioas span ≡ false
        → (is_of file ioas a && meets a.span span) ≡ false
        → meets_area (cond b (a ∷ filter p areas) (filter p areas)) file ioas span ≡ false
    kept true rest here = meets_first a (filter p areas) file ioas span ∙ both_false _ _ here rest
    kept false rest here = rest

pub are_apart-filter : (p : Area → Bool) (areas : List Area) → are_apart areas ≡ true
    → are_apart (filter p areas) ≡ true
are_apart-filter p [] apart = refl
are_apart-filter p (a ∷ areas) apart =
    let aparts = and_true (not (meets_area areas a.file a.ioas a.span)) (are_apart areas) apart in
    kept (p a) (meets_area-filter p areas a.file a.ioas a.span (not_true _ aparts.0))
    (are_apart-filter p areas aparts.1)
  where
    kept : (b : Bool) → meets_area (filter p areas) a.file a.ioas a.span ≡ false → are_apart (filter p areas) ≡ true
        → are_apart (cond b (a ∷ filter p areas) (filter p areas)) ≡ true
    kept true here rest = rw (here, rest) refl
    kept false here rest = rest

-- ---- the same areas in other phases

meets_area-map : (phase : Area → Phase) (areas : List Area) (file : FileNo) (ioas : ObjId) (span : Bounds)
    → meets_area (map (λ (a : Area). with_phase (phase a) a) areas) file ioas span ≡ meets_area areas file ioas span
meets_area-map phase [] file ioas span = refl
meets_area-map phase (a ∷ areas) file ioas span =
    meets_first (with_phase (phase a) a) (map (λ (x : Area). with_phase (phase x) x) areas) file ioas span
    ∙ ap (λ b. (is_of file ioas a && meets a.span span) || b) (meets_area-map phase areas file ioas span)
    ∙ sym (meets_first a areas file ioas span)

pub are_apart-map : (phase : Area → Phase) (areas : List Area)
    → are_apart (map (λ (a : Area). with_phase (phase a) a) areas) ≡ are_apart areas
are_apart-map phase [] = refl
are_apart-map phase (a ∷ areas) = rw (meets_area-map phase areas a.file a.ioas a.span, are_apart-map phase areas) refl

-- ---- every event keeps them apart

pub keeps_apart : {A : Type 0} → (at : ℕ) (w : World) (e : Event A) (answer : Reply) → refusal w e ≡ None
    → Answers w e answer → are_apart w.areas ≡ true → are_apart (changed at w e answer).areas ≡ true
keeps_apart at w e answer none answers apart =
    by_move (changed at w e answer) (changed_moves at w e answer).areas
  where
    by_move : (new : World) → AreasMove at w e answer new
        → are_apart new.areas ≡ true
    by_move new (SameAreas is same) = rw is apart
    by_move new (FewerAreas goes by is left free) = rw is (are_apart-filter (λ (a : Area). not (goes a)) w.areas apart)
    by_move new (OtherPhases phase lives is same) = rw is (are_apart-map phase w.areas ∙ apart)
    by_move new (OneArea number file request iova passed lies makes alike is under) =
        rw is (are_apart-with_area (mapped_area number file request iova) w.areas (lies none answers).apart apart)
