-- Areas of an address space stand by rising start.
use Rattle.std.proofs.Common.{◌≡◌, ℕ, Bool, true, false, cond, ◌&&◌, ltb, None, List, [], ◌∷◌, refl, ap, ◌∙◌, arith}
use Rattle.std.proofs.Common.{not}
use Rattle.std.specs.Prelude.{map}
use Rattle.std.specs.List.{filter, list_all}
use Rattle.std.proofs.lemmas.Bool.Decides.{nat_tests}
use Rattle.iofd_steps.specs.After.{changed, mapped_area}
use Rattle.iofd_steps.specs.Answers.{Answers}
use Rattle.iofd_words.specs.Areas.{is_of, with_area, with_phase}
use Rattle.iofd_refusals.specs.Checks.{refusal}
use Rattle.iofd_laws.specs.Laws.{begins_before, starts_rise}
use Rattle.iofd_words.specs.World.{World}
use Rattle.iofd_words.specs.declared.event.Event.{Event}
use Rattle.iofd_words.specs.declared.reply.Reply.{Reply}
use Rattle.iofd_words.specs.declared.rows.Area.{Area}
use Rattle.iofd_words.specs.declared.rows.Phase.{Phase}
use Rattle.iofd_rows.proofs.Bools.{and_true, both_true}
use Rattle.iofd_rows.proofs.Found.{all_filter, all_weaker}
use Rattle.iofd_rows.proofs.OwnMemory.{all-with_area}
use Rattle.iofd_runs.proofs.Moves.{AreasMove, SameAreas, FewerAreas, OtherPhases, OneArea, changed_moves}

-- ---- one more area

-- what follows an area follows one that begins no later
through : (x a other : Area) → (is_of x.file x.ioas a && ltb x.span.first a.span.first) ≡ true
    → begins_before a other ≡ true → begins_before x other ≡ true
through x a other before is = grind (arith, nat_tests)

itself_first : (x a : Area) → (is_of x.file x.ioas a && ltb x.span.first a.span.first) ≡ true → begins_before x a ≡ true
itself_first x a before = grind (arith, nat_tests)

not_before : (x a : Area) → (is_of x.file x.ioas a && ltb x.span.first a.span.first) ≡ false → begins_before a x ≡ true
not_before x a before = grind (arith, nat_tests)

rise-with_area : (x : Area) (areas : List Area) → starts_rise areas ≡ true → starts_rise (with_area x areas) ≡ true
rise-with_area x [] rise = refl
rise-with_area x (a ∷ areas) rise =
    let rises = and_true (list_all (begins_before a) areas) (starts_rise areas) rise in
    added (is_of x.file x.ioas a && ltb x.span.first a.span.first) refl rises.0 (rise-with_area x areas rises.1)
  where
    added : (b : Bool) → (is_of x.file x.ioas a && ltb x.span.first a.span.first) ≡ b
        → list_all (begins_before a) areas ≡ true → starts_rise (with_area x areas) ≡ true
        → starts_rise (cond b (x ∷ a ∷ areas) (a ∷ with_area x areas)) ≡ true
    added true is above rest = both_true _ _
        (both_true _ _ (itself_first x a is) (all_weaker (begins_before a) (begins_before x) areas
        (λ other after. through x a other is after) above)) rise
    added false is above rest = both_true _ _ (all-with_area (begins_before a) x areas (not_before x a is) above) rest

-- ---- fewer areas, and other phases

rise-filter : (p : Area → Bool) (areas : List Area) → starts_rise areas ≡ true → starts_rise (filter p areas) ≡ true
rise-filter p [] rise = refl
rise-filter p (a ∷ areas) rise =
    let rises = and_true (list_all (begins_before a) areas) (starts_rise areas) rise in
    kept (p a) (all_filter (begins_before a) p areas rises.0) (rise-filter p areas rises.1)
  where
    kept : (b : Bool) → list_all (begins_before a) (filter p areas) ≡ true → starts_rise (filter p areas) ≡ true
        → starts_rise (cond b (a ∷ filter p areas) (filter p areas)) ≡ true
    kept true here rest = both_true _ _ here rest
    kept false here rest = rest

all-map : (a : Area) (phase : Area → Phase) (areas : List Area)
    → list_all (begins_before a) (map (λ (x : Area). with_phase (phase x) x) areas) ≡ list_all (begins_before a) areas
all-map a phase [] = refl
all-map a phase (x ∷ areas) = ap (λ b. begins_before a x && b) (all-map a phase areas)

rise-map : (phase : Area → Phase) (areas : List Area)
    → starts_rise (map (λ (a : Area). with_phase (phase a) a) areas) ≡ starts_rise areas
rise-map phase [] = refl
rise-map phase (a ∷ areas) = rw (all-map a phase areas, rise-map phase areas) refl

-- ---- every event keeps the order

pub keeps_rise : {A : Type 0} → (at : ℕ) (w : World) (e : Event A) (answer : Reply) → refusal w e ≡ None
    → Answers w e answer → starts_rise w.areas ≡ true → starts_rise (changed at w e answer).areas ≡ true
keeps_rise at w e answer none answers rise =
    by_move (changed at w e answer) (changed_moves at w e answer).areas
  where
    by_move : (new : World) → AreasMove at w e answer new
        → starts_rise new.areas ≡ true
    by_move new (SameAreas is same) = rw is rise
    by_move new (FewerAreas goes by is left free) = rw is (rise-filter (λ (a : Area). not (goes a)) w.areas rise)
    by_move new (OtherPhases phase lives is same) = rw is (rise-map phase w.areas ∙ rise)
    by_move new (OneArea number file request iova passed lies makes alike is under) =
        rw is (rise-with_area (mapped_area number file request iova) w.areas rise)
