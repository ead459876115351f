-- Every event leaves each area's memory object one of the user of the area's file.
use Rattle.std.proofs.Common.{◌≡◌, ℕ, ◌+◌, Bool, true, false, ◌||◌, not, eqb, ltb, Option, Some, None, List, [], ◌∷◌}
use Rattle.std.proofs.Common.{◌++◌, refl, sym, ap, ◌∙◌, arith, ◌&&◌}
use Rattle.std.specs.List.{filter, list_all, list_any}
use Rattle.std.proofs.lemmas.Bool.{eqb-true}
use Rattle.std.proofs.lemmas.Bool.Decides.{nat_tests}
use Rattle.std.proofs.lemmas.List.Folds.{list_all-append}
use Rattle.iofd_steps.specs.After.{changed, mapped_area, memory_object}
use Rattle.iofd_steps.specs.Answers.{Answers}
use Rattle.iofd_words.specs.Areas.{areas_of, is_of, with_area}
use Rattle.iofd_refusals.specs.Checks.{refusal}
use Rattle.iofd_words.specs.Files.{user_of, numbered}
use Rattle.iofd_words.specs.Settings.{Settings}
use Rattle.iofd_words.specs.Tables.{with_tables}
use Rattle.iofd_words.specs.World.{World, opening}
use Rattle.iofd_words.specs.declared.event.Event.{Event}
use Rattle.iofd_words.specs.declared.event.MapRequest.{MapRequest}
use Rattle.iofd_words.specs.declared.numbers.FileNo.{FileNo}
use Rattle.iofd_words.specs.declared.numbers.Iova.{Iova}
use Rattle.iofd_words.specs.declared.numbers.ObjId.{ObjId}
use Rattle.iofd_words.specs.declared.numbers.UserNo.{UserNo}
use Rattle.iofd_words.specs.declared.reply.Reply.{Reply}
use Rattle.iofd_words.specs.declared.rows.Area.{Area}
use Rattle.iofd_words.specs.declared.numbers.FrameNo.{FrameNo}
use Rattle.iofd_words.specs.declared.rows.MemoryObject.{MemoryObject}
use Rattle.iofd_rows.specs.Pinned.{ArePinned}
use Rattle.iofd_rows.proofs.Bools.{and_true, both_true, not_false, or_false}
use Rattle.iofd_rows.proofs.Each.{IsIn, of_each}
use Rattle.iofd_rows.proofs.Found.{all_filter, all_map, all_weaker}
use Rattle.iofd_rows.proofs.ListTests.{or_left, or_right, any-filter, any_of_all}
use Rattle.iofd_rows.proofs.OwnMemory.{all-with_area}
use Rattle.iofd_runs.proofs.KeepsPins.{keeps_pins, later_pinned, tabled_pinned, opening_pinned}
use Rattle.iofd_runs.specs.Owned.{AreasOwned, is_of_files_user, is_over_own}
use Rattle.iofd_runs.proofs.Moves.{AreasMove, SameAreas, FewerAreas, OtherPhases, OneArea, MemoryUnder, NewMemory}
use Rattle.iofd_runs.proofs.Moves.{SharedMemory, changed_moves}
use Rattle.iofd_runs.proofs.PagesToPin.{none_over}

-- ---- a MAP

eqb_same : (n : ℕ) → eqb n n ≡ true
eqb_same n = grind (arith, nat_tests)

flipped : (m n : ℕ) → eqb m n ≡ false → eqb n m ≡ false
flipped m n other = grind (arith, nat_tests)

-- the new memory object is under no area that stands
owned_still : (settings : Settings) (memory : List MemoryObject) (m : MemoryObject) (areas : List Area)
    → list_any (λ (a : Area). eqb a.memory m.number) areas ≡ false → list_all (is_over_own settings memory) areas ≡ true
    → list_all (is_over_own settings (memory ++ m ∷ [])) areas ≡ true
owned_still settings memory m [] none owned = refl
owned_still settings memory m (a ∷ areas) none owned =
    let others = or_false (eqb a.memory m.number) (list_any (λ (a : Area). eqb a.memory m.number) areas) none in
    let parts = and_true (is_over_own settings memory a) (list_all (is_over_own settings memory) areas) owned in
    both_true _ _
    (list_all-append (λ (o : MemoryObject). not (eqb o.number a.memory)
    || is_of_files_user settings a.file o) memory (m ∷ [])
    ∙ both_true _ _ parts.0 (both_true _ _ (or_left _ _ (not_false _ (flipped a.memory m.number others.0))) refl))
    (owned_still settings memory m areas others.1 parts.1)

-- and the new area is over no other, and over one of its file's user
owned_new : (at : ℕ) (settings : Settings) (memory : List MemoryObject) (file : FileNo) (request : MapRequest)
    (iova : Iova) (user : UserNo) → user_of settings file ≡ Some user
    → list_all (λ (m : MemoryObject). ltb m.number at) memory ≡ true
    → is_over_own settings (memory ++ memory_object at user request ∷ []) (mapped_area at file request iova) ≡ true
owned_new at settings memory file request iova user is made =
    list_all-append (λ (m : MemoryObject). not (eqb m.number at) || is_of_files_user settings file m) memory
    (memory_object at user request ∷ [])
    ∙ both_true _ _
    (all_weaker (λ (m : MemoryObject). ltb m.number at) (λ (m : MemoryObject). not (eqb m.number at)
    || is_of_files_user settings file m) memory (λ m before. or_left _ _
    (not_false _ (unlike m.number before))) made)
    (both_true _ _ (or_right (not (eqb at at)) _
    (ap (λ (o : Option UserNo). elim o as (λ x. Bool) [ Some u ↦ eqb u.0 user.0 | None ↦ false ]) is
    ∙ eqb_same user.0)) refl)
  where
    unlike : (n : ℕ) → ltb n at ≡ true → eqb n at ≡ false
    unlike n before = grind (arith, nat_tests)

-- ---- memory objects go

fewer_owned : (settings : Settings) (q : MemoryObject → Bool) (memory : List MemoryObject) (areas : List Area)
    → list_all (is_over_own settings memory) areas ≡ true
    → list_all (is_over_own settings (filter q memory)) areas ≡ true
fewer_owned settings q memory areas owned =
    all_weaker (is_over_own settings memory) (is_over_own settings (filter q memory)) areas
    (λ a over. all_filter (λ (m : MemoryObject). not (eqb m.number a.memory)
    || is_of_files_user settings a.file m) q memory over) owned

-- ---- each event

pub keeps_owned : {A : Type 0} → (at : ℕ) (w : World) (e : Event A) (answer : Reply) → ArePinned at w → AreasOwned w
    → AreasOwned (changed at w e answer)
keeps_owned at w e answer p o = record {
  owned = ap (λ (s : Settings). list_all (is_over_own s (changed at w e answer).memory) (changed at w e answer).areas)
      (changed_moves at w e answer).settings
      ∙ by_move (changed at w e answer) (changed_moves at w e answer).areas;
}
  where
    by_memory : (number : ℕ) (file : FileNo) (request : MapRequest) (iova : Iova) (memory : List MemoryObject)
        → MemoryUnder at w e file request iova number memory
        → list_all (is_over_own w.settings memory) (with_area (mapped_area number file request iova) w.areas) ≡ true
    by_memory number file request iova memory (NewMemory user known short is more) =
        rw (more, is) (all-with_area (is_over_own w.settings (w.memory ++ memory_object at user request ∷ []))
        (mapped_area at file request iova) w.areas
        (owned_new at w.settings w.memory file request iova user known p.made)
        (owned_still w.settings w.memory (memory_object at user request) w.areas
        (none_over at w.areas w.memory p.made p.sizes) o.owned))
    -- over its source's memory object, and of its source's file
    by_memory number file request iova memory (SharedMemory source within of_file size is same) =
        rw (same, ← is, ← of_file) (all-with_area (is_over_own w.settings w.memory)
        (mapped_area source.memory source.file request iova) w.areas
        (of_each (is_over_own w.settings w.memory) w.areas source o.owned within) o.owned)

    by_move : (new : World) → AreasMove at w e answer new
        → list_all (is_over_own w.settings new.memory) new.areas ≡ true
    by_move new (SameAreas is same) = rw (is, same) o.owned
    by_move new (FewerAreas goes by is left free) =
        rw (is, left) (all_filter (is_over_own w.settings _) (λ (a : Area). not (goes a)) w.areas
        (fewer_owned w.settings _ w.memory w.areas o.owned))
    by_move new (OtherPhases phase lives is same) =
        rw (is, same) (all_map (is_over_own w.settings w.memory) (is_over_own w.settings w.memory) _ w.areas
        (λ a over. over) o.owned)
    by_move new (OneArea number file request iova passed lies makes alike is under) =
        rw is (by_memory number file request iova new.memory under)

-- with the pins
pub record OwnedPins (at : ℕ) (w : World) : Type 0 where
  pub pins : ArePinned at w
  pub areas : AreasOwned w

pub tabled_owned : (at : ℕ) (w : World) (taken given : List FrameNo) → OwnedPins at w
    → OwnedPins at (with_tables taken given w)
unfolding with_tables
tabled_owned at w taken given p =
    record { pins = tabled_pinned at w taken given p.pins; areas = record { owned = p.areas.owned } }

pub later_owned : (at : ℕ) (w : World) → OwnedPins at w → OwnedPins (at + 1) w
later_owned at w p = record { pins = later_pinned at w p.pins; areas = p.areas }

pub keeps_owned_pins : {A : Type 0} → (at : ℕ) (w : World) (e : Event A) (answer : Reply) → refusal w e ≡ None
    → Answers w e answer → OwnedPins at w → OwnedPins (at + 1) (changed at w e answer)
keeps_owned_pins at w e answer none answers p =
    record { pins = keeps_pins at w e answer none answers p.pins; areas = keeps_owned at w e answer p.pins p.areas }

pub opening_owned : (settings : Settings) → OwnedPins 0 (opening settings)
opening_owned settings = record { pins = opening_pinned settings; areas = record { owned = refl } }

-- ---- what it says of an address space

flipped_true : (a b : ℕ) → eqb a b ≡ true → eqb b a ≡ true
flipped_true a b is = grind (arith, nat_tests)

-- the user of a memory object under an area of the address space is the file's
pub owner : (w : World) (file : FileNo) (ioas : ObjId) (m : MemoryObject) → AreasOwned w → IsIn w.memory m
    → list_any (λ (a : Area). eqb a.memory m.number) (areas_of w.areas file ioas) ≡ true
    → is_of_files_user w.settings file m ≡ true
owner w file ioas m owned among over =
    always w.areas
    (any_of_all (is_over_own w.settings w.memory) (λ (a : Area). is_of file ioas a && eqb a.memory m.number)
    (λ (a : Area). is_of_files_user w.settings file m) w.areas
    (λ a own both. of_area a own both) owned.owned
    (sym (any-filter (λ (a : Area). eqb a.memory m.number) (is_of file ioas) w.areas) ∙ over))
  where
    always : (areas : List Area) → list_any (λ (a : Area). is_of_files_user w.settings file m) areas ≡ true
        → is_of_files_user w.settings file m ≡ true
    always [] any = cc
    always (a ∷ areas) any = by_test (is_of_files_user w.settings file m) refl any (always areas)
      where
        by_test : (b : Bool) → is_of_files_user w.settings file m ≡ b
            → (b || list_any (λ (a : Area). is_of_files_user w.settings file m) areas) ≡ true
            → (list_any (λ (a : Area). is_of_files_user w.settings file m) areas ≡ true
            → is_of_files_user w.settings file m ≡ true) → b ≡ true
        by_test true is any later = refl
        by_test false is any later = sym is ∙ later any

    of_area : (a : Area) → is_over_own w.settings w.memory a ≡ true
        → (is_of file ioas a && eqb a.memory m.number) ≡ true → is_of_files_user w.settings file m ≡ true
    of_area a own both =
        let parts = and_true (is_of file ioas a) (eqb a.memory m.number) both in
        let space = and_true (eqb a.file.0 file.0) (eqb a.ioas.0 ioas.0) parts.0 in
        let same : a.file.0 ≡ file.0 = eqb-true a.file.0 file.0 space.0 in
        let here : (not (eqb m.number a.memory) || is_of_files_user w.settings a.file m) ≡ true =
        of_each (λ (o : MemoryObject). not (eqb o.number a.memory)
        || is_of_files_user w.settings a.file o) w.memory m own among in
        let its : is_of_files_user w.settings a.file m ≡ true = rw (flipped_true a.memory m.number parts.1) at here in
        ap (λ (n : ℕ). elim (numbered w.settings.files n) as (λ _. Bool) [
          | Some user ↦ eqb user.0 m.user.0
          | None ↦ false
        ]) (sym same) ∙ its
