-- Every event keeps the pins those of the pages that are to be pinned.
use Rattle.std.proofs.Common.{◌≡◌, ◌<◌, ℕ, ◌+◌, ◌-◌, ◌*◌, ◌/◌, ◌%◌, Bool, true, false, cond, ◌&&◌, not, eqb, ltb}
use Rattle.std.proofs.Common.{is_some, None, List, [], ◌∷◌, ◌++◌, map, refl, ap, sym, ◌∙◌, arith}
use Rattle.std.proofs.lemmas.Bool.{eqb-true}
use Rattle.std.proofs.Math.Nat.{div-add-mod}
use Rattle.std.specs.List.{filter, list_all, list_any}
use Rattle.std.proofs.lemmas.Bool.Decides.{nat_tests}
use Rattle.std.proofs.lemmas.List.Folds.{list_all-append, list_any-append}
use Rattle.iofd_steps.specs.After.{changed, mapped_area, memory_object, settle}
use Rattle.iofd_steps.specs.Answers.{Answers}
use Rattle.iofd_words.specs.Areas.{with_area, with_phase}
use Rattle.iofd_refusals.specs.Checks.{lacks_attached_page, refusal}
use Rattle.iofd_rows.specs.Pinned.{ArePinned, has_object, have_own_numbers}
use Rattle.iofd_rows.specs.AccessPins.{are_in_spaces}
use Rattle.iofd_words.specs.Pins.{are_present, frame_now, is_page, page_of_pin, pinned_frame, is_accessed, ObjectPage}
use Rattle.iofd_words.specs.Settings.{Settings}
use Rattle.iofd_words.specs.Span.{size_of, span_from}
use Rattle.iofd_words.specs.Tables.{with_tables}
use Rattle.iofd_words.specs.View.{view}
use Rattle.iofd_words.specs.World.{World, opening}
use Rattle.iofd_words.specs.declared.event.Event.{Event}
use Rattle.iofd_words.specs.declared.event.MapRequest.{MapRequest}
use Rattle.iofd_words.specs.declared.numbers.FileNo.{FileNo}
use Rattle.iofd_words.specs.declared.numbers.FrameNo.{FrameNo}
use Rattle.iofd_words.specs.declared.numbers.Iova.{Iova}
use Rattle.iofd_words.specs.declared.numbers.ObjId.{ObjId}
use Rattle.iofd_words.specs.declared.numbers.UserNo.{UserNo}
use Rattle.iofd_words.specs.declared.reply.Reply.{Reply}
use Rattle.iofd_words.specs.declared.rows.Area.{Area}
use Rattle.iofd_words.specs.declared.rows.MemoryObject.{MemoryObject}
use Rattle.iofd_words.specs.declared.rows.Object.{Object}
use Rattle.iofd_words.specs.declared.rows.ObjectKind.TheVariants as kind
use Rattle.iofd_words.specs.declared.rows.Phase.{Phase}
use Rattle.iofd_words.specs.declared.rows.Pin.{Pin}
use Rattle.iofd_words.specs.declared.width.Width.{Width}
use Rattle.iofd_runs.proofs.AttachedPages.{table_present, with_table}
use Rattle.iofd_rows.proofs.Bools.{and_true, both_true, not_false, not_true}
use Rattle.iofd_rows.proofs.Each.{IsIn, in_filter, of_all, of_any, of_each, area_added}
use Rattle.iofd_rows.proofs.Found.{all_filter, all_map, all_weaker}
use Rattle.iofd_rows.proofs.ListTests.{any-filter, any_weaker, none_stronger, or_right}
use Rattle.iofd_rows.proofs.ObjectPages.{pinned_differ, is_listed, listed_fewer}
use Rattle.iofd_rows.proofs.OnePin.{settled_once}
use Rattle.iofd_rows.proofs.OwnMemory.{all-with_area, areas-filter, areas-map, areas-with_area, areas_still, have_areas}
use Rattle.iofd_rows.proofs.PageLists.{all_pages, at_page, kept_page}
use Rattle.iofd_rows.proofs.PinsFollow.{settled_only, settled_pinned}
use Rattle.iofd_runs.proofs.PagesToPin.{ArePresent, PagesAlike, moved_new, pages_in, AccessedAlike, pages_alike}
use Rattle.iofd_runs.proofs.Moves.{AreasMove, FewerAreas, MemoryUnder, NewMemory, OneArea, OtherPhases, PinsMove}
use Rattle.iofd_runs.proofs.Moves.{AccessPinsMove, LessAccessPin, OneAccessPin, SameAccessPins, SameAreas, SamePins}
use Rattle.iofd_runs.proofs.Moves.{Settled, SharedMemory, changed_moves}
use Rattle.iofd_runs.proofs.AccessPins.{held_pins_fewer, held_pins_more}
use Rattle.iofd_runs.proofs.HoldersStay.{AccessesStay, more_accesses}
use Rattle.iofd_runs.proofs.NotRefused.{PlacePassed}
use Rattle.iofd_runs.proofs.Accessed.{EachHeld, accessed_fewer, accessed_more, accessed_objects}
use Rattle.iofd_runs.proofs.Accessed.{accessed_phases, are_held}
use Rattle.iofd_runs.proofs.Accessed.{each_held, held_fewer, held_more, held_objects, held_phases, of_areas}
use Rattle.iofd_words.specs.Objects.{is_fresh, with_object}
use Rattle.iofd_words.specs.Pages.{is_whole}

pub opening_pinned : (settings : Settings) → ArePinned 0 (opening settings)
opening_pinned settings =
    record {
      numbers = refl;
      made = refl;
      sizes = refl;
      used = refl;
      pinned = refl;
      only = refl;
      once = refl;
      held = tt;
      spaces = refl;
    }

later_than : (m at : ℕ) → ltb m at ≡ true → ltb m (at + 1) ≡ true
later_than m at is = grind (arith, nat_tests)

pub later_pinned : (at : ℕ) (w : World) → ArePinned at w → ArePinned (at + 1) w
later_pinned at w p = record {
  numbers = p.numbers;
  made = all_weaker (λ (m : MemoryObject). ltb m.number at) (λ (m : MemoryObject). ltb m.number (at + 1)) w.memory
      (λ m is. later_than m.number at is) p.made;
  sizes = p.sizes;
  used = p.used;
  pinned = p.pinned;
  only = p.only;
  once = p.once;
  held = p.held;
  spaces = p.spaces;
}

-- ---- memory objects and areas

-- the rows of memory objects and areas fit
record Fits (at : ℕ) (areas : List Area) (memory : List MemoryObject) : Type 0 where
  numbers : have_own_numbers memory ≡ true
  made : list_all (λ (m : MemoryObject). ltb m.number at) memory ≡ true
  sizes : list_all (has_object memory) areas ≡ true
  used : have_areas areas memory ≡ true

sizes-map : (memory : List MemoryObject) (phase : Area → Phase) (areas : List Area)
    → list_all (has_object memory) areas ≡ true
    → list_all (has_object memory) (map (λ (a : Area). with_phase (phase a) a) areas) ≡ true
sizes-map memory phase areas sizes =
    all_map (has_object memory) (has_object memory) (λ (a : Area). with_phase (phase a) a) areas (λ a is. is) sizes

numbers-more : (at : ℕ) (memory : List MemoryObject) (m : MemoryObject) → m.number ≡ at
    → list_all (λ (o : MemoryObject). ltb o.number at) memory ≡ true → have_own_numbers memory ≡ true
    → have_own_numbers (memory ++ m ∷ []) ≡ true
numbers-more at [] m is made own = refl
numbers-more at (o ∷ memory) m is made own =
    let parts = and_true (ltb o.number at) (list_all (λ (o : MemoryObject). ltb o.number at) memory) made in
    let owns =
    and_true (not (list_any (λ (x : MemoryObject). eqb x.number o.number) memory)) (have_own_numbers memory) own in
    let unlike : eqb m.number o.number ≡ false = grind (arith, nat_tests) in
    let none = list_any-append (λ (x : MemoryObject). eqb x.number o.number) memory (m ∷ [])
    ∙ rw (not_true _ owns.0, unlike) refl in
    both_true _ _ (not_false _ none) (numbers-more at memory m is parts.1 owns.1)

numbers-filter : (q : MemoryObject → Bool) (memory : List MemoryObject) → have_own_numbers memory ≡ true
    → have_own_numbers (filter q memory) ≡ true
numbers-filter q [] own = refl
numbers-filter q (m ∷ memory) own =
    let owns =
    and_true (not (list_any (λ (o : MemoryObject). eqb o.number m.number) memory)) (have_own_numbers memory) own in
    kept (q m)
    (any-filter (λ (o : MemoryObject). eqb o.number m.number) q memory
    ∙ none_stronger (λ (o : MemoryObject). q o && eqb o.number m.number)
    (λ (o : MemoryObject). eqb o.number m.number) memory
    (λ o both. (and_true (q o) (eqb o.number m.number) both).1) (not_true _ owns.0))
    (numbers-filter q memory owns.1)
  where
    kept : (b : Bool) → list_any (λ (o : MemoryObject). eqb o.number m.number) (filter q memory) ≡ false
        → have_own_numbers (filter q memory) ≡ true
        → have_own_numbers (cond b (m ∷ filter q memory) (filter q memory)) ≡ true
    kept true none rest = both_true _ _ (not_false _ none) rest
    kept false none rest = rest

-- an area has its object among more
object_more : (memory : List MemoryObject) (m : MemoryObject) (area : Area) → has_object memory area ≡ true
    → has_object (memory ++ m ∷ []) area ≡ true
object_more memory m area has = list_any-append (λ (o : MemoryObject). eqb o.number area.memory
    && eqb (o.count * 4096) (size_of area.span)) memory (m ∷ []) ∙ rw has refl

-- the memory object that a MAP makes has the new area's size
new_object : (at : ℕ) (memory : List MemoryObject) (user : UserNo) (file : FileNo) (request : MapRequest) (iova : Iova)
    → eqb request.length 0 ≡ false → is_whole request.length ≡ true
    → has_object (memory ++ memory_object at user request ∷ []) (mapped_area at file request iova) ≡ true
new_object at memory user file request iova some whole =
    list_any-append is_its memory (memory_object at user request ∷ [])
    ∙ or_right (list_any is_its memory) _ (rw (eqb_same at, size) refl)
  where
    is_its : MemoryObject → Bool
    is_its o = eqb o.number at && eqb (o.count * 4096) (size_of (span_from iova.0 request.length))

    eqb_same : (n : ℕ) → eqb n n ≡ true
    eqb_same n = grind (arith, nat_tests)

    size : eqb (request.length / 4096 * 4096) (size_of (span_from iova.0 request.length)) ≡ true
    size =
        let above : 0 < request.length = search (some, arith, nat_tests) in
        let rest : request.length % 4096 ≡ 0 = eqb-true (request.length % 4096) 0 whole in
        let parts = div-add-mod request.length 4096 in
        let same : request.length / 4096 * 4096 ≡ iova.0 + request.length - 1 + 1 - iova.0 =
        omega (arith, above, rest, parts) in
        rw same (eqb_same (iova.0 + request.length - 1 + 1 - iova.0))

-- an area that stays keeps its object
object_left : (w : World) (goes : Area → Bool) (a : Area) → IsIn w.areas a → not (goes a) ≡ true
    → has_object w.memory a ≡ true
    → has_object (filter (λ m. list_any (λ (a : Area). eqb a.memory m.number && not (goes a)) w.areas) w.memory)
    a ≡ true
object_left w goes a within keeps has =
    any-filter is_its stays w.memory
    ∙ any_weaker is_its (λ (m : MemoryObject). stays m && is_its m) w.memory
    (λ m both. both_true _ _ (of_any (λ (x : Area). eqb x.memory m.number && not (goes x)) w.areas a within
    (both_true _ _ (flipped m.number a.memory
    (and_true (eqb m.number a.memory) (eqb (m.count * 4096) (size_of a.span)) both).0) keeps)) both) has
  where
    is_its : MemoryObject → Bool
    is_its m = eqb m.number a.memory && eqb (m.count * 4096) (size_of a.span)

    stays : MemoryObject → Bool
    stays m = list_any (λ (a : Area). eqb a.memory m.number && not (goes a)) w.areas

    flipped : (x y : ℕ) → eqb x y ≡ true → eqb y x ≡ true
    flipped x y is = grind (arith, nat_tests)

module _ {A : Type 0} (at : ℕ) (w : World) (e : Event A) (none : refusal w e ≡ None) (p : ArePinned at w) where
  -- with one more area
  one_fits : (file : FileNo) (request : MapRequest) (iova : Iova) (number : ℕ) (memory : List MemoryObject)
      → PlacePassed (view w) file request → MemoryUnder at w e file request iova number memory
      → Fits (at + 1) (with_area (mapped_area number file request iova) w.areas) memory
  one_fits file request iova number memory passed (NewMemory user known short is more) =
      let area = mapped_area at file request iova in
      let object = memory_object at user request in
      rw (is, more) (record {
        numbers = numbers-more at w.memory object refl p.made p.numbers;
        made = list_all-append (λ (m : MemoryObject). ltb m.number (at + 1)) w.memory (object ∷ [])
            ∙ both_true _ _ (later_pinned at w p).made (both_true _ _ (just_made at) refl);
        sizes = all-with_area (has_object (w.memory ++ object ∷ [])) area w.areas
            (new_object at w.memory user file request iova passed.some passed.whole)
            (all_weaker (has_object w.memory) (has_object (w.memory ++ object ∷ [])) w.areas
            (λ a has. object_more w.memory object a has) p.sizes);
        used = areas-with_area area w.areas w.memory object (eqb_same at) p.used;
      })
    where
      just_made : (n : ℕ) → ltb n (n + 1) ≡ true
      just_made n = grind (arith, nat_tests)

      eqb_same : (n : ℕ) → eqb n n ≡ true
      eqb_same n = grind (arith, nat_tests)
  one_fits file request iova number memory passed (SharedMemory source within of_file size is same) =
      let area = mapped_area source.memory file request iova in
      rw (← is, same) (record {
        numbers = p.numbers;
        made = (later_pinned at w p).made;
        sizes = all-with_area (has_object w.memory) area w.areas
            (ap (λ (size : ℕ). list_any (λ (m : MemoryObject). eqb m.number source.memory
            && eqb (m.count * 4096) size) w.memory) (sym (size none))
            ∙ of_each (has_object w.memory) w.areas source p.sizes within) p.sizes;
        used = areas_still area w.areas w.memory p.used;
      })

  rows_fit : (answer : Reply) (new : World) → AreasMove at w e answer new → Fits (at + 1) new.areas new.memory
  rows_fit answer new (SameAreas is same) =
      let q = later_pinned at w p in
      rw (is, same) (record { numbers = q.numbers; made = q.made; sizes = q.sizes; used = q.used })
  rows_fit answer new (FewerAreas goes by is left free) =
      rw (is, left) (record {
        numbers = numbers-filter _ w.memory p.numbers;
        made = all_filter (λ (m : MemoryObject). ltb m.number (at + 1)) _ w.memory (later_pinned at w p).made;
        sizes = of_all (has_object _) (filter (λ (a : Area). not (goes a)) w.areas) (λ a among.
            let parts = in_filter (λ (a : Area). not (goes a)) w.areas a among in
            object_left w goes a parts.0 parts.1 (of_each (has_object w.memory) w.areas a p.sizes parts.0));
        used = areas-filter goes w.areas w.memory;
      })
  rows_fit answer new (OtherPhases phase lives is same) =
      rw (is, same) (record {
        numbers = p.numbers;
        made = (later_pinned at w p).made;
        sizes = sizes-map w.memory phase w.areas p.sizes;
        used = areas-map phase w.areas w.memory p.used;
      })
  rows_fit answer new (OneArea number file request iova passed lies makes alike is under) =
      rw is (one_fits file request iova number new.memory (passed none) under)

-- ---- access pins

-- what an event leaves of access pins: they are held, by access objects that are attached to address spaces, and cover
-- the pages that they would have covered before it
pub record AccessesKept (w new : World) : Type 0 where
  pub held : EachHeld new.objects new.areas new.access_pins
  pub accessed : AccessedAlike w new
  pub spaces : are_in_spaces new.objects ≡ true

module _ {A : Type 0} (at : ℕ) (w : World) (e : Event A) (answer : Reply) (none : refusal w e ≡ None)
    (answers : Answers w e answer) (p : ArePinned at w) where
  -- with the areas that it leaves, and the objects that stood
  record AreasKept (new : World) : Type 0 where
    held : EachHeld w.objects new.areas w.access_pins
    accessed : (page : ObjectPage) → is_listed new.memory page ≡ true
        → is_accessed w.objects new.areas w.access_pins page ≡ is_accessed w.objects w.areas w.access_pins page

  each : EachHeld w.objects w.areas w.access_pins
  each = each_held w.objects w.areas w.access_pins p.held

  areas_kept : (new : World) → Fits (at + 1) new.areas new.memory → AreasMove at w e answer new → AreasKept new
  areas_kept new fits (SameAreas is same) = record { held = rw is each; accessed = λ page listed. rw is refl }
  areas_kept new fits (FewerAreas goes by is left free) =
      let gone = free none answers each in
      record {
        held = rw is (held_fewer w.objects goes w.areas w.access_pins gone each);
        accessed = λ page listed.
            rw is (accessed_fewer w.objects goes w.areas w.access_pins page
            (of_areas w.memory w.areas page p.numbers p.sizes
            (listed_fewer _ w.memory page (rw left at listed))) gone);
      }
  areas_kept new fits (OtherPhases phase lives is same) = record {
    held = rw is (held_phases w.objects phase w.areas w.access_pins each);
    accessed = λ page listed. rw is (accessed_phases w.objects phase w.areas w.access_pins page);
  }
  areas_kept new fits (OneArea number file request iova passed lies makes alike is under) =
      let area = mapped_area number file request iova in
      record {
        held = rw is (held_more w.objects area w.areas w.access_pins each);
        accessed = λ page listed.
            rw is (accessed_more w.objects area w.areas w.access_pins page each
            (λ same. of_areas new.memory new.areas page fits.numbers fits.sizes listed area
            (rw is (area_added area w.areas)) same) (lies none answers).apart);
      }

  by_accesses : (new : World) → AreasKept new → AccessesStay w.objects new.objects w.access_pins
      → AccessPinsMove w e new → AccessesKept w new
  by_accesses new kept stay (SameAccessPins is) =
      record {
        held = rw is (held_objects w.objects new.objects new.areas w.access_pins stay.holders kept.held);
        accessed = λ page listed.
            rw is (accessed_objects w.objects new.objects new.areas w.access_pins page stay.holders kept.held
            ∙ kept.accessed page listed);
        spaces = stay.spaces p.spaces;
      }
  by_accesses new kept stay (OneAccessPin pin makes same admitted is) =
      record {
        held = rw (is, same.objects, same.areas)
            (held_pins_more w.objects w.areas w.access_pins pin each ((admitted none).held p.spaces));
        accessed = λ page listed. rw (same.objects, same.areas) refl;
        spaces = stay.spaces p.spaces;
      }
  by_accesses new kept stay (LessAccessPin pin takes same held is) =
      record {
        held = rw (is, same.objects, same.areas) (held_pins_fewer w.objects w.areas w.access_pins pin each);
        accessed = λ page listed. rw (same.objects, same.areas) refl;
        spaces = stay.spaces p.spaces;
      }

  pub accesses_kept : AccessesKept w (changed at w e answer)
  accesses_kept =
      let m = changed_moves at w e answer in
      by_accesses (changed at w e answer)
      (areas_kept (changed at w e answer) (rows_fit at w e none p answer (changed at w e answer) m.areas) m.areas)
      (m.holders none answers) m.accesses

-- ---- pins

-- where no pin comes or goes
same_pinned : (at : ℕ) (w new : World) → Fits (at + 1) new.areas new.memory → PagesAlike w new → AccessesKept w new
    → new.pins ≡ w.pins → ArePinned at w → ArePinned (at + 1) new
same_pinned at w new fits same kept is p =
    record {
      numbers = fits.numbers;
      made = fits.made;
      sizes = fits.sizes;
      used = fits.used;
      pinned = rw is (all_pages (λ page. is_some (pinned_frame w.pins page)) (pages_in new)
          (λ page within. at_page (λ page. is_some (pinned_frame w.pins page)) (pages_in w) page p.pinned
          (sym (same page) ∙ within)));
      only = rw is (all_weaker (λ (pin : Pin). list_any (is_page (page_of_pin pin)) (pages_in w))
          (λ (pin : Pin). list_any (is_page (page_of_pin pin)) (pages_in new))
          w.pins (λ pin within. same (page_of_pin pin) ∙ within) p.only);
      once = rw is p.once;
      held = are_held new.objects new.areas new.access_pins kept.held;
      spaces = kept.spaces;
    }

-- where they follow
settle_pinned : (at : ℕ) (w new : World) → Fits (at + 1) new.areas new.memory → ArePresent w new
    → AccessesKept w new → new.pins ≡ (settle w new).pins → ArePinned at w → ArePinned (at + 1) new
unfolding settle
settle_pinned at w new fits present kept is p = record {
  numbers = fits.numbers;
  made = fits.made;
  sizes = fits.sizes;
  used = fits.used;
  pinned = rw is (settled_pinned (pages_in w) (pages_in new) new.memory new.user_pages w.pins p.pinned all_present);
  only = rw is (settled_only (pages_in w) (pages_in new) new.memory new.user_pages w.pins);
  once = rw is (settled_once (pages_in w) (pages_in new) new.memory new.user_pages w.pins p.once p.only
      (pinned_differ new.objects new.areas new.memory new.access_pins fits.numbers) all_present);
  held = are_held new.objects new.areas new.access_pins kept.held;
  spaces = kept.spaces;
}
  where
    all_present : are_present (frame_now new.memory new.user_pages)
        (filter (λ page. not (list_any (is_page page) (pages_in w))) (pages_in new)) ≡ true
    all_present =
        all_pages (λ page. is_some (frame_now new.memory new.user_pages page))
        (filter (λ page. not (list_any (is_page page) (pages_in w))) (pages_in new))
        (λ page within. let parts = kept_page (λ page. not (list_any (is_page page) (pages_in w))) (pages_in new) page
        within in present page parts.0 (not_true _ parts.1))

-- a page table comes over an address space: the pages that it adds are there
pub table_pinned : (at : ℕ) (w : World) (file : FileNo) (ioas id : ObjId) (width : Width) (automatic : Bool)
    → lacks_attached_page (view w) file ioas ≡ false → is_fresh w.objects file id ≡ true → ArePinned at w
    → ArePinned (at + 1) (settle w (record w { objects = with_table file ioas id width automatic w.objects }))
unfolding settle
table_pinned at w file ioas id width automatic lacks fresh p =
    let table : Object = record { file = file; id = id; kind = kind.Hwpt ioas width automatic } in
    let new : World = record w { objects = with_object table w.objects } in
    let q = later_pinned at w p in
    let each = each_held w.objects w.areas w.access_pins p.held in
    let stay = more_accesses w table fresh refl in
    let accessed : AccessedAlike w new =
    λ page listed. accessed_objects w.objects new.objects w.areas w.access_pins page stay.holders each in
    settle_pinned at w (settle w new) (record { numbers = q.numbers; made = q.made; sizes = q.sizes; used = q.used })
    (λ page within before. table_present at w file ioas id width automatic page p lacks
    (moved_new w w.areas new.objects page (λ objects number. refl) (accessed page) within before))
    (record {
      held = held_objects w.objects new.objects w.areas w.access_pins stay.holders each;
      accessed = accessed;
      spaces = stay.spaces p.spaces;
    }) refl p

-- ---- every event

pub keeps_pins : {A : Type 0} → (at : ℕ) (w : World) (e : Event A) (answer : Reply) → refusal w e ≡ None
    → Answers w e answer → ArePinned at w → ArePinned (at + 1) (changed at w e answer)
keeps_pins at w e answer none answers p =
    by_move (changed at w e answer) (rows_fit at w e none p answer (changed at w e answer)
    (changed_moves at w e answer).areas) (accesses_kept at w e answer none answers p)
    (changed_moves at w e answer).pins
  where
    by_move : (new : World) → Fits (at + 1) new.areas new.memory → AccessesKept w new → PinsMove at w e new
        → ArePinned (at + 1) new
    by_move new fits kept (SamePins is same) =
        same_pinned at w new fits (pages_alike w new same kept.accessed) kept is p
    by_move new fits kept (Settled is present) = settle_pinned at w new fits (present none p kept.accessed) kept is p

-- the frames of tables are no part of it
pub tabled_pinned : (at : ℕ) (w : World) (taken given : List FrameNo) → ArePinned at w
    → ArePinned at (with_tables taken given w)
unfolding with_tables
tabled_pinned at w taken given p = record {
  numbers = p.numbers;
  made = p.made;
  sizes = p.sizes;
  used = p.used;
  pinned = p.pinned;
  only = p.only;
  once = p.once;
  held = p.held;
  spaces = p.spaces;
}
