-- Which pages are to be pinned after an event: the same as before it, or others too, which their users have.
use Rattle.std.proofs.Common.{◌≡◌, ℕ, Bool, true, false, ◌&&◌, not, eqb, ltb, is_some, List, [], ◌∷◌, map, refl, ap}
use Rattle.std.proofs.Common.{sym, ◌∙◌, arith, ◌||◌}
use Rattle.std.specs.List.{filter, list_all, list_any}
use Rattle.std.proofs.lemmas.Bool.Decides.{nat_tests}
use Rattle.iofd_words.specs.Areas.{paid, with_phase, all_paid}
use Rattle.iofd_words.specs.Objects.{has_hwpt}
use Rattle.iofd_rows.specs.Pinned.{has_object}
use Rattle.iofd_words.specs.Pins.{ObjectPage, frame_now, is_page, is_translated, pinned_pages, is_accessed, is_pinned}
use Rattle.iofd_words.specs.World.{World}
use Rattle.iofd_words.specs.declared.numbers.FileNo.{FileNo}
use Rattle.iofd_words.specs.declared.numbers.ObjId.{ObjId}
use Rattle.iofd_words.specs.declared.rows.AccessPin.{AccessPin}
use Rattle.iofd_words.specs.declared.rows.Area.{Area}
use Rattle.iofd_words.specs.declared.rows.MemoryObject.{MemoryObject}
use Rattle.iofd_words.specs.declared.rows.Object.{Object}
use Rattle.iofd_words.specs.declared.rows.Phase.{Phase}
use Rattle.iofd_runs.proofs.AttachedPages.{IsNew}
use Rattle.iofd_rows.proofs.Bools.{and_rest, and_true, both_true, clash, or_false}
use Rattle.iofd_rows.proofs.ListTests.{false_else, or_left, or_right}
use Rattle.iofd_rows.proofs.ObjectPages.{in_pinned, is_listed, listed_fewer, translated-map}
use Rattle.iofd_rows.proofs.ObjectPages.{translated_fewer}
use Rattle.iofd_words.specs.declared.numbers.DeviceNo.{DeviceNo}

-- the pages that are to be pinned in a world
abbrev pub pages_in : World → List ObjectPage
pages_in w = pinned_pages w.objects w.areas w.memory w.access_pins

-- ---- the same pages

abbrev pub PagesAlike : World → World → Type 0
PagesAlike w new = (page : ObjectPage) → list_any (is_page page) (pages_in new) ≡ list_any (is_page page) (pages_in w)

-- page tables translate the same memory objects, of the same ones, and access pins are the same
pub record TranslatedAlike (w new : World) : Type 0 where
  pub memory : new.memory ≡ w.memory
  pub accesses : new.access_pins ≡ w.access_pins
  pub same : (number : ℕ) → is_translated new.objects new.areas number ≡ is_translated w.objects w.areas number

-- the access pins of the new world cover the same pages of its memory objects by the objects and areas of both worlds:
-- where other pages are covered, it is by the pins alone
abbrev pub AccessedAlike : World → World → Type 0
AccessedAlike w new = (page : ObjectPage) → is_listed new.memory page ≡ true
    → is_accessed new.objects new.areas new.access_pins page ≡ is_accessed w.objects w.areas new.access_pins page

pub pages_alike : (w new : World) → TranslatedAlike w new → AccessedAlike w new → PagesAlike w new
pages_alike w new translated accessed page =
    in_pinned new.objects new.areas new.memory new.access_pins page
    ∙ by_listed (is_listed new.memory page) refl (ap (λ memory. is_listed memory page) translated.memory)
    ∙ sym (in_pinned w.objects w.areas w.memory w.access_pins page)
  where
    by_listed : (b : Bool) → is_listed new.memory page ≡ b → is_listed new.memory page ≡ is_listed w.memory page
        → (is_listed new.memory page && is_pinned new.objects new.areas new.access_pins page)
        ≡ (is_listed w.memory page && is_pinned w.objects w.areas w.access_pins page)
    by_listed false is same = rw (← same, is) refl
    by_listed true is same = rw (
      ← same,
      is,
      translated.same page.memory,
      accessed page is ∙ ap (λ (pins : List AccessPin). is_accessed w.objects w.areas pins page) translated.accesses,
    ) refl

-- where objects come or go that are no page tables
pub alike_objects : (w : World) (left : List Object)
    → ((file : FileNo) (ioas : ObjId) → has_hwpt left file ioas ≡ has_hwpt w.objects file ioas)
    → TranslatedAlike w (record w { objects = left })
alike_objects w left same = record { memory = refl; accesses = refl; same = translated w.areas }
  where
    translated : (areas : List Area) (n : ℕ) → is_translated left areas n ≡ is_translated w.objects areas n
    translated [] n = refl
    translated (a ∷ areas) n = rw (same a.file a.ioas, translated areas n) refl

-- where areas have other phases
pub alike_phases : (w : World) (phase : Area → Phase)
    → TranslatedAlike w (record w { areas = map (λ (a : Area). with_phase (phase a) a) w.areas })
alike_phases w phase = record { memory = refl; accesses = refl; same = translated-map w.objects phase w.areas }

-- ---- pages that come

-- each page that is to be pinned anew is in its user's memory
abbrev pub ArePresent : World → World → Type 0
ArePresent w new = (page : ObjectPage) → list_any (is_page page) (pages_in new) ≡ true
    → list_any (is_page page) (pages_in w) ≡ false → is_some (frame_now new.memory new.user_pages page) ≡ true

-- the numbers of areas are those of objects
pub none_over : (at : ℕ) (areas : List Area) (memory : List MemoryObject)
    → list_all (λ (m : MemoryObject). ltb m.number at) memory ≡ true → list_all (has_object memory) areas ≡ true
    → list_any (λ (a : Area). eqb a.memory at) areas ≡ false
none_over at [] memory made sizes = refl
none_over at (a ∷ areas) memory made sizes =
    let parts = and_true (has_object memory a) (list_all (has_object memory) areas) sizes in
    rw (unlike, none_over at areas memory made parts.1) refl
  where
    unlike : eqb a.memory at ≡ false
    unlike = false_else (eqb a.memory at) (λ same. clash _ (none memory made same)
        (and_true (has_object memory a) (list_all (has_object memory) areas) sizes).0)
      where
        none : (rows : List MemoryObject) → list_all (λ (m : MemoryObject). ltb m.number at) rows ≡ true
            → eqb a.memory at ≡ true → has_object rows a ≡ false
        none [] made same = refl
        none (m ∷ rows) made same =
            let parts = and_true (ltb m.number at) (list_all (λ (m : MemoryObject). ltb m.number at) rows) made in
            let other : eqb m.number a.memory ≡ false = grind (arith, nat_tests) in
            rw (other, none rows parts.1 same) refl

-- a page of memory objects that there are is covered as in the world, with these objects and areas
abbrev pub CoveredAs : World → List Object → List Area → List MemoryObject → ObjectPage → Type 0
CoveredAs w left areas memory page = is_listed memory page ≡ true
    → is_accessed left areas w.access_pins page ≡ is_accessed w.objects w.areas w.access_pins page

-- areas and objects go: no page comes
pub gone_within : (w : World) (goes : Area → Bool) (left : List Object) (stays : MemoryObject
    → Bool) (page : ObjectPage) → ((file : FileNo) (ioas : ObjId) → has_hwpt left file ioas ≡ true
    → has_hwpt w.objects file ioas ≡ true)
    → CoveredAs w left (filter (λ (a : Area). not (goes a)) w.areas) (filter stays w.memory) page
    → list_any (is_page page) (pinned_pages left (filter (λ (a : Area). not (goes a)) w.areas) (filter stays w.memory)
    w.access_pins) ≡ true → list_any (is_page page) (pages_in w) ≡ true
gone_within w goes left stays page fewer accessed within =
    let parts = and_true (is_listed (filter stays w.memory) page)
    (is_pinned left (filter (λ (a : Area). not (goes a)) w.areas) w.access_pins page)
    (sym (in_pinned left (filter (λ (a : Area). not (goes a)) w.areas) (filter stays w.memory) w.access_pins page)
    ∙ within) in
    in_pinned w.objects w.areas w.memory w.access_pins page
    ∙ both_true _ _ (listed_fewer stays w.memory page parts.0) (either _ _ _ _
    (translated_fewer w.objects left goes w.areas page.memory fewer) (accessed parts.0) parts.1)
  where
    either : (t a u b : Bool) → (t ≡ true → u ≡ true) → a ≡ b → (t || a) ≡ true → (u || b) ≡ true
    either true a u b more same is = or_left u b (more refl)
    either false a u b more same is = or_right u b (sym same ∙ is)

pub none_comes : (w : World) (goes : Area → Bool) (left : List Object) (page : ObjectPage)
    → ((file : FileNo) (ioas : ObjId) → has_hwpt left file ioas ≡ true → has_hwpt w.objects file ioas ≡ true)
    → CoveredAs w left (filter (λ (a : Area). not (goes a)) w.areas)
    (filter (λ m. list_any (λ (a : Area). eqb a.memory m.number && not (goes a)) w.areas) w.memory) page
    → list_any (is_page page) (pinned_pages left (filter (λ (a : Area). not (goes a)) w.areas)
    (filter (λ m. list_any (λ (a : Area). eqb a.memory m.number && not (goes a)) w.areas) w.memory)
    w.access_pins) ≡ true → list_any (is_page page) (pages_in w) ≡ false → ⊥
none_comes w goes left page fewer accessed within before =
    clash _ before (gone_within w goes left _ page fewer accessed within)

-- areas that page tables translate as they do the world's
abbrev pub AlikeAreas : World → List Area → Type 0
AlikeAreas w areas =
    (objects : List Object) (number : ℕ) → is_translated objects areas number ≡ is_translated objects w.areas number

-- page tables come or go: what is to be pinned then, and wasn't, is new
pub moved_new : (w : World) (areas : List Area) (left : List Object) (page : ObjectPage) → AlikeAreas w areas
    → CoveredAs w left areas w.memory page
    → list_any (is_page page) (pinned_pages left areas w.memory w.access_pins) ≡ true
    → list_any (is_page page) (pages_in w) ≡ false → IsNew w left page
moved_new w areas left page alike accessed within before =
    let now = and_true (is_listed w.memory page) (is_pinned left areas w.access_pins page)
    (sym (in_pinned left areas w.memory w.access_pins page) ∙ within) in
    let old = and_rest (is_listed w.memory page) (is_pinned w.objects w.areas w.access_pins page) now.0
    (sym (in_pinned w.objects w.areas w.memory w.access_pins page) ∙ before) in
    (now.0, sym (alike left page.memory) ∙ by_table _ _ _ (or_false _ _ old).1 (accessed now.0) now.1, old)
  where
    by_table : (t a b : Bool) → b ≡ false → a ≡ b → (t || a) ≡ true → t ≡ true
    by_table true a b none same is = refl
    by_table false a b none same is = let never = sym is ∙ same ∙ none in cc

-- the areas with a device's debts paid are such
pub alike_paid : (w : World) (device : DeviceNo) → AlikeAreas w (all_paid device w.areas)
alike_paid w device = λ objects number. translated-map objects (λ a. paid device a.phase) w.areas number
