-- Pins of memory objects that aren't asked for are of pages that are to be pinned still, where what goes is over those
-- that are.
use Rattle.std.proofs.Common.{◌≡◌, ℕ, Bool, true, false, ◌&&◌, ◌||◌, not, eqb, List, refl, sym, ◌∙◌}
use Rattle.std.specs.List.{filter, list_all, list_any}
use Rattle.iofd_rows.proofs.Bools.{and_true, both_true, not_false}
use Rattle.iofd_rows.proofs.Found.{all_weaker}
use Rattle.iofd_rows.proofs.ListTests.{any-filter, any_apart, any_weaker, or_left, or_right}
use Rattle.iofd_rows.proofs.ObjectPages.{in_pinned, is_listed}
use Rattle.iofd_runs.proofs.PagesToPin.{pages_in}
use Rattle.iofd_words.specs.Objects.{has_hwpt}
use Rattle.iofd_words.specs.Pins.{ObjectPage, is_accessed, is_page, is_pinned, is_translated, page_of_pin}
use Rattle.iofd_words.specs.World.{World}
use Rattle.iofd_words.specs.declared.rows.AccessPin.{AccessPin}
use Rattle.iofd_words.specs.declared.rows.Area.{Area}
use Rattle.iofd_words.specs.declared.rows.Object.{Object}
use Rattle.iofd_words.specs.declared.rows.Pin.{Pin}
use Rattle.journal_audit_world.specs.Keys.{has_number}
use Rattle.journal_audit_world.proofs.AreasOver.{listed_still}
use Rattle.journal_audit_world.specs.Over.{is_over}

-- ---- pages that are to be pinned

pub still_pinned : (w : World) (objects : List Object) (areas : List Area) (access_pins : List AccessPin)
    (asked : List ℕ)
    → ((n : ℕ) → is_translated w.objects w.areas n ≡ true
    → (has_number asked n || is_translated objects areas n) ≡ true)
    → ((page : ObjectPage) → is_listed w.memory page ≡ true
    → is_accessed w.objects w.areas w.access_pins page ≡ true
    → (has_number asked page.memory || is_accessed objects areas access_pins page) ≡ true)
    → list_all (λ pin. list_any (is_page (page_of_pin pin)) (pages_in w)) w.pins ≡ true
    → list_all (λ pin. has_number asked pin.memory || is_pinned objects areas access_pins (page_of_pin pin)) w.pins
    ≡ true
still_pinned w objects areas access_pins asked translated accessed only =
    all_weaker (λ (pin : Pin). list_any (is_page (page_of_pin pin)) (pages_in w))
    (λ (pin : Pin). has_number asked pin.memory || is_pinned objects areas access_pins (page_of_pin pin)) w.pins
    (λ pin inside. here (page_of_pin pin) (and_true (is_listed w.memory (page_of_pin pin))
    (is_pinned w.objects w.areas w.access_pins (page_of_pin pin))
    (sym (in_pinned w.objects w.areas w.memory w.access_pins (page_of_pin pin)) ∙ inside))) only
  where
    joined : (asks t a t' a' : Bool) → (t ≡ true → (asks || t') ≡ true) → (a ≡ true → (asks || a') ≡ true)
        → (t || a) ≡ true → (asks || (t' || a')) ≡ true
    joined true t a t' a' first second is = refl
    joined false true a t' a' first second is = or_left t' a' (first refl)
    joined false false a t' a' first second is = or_right t' a' (second is)

    here : (page : ObjectPage)
        → (is_listed w.memory page ≡ true) × (is_pinned w.objects w.areas w.access_pins page ≡ true)
        → (has_number asked page.memory || is_pinned objects areas access_pins page) ≡ true
    here page parts = joined (has_number asked page.memory) (is_translated w.objects w.areas page.memory)
        (is_accessed w.objects w.areas w.access_pins page) (is_translated objects areas page.memory)
        (is_accessed objects areas access_pins page) (translated page.memory) (accessed page parts.0) parts.1

-- ---- translated ones

-- a translating area that isn't asked for translates still, as one of the areas that are left
some_left : (asks goes : Area → Bool) (objects left : List Object) (areas : List Area) (n : ℕ)
    → ((area : Area) → asks area ≡ false → (goes area ≡ false)
    × (has_hwpt objects area.file area.ioas ≡ true → has_hwpt left area.file area.ioas ≡ true))
    → is_translated objects areas n ≡ true → is_over asks areas n ≡ false
    → list_any (λ area. not (goes area) && (eqb area.memory n && has_hwpt left area.file area.ioas)) areas ≡ true
some_left asks goes objects left areas n keeps is none =
    any_apart (λ (area : Area). eqb area.memory n && has_hwpt objects area.file area.ioas)
    (λ area. asks area && eqb area.memory n)
    (λ area. not (goes area) && (eqb area.memory n && has_hwpt left area.file area.ioas)) areas
    (λ area passes fails. let parts = and_true (eqb area.memory n) (has_hwpt objects area.file area.ioas) passes in
    let here = keeps area (unasked (asks area) (eqb area.memory n) parts.0 fails) in
    both_true _ _ (not_false (goes area) here.0) (both_true _ _ parts.0 (here.1 parts.1))) is none
  where
    unasked : (a b : Bool) → b ≡ true → (a && b) ≡ false → a ≡ false
    unasked true b is fails = let never : true ≡ false = sym is ∙ fails in cc
    unasked false b is fails = refl

-- so a memory object that was translated is asked for, or is translated still
pub translated_left : (asks goes : Area → Bool) (objects left : List Object) (areas : List Area) (asked : List ℕ)
    (n : ℕ) → (is_over asks areas n ≡ true → has_number asked n ≡ true)
    → ((area : Area) → asks area ≡ false → (goes area ≡ false)
    × (has_hwpt objects area.file area.ioas ≡ true → has_hwpt left area.file area.ioas ≡ true))
    → is_translated objects areas n ≡ true
    → (has_number asked n || is_translated left (filter (λ area. not (goes area)) areas) n) ≡ true
translated_left asks goes objects left areas asked n over keeps is = by_test (is_over asks areas n) refl
  where
    by_test : (b : Bool) → is_over asks areas n ≡ b
        → (has_number asked n || is_translated left (filter (λ area. not (goes area)) areas) n) ≡ true
    by_test true some = or_left _ _ (over some)
    by_test false none = or_right (has_number asked n) _
        (any-filter (λ (area : Area). eqb area.memory n && has_hwpt left area.file area.ioas)
        (λ area. not (goes area)) areas
        ∙ some_left asks goes objects left areas n keeps is none)

-- the same where page tables alone go
pub translated_still : (asks : Area → Bool) (objects left : List Object) (areas : List Area) (asked : List ℕ) (n : ℕ)
    → (is_over asks areas n ≡ true → has_number asked n ≡ true)
    → ((area : Area) → asks area ≡ false
    → has_hwpt objects area.file area.ioas ≡ true → has_hwpt left area.file area.ioas ≡ true)
    → is_translated objects areas n ≡ true → (has_number asked n || is_translated left areas n) ≡ true
translated_still asks objects left areas asked n over keeps is = by_test (is_over asks areas n) refl
  where
    by_test : (b : Bool) → is_over asks areas n ≡ b → (has_number asked n || is_translated left areas n) ≡ true
    by_test true some = or_left _ _ (over some)
    by_test false none = or_right (has_number asked n) _
        (any_weaker (λ (area : Area). true && (eqb area.memory n && has_hwpt left area.file area.ioas))
        (λ (area : Area). eqb area.memory n && has_hwpt left area.file area.ioas) areas (λ area both. both)
        (some_left asks (λ area. false) objects left areas n (λ area isnt. (refl, keeps area isnt)) is none))

-- ---- covered ones

-- where the pages of memory objects that are left are covered as they were
pub accessed_left : (goes : Area → Bool) (w : World) (objects : List Object) (areas : List Area) (asked : List ℕ)
    (page : ObjectPage)
    → ((n : ℕ) → is_over goes w.areas n ≡ true → has_number asked n ≡ true)
    → list_all (λ m. list_any (λ (area : Area). eqb area.memory m.number) w.areas) w.memory ≡ true
    → (is_listed (filter (λ m. list_any (λ area. eqb area.memory m.number && not (goes area)) w.areas) w.memory) page
    ≡ true
    → is_accessed objects areas w.access_pins page ≡ is_accessed w.objects w.areas w.access_pins page)
    → is_listed w.memory page ≡ true → is_accessed w.objects w.areas w.access_pins page ≡ true
    → (has_number asked page.memory || is_accessed objects areas w.access_pins page) ≡ true
accessed_left goes w objects areas asked page over used alike listed is = by_test (is_over goes w.areas page.memory) refl
  where
    by_test : (b : Bool) → is_over goes w.areas page.memory ≡ b
        → (has_number asked page.memory || is_accessed objects areas w.access_pins page) ≡ true
    by_test true some = or_left _ _ (over page.memory some)
    by_test false none = or_right (has_number asked page.memory) _
        (alike (listed_still goes w.areas w.memory page used none listed) ∙ is)
