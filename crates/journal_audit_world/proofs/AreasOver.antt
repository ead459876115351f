-- Numbers of memory objects, gathered area by area.
use Rattle.std.proofs.Common.{◌≡◌, ◌<◌, ℕ, ◌+◌, Bool, true, false, ◌&&◌, ◌||◌, not, eqb, List, [], ◌∷◌, length}
use Rattle.std.proofs.Common.{get_or, drop, refl, sym, ap, ◌∙◌}
use Rattle.std.proofs.lemmas.Bool.{eqb-true}
use Rattle.std.proofs.lemmas.List.{drop_more}
use Rattle.std.specs.List.{filter, list_all, list_any}
use Rattle.iofd_rows.proofs.Bools.{and_true, both_true}
use Rattle.iofd_rows.proofs.Found.{all_weaker}
use Rattle.iofd_rows.proofs.ListTests.{any-filter, any_apart, or_left, or_right}
use Rattle.iofd_rows.proofs.ObjectPages.{has_page, is_listed, listed_is}
use Rattle.iofd_words.specs.Pins.{ObjectPage}
use Rattle.iofd_words.specs.declared.rows.Area.{Area}
use Rattle.iofd_words.specs.declared.rows.MemoryObject.{MemoryObject}
use Rattle.journal_audit_world.specs.Keys.{has_number}
use Rattle.journal_audit_world.specs.Over.{is_over}

-- ---- one area after the other

pub row_over : (test : Area → Bool) (areas : List Area) (total : ℕ → Bool) (old new : List ℕ) (i : ℕ) (area : Area)
    (b : Bool) → i < length areas → area ≡ get_or areas i area → b ≡ test area
    → ((n : ℕ) → has_number new n ≡ (has_number old n || (b && eqb area.memory n)))
    → ((n : ℕ) → (has_number old n || is_over test (drop i areas) n) ≡ total n)
    → (n : ℕ) → (has_number new n || is_over test (drop (i + 1) areas) n) ≡ total n
row_over test areas total old new i area b within is tests more before n =
    ap (λ c. c || is_over test (drop (i + 1) areas) n) (more n)
    ∙ ap (λ c. (has_number old n || (c && eqb area.memory n)) || is_over test (drop (i + 1) areas) n) tests
    ∙ tidy (has_number old n) (test area && eqb area.memory n) (is_over test (drop (i + 1) areas) n)
    ∙ ap (λ (a : Area). has_number old n || is_over test (a ∷ drop (i + 1) areas) n) is
    ∙ ap (λ rows. has_number old n || is_over test rows n) (sym (drop_more areas i area within))
    ∙ before n
  where
    tidy : (a b c : Bool) → ((a || b) || c) ≡ (a || (b || c))
    tidy true b c = refl
    tidy false b c = refl

pub none_over_yet : (test : Area → Bool) (areas : List Area) (keys : List ℕ) → keys ≡ [] → (n : ℕ)
    → (has_number keys n || is_over test areas n) ≡ is_over test areas n
none_over_yet test areas keys none n = ap (λ ks. has_number ks n || is_over test areas n) none

-- ---- areas that go, and those that are left

-- a row that passes goes or is left
pub goes_or_left : (goes p : Area → Bool) (areas : List Area) → list_any p areas ≡ true
    → list_any (λ area. goes area && p area) areas ≡ false
    → list_any p (filter (λ area. not (goes area)) areas) ≡ true
goes_or_left goes p areas some none =
    any-filter p (λ area. not (goes area)) areas
    ∙ any_apart p (λ area. goes area && p area) (λ area. not (goes area) && p area) areas
    (λ area passes fails. stays (goes area) (p area) passes fails) some none
  where
    stays : (g q : Bool) → q ≡ true → (g && q) ≡ false → (not g && q) ≡ true
    stays true q is fails = let never : true ≡ false = sym is ∙ fails in cc
    stays false q is fails = is

-- a memory object that an area was over is one of those asked for, or an area is over it still
pub used_or_asked : (goes : Area → Bool) (areas left : List Area) (memory : List MemoryObject) (asked : List ℕ)
    → ((n : ℕ) → is_over goes areas n ≡ true → has_number asked n ≡ true)
    → left ≡ filter (λ area. not (goes area)) areas
    → list_all (λ m. list_any (λ (area : Area). eqb area.memory m.number) areas) memory ≡ true
    → list_all (λ m. has_number asked m.number || list_any (λ (area : Area). eqb area.memory m.number) left) memory
    ≡ true
used_or_asked goes areas left memory asked over is used =
    all_weaker (λ m. list_any (λ (area : Area). eqb area.memory m.number) areas)
    (λ m. has_number asked m.number || list_any (λ (area : Area). eqb area.memory m.number) left) memory
    (λ m some. here m some (is_over goes areas m.number) refl) used
  where
    here : (m : MemoryObject) → list_any (λ (area : Area). eqb area.memory m.number) areas ≡ true → (b : Bool)
        → is_over goes areas m.number ≡ b
        → (has_number asked m.number || list_any (λ (area : Area). eqb area.memory m.number) left) ≡ true
    here m some true goes_one = or_left _ _ (over m.number goes_one)
    here m some false goes_none = or_right (has_number asked m.number) _
        (ap (λ (rows : List Area). list_any (λ (area : Area). eqb area.memory m.number) rows) is
        ∙ goes_or_left goes (λ (area : Area). eqb area.memory m.number) areas some goes_none)

-- where no area over its memory object goes, a page is listed still
pub listed_still : (goes : Area → Bool) (areas : List Area) (memory : List MemoryObject) (page : ObjectPage)
    → list_all (λ m. list_any (λ (area : Area). eqb area.memory m.number) areas) memory ≡ true
    → is_over goes areas page.memory ≡ false → is_listed memory page ≡ true
    → is_listed (filter (λ m. list_any (λ area. eqb area.memory m.number && not (goes area)) areas) memory) page ≡ true
listed_still goes areas memory page used none listed =
    listed_is (filter stays memory) page
    ∙ any-filter (has_page page) stays memory
    ∙ kept memory used (sym (listed_is memory page) ∙ listed)
  where
    stays : MemoryObject → Bool
    stays m = list_any (λ (area : Area). eqb area.memory m.number && not (goes area)) areas

    stays_here : (m : MemoryObject) → list_any (λ (area : Area). eqb area.memory m.number) areas ≡ true
        → has_page page m ≡ true → stays m ≡ true
    stays_here m some has =
        let same : page.memory ≡ m.number = eqb-true page.memory m.number (and_true (eqb page.memory m.number) _ has).0 in
        any_apart (λ (area : Area). eqb area.memory m.number) (λ area. goes area && eqb area.memory m.number)
        (λ area. eqb area.memory m.number && not (goes area)) areas
        (λ area passes fails. left (goes area) (eqb area.memory m.number) passes fails) some
        (ap (is_over goes areas) (sym same) ∙ none)
      where
        left : (g q : Bool) → q ≡ true → (g && q) ≡ false → (q && not g) ≡ true
        left true q is fails = let never : true ≡ false = sym is ∙ fails in cc
        left false q is fails = both_true q true is refl

    kept : (rows : List MemoryObject)
        → list_all (λ m. list_any (λ (area : Area). eqb area.memory m.number) areas) rows ≡ true
        → list_any (has_page page) rows ≡ true → list_any (λ m. stays m && has_page page m) rows ≡ true
    kept [] all some = some
    kept (m ∷ rows) all some =
        let parts = and_true (list_any (λ (area : Area). eqb area.memory m.number) areas)
        (list_all (λ m. list_any (λ (area : Area). eqb area.memory m.number) areas) rows) all in
        by_test (has_page page m) refl some parts.0 (kept rows parts.1)
      where
        by_test : (b : Bool) → has_page page m ≡ b → (b || list_any (has_page page) rows) ≡ true
            → list_any (λ (area : Area). eqb area.memory m.number) areas ≡ true
            → (list_any (has_page page) rows ≡ true → list_any (λ m. stays m && has_page page m) rows ≡ true)
            → ((stays m && has_page page m) || list_any (λ m. stays m && has_page page m) rows) ≡ true
        by_test true here is used later = or_left _ _ (both_true _ _ (stays_here m used here) here)
        by_test false not_here is used later = or_right (stays m && has_page page m) _ (later is)
