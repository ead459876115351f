-- Where an address leads through a page table, and which area holds it.
use Rattle.std.proofs.Common.{◌≡◌, ℕ, ◌-◌, ◌*◌, ◌/◌, Bool, true, false, cond, ◌&&◌, not, leb, Some, None, List, [], ◌∷◌}
use Rattle.std.proofs.Common.{refl, ap, sym, ◌∙◌, arith}
use Rattle.std.specs.List.{list_all}
use Rattle.std.proofs.lemmas.Bool.Decides.{nat_tests}
use Rattle.iofd_rows.proofs.Bools.{and_true, not_true, or_false}
use Rattle.iofd_runs.specs.Apart.{are_apart}
use Rattle.iofd_runs.specs.Fits.{begins_at_page, is_of_pages}
use Rattle.iofd_words.specs.Areas.{area_at, areas_meet, areas_of, is_of, meets_area}
use Rattle.iofd_words.specs.Bounds.{Bounds}
use Rattle.iofd_words.specs.Pages.{is_whole, page_of}
use Rattle.iofd_words.specs.Pins.{ObjectPage}
use Rattle.iofd_words.specs.Policy.{page_in}
use Rattle.iofd_words.specs.Span.{holds, meets, size_of}
use Rattle.iofd_words.specs.TablePlaces.{is_live}
use Rattle.iofd_words.specs.declared.numbers.FileNo.{FileNo}
use Rattle.iofd_words.specs.declared.numbers.ObjId.{ObjId}
use Rattle.iofd_words.specs.declared.rows.Area.{Area}
use Rattle.server_state.specs.Leads.{live_area_at, object_page}

-- ---- pages of an area

-- a span of whole pages holds an address where it holds the first of its page
pub page_held : (span : Bounds) (n : ℕ) → is_whole span.first ≡ true → is_whole (size_of span) ≡ true
    → holds span (page_of n * 4096) ≡ holds span n
page_held span n first size = grind (arith, nat_tests)

pub page_of_object : (area : Area) (n : ℕ) → is_whole area.span.first ≡ true → holds area.span n ≡ true
    → object_page (page_of n) area ≡ page_in area n
page_of_object area n first held =
    let low = (and_true (leb area.span.first n) (leb n area.span.last) held).0 in
    let index : page_of n - page_of area.span.first ≡ (n - area.span.first) / 4096 = grind (arith, nat_tests) in
    ap (λ (i : ℕ). let page : ObjectPage = record { memory = area.memory; index = i } in page) index

-- ---- areas of one address space

-- the area has whole pages
abbrev pub has_pages : Area → Bool
has_pages area = begins_at_page area && is_of_pages area

held_at_page : (area : Area) (n : ℕ) → has_pages area ≡ true → holds area.span (page_of n * 4096) ≡ holds area.span n
held_at_page area n pages =
    let parts = and_true (begins_at_page area) (is_of_pages area) pages in
    page_held area.span n parts.0 (and_true (is_whole (size_of area.span))
    (leb (size_of area.span) 281474976710656) parts.1).0

-- where none holds the address none leads its page
pub none_live : (n : ℕ) (areas : List Area) → list_all has_pages areas ≡ true → area_at n areas ≡ None
    → live_area_at (page_of n) areas ≡ None
none_live n [] pages none = refl
none_live n (area ∷ areas) pages none =
    let parts = and_true (has_pages area) (list_all has_pages areas) pages in
    by_test (holds area.span n) (held_at_page area n parts.0) none (none_live n areas parts.1)
  where
    off : (b : Bool) → (b && false) ≡ false
    off true = refl
    off false = refl

    by_test : (b : Bool) → holds area.span (page_of n * 4096) ≡ b → cond b (Some area) (area_at n areas) ≡ None
        → (area_at n areas ≡ None → live_area_at (page_of n) areas ≡ None)
        → live_area_at (page_of n) (area ∷ areas) ≡ None
    by_test true held none later = cc
    by_test false held none later = rw (held, off (is_live area.phase)) (later none)

-- where a live one holds the address it leads its page
pub live_found : (n : ℕ) (areas : List Area) (x : Area) → list_all has_pages areas ≡ true → area_at n areas ≡ Some x
    → is_live x.phase ≡ true → live_area_at (page_of n) areas ≡ Some x
live_found n [] x pages found live = cc
live_found n (area ∷ areas) x pages found live =
    let parts = and_true (has_pages area) (list_all has_pages areas) pages in
    by_test (holds area.span n) (held_at_page area n parts.0) found (λ later. live_found n areas x parts.1 later live)
  where
    off : (b : Bool) → (b && false) ≡ false
    off true = refl
    off false = refl

    by_test : (b : Bool) → holds area.span (page_of n * 4096) ≡ b → cond b (Some area) (area_at n areas) ≡ Some x
        → (area_at n areas ≡ Some x → live_area_at (page_of n) areas ≡ Some x)
        → live_area_at (page_of n) (area ∷ areas) ≡ Some x
    by_test true held is later =
        let same : area ≡ x = inside is in
        let here : is_live area.phase ≡ true = ap (λ (a : Area). is_live a.phase) same ∙ live in
        rw (here, held) is
      where
        inside : Some area ≡ Some x → area ≡ x
        inside is = cc
    by_test false held is later = rw (held, off (is_live area.phase)) (later is)

-- what has an address in common with the first holds none of another's
other_lacks : (n : ℕ) (file : FileNo) (ioas : ObjId) (area : Area) (areas : List Area) → holds area.span n ≡ true
    → is_of file ioas area ≡ true → list_all (is_of file ioas) areas ≡ true
    → meets_area areas area.file area.ioas area.span ≡ false → area_at n areas ≡ None
other_lacks n file ioas area [] held of all apart = refl
other_lacks n file ioas area (b ∷ areas) held of all apart =
    let parts = and_true (is_of file ioas b) (list_all (is_of file ioas) areas) all in
    let same : is_of area.file area.ioas b ≡ true = one_space file ioas area b of parts.0 in
    let split = or_false (meets b.span area.span) (areas_meet area.span (areas_of areas area.file area.ioas))
    (sym (ap (λ (c : Bool). areas_meet area.span
    (cond c (b ∷ areas_of areas area.file area.ioas) (areas_of areas area.file area.ioas))) same)
    ∙ apart) in
    let none : holds b.span n ≡ false = lacks b.span area.span n held split.0 in
    rw none (other_lacks n file ioas area areas held of parts.1 split.1)
  where
    one_space : (file : FileNo) (ioas : ObjId) (a b : Area) → is_of file ioas a ≡ true → is_of file ioas b ≡ true
        → is_of a.file a.ioas b ≡ true
    one_space file ioas a b first second = grind (arith, nat_tests)

    lacks : (x y : Bounds) (n : ℕ) → holds y n ≡ true → meets x y ≡ false → holds x n ≡ false
    lacks x y n held apart = grind (arith, nat_tests)

-- where one holds it that is leaving, none leads its page
pub leaving_found : (n : ℕ) (file : FileNo) (ioas : ObjId) (areas : List Area) (x : Area)
    → list_all has_pages areas ≡ true → list_all (is_of file ioas) areas ≡ true → are_apart areas ≡ true
    → area_at n areas ≡ Some x → is_live x.phase ≡ false → live_area_at (page_of n) areas ≡ None
leaving_found n file ioas [] x pages of apart found leaving = cc
leaving_found n file ioas (area ∷ areas) x pages of apart found leaving =
    let parts = and_true (has_pages area) (list_all has_pages areas) pages in
    let ofs = and_true (is_of file ioas area) (list_all (is_of file ioas) areas) of in
    let aparts = and_true (not (meets_area areas area.file area.ioas area.span)) (are_apart areas) apart in
    by_test (holds area.span n) refl (held_at_page area n parts.0) found
    (λ held. none_live n areas parts.1 (other_lacks n file ioas area areas held ofs.0 ofs.1 (not_true _ aparts.0)))
    (λ later. leaving_found n file ioas areas x parts.1 ofs.1 aparts.1 later leaving)
  where
    off : (b : Bool) → (b && false) ≡ false
    off true = refl
    off false = refl

    by_test : (b : Bool) → holds area.span n ≡ b → holds area.span (page_of n * 4096) ≡ holds area.span n
        → cond b (Some area) (area_at n areas) ≡ Some x
        → (holds area.span n ≡ true → live_area_at (page_of n) areas ≡ None)
        → (area_at n areas ≡ Some x → live_area_at (page_of n) areas ≡ None)
        → live_area_at (page_of n) (area ∷ areas) ≡ None
    by_test true held same is first later =
        let here : is_live area.phase ≡ false = ap (λ (a : Area). is_live a.phase) (inside is) ∙ leaving in
        rw here (first held)
      where
        inside : Some area ≡ Some x → area ≡ x
        inside is = cc
    by_test false held same is first later = rw (same ∙ held, off (is_live area.phase)) (later is)
