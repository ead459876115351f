-- Pages of one object as keys, one after the other.
use Rattle.std.proofs.Common.{◌≡◌, ℕ, ◌+◌, ◌≤◌, ◌<◌, Bool, true, false, ◌&&◌, ◌==◌, cond, not, refl, ap, sym}
use Rattle.std.proofs.Common.{◌∙◌, arith}
use Rattle.std.specs.BTreeMap.{is_at}
use Rattle.std.specs.Prelude.{nat_le, nat_lt}
use Rattle.std.proofs.lemmas.Bool.{and_parts}
use Rattle.std.proofs.lemmas.Bool.Decides.{nat_tests}
use Rattle.held_pins.specs.Held.{at_page, exchanged, is_from, page_cmp}
use Rattle.held_pins.specs.declared.keys.PageKey.{PageKey}
use Rattle.held_pins.proofs.PinKeys.{alike_bools, page_test, same_bools}

-- once where it is so
abbrev pub once : Bool → ℕ
once b = cond b 1 0

-- one page more
pub one_further : (first key : PageKey) (page : ℕ) → first.page ≤ page
    → once (is_from first (page + 1) key)
    ≡ once (is_from first page key) + once (is_at (page_cmp (at_page first page)) key)
one_further first key page from =
    rw (page_test (at_page first page) key)
    (by_object (first.file == key.file) (first.object == key.object) (first.access == key.access) alike)
  where
    alike : Bool
    alike = cond first.write key.write (not key.write)

    by_number : (from : ℕ) (n : ℕ) → from ≤ page → once (nat_le from n && nat_lt n (page + 1))
        ≡ once (nat_le from n && nat_lt n page) + once (page == n)
    by_number from n below = grind (arith, nat_tests)

    by_page : (b : Bool) → once (b && true) ≡ once b
    by_page true = refl
    by_page false = refl

    nowhere : (b : Bool) → once false ≡ once false + once (b && false)
    nowhere true = refl
    nowhere false = refl

    by_object : (a b c w : Bool)
        → once (a && b && c && w && (nat_le first.page key.page && nat_lt key.page (page + 1)))
        ≡ once (a && b && c && w && (nat_le first.page key.page && nat_lt key.page page))
        + once (a && (b && ((page == key.page) && (c && w))))
    by_object true true true true =
        by_number first.page key.page from
        ∙ ap (λ n. once (nat_le first.page key.page && nat_lt key.page page) + n) (sym (by_page (page == key.page)))
    by_object true true true false = nowhere (page == key.page)
    by_object true true false w = nowhere (page == key.page)
    by_object true false c w = refl
    by_object false b c w = refl

-- nor is a page below itself
pub not_before : (first : PageKey) (page : ℕ) → is_from first page (at_page first page) ≡ false
not_before first page =
    by_object (first.file == first.file && first.object == first.object && first.access == first.access
    && cond first.write first.write (not first.write))
  where
    by_number : (x n : ℕ) → (nat_le x n && nat_lt n n) ≡ false
    by_number x n = grind (arith, nat_tests)

    by_object : (a : Bool) → (a && (nat_le first.page page && nat_lt page page)) ≡ false
    by_object true = by_number first.page page
    by_object false = refl

pub record IsFrom (first : PageKey) (end : ℕ) (key : PageKey) : Type 0 where
  pub file : first.file ≡ key.file
  pub object : first.object ≡ key.object
  pub access : first.access ≡ key.access
  pub write : first.write ≡ key.write
  pub from : first.page ≤ key.page
  pub below : key.page < end

pub from_test : (first : PageKey) (end : ℕ) (key : PageKey) → is_from first end key ≡ true → IsFrom first end key
from_test first end key is =
    let alike = cond first.write key.write (not key.write) in
    let outer = and_parts (first.file == key.file && first.object == key.object && first.access == key.access
    && alike) (nat_le first.page key.page && nat_lt key.page end) is in
    let uses = and_parts (first.file == key.file && first.object == key.object && first.access == key.access) alike
    outer.0 in
    let objects = and_parts (first.file == key.file && first.object == key.object) (first.access == key.access)
    uses.0 in
    let files = and_parts (first.file == key.file) (first.object == key.object) objects.0 in
    let pages = and_parts (nat_le first.page key.page) (nat_lt key.page end) outer.1 in
    record {
      file = search (files.0, arith, nat_tests);
      object = search (files.1, arith, nat_tests);
      access = search (objects.1, arith, nat_tests);
      write = same_bools first.write key.write uses.1;
      from = search (pages.0, arith, nat_tests);
      below = search (pages.1, arith, nat_tests);
    }

same_number : (x y : ℕ) → x ≡ y → (x == y) ≡ true
same_number x y same = grind (arith, nat_tests)

pub to_test : (first : PageKey) (end : ℕ) (key : PageKey) → IsFrom first end key → is_from first end key ≡ true
to_test first end key is =
    rw (
      same_number first.file key.file is.file,
      same_number first.object key.object is.object,
      same_number first.access key.access is.access,
      alike_bools first.write key.write is.write,
    ) (inside first.page key.page is.from is.below)
  where
    inside : (x n : ℕ) → x ≤ n → n < end → (nat_le x n && nat_lt n end) ≡ true
    inside x n from below = grind (arith, nat_tests)

-- the one at a page is from there on
pub at_from : (first : PageKey) (page end : ℕ) → first.page ≤ page → page < end
    → is_from first end (at_page first page) ≡ true
at_from first page end from below =
    to_test first end (at_page first page)
    (record { file = refl; object = refl; access = refl; write = refl; from = from; below = below })

-- a key with its objects exchanged is from where the other's, exchanged, is
pub from_exchanged : (first : PageKey) (end : ℕ) (key : PageKey)
    → is_from first end (exchanged key) ≡ is_from (exchanged first) end key
from_exchanged first end key =
    ap
    (λ (there : Bool). there && cond first.write key.write (not key.write)
    && (nat_le first.page key.page && nat_lt key.page end))
    (turned (first.file == key.file) (first.object == key.access) (first.access == key.object))
  where
    turned : (f x y : Bool) → (f && x && y) ≡ (f && y && x)
    turned true true true = refl
    turned true true false = refl
    turned true false true = refl
    turned true false false = refl
    turned false x y = refl
