-- Tables through which a page goes that is mapped or kept.
use Rattle.std.proofs.Common.{◌≡◌, ◌≢◌, ℕ, zero, suc, ◌+◌, ◌-◌, ◌*◌, ◌/◌, ◌%◌, ◌<◌, ◌≤◌, Bool, true, false, cond, eqb}
use Rattle.std.proofs.Common.{ltb, leb, ◌&&◌, ◌||◌, not, Some, None, List, [], ◌∷◌, refl, sym, ◌∙◌, ap, arith, ⊎_elim}
use Rattle.std.specs.Prelude.{is_some}
use Rattle.std.specs.List.{list_any}
use Rattle.std.proofs.lemmas.Bool.{and_from, and_parts, and_right, cases_Bool, cases_eq, eq-eqb, eqb-true, false≢true}
use Rattle.std.proofs.lemmas.Bool.{le-leb, le-ltb, leb-true, lt-ltb, or_left, or_right}
use Rattle.std.proofs.lemmas.Bool.Decides.{nat_tests}
use Rattle.iofd_words.specs.Bounds.{Bounds}
use Rattle.iofd_words.specs.Pages.{page_of}
use Rattle.iofd_words.specs.declared.numbers.FrameNo.{FrameNo}
use Rattle.frame_memory.specs.Pool.{FramePool}
use Rattle.page_table_words.specs.Entries.{entry_at, page_entry, table_entry}
use Rattle.iofd_words.specs.Levels.{index_at, number_at}
use Rattle.page_table_words.specs.Needed.{goes_through}
use Rattle.page_table_words.specs.Pruned.{is_kept, is_used, is_wanted}
use Rattle.page_table_words.specs.Rows.{MappedPage, TableRow, page_at, table_at}
use Rattle.page_table_words.specs.Stands.{Stands}
use Rattle.page_table_words.proofs.Decoded.{table_absent, table_present}
use Rattle.page_table_words.proofs.FramesUnder.{child_entry}
use Rattle.page_table_words.proofs.Lookups.{cases_Option, none_or_some, table_at-same, the_some}
use Rattle.page_table_words.proofs.Numbers.{index_below, number-page, number-up, number-zero}
use Rattle.page_table_words.proofs.RowsUnder.{child_page}
use Rattle.page_table_words.proofs.Tables.{tables_above}

-- ---- some of a list

or_swap : (a b c d : Bool) → ((a || b) || (c || d)) ≡ ((a || c) || (b || d))
or_swap true b c d = refl
or_swap false true true d = refl
or_swap false true false d = refl
or_swap false false c d = refl

module _ {X : Type 0} where
  pub any_then : (p q : X → Bool) (xs : List X) → ((x : X) → p x ≡ true → q x ≡ true) → list_any p xs ≡ true
      → list_any q xs ≡ true
  any_then p q [] each any = absurd (false≢true any)
  any_then p q (x ∷ xs) each any =
      ⊎_elim (λ (it : p x ≡ true). or_left _ _ (each x it))
      (λ (other : p x ≡ false). or_right _ _ (any_then p q xs each (sym (ap (λ (b : Bool). b || list_any p xs) other)
      ∙ any)))
      (cases_Bool (p x))

  any_alike : (p q : X → Bool) (xs : List X) → ((x : X) → p x ≡ q x) → list_any p xs ≡ list_any q xs
  any_alike p q [] each = refl
  any_alike p q (x ∷ xs) each =
      ap (λ (b : Bool). b || list_any p xs) (each x) ∙ ap (λ (b : Bool). q x || b) (any_alike p q xs each)

  any_never : (p : X → Bool) (xs : List X) → ((x : X) → p x ≡ false) → list_any p xs ≡ false
  any_never p [] each = refl
  any_never p (x ∷ xs) each = ap (λ (b : Bool). b || list_any p xs) (each x) ∙ any_never p xs each

  any_or : (p q r : X → Bool) (xs : List X) → ((x : X) → p x ≡ (q x || r x))
      → list_any p xs ≡ (list_any q xs || list_any r xs)
  any_or p q r [] each = refl
  any_or p q r (x ∷ xs) each = ap (λ (b : Bool). b || list_any p xs) (each x)
      ∙ ap (λ (b : Bool). (q x || r x) || b) (any_or p q r xs each)
      ∙ or_swap (q x) (r x) (list_any q xs) (list_any r xs)

-- ---- the levels above

above_le : (more level p q : ℕ) → number_at level p ≤ number_at level q
    → number_at (level + more) p ≤ number_at (level + more) q
above_le zero level p q le = let same : level ≡ level + 0 = omega arith in rw (← same) le
above_le (suc more) level p q le =
    let next : number_at (level + 1) p ≤ number_at (level + 1) q =
    omega (arith, number-up level p, number-up level q, le) in
    let same : level + 1 + more ≡ level + suc more = omega arith in
    rw same at (above_le more (level + 1) p q next)

up_le : (level k p q : ℕ) → level ≤ k → number_at level p ≤ number_at level q → number_at k p ≤ number_at k q
up_le level k p q low le =
    let sum : level + (k - level) ≡ k = omega (arith, low) in rw sum at (above_le (k - level) level p q le)

pub up_same : (level k p q : ℕ) → level ≤ k → number_at level p ≡ number_at level q → number_at k p ≡ number_at k q
up_same level k p q low same =
    omega (arith, up_le level k p q low (omega (arith, same)), up_le level k q p low (omega (arith, same)))

-- what goes through a table goes through those above it
pub wanted_up : (pages : List MappedPage) (kept : List Bounds) (level k page : ℕ) → level ≤ k
    → is_wanted pages kept level (number_at level page) ≡ true → is_wanted pages kept k (number_at k page) ≡ true
wanted_up pages kept level k page low wanted =
    ⊎_elim
    (λ (used : is_used pages level (number_at level page) ≡ true).
    or_left _ _ (any_then (λ (m : MappedPage). eqb (number_at level m.page) (number_at level page))
    (λ (m : MappedPage). eqb (number_at k m.page) (number_at k page)) pages
    (λ m same. eq-eqb _ _ (up_same level k m.page page low (eqb-true _ _ same))) used))
    (λ (unused : is_used pages level (number_at level page) ≡ false).
    or_right _ _ (any_then (goes_through level (number_at level page)) (goes_through k (number_at k page)) kept through
    (sym (ap (λ (b : Bool). b || is_kept kept level (number_at level page)) unused) ∙ wanted)))
    (cases_Bool (is_used pages level (number_at level page)))
  where
    through : (span : Bounds) → goes_through level (number_at level page) span ≡ true
        → goes_through k (number_at k page) span ≡ true
    through span goes =
        let parts = and_parts (leb (number_at level (page_of span.first)) (number_at level page))
        (leb (number_at level page) (number_at level (page_of span.last))) goes in
        and_from _ _ (le-leb _ _ (up_le level k (page_of span.first) page low (leb-true _ _ parts.0)))
        (le-leb _ _ (up_le level k page (page_of span.last) low (leb-true _ _ parts.1)))

-- ---- mapped pages

pub page_used : (pages : List MappedPage) (level n page : ℕ) (to : MappedPage) → page_at pages page ≡ Some to
    → number_at level page ≡ n → is_used pages level n ≡ true
unfolding page_at
page_used [] level n page to is through = none_or_some None to refl is
page_used (m ∷ pages) level n page to is through =
    ⊎_elim (λ (it : eqb m.page page ≡ true). or_left _ _
    (eq-eqb _ _ (ap (number_at level) (eqb-true _ _ it) ∙ through)))
    (λ (other : eqb m.page page ≡ false). or_right _ _
    (page_used pages level n page to (sym (ap (λ (b : Bool). cond b (Some m) (page_at pages page)) other)
    ∙ is) through))
    (cases_Bool (eqb m.page page))

pub used_page : (pages : List MappedPage) (level n : ℕ) → is_used pages level n ≡ true
    → (page : ℕ) × (number_at level page ≡ n) × (is_some (page_at pages page) ≡ true)
unfolding page_at
used_page [] level n used = absurd (false≢true used)
used_page (m ∷ pages) level n used =
    ⊎_elim (λ (it : eqb (number_at level m.page) n ≡ true). (
      m.page,
      eqb-true _ _ it,
      ap (λ (b : Bool). is_some (cond b (Some m) (page_at pages m.page))) (eq-eqb m.page m.page refl),
    ))
    (λ (other : eqb (number_at level m.page) n ≡ false).
    let rest = used_page pages level n (sym (ap (λ (b : Bool). b || is_used pages level n) other) ∙ used) in
    (rest.0, rest.1, still (eqb m.page rest.0) rest.0 rest.2))
    (cases_Bool (eqb (number_at level m.page) n))
  where
    still : (b : Bool) (page : ℕ) → is_some (page_at pages page) ≡ true
        → is_some (cond b (Some m) (page_at pages page)) ≡ true
    still true page some = refl
    still false page some = some

-- through the entries before this one
abbrev pub used_before : List MappedPage → ℕ → ℕ → ℕ → Bool
used_before pages level n i =
    list_any (λ (m : MappedPage). eqb (number_at level m.page) n && ltb (index_at level m.page) i) pages

used_numbers : (a n i : ℕ) → i < 512 → (eqb (a / 512) n && ltb (a % 512) (i + 1))
    ≡ ((eqb (a / 512) n && ltb (a % 512) i) || eqb a (n * 512 + i))
used_numbers a n i small = grind (arith, nat_tests)

pub used_none : (pages : List MappedPage) (level n : ℕ) → used_before pages level n 0 ≡ false
used_none pages level n = any_never (λ (m : MappedPage). eqb (number_at level m.page) n
    && ltb (index_at level m.page) 0) pages (λ m. and_right _ _ (le-ltb (index_at level m.page) 0 (omega arith)))

pub used_all : (pages : List MappedPage) (level n : ℕ) → used_before pages level n 512 ≡ is_used pages level n
used_all pages level n = any_alike (λ (m : MappedPage). eqb (number_at level m.page) n
    && ltb (index_at level m.page) 512) (λ (m : MappedPage). eqb (number_at level m.page) n) pages (λ m. and_true
    (eqb (number_at level m.page) n) _ (lt-ltb _ 512 (index_below level m.page)))
  where
    and_true : (a b : Bool) → b ≡ true → (a && b) ≡ a
    and_true true b is = is
    and_true false b is = refl

pub used_more : (pages : List MappedPage) (level n i : ℕ) → 0 < level → i < 512
    → used_before pages level n (i + 1) ≡ (used_before pages level n i || is_used pages (level - 1) (n * 512 + i))
used_more pages level n i some small =
    any_or (λ (m : MappedPage). eqb (number_at level m.page) n && ltb (index_at level m.page) (i + 1))
    (λ (m : MappedPage). eqb (number_at level m.page) n && ltb (index_at level m.page) i)
    (λ (m : MappedPage). eqb (number_at (level - 1) m.page) (n * 512 + i)) pages
    (λ m. rw (number-next level m.page some) (used_numbers (number_at (level - 1) m.page) n i small))
  where
    number-next : (level page : ℕ) → 0 < level → number_at level page ≡ number_at (level - 1) page / 512
    number-next level page some = let up : level - 1 + 1 ≡ level =
        omega (arith, some) in ap (λ (k : ℕ). number_at k page) (sym up) ∙ number-up (level - 1) page

pub used_some : (pages : List MappedPage) (level n i : ℕ) → 0 < level → i < 512
    → is_used pages (level - 1) (n * 512 + i) ≡ true → is_used pages level n ≡ true
used_some pages level n i some small used =
    any_then (λ (m : MappedPage). eqb (number_at (level - 1) m.page) (n * 512 + i))
    (λ (m : MappedPage). eqb (number_at level m.page) n) pages
    (λ m same. let up : level - 1 + 1 ≡ level = omega (arith, some) in let next = ap (λ (k : ℕ). number_at k m.page)
    (sym up) ∙ number-up (level - 1) m.page in let below = eqb-true _ _ same in eq-eqb _ _
    (omega (arith, next, below, small))) used

-- ---- an entry of a table that stands

module _ (pool : FramePool) (levels : ℕ) (root : FrameNo) (rows : List TableRow) (pages : List MappedPage)
    (stands : Stands pool levels root rows pages) (level page i : ℕ) (table : FrameNo) (some : 0 < level)
    (small : i < 512) (at : table_at rows level page ≡ Some table) where
  -- a page behind the entry goes through the table, by this entry
  module _ (p : ℕ) (behind : number_at (level - 1) p ≡ number_at level page * 512 + i) where
    at_page : table_at rows level p ≡ Some table
    at_page =
        let up : level - 1 + 1 ≡ level = omega (arith, some) in
        let next = ap (λ (k : ℕ). number_at k p) (sym up) ∙ number-up (level - 1) p in
        table_at-same rows level p page (omega (arith, next, behind, small)) ∙ at

    by_entry : index_at level p ≡ i
    by_entry = omega (arith, behind, small)

  pub used_present : is_used pages (level - 1) (number_at level page * 512 + i) ≡ true → entry_at pool table.0 i % 4 ≢ 0
  used_present used absent =
      let found = used_page pages (level - 1) (number_at level page * 512 + i) used in
      let p = found.0 in
      let to = the_some _ found.2 in
      let is : entry_at pool table.0 (index_at level p) ≡ entry_at pool table.0 i =
      ap (entry_at pool table.0) (by_entry p found.1) in
      ⊎_elim
      (λ (one : level ≡ 1).
      let at_one : table_at rows 1 p ≡ Some table = ap (λ (k : ℕ). table_at rows k p) (sym one) ∙ at_page p found.1 in
      let leaf = stands.leaves p table at_one ∙ ap page_entry to.1 in
      let same : entry_at pool table.0 i ≡ entry_at pool table.0 (index_at 1 p) =
      sym is ∙ ap (λ (k : ℕ). entry_at pool table.0 (index_at k p)) one in
      let rights = stands.rights p to.0 to.1 in
      omega (arith, leaf, same, rights.0, rights.1, absent))
      (λ (more : level ≢ 1).
      let last = stands.mapped p to.0 to.1 in
      let sum : 1 + (level - 1 - 1) ≡ level - 1 = omega (arith, some, more) in
      let range = stands.level level page table at in
      let there = rw sum at (tables_above pool levels root rows pages stands (level - 1 - 1) 1 p last
      (omega (arith, sum, range.1))) in
      let next = the_some _ there in
      let named =
      stands.entries level p table (at_page p found.1) (omega (arith, some, more)) ∙ ap table_entry next.1 in
      omega (arith, named, is, absent))
      (cases_eq level 1)

  pub leaf_used : level ≡ 1 → entry_at pool table.0 i % 4 ≢ 0
      → is_used pages (level - 1) (number_at level page * 512 + i) ≡ true
  leaf_used one present =
      let p = number_at level page * 512 + i in
      let itself : number_at (level - 1) p ≡ p =
      ap (λ (k : ℕ). number_at k p) (let last : level - 1 ≡ 0 = omega (arith, one) in last) ∙ number-zero p in
      let at_one : table_at rows 1 p ≡ Some table = ap (λ (k : ℕ). table_at rows k p) (sym one) ∙ at_page p itself in
      let is : entry_at pool table.0 (index_at 1 p) ≡ entry_at pool table.0 i =
      ap (λ (k : ℕ). entry_at pool table.0 (index_at k p)) (sym one)
      ∙ ap (entry_at pool table.0) (by_entry p itself) in
      ⊎_elim (λ (none : page_at pages p ≡ None). let leaf = stands.leaves p table at_one
      ∙ ap page_entry none in absurd (present (omega (arith, leaf, is))))
      (λ (to : (m : MappedPage) × (page_at pages p ≡ Some m)). page_used pages (level - 1) p p to.0 to.1 itself)
      (cases_Option (page_at pages p))

-- ---- the table that an entry names

module _ (pool : FramePool) (levels : ℕ) (root : FrameNo) (rows : List TableRow) (pages : List MappedPage)
    (stands : Stands pool levels root rows pages) (level page i : ℕ) (table : FrameNo) (low : 1 < level)
    (small : i < 512) (at : table_at rows level page ≡ Some table) (entry : ℕ)
    (is : entry ≡ entry_at pool table.0 i) where
  pub child_found : (next : FrameNo) → not (eqb (entry % 4) 0) ≡ true → next.0 ≡ entry / 4096
      → table_at rows (level - 1) (child_page level page i) ≡ Some next
  child_found next present named =
      (table_present (table_at rows (level - 1) (child_page level page i)) entry next (is
      ∙ child_entry pool levels root rows pages stands level page i table low small at) (grind
      (arith, nat_tests)) named).0

  pub child_none : not (eqb (entry % 4) 0) ≡ false → table_at rows (level - 1) (child_page level page i) ≡ None
  child_none absent = table_absent (table_at rows (level - 1) (child_page level page i)) entry (is
      ∙ child_entry pool levels root rows pages stands level page i table low small at) (grind (arith, nat_tests))

pub child_number : (level page i : ℕ) → number_at (level - 1) (child_page level page i) ≡ number_at level page * 512 + i
child_number level page i = number-page (level - 1) (number_at level page * 512 + i)

pub child_place : (level page i number : ℕ) → number ≡ number_at level page
    → 512 * number + i ≡ number_at (level - 1) (child_page level page i)
child_place level page i number is = omega (arith, is, child_number level page i)

-- what the test of such a table tells
module _ (pages : List MappedPage) (kept : List Bounds) (level page i number : ℕ) (answer : Bool)
    (is : number ≡ number_at level page) (tells : answer ≡ not (is_wanted pages kept (level - 1) (512 * number + i)))
  where
    pub unwanted : answer ≡ true → is_wanted pages kept (level - 1)
        (number_at (level - 1) (child_page level page i)) ≡ false
    unwanted idle =
        ap (is_wanted pages kept (level - 1)) (sym (child_place level page i number is)) ∙ not_true _ (sym tells ∙ idle)
      where
        not_true : (b : Bool) → not b ≡ true → b ≡ false
        not_true true never = sym never
        not_true false is_false = refl

    pub wanted : answer ≡ false → is_wanted pages kept (level - 1)
        (number_at (level - 1) (child_page level page i)) ≡ true
    wanted busy =
        ap (is_wanted pages kept (level - 1)) (sym (child_place level page i number is))
        ∙ not_false _ (sym tells ∙ busy)
      where
        not_false : (b : Bool) → not b ≡ false → b ≡ true
        not_false true is_true = refl
        not_false false never = sym never
