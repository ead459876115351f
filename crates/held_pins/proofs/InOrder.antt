-- The pages of a set are those that are counted.
use Rattle.std.proofs.Common.{◌≡◌, ℕ, ◌+◌, ◌<◌, Bool, true, false, cond, not, List, refl, sym, ap, ◌∙◌, subst, arith}
use Rattle.std.specs.BTreeMap.{is_at}
use Rattle.std.specs.BTreeMap.Range.{IsLeBy}
use Rattle.std.specs.BTreeSet.{BTreeSet, IsUnchanged, contains}
use Rattle.std.specs.List.{list_any}
use Rattle.std.specs.Prelude.{IfNone, IfSome, None, Option, Some, nat_lt}
use Rattle.std.proofs.lemmas.Bool.Decides.{nat_tests}
use Rattle.held_pins.specs.Counts.{IsFirstFrom, count_in}
use Rattle.held_pins.specs.PageOrder.{AreInOrder, HasCounted, count_exchanged, exchanged, page_cmp}
use Rattle.held_pins.specs.declared.keys.PageKey.{PageKey}
use Rattle.held_pins.proofs.PinKeys.{exchanged_is, same_pages}

abbrev pub Pages : Type 0
Pages = List (PageKey × ℕ)

-- how often each page is counted
abbrev pub Count : Type 0
Count = PageKey → ℕ

-- in the second the page is counted once more
abbrev pub IsOnceMore : Count → Count → PageKey → Type 0
IsOnceMore less more key = (other : PageKey) → more other ≡ less other + cond (is_at (page_cmp key) other) 1 0

abbrev pub IsMore : Pages → Pages → PageKey → Type 0
IsMore less more key = IsOnceMore (count_in page_cmp less) (count_in page_cmp more) key

-- the second set has the page, or hasn't, and else what the first has
abbrev pub Has : BTreeSet PageKey → BTreeSet PageKey → PageKey → Bool → Type 0
Has before after key there =
    (other : PageKey) → contains page_cmp after other
    ≡ cond (is_at (page_cmp key) other) there (contains page_cmp before other)

-- ---- numbers

some_is : (n : ℕ) → 0 < n → nat_lt 0 n ≡ true
some_is n some = grind (arith, nat_tests)

none_is : (n : ℕ) → n ≡ 0 → nat_lt 0 n ≡ false
none_is n none = grind (arith, nat_tests)

is_some : (n : ℕ) → nat_lt 0 n ≡ true → 0 < n
is_some n some = grind (arith, nat_tests)

is_none : (n : ℕ) → nat_lt 0 n ≡ false → n ≡ 0
is_none n none = grind (arith, nat_tests)

pub uncounted : (n : ℕ) → false ≡ nat_lt 0 n → n ≡ 0
uncounted n none = is_none n (sym none)

is_once : (n : ℕ) → 0 < n → true ≡ not (nat_lt 1 n) → n ≡ 1
is_once n some last = grind (arith, nat_tests)

is_often : (n : ℕ) → false ≡ not (nat_lt 1 n) → 1 < n
is_often n more = grind (arith, nat_tests)

-- ---- one set

module _ (count : Count) (key : PageKey) (before : BTreeSet PageKey) (has : HasCounted count before) where
  -- a page that compares alike is counted as often
  same_count : (other : PageKey) → is_at (page_cmp key) other ≡ true → count key ≡ count other
  same_count other is = ap count (same_pages key other is)

  -- a page is counted once more, which was counted
  counted_again : (new : Count) → IsOnceMore count new key → true ≡ nat_lt 0 (count key) → HasCounted new before
  counted_again new more some other = has other ∙ by_test (is_at (page_cmp key) other) refl (more other)
    where
      by_test : (b : Bool) → is_at (page_cmp key) other ≡ b → new other ≡ count other + cond b 1 0
          → nat_lt 0 (count other) ≡ nat_lt 0 (new other)
      by_test true is one =
          let there = is_some (count key) (sym some) in
          let same = same_count other is in
          some_is (count other) (omega (arith, there, same)) ∙ sym (some_is (new other) (omega (arith, one)))
      by_test false is one =
          let same : count other ≡ new other = omega (arith, one) in
          ap (λ n. nat_lt 0 n) same

  -- which wasn't, and the set has it now
  counted_first : (new : Count) → IsOnceMore count new key → (after : BTreeSet PageKey) → Has before after key true
      → HasCounted new after
  counted_first new more after added other = added other ∙ by_test (is_at (page_cmp key) other) (more other)
    where
      by_test : (b : Bool) → new other ≡ count other + cond b 1 0
          → cond b true (contains page_cmp before other) ≡ nat_lt 0 (new other)
      by_test true one = sym (some_is (new other) (omega (arith, one)))
      by_test false one =
          let same : count other ≡ new other = omega (arith, one) in
          has other ∙ ap (λ n. nat_lt 0 n) same

  -- a page that is counted is counted once less, and still
  counted_still : (new : Count) → IsOnceMore new count key → false ≡ not (nat_lt 1 (count key))
      → HasCounted new before
  counted_still new less often other = has other ∙ by_test (is_at (page_cmp key) other) refl (less other)
    where
      by_test : (b : Bool) → is_at (page_cmp key) other ≡ b → count other ≡ new other + cond b 1 0
          → nat_lt 0 (count other) ≡ nat_lt 0 (new other)
      by_test true is one =
          let many = is_often (count key) often in
          let same = same_count other is in
          some_is (count other) (omega (arith, many, same))
          ∙ sym (some_is (new other) (omega (arith, one, many, same)))
      by_test false is one =
          let same : count other ≡ new other = omega (arith, one) in
          ap (λ n. nat_lt 0 n) same

  -- and no more, and the set hasn't it
  counted_last : (new : Count) → IsOnceMore new count key → 0 < count key → true ≡ not (nat_lt 1 (count key))
      → (after : BTreeSet PageKey) → Has before after key false → HasCounted new after
  counted_last new less some last after gone other =
      gone other ∙ by_test (is_at (page_cmp key) other) refl (less other)
    where
      by_test : (b : Bool) → is_at (page_cmp key) other ≡ b → count other ≡ new other + cond b 1 0
          → cond b false (contains page_cmp before other) ≡ nat_lt 0 (new other)
      by_test true is one =
          let once = is_once (count key) some last in
          let same = same_count other is in
          sym (none_is (new other) (omega (arith, one, once, same)))
      by_test false is one =
          let same : count other ≡ new other = omega (arith, one) in
          has other ∙ ap (λ n. nat_lt 0 n) same

  -- a page that isn't counted was added to the set, and taken away again
  undone : count key ≡ 0 → (between after : BTreeSet PageKey) → Has before between key true
      → Has between after key false → HasCounted count after
  undone none between after added gone other =
      gone other
      ∙ ap (λ (b : Bool). cond (is_at (page_cmp key) other) false b) (added other)
      ∙ by_test (is_at (page_cmp key) other) refl
    where
      by_test : (b : Bool) → is_at (page_cmp key) other ≡ b
          → cond b false (cond b true (contains page_cmp before other)) ≡ nat_lt 0 (count other)
      by_test true is =
          let same = same_count other is in
          sym (none_is (count other) (omega (arith, none, same)))
      by_test false is = has other

  -- the set has what it had
  unchanged : (after : BTreeSet PageKey) → IsUnchanged before after → HasCounted count after
  unchanged after same other = ap (λ keys. list_any (is_at (page_cmp other)) keys) same ∙ has other

-- ---- both sets

-- a key is counted once more where it is by the others
more_exchanged : (less more : Pages) (key : PageKey) → IsMore less more key
    → IsOnceMore (count_exchanged less) (count_exchanged more) (exchanged key)
more_exchanged less more key once other =
    once (exchanged other)
    ∙ ap (λ (b : Bool). count_exchanged less other + cond b 1 0) (exchanged_is key other)

module _ (rows : Pages) (key : PageKey) (order others : BTreeSet PageKey) (ordered : AreInOrder rows order others) where
  pub order_again : (new : Pages) → IsMore rows new key → true ≡ nat_lt 0 (count_in page_cmp rows key)
      → AreInOrder new order others
  order_again new more some =
      record {
        keys = counted_again (count_in page_cmp rows) key order ordered.keys (count_in page_cmp new) more some;
        exchanged_keys = counted_again (count_exchanged rows) (exchanged key) others ordered.exchanged_keys
            (count_exchanged new) (more_exchanged rows new key more) some;
      }

  pub order_first : (new : Pages) (after others_after : BTreeSet PageKey) → IsMore rows new key
      → Has order after key true → Has others others_after (exchanged key) true → AreInOrder new after others_after
  order_first new after others_after more added other_added =
      record {
        keys = counted_first (count_in page_cmp rows) key order ordered.keys (count_in page_cmp new) more after added;
        exchanged_keys = counted_first (count_exchanged rows) (exchanged key) others ordered.exchanged_keys
            (count_exchanged new) (more_exchanged rows new key more) others_after other_added;
      }

  pub order_still : (new : Pages) → IsMore new rows key → false ≡ not (nat_lt 1 (count_in page_cmp rows key))
      → AreInOrder new order others
  order_still new less often =
      record {
        keys = counted_still (count_in page_cmp rows) key order ordered.keys (count_in page_cmp new) less often;
        exchanged_keys = counted_still (count_exchanged rows) (exchanged key) others ordered.exchanged_keys
            (count_exchanged new) (more_exchanged new rows key less) often;
      }

  pub order_last : (new : Pages) (after others_after : BTreeSet PageKey) → IsMore new rows key
      → 0 < count_in page_cmp rows key → true ≡ not (nat_lt 1 (count_in page_cmp rows key))
      → Has order after key false → Has others others_after (exchanged key) false → AreInOrder new after others_after
  order_last new after others_after less some last gone other_gone =
      record {
        keys = counted_last (count_in page_cmp rows) key order ordered.keys (count_in page_cmp new) less some last
            after gone;
        exchanged_keys = counted_last (count_exchanged rows) (exchanged key) others ordered.exchanged_keys
            (count_exchanged new) (more_exchanged new rows key less) some last others_after other_gone;
      }

  module _ (none : count_in page_cmp rows key ≡ 0) (between after : BTreeSet PageKey)
      (added : Has order between key true) (gone : Has between after key false) where
    first_undone : HasCounted (count_in page_cmp rows) after
    first_undone =
        undone (count_in page_cmp rows) key order ordered.keys none between after added gone

    -- the page came to the first set and went again, where the second wanted memory
    pub order_undone : (new : Pages) (others_after : BTreeSet PageKey) → new ≡ rows
        → IsUnchanged others others_after → AreInOrder new after others_after
    order_undone new others_after same kept =
        subst (λ (all : Pages). AreInOrder all after others_after) (sym same)
        (record {
          keys = first_undone;
          exchanged_keys = unchanged (count_exchanged rows) (exchanged key) others
              ordered.exchanged_keys others_after kept;
        })

    -- the same of both sets, where the counts did
    pub orders_undone : (new : Pages) (others_between others_after : BTreeSet PageKey) → new ≡ rows
        → Has others others_between (exchanged key) true → Has others_between others_after (exchanged key) false
        → AreInOrder new after others_after
    orders_undone new others_between others_after same other_added other_gone =
        subst (λ (all : Pages). AreInOrder all after others_after) (sym same)
        (record {
          keys = first_undone;
          exchanged_keys = undone (count_exchanged rows) (exchanged key) others
              ordered.exchanged_keys none others_between others_after other_added other_gone;
        })

-- ---- the first from a page on

first_counted : (count : Count) (order : BTreeSet PageKey) (from key : PageKey) → HasCounted count order
    → contains page_cmp order key ≡ true → IsLeBy page_cmp from key
    → ((other : PageKey) → IsLeBy page_cmp from other → contains page_cmp order other ≡ true
    → IsLeBy page_cmp key other)
    → IsFirstFrom page_cmp count from key
first_counted count order from key has there reached least =
    record {
      counted = is_some (count key) (sym (has key) ∙ there);
      reached = reached;
      least = λ other behind some. least other behind (has other ∙ some_is (count other) some);
    }

-- so of the first of the set's pages from one on, where there is one
pub first_answer : (count now : Count) (order : BTreeSet PageKey) (from : PageKey) (answer : Option PageKey)
    → HasCounted count order → count ≡ now → IfSome answer (λ key. contains page_cmp order key ≡ true)
    → IfSome answer (λ key. IsLeBy page_cmp from key)
    → IfSome answer (λ key. (other : PageKey) → IsLeBy page_cmp from other → contains page_cmp order other ≡ true
    → IsLeBy page_cmp key other)
    → IfSome answer (λ key. IsFirstFrom page_cmp now from key)
first_answer count now order from None has same there reached least = tt
first_answer count now order from (Some key) has same there reached least =
    subst (λ (all : Count). IsFirstFrom page_cmp all from key) same
    (first_counted count order from key has there reached least)

pub none_answer : (count now : Count) (order : BTreeSet PageKey) (from : PageKey) (answer : Option PageKey)
    → HasCounted count order → count ≡ now
    → IfNone answer ((other : PageKey) → IsLeBy page_cmp from other → contains page_cmp order other ≡ false)
    → IfNone answer ((other : PageKey) → IsLeBy page_cmp from other → now other ≡ 0)
none_answer count now order from (Some key) has same absent = tt
none_answer count now order from None has same absent =
    subst (λ (all : Count). (other : PageKey) → IsLeBy page_cmp from other → all other ≡ 0) same
    (λ other behind. is_none (count other) (sym (has other) ∙ absent other behind))
