-- The tables that aren't there, in lists of several parts.
use Rattle.std.proofs.Common.{◌≡◌, ◌+◌, Bool, true, false, cond, not, ◌||◌, List, [], ◌∷◌, ◌++◌, length, refl, sym, ◌∙◌}
use Rattle.std.proofs.Common.{ap, arith}
use Rattle.std.specs.List.{AllByRecursion, filter, list_any}
use Rattle.iofd_words.specs.TablePlaces.{TablePlace, is_place, lacking}
use Rattle.page_table_words.proofs.Members.{each_then}

-- among these tables is this one
abbrev pub are_with : List TablePlace → TablePlace → Bool
are_with places other = list_any (λ place. is_place place other) places

-- those that are there, with one more
abbrev pub and_one : (TablePlace → Bool) → TablePlace → TablePlace → Bool
and_one there place other = there other || is_place place other

-- ---- the same tables are there

pub lacking_alike : (t u : TablePlace → Bool) (xs : List TablePlace) → AllByRecursion (λ x. t x ≡ u x) xs
    → lacking t xs ≡ lacking u xs
lacking_alike t u [] all = refl
lacking_alike t u (x ∷ xs) all =
    ap (λ (b : Bool). cond b (lacking t xs) (x ∷ lacking (and_one t x) xs)) all.0
    ∙ ap (λ (ys : List TablePlace). cond (u x) ys (x ∷ lacking (and_one t x) xs)) (lacking_alike t u xs all.1)
    ∙ ap (λ (ys : List TablePlace). cond (u x) (lacking u xs) (x ∷ ys))
    (lacking_alike (and_one t x) (and_one u x) xs
    (each_then (λ y. t y ≡ u y) (λ y. and_one t x y ≡ and_one u x y) xs
    (λ y same. ap (λ (b : Bool). b || is_place x y) same) all.1))

each_of : (P : TablePlace → Type 0) (xs : List TablePlace) → ((x : TablePlace) → P x) → AllByRecursion P xs
each_of P [] each = tt
each_of P (x ∷ xs) each = (each x, each_of P xs each)

pub lacking_same : (t u : TablePlace → Bool) (xs : List TablePlace) → ((x : TablePlace) → t x ≡ u x)
    → lacking t xs ≡ lacking u xs
lacking_same t u xs each = lacking_alike t u xs (each_of (λ x. t x ≡ u x) xs each)

-- ---- two parts

or_nothing : (b : Bool) → b ≡ (b || false)
or_nothing true = refl
or_nothing false = refl

or_later : (a b c : Bool) → ((a || b) || c) ≡ (a || (b || c))
or_later true b c = refl
or_later false b c = refl

pub lacking_append : (t : TablePlace → Bool) (xs ys : List TablePlace)
    → lacking t (xs ++ ys) ≡ lacking t xs ++ lacking (λ o. t o || are_with (lacking t xs) o) ys
lacking_append t [] ys = lacking_same t (λ o. t o || false) ys (λ o. or_nothing (t o))
lacking_append t (x ∷ xs) ys = by_test (lacking_append t xs ys) (lacking_append (and_one t x) xs ys) (t x)
  where
    by_test : lacking t (xs ++ ys) ≡ lacking t xs ++ lacking (λ o. t o || are_with (lacking t xs) o) ys
        → lacking (and_one t x) (xs ++ ys) ≡ lacking (and_one t x) xs
        ++ lacking (λ o. and_one t x o || are_with (lacking (and_one t x) xs) o) ys
        → (b : Bool) → cond b (lacking t (xs ++ ys)) (x ∷ lacking (and_one t x) (xs ++ ys))
        ≡ cond b (lacking t xs) (x ∷ lacking (and_one t x) xs)
        ++ lacking (λ o. t o || are_with (cond b (lacking t xs) (x ∷ lacking (and_one t x) xs)) o) ys
    by_test there absent true = there
    by_test there absent false =
        ap (λ (zs : List TablePlace). x ∷ zs)
        (absent
        ∙ ap (λ (zs : List TablePlace). lacking (and_one t x) xs ++ zs)
        (lacking_same (λ o. and_one t x o || are_with (lacking (and_one t x) xs) o) (λ o. t o
        || are_with (x ∷ lacking (and_one t x) xs) o) ys (λ o. or_later (t o) (is_place x o)
        (are_with (lacking (and_one t x) xs) o))))

-- ---- two kinds of tables

module _ (q : TablePlace → Bool) (same_kind : (a b : TablePlace) → is_place a b ≡ true → q a ≡ q b) where
  abbrev pub other : TablePlace → Bool
  other place = not (q place)

  -- what is there of one kind is no matter for the other
  no_matter : (t : TablePlace → Bool) (x : TablePlace) (r : TablePlace → Bool) (xs : List TablePlace)
      → ((y : TablePlace) → is_place x y ≡ true → r x ≡ r y) → r x ≡ false
      → lacking (and_one t x) (filter r xs) ≡ lacking t (filter r xs)
  no_matter t x r xs kind not_it = lacking_alike (and_one t x) t (filter r xs) (all xs)
    where
      here : (y : TablePlace) → r y ≡ true → and_one t x y ≡ t y
      here y is = by_test (is_place x y) (kind y)
        where
          by_test : (b : Bool) → (b ≡ true → r x ≡ r y) → (t y || b) ≡ t y
          by_test true kinds = absurd (let e : true ≡ false = sym is ∙ sym (kinds refl) ∙ not_it in cc)
          by_test false kinds = sym (or_nothing (t y))

      all : (ys : List TablePlace) → AllByRecursion (λ y. and_one t x y ≡ t y) (filter r ys)
      all [] = tt
      all (y ∷ ys) = by_test (r y) (here y) (all ys)
        where
          by_test : (b : Bool) → (b ≡ true → and_one t x y ≡ t y)
              → AllByRecursion (λ z. and_one t x z ≡ t z) (filter r ys)
              → AllByRecursion (λ z. and_one t x z ≡ t z) (cond b (y ∷ filter r ys) (filter r ys))
          by_test true it rest = (it refl, rest)
          by_test false it rest = rest

  pub kinds_apart : (t : TablePlace → Bool) (xs : List TablePlace)
      → length (lacking t xs) ≡ length (lacking t (filter q xs)) + length (lacking t (filter other xs))
  kinds_apart t [] = refl
  kinds_apart t (x ∷ xs) = by_kind (kinds_apart t xs) (kinds_apart (and_one t x) xs) (q x) refl
    where
      by_kind : length (lacking t xs) ≡ length (lacking t (filter q xs)) + length (lacking t (filter other xs))
          → length (lacking (and_one t x) xs) ≡ length (lacking (and_one t x) (filter q xs))
          + length (lacking (and_one t x) (filter other xs))
          → (k : Bool) → q x ≡ k → length (lacking t (x ∷ xs)) ≡ length
          (lacking t (cond k (x ∷ filter q xs) (filter q xs)))
          + length (lacking t (cond (not k) (x ∷ filter other xs) (filter other xs)))
      by_kind there absent true kind = by_test (t x)
        where
          none : length (lacking (and_one t x) (filter other xs)) ≡ length (lacking t (filter other xs))
          none = ap (λ (zs : List TablePlace). length zs)
              (no_matter t x other xs (λ y same. ap not (same_kind x y same)) (ap not kind))

          by_test : (b : Bool) → length (cond b (lacking t xs) (x ∷ lacking (and_one t x) xs)) ≡ length
              (cond b (lacking t (filter q xs)) (x ∷ lacking (and_one t x) (filter q xs)))
              + length (lacking t (filter other xs))
          by_test true = there
          by_test false = omega (arith, absent, none)
      by_kind there absent false kind = by_test (t x)
        where
          none : length (lacking (and_one t x) (filter q xs)) ≡ length (lacking t (filter q xs))
          none = ap (λ (zs : List TablePlace). length zs) (no_matter t x q xs (λ y same. same_kind x y same) kind)

          by_test : (b : Bool) → length (cond b (lacking t xs) (x ∷ lacking (and_one t x) xs)) ≡ length
              (lacking t (filter q xs)) + length (cond b (lacking t (filter other xs))
              (x ∷ lacking (and_one t x) (filter other xs)))
          by_test true = there
          by_test false = omega (arith, absent, none)
