-- The search for the least fit: what is left to search, step by step.
use Rattle.std.proofs.Common.{◌≡◌, ℕ, zero, suc, ◌+◌, ◌%◌, ◌<◌, ◌≤◌, max, true, false, leb, ltb, Some, None, List, []}
use Rattle.std.proofs.Common.{◌∷◌, length, drop, refl, sym, ap, subst, arith, ⊎_elim}
use Rattle.std.proofs.lemmas.Bool.{cases_lt}
use Rattle.std.proofs.lemmas.Bool.Decides.{nat_tests}
use Rattle.iofd_words.specs.Bounds.{Bounds}
use Rattle.iofd_words.specs.Ranges.{AreMerged, AreMergedFrom, in_spans}
use Rattle.iofd_words.specs.Fits.{IsFit, StartsRiseFrom, StartsRise, whole_from}
use Rattle.iova_ranges.specs.Search.{room_in, first_below}
use Rattle.iova_ranges.proofs.Merged.{below-out, merged-lower}

-- the fits are those from the number on in what is left of the spans and areas
pub record IsLeft (length : ℕ) (spans areas : List Bounds) (from : ℕ) (more_spans more_areas : List Bounds) : Type 0
  where
    pub above : (start : ℕ) → IsFit length spans areas start → from ≤ start
    pub on : (start : ℕ) → IsFit length spans areas start → IsFit length more_spans more_areas start
    pub back : (start : ℕ) → from ≤ start → IsFit length more_spans more_areas start → IsFit length spans areas start

-- rounding up
pub whole_from-above : (n : ℕ) → n ≤ whole_from n
whole_from-above n = omega arith

pub whole_from-whole : (n : ℕ) → whole_from n % 4096 ≡ 0
whole_from-whole n = omega arith

pub whole_from-least : (n m : ℕ) → n ≤ m → m % 4096 ≡ 0 → whole_from n ≤ m
whole_from-least n m above whole = omega arith

-- a fit that begins in the first span begins no lower than where the search is
begins-later : (length : ℕ) (s : Bounds) (ss areas : List Bounds) (from start : ℕ) → AreMerged (s ∷ ss) → from ≤ start
    → IsFit length (s ∷ ss) areas start → whole_from (max from s.first) ≤ start
begins-later length s ss areas from start merged above fit =
    let some = fit.some in
    let first_in = fit.inside start (omega arith) (omega arith) in
    let own = merged.1 in
    let reached : s.first ≤ start =
    ⊎_elim (λ (below : start < s.first). let out = below-out (s.last + 2) ss merged.2 start (omega arith) in absurd
    (grind (arith, nat_tests))) (λ (at : s.first ≤ start). at) (cases_lt start s.first) in
    whole_from-least (max from s.first) start (omega arith) fit.whole

-- a span without room holds no fit
beyond : (length : ℕ) (s : Bounds) (ss areas : List Bounds) (from start : ℕ) → AreMerged (s ∷ ss) → from ≤ start
    → s.last + 1 < whole_from (max from s.first) + length → IsFit length (s ∷ ss) areas start → s.last < start
beyond length s ss areas from start merged above short fit =
    let later = begins-later length s ss areas from start merged above fit in
    ⊎_elim
    (λ (inner : start < s.last + 1).
    let is = fit.inside (s.last + 1) (omega arith) (omega arith) in
    let out = below-out (s.last + 2) ss merged.2 (s.last + 1) (omega arith) in
    absurd (grind (arith, nat_tests)))
    (λ (outer : s.last + 1 ≤ start). omega arith)
    (cases_lt start (s.last + 1))

pub left-span : (length : ℕ) (spans areas : List Bounds) (from : ℕ) (s : Bounds) (ss more : List Bounds)
    → AreMerged (s ∷ ss) → s.last + 1 < whole_from (max from s.first) + length
    → IsLeft length spans areas from (s ∷ ss) more → IsLeft length spans areas from ss more
left-span length spans areas from s ss more merged short left =
    record {
      above = left.above;
      on = λ start fit.
          let here = left.on start fit in
          let over = beyond length s ss more from start merged (left.above start fit) short here in
          record {
            whole = here.whole;
            some = here.some;
            inside = λ n low high. (let is = here.inside n low high in grind (arith, nat_tests));
            beside = here.beside;
          };
      back = λ start above fit.
          left.back start above (record {
            whole = fit.whole;
            some = fit.some;
            inside = λ n low high. (let is = fit.inside n low high in grind (arith, nat_tests));
            beside = fit.beside;
          });
    }

-- an area that begins below the end of the first place holds the search up
over-area : (length : ℕ) (s : Bounds) (ss : List Bounds) (a : Bounds) (rest_areas : List Bounds) (from start : ℕ)
    → AreMerged (s ∷ ss) → from ≤ start → a.first ≤ a.last → a.first < whole_from (max from s.first) + length
    → IsFit length (s ∷ ss) (a ∷ rest_areas) start → a.last < start
over-area length s ss a rest_areas from start merged above ordered begins fit =
    let later = begins-later length s ss (a ∷ rest_areas) from start merged above fit in
    let some = fit.some in
    ⊎_elim
    (λ (inner : start < a.last + 1).
    ⊎_elim
    (λ (ahead : start < a.first). let is = fit.beside a.first (omega arith) (omega arith) in absurd
    (grind (arith, nat_tests)))
    (λ (within : a.first ≤ start). let is = fit.beside start (omega arith) (omega arith) in absurd
    (grind (arith, nat_tests)))
    (cases_lt start a.first))
    (λ (outer : a.last + 1 ≤ start). omega arith)
    (cases_lt start (a.last + 1))

pub left-area : (length : ℕ) (spans areas : List Bounds) (from : ℕ) (s : Bounds) (ss : List Bounds) (a : Bounds)
    (rest_areas : List Bounds) → AreMerged (s ∷ ss) → a.first ≤ a.last
    → a.first < whole_from (max from s.first) + length
    → IsLeft length spans areas from (s ∷ ss) (a ∷ rest_areas)
    → IsLeft length spans areas (max (whole_from (max from s.first)) (a.last + 1)) (s ∷ ss) rest_areas
left-area length spans areas from s ss a rest_areas merged ordered begins left =
    record {
      above = λ start fit.
          let here = left.on start fit in
          let from_here = left.above start fit in
          let later = begins-later length s ss (a ∷ rest_areas) from start merged from_here here in
          let over = over-area length s ss a rest_areas from start merged from_here ordered begins here in
          omega arith;
      on = λ start fit.
          let here = left.on start fit in
          record {
            whole = here.whole;
            some = here.some;
            inside = here.inside;
            beside = λ n low high. (let isnt = here.beside n low high in grind (arith, nat_tests));
          };
      back = λ start above fit.
          let up = whole_from-above (max from s.first) in
          left.back start (omega arith) (record {
            whole = fit.whole;
            some = fit.some;
            inside = fit.inside;
            beside = λ n low high. (let isnt = fit.beside n low high in grind (arith, nat_tests));
          });
    }

below-areas : (low : ℕ) (areas : List Bounds) → StartsRiseFrom low areas → (n : ℕ) → n < low → in_spans areas n ≡ false
below-areas low [] rise n below = refl
below-areas low (a ∷ rest_areas) rise n below =
    let from = rise.0 in
    let rest = below-areas a.first rest_areas rise.1 n (omega arith) in
    grind (arith, nat_tests)

-- a place with room that ends below all areas is the least fit
pub record IsLeastFit (length : ℕ) (spans areas : List Bounds) (start : ℕ) : Type 0 where
  pub fit : IsFit length spans areas start
  pub least : (other : ℕ) → IsFit length spans areas other → start ≤ other

pub left-found : (length : ℕ) (spans areas : List Bounds) (from : ℕ) (s : Bounds) (ss more : List Bounds) → 0 < length
    → AreMerged (s ∷ ss) → whole_from (max from s.first) + length ≤ s.last + 1
    → StartsRiseFrom (whole_from (max from s.first) + length) more → IsLeft length spans areas from (s ∷ ss) more
    → IsLeastFit length spans areas (whole_from (max from s.first))
left-found length spans areas from s ss more some merged room rise left =
    let start = whole_from (max from s.first) in
    let up = whole_from-above (max from s.first) in
    record {
      fit = left.back start (omega arith) (record {
        whole = whole_from-whole (max from s.first);
        some = some;
        inside = λ n low high. grind (arith, nat_tests);
        beside = λ n low high. below-areas (start + length) more rise n high;
      });
      least = λ other fit. begins-later length s ss more from other merged (left.above other fit) (left.on other fit);
    }

-- with no span left there is no fit
pub left-none : (length : ℕ) (spans areas : List Bounds) (from : ℕ) (more : List Bounds)
    → IsLeft length spans areas from [] more → (start : ℕ) → IsFit length spans areas start → ⊥
left-none length spans areas from more left start fit =
    let here = left.on start fit in
    let some = here.some in
    let is = here.inside start (omega arith) (omega arith) in
    grind (arith, nat_tests)

-- merged spans stay merged, and rising areas rise, when some in front are left out
merged-drop : (low : ℕ) (xs : List Bounds) (i : ℕ) → AreMergedFrom low xs → AreMergedFrom low (drop i xs)
merged-drop low [] zero merged = merged
merged-drop low [] (suc i) merged = merged
merged-drop low (x ∷ xs) zero merged = merged
merged-drop low (x ∷ xs) (suc i) merged =
    merged-lower (x.last + 2) low (drop i xs) (omega (arith, merged.0, merged.1))
    (merged-drop (x.last + 2) xs i merged.2)

rise-lower : (low below : ℕ) (xs : List Bounds) → below ≤ low → StartsRiseFrom low xs → StartsRiseFrom below xs
rise-lower low below [] less rise = rise
rise-lower low below (x ∷ xs) less rise = (omega (arith, rise.0), rise.1)

rise-drop : (low : ℕ) (xs : List Bounds) (i : ℕ) → StartsRiseFrom low xs → StartsRiseFrom low (drop i xs)
rise-drop low [] zero rise = rise
rise-drop low [] (suc i) rise = rise
rise-drop low (x ∷ xs) zero rise = rise
rise-drop low (x ∷ xs) (suc i) rise =
    rise-lower x.first low (drop i xs) (omega (arith, rise.0)) (rise-drop x.first xs i rise.1)

room_in-none : (s : Bounds) (from length : ℕ) → None ≡ room_in s from length
    → s.last + 1 < whole_from (max from s.first) + length
room_in-none s from length none =
    ⊎_elim (λ (short : s.last + 1 < whole_from (max from s.first) + length). short)
    (λ (room : whole_from (max from s.first) + length ≤ s.last + 1).
    let test : leb (whole_from (max from s.first) + length) (s.last + 1) ≡ true = grind (arith, nat_tests) in
    let some = rw test at none in
    absurd (cc))
    (cases_lt (s.last + 1) (whole_from (max from s.first) + length))

room_in-some : (s : Bounds) (from length start : ℕ) → Some start ≡ room_in s from length
    → (start ≡ whole_from (max from s.first)) × (whole_from (max from s.first) + length ≤ s.last + 1)
room_in-some s from length start is =
    ⊎_elim (λ (short : s.last + 1 < whole_from (max from s.first) + length).
    let test : leb (whole_from (max from s.first) + length) (s.last + 1) ≡ false = grind (arith, nat_tests) in
    let none = rw test at is in
    absurd (cc))
    (λ (room : whole_from (max from s.first) + length ≤ s.last + 1).
    let test : leb (whole_from (max from s.first) + length) (s.last + 1) ≡ true = grind (arith, nat_tests) in
    let same = rw test at is in
    (cc, room))
    (cases_lt (s.last + 1) (whole_from (max from s.first) + length))

first_below-none : (n low : ℕ) (areas : List Bounds) → StartsRiseFrom low areas → None ≡ first_below n areas
    → StartsRiseFrom n areas
first_below-none n low [] rise none = rise
first_below-none n low (a ∷ areas) rise none =
    ⊎_elim (λ (below : a.first < n).
    let test : ltb a.first n ≡ true = grind (arith, nat_tests) in
    let some = rw test at none in
    absurd (cc))
    (λ (above : n ≤ a.first). (above, rise.1))
    (cases_lt a.first n)

-- what is known where the first area begins below the number
pub record IsNext (n : ℕ) (areas : List Bounds) (j : ℕ) (a : Bounds) : Type 0 where
  pub within : j < length areas
  pub next : drop j areas ≡ a ∷ drop (j + 1) areas
  pub below : a.first < n

pub first_below-some : (n : ℕ) (areas : List Bounds) (j : ℕ) (a : Bounds) → Some a ≡ first_below n (drop j areas)
    → IsNext n areas j a
first_below-some n [] zero a is = absurd (cc)
first_below-some n [] (suc j) a is = absurd (cc)
first_below-some n (b ∷ areas) zero a is =
    ⊎_elim (λ (below : b.first < n).
    let test : ltb b.first n ≡ true = grind (arith, nat_tests) in
    let same : Some a ≡ Some b = rw test at is in
    let equal : b ≡ a = cc in
    record {
      within = omega arith;
      next = ap (λ (x : Bounds). x ∷ areas) equal;
      below = subst (λ (x : Bounds). x.first < n) equal below;
    })
    (λ (above : n ≤ b.first).
    let test : ltb b.first n ≡ false = grind (arith, nat_tests) in
    let none = rw test at is in
    absurd (cc))
    (cases_lt b.first n)
first_below-some n (b ∷ areas) (suc j) a is =
    let later = first_below-some n areas j a is in
    let step : suc j + 1 ≡ suc (j + 1) = omega arith in
    record { within = omega (arith, later.within); next = rw step later.next; below = later.below }

-- the steps of the search, by the places in both lists
pub step-span : (length : ℕ) (spans areas : List Bounds) (from i j : ℕ) (s : Bounds) → AreMerged spans
    → drop i spans ≡ s ∷ drop (i + 1) spans → None ≡ room_in s from length
    → IsLeft length spans areas from (drop i spans) (drop j areas)
    → IsLeft length spans areas from (drop (i + 1) spans) (drop j areas)
step-span length spans areas from i j s merged here none left =
    let tail : AreMerged (s ∷ drop (i + 1) spans) = subst AreMerged here (merged-drop 0 spans i merged) in
    left-span length spans areas from s (drop (i + 1) spans) (drop j areas) tail (room_in-none s from length none)
    (subst (λ (xs : List Bounds). IsLeft length spans areas from xs (drop j areas)) here left)

pub step-area : (length : ℕ) (spans areas : List Bounds) (from i j : ℕ) (s a : Bounds) (start : ℕ) → AreMerged spans
    → drop i spans ≡ s ∷ drop (i + 1) spans → Some start ≡ room_in s from length
    → IsNext (start + length) areas j a → a.first ≤ a.last
    → IsLeft length spans areas from (drop i spans) (drop j areas)
    → IsLeft length spans areas (max start (a.last + 1)) (drop i spans) (drop (j + 1) areas)
step-area length spans areas from i j s a start merged here some next ordered left =
    let tail : AreMerged (s ∷ drop (i + 1) spans) = subst AreMerged here (merged-drop 0 spans i merged) in
    let room = room_in-some s from length start some in
    let begins : a.first < whole_from (max from s.first) + length =
    subst (λ (n : ℕ). a.first < n + length) room.0 next.below in
    let now = subst (λ (xs : List Bounds). IsLeft length spans areas from xs (drop j areas)) here left in
    let both = subst (λ (ys : List Bounds). IsLeft length spans areas from (s ∷ drop (i + 1) spans) ys) next.next now in
    let after =
    left-area length spans areas from s (drop (i + 1) spans) a (drop (j + 1) areas) tail ordered begins both in
    let placed = subst (λ (n : ℕ). IsLeft length spans areas (max n (a.last + 1)) (s ∷ drop (i + 1) spans)
    (drop (j + 1) areas)) (sym room.0) after in
    subst (λ (xs : List Bounds). IsLeft length spans areas (max start (a.last + 1)) xs (drop (j + 1) areas)) (sym here)
    placed

pub step-found : (length : ℕ) (spans areas : List Bounds) (from i j : ℕ) (s : Bounds) (start : ℕ) → 0 < length
    → AreMerged spans → StartsRise areas → drop i spans ≡ s ∷ drop (i + 1) spans → Some start ≡ room_in s from length
    → None ≡ first_below (start + length) (drop j areas) → IsLeft length spans areas from (drop i spans) (drop j areas)
    → IsLeastFit length spans areas start
step-found length spans areas from i j s start positive merged rise here some none left =
    let tail : AreMerged (s ∷ drop (i + 1) spans) = subst AreMerged here (merged-drop 0 spans i merged) in
    let room = room_in-some s from length start some in
    let later = first_below-none (start + length) 0 (drop j areas) (rise-drop 0 areas j rise) none in
    let now = subst (λ (xs : List Bounds). IsLeft length spans areas from xs (drop j areas)) here left in
    let found = left-found length spans areas from s (drop (i + 1) spans) (drop j areas) positive tail room.1
    (subst (λ (n : ℕ). StartsRiseFrom (n + length) (drop j areas)) room.0 later) now in
    subst (λ (n : ℕ). IsLeastFit length spans areas n) (sym room.0) found
