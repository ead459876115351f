-- The rule holds of a new table.
use Rattle.std.proofs.Common.{true, append-nil, length-append, ◌≡◌, ◌⊎◌, ⊎_elim, inl, inr, ℕ, zero, suc, ◌+◌, ◌-◌}
use Rattle.std.proofs.Common.{◌<◌, ◌≤◌, List, [], ◌∷◌, ◌++◌, length, take, drop, map, replicate, get_or, sym, refl, ap, ◌∙◌}
use Rattle.std.proofs.Common.{subst, arith, Option, Some, None}
use Rattle.std.proofs.Math.Seq.{drop-length}
use mathlib.Core.Option.{some, some-injective, some-ne-none}
use lib.ListN.{get_elem?, length-map, length-replicate}
use Rattle.std.specs.Arc.{arc_value}
use Rattle.std.specs.declared.sync.Arc.{Arc}
use Rattle.atomic_table.specs.Table.{opening}
use Rattle.atomic_table.proofs.Lists.{some_there}
use Rattle.lane_lock.specs.declared.table.View.{View}
use Rattle.lane_lock.specs.declared.table.Known.{Known}
use Rattle.lane_lock.specs.declared.table.Setup.{Setup}
use Rattle.lane_lock.specs.History.{made_by, Legal}
use Rattle.lane_lock.specs.Opening.{AreShares}
use Rattle.lane_lock.specs.Views.{HasApart, tail, alone, first_alone, without_one}
use Rattle.lane_lock.specs.Rule.{newcomer, Knows, Ruled, Opens, place, starting, crowd}

unmap : {A : Type 0} (l : List A) (k : ℕ) (a : A) → get_elem? (map some l) k ≡ some (some a) → get_elem? l k ≡ some a
unmap [] k a e = absurd (some-ne-none (some a) (sym e))
unmap (x ∷ xs) zero a e = some-injective (some x) (some a) e
unmap (x ∷ xs) (suc k) a e = unmap xs k a e

crowd_at : {E : Type 0} (p n i : ℕ) (o : Known E) → get_elem? (crowd p n) i ≡ some o
    → (o.number < p + n) × (o.seen ≡ []) × (o.made ≡ [])
crowd_at p zero i o e = absurd (some-ne-none o (sym e))
crowd_at {E} p (suc n) zero o e = let one : record { number = p; seen = []; made = [] } ≡ o =
    some-injective record { number = p; seen = []; made = [] } o e in (
      subst (λ (c : ℕ). c < p + suc n) (ap (λ (c : Known E). c.number) one) (omega arith),
      sym (ap (λ (c : Known E). c.seen) one),
      sym (ap (λ (c : Known E). c.made) one),
    )
crowd_at p (suc n) (suc i) o e = let h = crowd_at (p + 1) n i o e in let lt = h.0 in (omega arith, h.1, h.2)

zeros : (n k : ℕ) → get_or {A = ℕ} (replicate n 0) k 0 ≡ 0
zeros zero k = refl
zeros (suc n) zero = refl
zeros (suc n) (suc k) = zeros n k

none_made : {E : Type 0} (by : E → ℕ) (p n : ℕ) → made_by by p (drop n []) ≡ []
none_made by p zero = refl
none_made by p (suc n) = refl

module _ {K E : Type 0} (Z : Type 0) (hist : K → List E) (by : E → ℕ) (key : Setup K) where
  abbrev H : List E
  H = hist key.value.value

  fresh : (p : ℕ) → Legal by (length H) H p [] []
  fresh p = record { begins = (H, refl); makes = ap (made_by by p) (drop-length H); inside = none_made by p (length H) }

  only : (v w : View E) (j : ℕ) → get_elem? (v ∷ []) j ≡ some w → (j ≡ 0) × (v ≡ w)
  only v w zero e = (refl, some-injective v w e)
  only v w (suc j) e = absurd (some-ne-none w (sym e))

  pub starts : (words : List ℕ) (slots : List (Option (Arc K Z))) → Opens hist key words slots
      → Ruled hist by key (opening words slots (starting hist key))
  starts words slots o = let wide = o.wide in let deep = o.deep in let some_pass = o.some_pass in record {
    history = H;
    seat = λ _. 0;
    wide = o.wide;
    deep = length-map slots (λ (x : Option (Arc K Z)). some x) ∙ o.deep;
    few = o.few;
    opened = ([], sym (append-nil H));
    home = λ k l z. some_there slots (place k) (omega arith);
    out = λ k n. absurd (n (o.blank (place k)));
    shown = λ k a e. o.shares (place k) a (unmap slots (place k) (Some a) e);
    filled = λ e. o.first (unmap slots 0 None e);
    named = λ k n. absurd (n (o.blank (place k)));
    each = λ j v e. let t = only (starting hist key) v j e in subst
        (λ (c : ℕ × View E). Knows by key.lanes key.passes H (λ _. 0) H words c.0 c.1)
        (λ i. (sym t.0 i, t.1 i)) record {
          begins = (H, refl);
          stands = λ _. (
            (let q : key.passes - 1 < key.passes = omega arith in q),
            refl,
            (refl, refl),
            length-replicate key.lanes 0,
            fresh (key.passes - 1),
          );
          others = λ i u f. let c = crowd_at 0 (key.passes - 1) i u f in let lt = c.0 in (
            (let q : u.number < key.passes = omega arith in q),
            refl,
            subst (λ (z : List E × List E). Legal by (length H) H u.number z.0 z.1)
                (λ i. (sym c.1 i, sym c.2 i)) (fresh u.number),
          );
          held = λ k n. absurd (n (zeros key.lanes k));
          pin = λ n. absurd (n refl);
        };
    foreign = λ p le. ap (made_by by p) (drop-length H);
  }

-- the slots of a new table, one by one
module _ {K Z : Type 0} (first : Arc K Z) where
  snoc_at : (xs : List (Option (Arc K Z))) (x y : Option (Arc K Z)) (k : ℕ) → get_elem? (xs ++ x ∷ []) k ≡ some y
      → (get_elem? xs k ≡ some y) ⊎ (x ≡ y)
  snoc_at [] x y zero e = inr (some-injective x y e)
  snoc_at [] x y (suc k) e = absurd (some-ne-none y (sym e))
  snoc_at (z ∷ xs) x y zero e = inl e
  snoc_at (z ∷ xs) x y (suc k) e = snoc_at xs x y k e

  first_at : (xs : List (Option (Arc K Z))) (x : Option (Arc K Z)) → 0 < length xs
      → get_elem? (xs ++ x ∷ []) 0 ≡ some None → get_elem? xs 0 ≡ some None
  first_at [] x lt e = absurd (omega arith)
  first_at (z ∷ xs) x lt e = e

  pub more_shares : (n : ℕ) (xs : List (Option (Arc K Z))) (x : Option (Arc K Z)) → 0 < n → AreShares first n xs
      → ((a : Arc K Z) → x ≡ Some a → arc_value a ≡ arc_value first) → AreShares first (n + 1) (xs ++ x ∷ [])
  more_shares n xs x lt s same = let count = s.count in record {
    count = length-append xs (x ∷ []) ∙ (let q : length xs + 1 ≡ n + 1 = omega arith in q);
    shares = λ k b e. ⊎_elim (λ (h : get_elem? xs k ≡ some (Some b)). s.shares k b h) (λ (h : x ≡ Some b). same b h)
        (snoc_at xs x (Some b) k e);
    filled = λ e. s.filled (first_at xs x (omega arith) e);
  }

-- of the passes that stand in a view, the first has a number of its own
crowd_above : {E : Type 0} (p n i : ℕ) (o : Known E) → get_elem? (crowd p n) i ≡ some o → p ≤ o.number
crowd_above p zero i o e = absurd (some-ne-none o (sym e))
crowd_above {E} p (suc n) zero o e = let one : record { number = p; seen = []; made = [] } ≡ o =
    some-injective record { number = p; seen = []; made = [] } o e in
    let same : p ≡ o.number = ap (λ (c : Known E). c.number) one in omega arith
crowd_above p (suc n) (suc i) o e = let h = crowd_above (p + 1) n i o e in omega arith

pub crowd_cut : {E : Type 0} (i last : ℕ) → i < last
    → crowd {E = E} i (last - i) ≡ record { number = i; seen = []; made = [] } ∷ crowd (i + 1) (last - (i + 1))
crowd_cut {E} i last lt = let n : last - i ≡ suc (last - (i + 1)) = omega arith in ap (crowd {E = E} i) n

module _ {E : Type 0} (opening : List E) (passes lanes i last : ℕ) (lt : i < last) where
  abbrev Before : View E
  Before = newcomer last opening passes lanes (crowd i (last - i))

  apart : HasApart Before
  apart = let c = crowd_cut {E = E} i last lt in (
    record { number = i; seen = []; made = [] },
    c ∙ (λ k. record { number = i; seen = []; made = [] } ∷ sym (ap tail c) k),
    (λ e. omega arith),
    λ k u e n. let h = crowd_above (i + 1) (last - (i + 1)) k u
        (sym (ap (λ (l : List (Known E)). get_elem? l k) (ap tail c)) ∙ e) in omega arith,
  )

  cut_off : first_alone Before ≡ newcomer i opening passes lanes []
  cut_off = ap (alone opening passes (length (replicate lanes 0))) (crowd_cut {E = E} i last lt)
      ∙ ap (λ (n : ℕ). newcomer {E = E} i opening passes n []) (length-replicate lanes 0)

  left_over : without_one Before ≡ newcomer last opening passes lanes (crowd (i + 1) (last - (i + 1)))
  left_over = ap (λ (l : List (Known E)). newcomer last opening passes lanes (tail l)) (crowd_cut {E = E} i last lt)

  module _ {A : Type 0} (m : View E × List A) (is : m ≡ (Before, [])) where
    pub apart_in : (m.0.stands ≡ true) × HasApart m.0
    apart_in = subst (λ (u : View E × List A). (u.0.stands ≡ true) × HasApart u.0) (sym is) (refl, apart)

    pub cut_off_in : first_alone m.0 ≡ newcomer i opening passes lanes []
    cut_off_in = ap (λ (u : View E × List A). first_alone u.0) is ∙ cut_off

    pub left_over_in : (w : View E × List A) → w ≡ (without_one m.0, m.1)
        → w ≡ (newcomer last opening passes lanes (crowd (i + 1) (last - (i + 1))), [])
    left_over_in w e =
        e ∙ (ap (λ (u : View E × List A). (without_one u.0, u.1)) is ∙ ap (λ (v : View E). (v, [])) left_over)

pub zeros_within : (n m k : ℕ) → get_or {A = ℕ} (take n (replicate m 0)) k 0 ≡ 0
zeros_within zero m k = refl
zeros_within (suc n) zero k = refl
zeros_within (suc n) (suc m) zero = refl
zeros_within (suc n) (suc m) (suc k) = zeros_within n m k

-- the first seat of a table, said with the lock's own numbers
pub starts_full : {A E : Type 0} (opening : List E) (passes all lanes words : ℕ) → passes ≡ all → lanes ≡ words
    → let seat : View E × List A = (newcomer (all - 1) opening all words (crowd 0 (all - 1)), []) in
    seat ≡ (newcomer (passes - 1) opening passes lanes (crowd 0 (passes - 1 - 0)), [])
starts_full opening passes all lanes words p l = let none : passes - 1 ≡ passes - 1 - 0 = omega arith in
    (λ i. (newcomer (sym p i - 1) opening (sym p i) (sym l i) (crowd 0 (sym p i - 1)), []))
    ∙ ap (λ (n : ℕ). (newcomer (passes - 1) opening passes lanes (crowd 0 n), [])) none
