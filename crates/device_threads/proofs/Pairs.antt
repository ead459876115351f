-- Two lists of one length, one element longer or shorter at their ends.
use Rattle.std.proofs.Common.{◌≡◌, ℕ, ◌+◌, List, [], ◌∷◌, ◌++◌, length, zero, suc, refl, sym, ap, ◌∙◌, subst}
use Rattle.std.proofs.Common.{append_assoc, append-nil, length-append, slice_get, Some, arith}
use Rattle.device_threads.specs.Pairs.{Pairwise}

-- a list with one element more
pub one_longer : {X : Type 0} (xs new : List X) (x : X) → new ≡ xs ++ x ∷ [] → length new ≡ suc (length xs)
one_longer xs new x is =
    let all : length (xs ++ x ∷ []) ≡ length xs + length (x ∷ []) = length-append xs (x ∷ []) in
    let here : length new ≡ length (xs ++ x ∷ []) = ap length is in
    omega (arith, all, here)

module _ {X Y : Type 0} (Are : X → Y → Type 0) where
  pub pair_more : (xs : List X) (ys : List Y) (x : X) (y : Y) → Pairwise Are xs ys → Are x y
      → Pairwise Are (xs ++ x ∷ []) (ys ++ y ∷ [])
  pair_more [] [] x y all one = (one, tt)
  pair_more (a ∷ xs) (b ∷ ys) x y all one = (all.0, pair_more xs ys x y all.1 one)
  pair_more [] (b ∷ ys) x y all one = absurd all
  pair_more (a ∷ xs) [] x y all one = absurd all

  pub pair_fewer : (xs : List X) (ys : List Y) (x : X) (y : Y) → Pairwise Are (xs ++ x ∷ []) (ys ++ y ∷ [])
      → Pairwise Are xs ys × Are x y
  pair_fewer [] [] x y all = (tt, all.0)
  pair_fewer [] (b ∷ []) x y all = absurd all.1
  pair_fewer [] (b ∷ (c ∷ ys)) x y all = absurd all.1
  pair_fewer (a ∷ []) [] x y all = absurd all.1
  pair_fewer (a ∷ (c ∷ xs)) [] x y all = absurd all.1
  pair_fewer (a ∷ xs) (b ∷ ys) x y all = let rest = pair_fewer xs ys x y all.1 in ((all.0, rest.0), rest.1)

  pub pair_lengths : (xs : List X) (ys : List Y) → Pairwise Are xs ys → length xs ≡ length ys
  pair_lengths [] [] all = refl
  pair_lengths (x ∷ xs) (y ∷ ys) all = ap suc (pair_lengths xs ys all.1)
  pair_lengths [] (y ∷ ys) all = absurd all
  pair_lengths (x ∷ xs) [] all = absurd all

  -- what holds of each of the first list beside what holds of each pair
  pub pair_all : (P : X → Type 0) (Also : X → Y → Type 0) → ((x : X) (y : Y) → P x → Are x y → Also x y) → (xs : List X)
      (ys : List Y) → ((i : ℕ) (x : X) → slice_get xs i ≡ Some x → P x) → Pairwise Are xs ys → Pairwise Also xs ys
  pair_all P Also both [] [] each all = tt
  pair_all P Also both (x ∷ xs) (y ∷ ys) each all =
      (both x y (each 0 x refl) all.0, pair_all P Also both xs ys (λ i z at. each (suc i) z at) all.1)
  pair_all P Also both [] (y ∷ ys) each all = absurd all
  pair_all P Also both (x ∷ xs) [] each all = absurd all

  -- pairs that are in one relation are in another
  pub pair_map : (Also : X → Y → Type 0) → ((x : X) (y : Y) → Are x y → Also x y) → (xs : List X) (ys : List Y)
      → Pairwise Are xs ys → Pairwise Also xs ys
  pair_map Also also [] [] all = tt
  pair_map Also also (x ∷ xs) (y ∷ ys) all = (also x y all.0, pair_map Also also xs ys all.1)
  pair_map Also also [] (y ∷ ys) all = absurd all
  pair_map Also also (x ∷ xs) [] all = absurd all

  -- what holds of the second of each pair holds of the whole second list
  pub pair_seconds : (P : Y → Type 0) → ((x : X) (y : Y) → Are x y → P y) → (xs : List X) (ys : List Y)
      → Pairwise Are xs ys → (i : ℕ) (y : Y) → slice_get ys i ≡ Some y → P y
  pair_seconds P each [] [] all i y at = cc
  pair_seconds P each (x ∷ xs) (z ∷ ys) all zero y at = let e : z ≡ y = cc in subst P e (each x z all.0)
  pair_seconds P each (x ∷ xs) (z ∷ ys) all (suc i) y at = pair_seconds P each xs ys all.1 i y at
  pair_seconds P each [] (z ∷ ys) all i y at = absurd all
  pair_seconds P each (x ∷ xs) [] all i y at = absurd all

  -- whatever stands beside the rest, all stand beside what there is so far and that
  abbrev pub GoOn : List X → List X → List Y → Type 0
  GoOn all rest got = (more : List Y) → Pairwise Are rest more → Pairwise Are all (got ++ more)

  pub go_first : (all : List X) → GoOn all all []
  go_first all = λ more pairs. pairs

  pub go_next : (all rest others : List X) (got new : List Y) (x : X) (y : Y) → rest ≡ x ∷ others
      → new ≡ got ++ y ∷ [] → Are x y → GoOn all rest got → GoOn all others new
  go_next all rest others got new x y is grown one on = λ more pairs.
      subst (Pairwise Are all) (sym (ap (λ l. l ++ more) grown ∙ append_assoc got (y ∷ []) more))
      (on (y ∷ more) (subst (λ (l : List X). Pairwise Are l (y ∷ more)) (sym is) (one, pairs)))

  pub go_all : (all rest : List X) (got : List Y) → length rest ≡ 0 → GoOn all rest got → Pairwise Are all got
  go_all all [] got none on = subst (Pairwise Are all) (append-nil got) (on [] tt)
  go_all all (x ∷ rest) got none on = absurd (omega arith)

  -- both lists without their last elements
  pub pair_off : (xs front : List X) (ys most : List Y) (x : X) (y : Y) → xs ≡ front ++ x ∷ [] → ys ≡ most ++ y ∷ []
      → Pairwise Are xs ys → Pairwise Are front most × Are x y
  pair_off xs front ys most x y e f all =
      pair_fewer front most x y (subst (λ (l : List X × List Y). Pairwise Are l.0 l.1) (λ i. (e i, f i)) all)

  -- both lists with one element more
  pub pair_on : (xs front : List X) (ys most : List Y) (x : X) (y : Y) → xs ≡ front ++ x ∷ [] → ys ≡ most ++ y ∷ []
      → Pairwise Are front most → Are x y → Pairwise Are xs ys
  pair_on xs front ys most x y e f all one =
      subst (λ (l : List X × List Y). Pairwise Are l.0 l.1) (λ i. (sym e i, sym f i)) (pair_more front most x y all one)
