-- Which frames are free, by the holds and by the words that tell it.
use Rattle.std.proofs.Common.{◌≡◌, ◌≢◌, ℕ, zero, suc, ◌+◌, ◌-◌, ◌<◌, ◌≤◌, true, false, cond, eqb, Option, Some, None}
use Rattle.std.proofs.Common.{List, ◌∷◌, length, get_or, set, map, replicate, refl, sym, arith, ap, ◌∙◌, ⊎_elim}
use Rattle.std.specs.Prelude.{nat_lt, is_some, IfSome, IfNone}
use Rattle.std.specs.List.{position_or_len}
use Rattle.std.proofs.lemmas.Bool.{cases_eq}
use Rattle.std.proofs.lemmas.Bool.Decides.{nat_tests}
use Rattle.std.proofs.lemmas.List.{get_or-set_same, get_or-set_other, length-replicate, length-set}
use Rattle.std.proofs.lemmas.List.Folds.{sum_by-replicate}
use Rattle.std.proofs.lemmas.List.Sums.{get_or-le-sum_by, position_or_len_is, sum_by-set}
use Rattle.frame_memory.specs.FreeMap.{has_frame, IsLeast}
use Rattle.frame_memory.specs.Kept.{TellsFree}
use Rattle.frame_memory.specs.Pool.{is_free, least_free, free_count}

-- a free frame is one of the pool's, and its count is 0
free_parts : (holds : List ℕ) (f : ℕ) → is_free holds f ≡ true → (f < length holds) × (get_or holds f 0 ≡ 0)
free_parts holds f free = (grind (arith, nat_tests), grind (arith, nat_tests))

held_frame : (holds : List ℕ) (f : ℕ) → f < length holds → is_free holds f ≡ false → eqb (get_or holds f 0) 0 ≡ false
held_frame holds f within held = grind (arith, nat_tests)

position_at : (holds : List ℕ) (i : ℕ) → position_or_len (λ c. eqb c 0) holds ≡ i → i < length holds
    → least_free holds ≡ Some i
position_at holds i at within = rw at (grind (arith, nat_tests))

pub least-is_free : (words : List ℕ) (n : ℕ) (holds : List ℕ) (f : ℕ) → TellsFree words n holds → IsLeast words f
    → (f < length holds) × (get_or holds f 0 ≡ 0)
least-is_free words n holds f told least = free_parts holds f (sym (told.tells f) ∙ least.there)

pub least_free-some : (words : List ℕ) (n : ℕ) (holds : List ℕ) (f : ℕ) → TellsFree words n holds → IsLeast words f
    → least_free holds ≡ Some f
least_free-some words n holds f told least =
    let free = least-is_free words n holds f told least in
    position_at holds f
    (position_or_len_is (λ c. eqb c 0) holds f 0 (omega (arith, free.0))
    (λ k less. held_frame holds k (omega (arith, free.0)) (sym (told.tells k) ∙ least.below k less))
    (λ within. rw free.1 refl))
    free.0

pub least_free-none : (words : List ℕ) (n : ℕ) (holds : List ℕ) → TellsFree words n holds
    → ((f : ℕ) → has_frame words f ≡ false) → least_free holds ≡ None
least_free-none words n holds told none =
    let at = position_or_len_is (λ c. eqb c 0) holds (length holds) 0 (omega arith)
    (λ k less. held_frame holds k less (sym (told.tells k) ∙ none k)) (λ within. absurd (omega (arith, within))) in
    rw at (grind (arith, nat_tests))

-- the words find a frame exactly where one is free
pub has_free-is : (words : List ℕ) (n : ℕ) (holds : List ℕ) → TellsFree words n holds → (o : Option ℕ)
    → IfSome o (IsLeast words) → IfNone o ((f : ℕ) → has_frame words f ≡ false) → is_some o ≡ is_some (least_free holds)
has_free-is words n holds told (Some f) least none = rw (least_free-some words n holds f told least) refl
has_free-is words n holds told None least none = rw (least_free-none words n holds told none) refl

-- one free frame more or fewer
count_set : (holds : List ℕ) (f c : ℕ) → f < length holds
    → free_count (set holds f c) + cond (eqb (get_or holds f 0) 0) 1 0 ≡ free_count holds + cond (eqb c 0) 1 0
count_set holds f c within = sum_by-set (λ count. cond (eqb count 0) 1 0) holds f c 0 within

-- the words tell it of the holds with another count, where they are changed for that frame alone
tells-set : (words new : List ℕ) (n m : ℕ) (holds : List ℕ) (f c : ℕ) → TellsFree words n holds → f < length holds
    → has_frame new f ≡ eqb c 0 → ((g : ℕ) → g ≢ f → has_frame new g ≡ has_frame words g)
    → m + cond (eqb (get_or holds f 0) 0) 1 0 ≡ n + cond (eqb c 0) 1 0 → TellsFree new m (set holds f c)
tells-set words new n m holds f c told within here others count =
    let long = length-set holds f c in
    let counted = count_set holds f c within in
    record {
      few = rw long told.few;
      tells = λ g. ⊎_elim
          (λ (same : g ≡ f). rw (same, long, get_or-set_same holds f c 0 within, here) (grind (arith, nat_tests)))
          (λ (differ : g ≢ f). rw (long, get_or-set_other holds f g c 0 differ, others g differ) (told.tells g))
          (cases_eq g f);
      counts = omega (arith, told.counts, counted, count);
    }

-- where a frame is free the number isn't 0
pub some-free : (words : List ℕ) (n : ℕ) (holds : List ℕ) (f : ℕ) → TellsFree words n holds → f < length holds
    → get_or holds f 0 ≡ 0 → 1 ≤ n
some-free words n holds f told within free =
    let one : eqb (get_or holds f 0) 0 ≡ true = rw free refl in
    let counted : cond (eqb (get_or holds f 0) 0) 1 0 ≤ free_count holds =
    get_or-le-sum_by (λ count. cond (eqb count 0) 1 0) holds f 0 within in
    let some : 1 ≤ free_count holds = rw one at counted in
    omega (arith, told.counts, some)

-- a frame that was free is held from now on
pub tells-held : (words new : List ℕ) (n : ℕ) (holds : List ℕ) (f c : ℕ) → TellsFree words n holds → f < length holds
    → get_or holds f 0 ≡ 0 → c ≢ 0 → has_frame new f ≡ false → ((g : ℕ) → g ≢ f → has_frame new g ≡ has_frame words g)
    → TellsFree new (n - 1) (set holds f c)
tells-held words new n holds f c told within free some here others =
    let one : eqb (get_or holds f 0) 0 ≡ true = rw free refl in
    let none : eqb c 0 ≡ false = grind (arith, nat_tests) in
    let some : 1 ≤ n = some-free words n holds f told within free in
    tells-set words new n (n - 1) holds f c told within (here ∙ sym none) others
    (rw (one, none) (omega (arith, some)))

-- a frame that was held is free from now on
pub tells-freed : (words new : List ℕ) (n : ℕ) (holds : List ℕ) (f c : ℕ) → TellsFree words n holds → f < length holds
    → get_or holds f 0 ≢ 0 → c ≡ 0 → has_frame new f ≡ true → ((g : ℕ) → g ≢ f → has_frame new g ≡ has_frame words g)
    → TellsFree new (n + 1) (set holds f c)
tells-freed words new n holds f c told within held none here others =
    let not_one : eqb (get_or holds f 0) 0 ≡ false = grind (arith, nat_tests) in
    let one : eqb c 0 ≡ true = rw none refl in
    tells-set words new n (n + 1) holds f c told within (here ∙ sym one) others (rw (not_one, one) (omega arith))

-- a frame that was held still is
pub tells-same : (words : List ℕ) (n : ℕ) (holds : List ℕ) (f c : ℕ) → TellsFree words n holds → f < length holds
    → get_or holds f 0 ≢ 0 → c ≢ 0 → TellsFree words n (set holds f c)
tells-same words n holds f c told within held some =
    let not_one : eqb (get_or holds f 0) 0 ≡ false = grind (arith, nat_tests) in
    let none : eqb c 0 ≡ false = grind (arith, nat_tests) in
    let here : is_free holds f ≡ false = grind (arith, nat_tests) in
    tells-set words words n n holds f c told within (told.tells f ∙ here ∙ sym none) (λ g differ. refl)
    (rw (not_one, none) refl)

-- where no hold stands on any frame
pub map-replicate : {X Y : Type 0} (f : X → Y) (n : ℕ) (x : X) → map f (replicate n x) ≡ replicate n (f x)
map-replicate f zero x = refl
map-replicate f (suc n) x = ap (λ ys. f x ∷ ys) (map-replicate f n x)

free_count-fresh : (n : ℕ) → free_count (replicate n 0) ≡ n
free_count-fresh n = sum_by-replicate (λ count. cond (eqb count 0) 1 0) n 0 ∙ omega arith

is_free-fresh : (n f : ℕ) → is_free (replicate n 0) f ≡ nat_lt f n
is_free-fresh zero f = grind (arith, nat_tests)
is_free-fresh (suc n) zero = grind (arith, nat_tests)
is_free-fresh (suc n) (suc f) = let rest = is_free-fresh n f in grind (arith, nat_tests)

pub tells-fresh : (words : List ℕ) (n : ℕ) → n ≤ 4096 → ((f : ℕ) → has_frame words f ≡ nat_lt f n)
    → TellsFree words n (replicate n 0)
tells-fresh words n few told = record {
  few = rw (length-replicate {A = ℕ} n 0) few;
  tells = λ f. told f ∙ sym (is_free-fresh n f);
  counts = sym (free_count-fresh n);
}
