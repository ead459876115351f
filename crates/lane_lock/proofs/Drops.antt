-- A writer drops shares, and turns its hand.
use Rattle.std.proofs.Common.{append-nil, append_assoc, ◌≡◌, ℕ, zero, suc, ◌-◌, ◌<◌, List, [], ◌∷◌, ◌++◌, drop}
use Rattle.std.proofs.Common.{sym, refl, ap, ◌∙◌, subst, arith, Option, None}
use Rattle.std.specs.declared.sync.Arc.{Arc}
use Rattle.atomic_table.specs.Table.{rest, turned}
use Rattle.lane_lock.specs.Hands.{Anything, Stack, Dropped}
use Rattle.lane_lock.specs.Rule.{place}

abbrev Hand : Type 0 → Type 0 → Type 0
Hand A B = List (ℕ × Option (Arc A B))

module _ {K Z : Type 0} where
  pub stack_weaker : (P Q : Option (Arc K Z) → Type 0) → ((x : Option (Arc K Z)) → P x → Q x)
      → (n : ℕ) (hand below : Hand K Z) → Stack P n hand below → Stack Q n hand below
  stack_weaker P Q f zero hand below s = s
  stack_weaker P Q f (suc n) hand below s = (s.0, s.1, f s.0 s.2, stack_weaker P Q f n (rest hand) below s.3)

  pub any_stack : (P : Option (Arc K Z) → Type 0) (n : ℕ) (hand below : Hand K Z) → Stack P n hand below
      → Stack Anything n hand below
  any_stack P = stack_weaker P Anything (λ x p. tt)

  -- what lies below is what is left without the lanes
  pub stack_drop : (P : Option (Arc K Z) → Type 0) (n : ℕ) (hand below : Hand K Z) → Stack P n hand below
      → drop n hand ≡ below
  stack_drop P zero hand below s = s
  stack_drop P (suc n) hand below s = ap (drop (suc n)) s.1 ∙ stack_drop P n (rest hand) below s.3

  pub stack_on : (P : Option (Arc K Z) → Type 0) (n : ℕ) (hand below : Hand K Z) → Stack P n hand below
      → Stack P n hand (drop n hand)
  stack_on P n hand below s = subst (Stack P n hand) (sym (stack_drop P n hand below s)) s

  stack_append : (n : ℕ) (hand below zs : Hand K Z) → Stack Anything n hand below
      → Stack Anything n (hand ++ zs) (below ++ zs)
  stack_append zero hand below zs s = ap (λ l. l ++ zs) s
  stack_append (suc n) hand below zs s =
      let long : hand ++ zs ≡ (place (suc n), s.0) ∷ (rest hand ++ zs) = ap (λ l. l ++ zs) s.1 in
      let tl : rest (hand ++ zs) ≡ rest hand ++ zs = ap rest long in (
        s.0,
        long ∙ (λ i. (place (suc n), s.0) ∷ sym tl i),
        tt,
        subst (λ c. Stack Anything n c (below ++ zs)) (sym tl) (stack_append n (rest hand) below zs s.3),
      )

  pub drop_none : (n : ℕ) (hand : Hand K Z) → Stack Anything n hand ((0, None) ∷ []) → Dropped n n hand
  drop_none n hand s = record { back = []; stack = s; rests = λ tl t. t }

  drop_one : (n k : ℕ) (hand hand' : Hand K Z) → Dropped n (suc k) hand → hand' ≡ turned ((place (suc k), None) ∷ rest hand)
      → Dropped n k hand'
  drop_one n k hand hand' d e = let z : Hand K Z = (place (suc k), None) ∷ [] in record {
    back = d.back ++ z;
    stack = subst (λ c. Stack Anything k c ((0, None) ∷ (d.back ++ z))) (sym e)
        (stack_append k (rest hand) ((0, None) ∷ d.back) z d.stack.3);
    rests = λ tl t. subst (λ c. Stack Anything n c []) (sym (append_assoc d.back z tl))
        (d.rests ((place (suc k), None) ∷ tl) (None, refl, tt, t));
  }

  pub drop_next : (n lane : ℕ) (hand hand' : Hand K Z) → 1 < lane → Dropped n (lane - 1) hand
      → hand' ≡ turned ((place (lane - 1), None) ∷ rest hand) → Dropped n ((lane - 1) - 1) hand'
  drop_next n zero hand hand' lt d e = absurd (omega arith)
  drop_next n (suc zero) hand hand' lt d e = absurd (omega arith)
  drop_next n (suc (suc k)) hand hand' lt d e =
      let a : suc (suc k) - 1 ≡ suc k = omega arith in let b : k ≡ (suc (suc k) - 1) - 1 = omega arith in
      subst (λ (j : ℕ). Dropped n j hand') b (drop_one n k hand hand' (subst (λ (j : ℕ). Dropped n j hand) a d) (e
      ∙ ap (λ (j : ℕ). turned ((place j, None) ∷ rest hand)) a))

  pub top_there : (n lane : ℕ) (hand : Hand K Z) → 1 < lane → Dropped n (lane - 1) hand
      → (x : Option (Arc K Z)) × (hand ≡ (place (lane - 1), x) ∷ rest hand)
  top_there n zero hand lt d = absurd (omega arith)
  top_there n (suc zero) hand lt d = absurd (omega arith)
  top_there n (suc (suc k)) hand lt d =
      let a : suc k ≡ suc (suc k) - 1 = omega arith in let s = (subst (λ (j : ℕ). Dropped n j hand) (sym a) d).stack in
      (s.0, s.1 ∙ ap (λ (j : ℕ). (place j, s.0) ∷ rest hand) a)

  -- at the end lane 0 is in front, and the others lie below it in their order
  pub drop_all : (n : ℕ) (hand : Hand K Z) → Dropped n 0 hand → (hand ≡ (0, None) ∷ rest hand)
      × Stack Anything n (rest hand) []
  drop_all n hand d = let tail : rest hand ≡ d.back = ap rest d.stack in (
    d.stack ∙ (λ i. (0, None) ∷ sym tail i),
    subst (λ c. Stack Anything n c []) (append-nil d.back ∙ sym tail) (d.rests [] refl),
  )

  -- turned once, lane 0 lies below the others
  pub turned_stack : (n : ℕ) (hand : Hand K Z) → hand ≡ (0, None) ∷ rest hand → Stack Anything n (rest hand) []
      → Stack Anything n (turned hand) ((0, None) ∷ [])
  turned_stack n hand is s = subst (λ c. Stack Anything n (turned c) ((0, None) ∷ [])) (sym is)
      (stack_append n (rest hand) [] ((0, None) ∷ []) s)
