use Rattle.std.proofs.Common.{◌≡◌, ℕ, ◌+◌, ◌-◌, ◌*◌, ◌<◌, ◌≤◌, Bool, true, false, Option, None, Some, cond, refl, ap}
use Rattle.std.proofs.Common.{sym, subst, ◌∙◌, arith}
use Rattle.std.specs.BTreeMap.{is_at}
use Rattle.std.specs.Map.{lookup, set_value}
use Rattle.std.specs.Option.{unwrap_or}
use Rattle.std.specs.Prelude.{IsSome, nat_lt}
use Rattle.std.proofs.lemmas.Bool.{false≢true, true≢false}
use Rattle.std.proofs.lemmas.Bool.Decides.{nat_tests}
use Rattle.held_pins.specs.Counts.{ArePositive, count_in, weighed}
use Rattle.held_pins.proofs.Rows.{by_order, counted_less, once_more, positive_set, set_same, weighed_set}
use Rattle.held_pins.proofs.counts.Counts.remove_one.Goals as goal
use Rattle.held_pins.proofs.counts.Counts.remove_one.Goals.{in-Some, in-Some-2, in-None, Joined-get_mut}

-- ---- numbers

some_left : (n : ℕ) → 1 < n → 0 < n - 1
some_left n often = omega arith

is_often : (n : ℕ) → 1 < n → true ≡ nat_lt 1 n
is_often n often = grind (arith, nat_tests)

is_seldom : (n : ℕ) → n ≤ 1 → false ≡ nat_lt 1 n
is_seldom n few = grind (arith, nat_tests)

none_few : 0 ≤ 1
none_few = omega arith

one_less : (n counted : ℕ) → 1 < n → counted ≡ n → (n - 1) + 1 ≡ counted
one_less n counted often is = omega arith

-- what is counted once less weighs so much less
weighs_less : (n weight set was new now : ℕ) → 1 < n → set + n * weight ≡ was + (n - 1) * weight → new ≡ set
    → was ≡ now → now ≡ new + weight
weighs_less n weight set was new now often less is seen =
    let back : (n - 1) + 1 ≡ n = omega arith in
    let once = once_more (n - 1) weight in
    let all = ap (λ m. m * weight) back in
    omega (arith, less, is, seen, once, all)

-- ---- what is found is how often the key is counted
counted : (g : _) (c : goal.Joined-get_mut g) (o : Option ℕ)
    → o ≡ lookup (g.K.PartialEq.eq c.args.key) c.self.inside.rows.entries
    → lookup (is_at (g.K.Ord.cmp c.args.key)) c.self.inside.rows.entries ≡ o
counted g c o is =
    let same = by_order g.K.Ord.cmp g.K.PartialEq.eq g.met.K.Ord.matches_eq in
    subst (λ (eq : _ → _ → Bool). lookup (eq c.args.key) c.self.inside.rows.entries ≡ o) same (sym is)

pub invariant_of-self : goal.invariant_of-self
invariant_of-self g c =
    let rows = c.self.inside.rows.entries in
    let test = g.K.PartialEq.eq c.args.key in
    elim c.match-get_mut.branch [
      | in-Some w ↦
          let n = w.in-Some.count.now in
          let held = c.get_mut.follows.holds (n - 1) in
          let often = w.if-get_mut-gt1.true in
          let some = some_left n often in
          subst ArePositive (sym (ap (λ m. m.rows.entries) w.self-inside-is ∙ held.0))
          (positive_set test rows (n - 1) some c.self.invariant)
      | in-Some-2 w ↦
          let n = w.in-Some.count.now in
          let held = c.get_mut.follows.holds n in
          subst ArePositive
          (sym (ap (λ m. m.rows.entries) w.self-inside-is ∙ held.0 ∙ set_same test rows n (sym w.in-Some.ensures.value)))
          c.self.invariant
      | in-None w ↦ subst ArePositive
          (sym (ap (λ m. m.rows.entries) w.self-inside-is ∙ ap (λ m. m.entries) c.get_mut.follows.holds-at-none))
          c.self.invariant
    ]

pub returns-clause-positive : goal.returns-clause-positive
returns-clause-positive g c = invariant_of-self g c

pub returns-clause-test : goal.returns-clause-test
returns-clause-test g c =
    let rows = c.self.inside.rows.entries in
    let seen = ap (λ all. nat_lt 1 (count_in g.K.Ord.cmp all c.args.key)) c.self.view_is in
    elim c.match-get_mut.branch [
      | in-Some w ↦
          let n = w.in-Some.count.now in
          let found = counted g c (Some n) w.in-Some.ensures.value in
          let often = w.if-get_mut-gt1.true in
          let yes = is_often n often in
          w.result-is ∙ yes ∙ sym (ap (λ (o : Option ℕ). nat_lt 1 (unwrap_or o 0)) found) ∙ seen
      | in-Some-2 w ↦
          let n = w.in-Some.count.now in
          let found = counted g c (Some n) w.in-Some.ensures.value in
          let few = w.if-get_mut-gt1.false in
          let no = is_seldom n few in
          w.result-is ∙ no ∙ sym (ap (λ (o : Option ℕ). nat_lt 1 (unwrap_or o 0)) found) ∙ seen
      | in-None w ↦
          let found = counted g c None w.in-None.ensures.value in
          let no = is_seldom 0 none_few in
          w.result-is ∙ no ∙ sym (ap (λ (o : Option ℕ). nat_lt 1 (unwrap_or o 0)) found) ∙ seen
    ]

pub returns-clause-unchanged : goal.returns-clause-unchanged
returns-clause-unchanged g c =
    let rows = c.self.inside.rows.entries in
    let test = g.K.PartialEq.eq c.args.key in
    elim c.match-get_mut.branch [
      | in-Some w ↦ rw w.result-is (λ is. absurd (true≢false is))
      | in-Some-2 w ↦
          let n = w.in-Some.count.now in
          let held = c.get_mut.follows.holds n in
          λ no. ap (λ m. m.rows.entries) w.self-inside-is ∙ held.0
          ∙ set_same test rows n (sym w.in-Some.ensures.value) ∙ c.self.view_is
      | in-None w ↦
          λ no. ap (λ m. m.rows.entries) w.self-inside-is ∙ ap (λ m. m.entries) c.get_mut.follows.holds-at-none
          ∙ c.self.view_is
    ]

pub returns-clause-counts : goal.returns-clause-counts
returns-clause-counts g c =
    let cmp = g.K.Ord.cmp in
    let rows = c.self.inside.rows.entries in
    let key = c.args.key in
    let same = by_order cmp g.K.PartialEq.eq g.met.K.Ord.matches_eq in
    elim c.match-get_mut.branch [
      | in-Some w ↦
          let n = w.in-Some.count.now in
          let held = c.get_mut.follows.holds (n - 1) in
          let found = counted g c (Some n) w.in-Some.ensures.value in
          let often = w.if-get_mut-gt1.true in
          let there : IsSome (lookup (g.K.PartialEq.eq key) rows) =
          subst (λ (o : Option ℕ). IsSome o) w.in-Some.ensures.value refl in
          let updated = held.3 there in
          let new = c.match-get_mut.self-inside.rows.entries in
          let finds : (q : _) → lookup (g.K.PartialEq.eq q) new
          ≡ cond (g.K.PartialEq.eq key q) (Some (n - 1)) (lookup (g.K.PartialEq.eq q) rows) =
          λ q. ap (λ m. lookup (g.K.PartialEq.eq q) m.rows.entries) w.self-inside-is ∙ updated.0 q in
          let was = ap (λ (o : Option ℕ). unwrap_or o 0) found in
          λ yes other.
          counted_less cmp g.met.K.Ord.total rows new key (Some (n - 1)) (one_less n (count_in cmp rows key) often was)
          (subst (λ (eq : _ → _ → Bool). (q : _)
          → lookup (eq q) new ≡ cond (eq key q) (Some (n - 1)) (lookup (eq q) rows)) same finds) other
          ∙ ap (λ seen. count_in cmp seen other) c.self.view_is
      | in-Some-2 w ↦ rw w.result-is (λ is. absurd (false≢true is))
      | in-None w ↦ rw w.result-is (λ is. absurd (false≢true is))
    ]

pub returns-clause-weights : goal.returns-clause-weights
returns-clause-weights g c =
    let cmp = g.K.Ord.cmp in
    let rows = c.self.inside.rows.entries in
    let key = c.args.key in
    let same = by_order cmp g.K.PartialEq.eq g.met.K.Ord.matches_eq in
    elim c.match-get_mut.branch [
      | in-Some w ↦
          let n = w.in-Some.count.now in
          let held = c.get_mut.follows.holds (n - 1) in
          let found = counted g c (Some n) w.in-Some.ensures.value in
          let often = w.if-get_mut-gt1.true in
          let new = c.match-get_mut.self-inside.rows.entries in
          let set = subst (λ (eq : _ → _ → Bool). new ≡ set_value (eq key) rows (n - 1)) same
          (ap (λ m. m.rows.entries) w.self-inside-is ∙ held.0) in
          λ yes weight alike.
          let less = weighed_set weight (is_at (cmp key)) (weight key) alike rows n (n - 1) found in
          let is = ap (weighed weight) set in
          let seen = ap (weighed weight) c.self.view_is in
          weighs_less n (weight key) _ _ _ _ often less is seen
      | in-Some-2 w ↦ rw w.result-is (λ is. absurd (false≢true is))
      | in-None w ↦ rw w.result-is (λ is. absurd (false≢true is))
    ]
