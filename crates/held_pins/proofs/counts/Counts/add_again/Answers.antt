use Rattle.std.proofs.Common.{◌≡◌, ℕ, ◌+◌, ◌<◌, Bool, true, false, Option, None, Some, cond, refl, ap, sym}
use Rattle.std.proofs.Common.{Fits, w16, ◌*◌, subst, ◌∙◌, arith}
use Rattle.std.specs.BTreeMap.{is_at}
use Rattle.std.specs.Map.{lookup, set_value}
use Rattle.std.specs.Option.{unwrap_or}
use Rattle.std.specs.Prelude.{IsSome, nat_lt}
use Rattle.std.proofs.lemmas.Bool.{false≢true}
use Rattle.std.proofs.lemmas.Bool.Decides.{nat_tests}
use Rattle.held_pins.specs.Counts.{ArePositive, count_in, weighed}
use Rattle.held_pins.proofs.Rows.{by_order, counted_more, found_positive, once_more, positive_set, weighed_set}
use Rattle.held_pins.proofs.counts.Counts.add_again.Goals as goal
use Rattle.held_pins.proofs.counts.Counts.add_again.Goals.{in-Some, in-None, Joined-get_mut}

-- ---- numbers

fits : (n counted : ℕ) → counted < 65535 → counted ≡ n → Fits w16 (n + 1)
fits n counted few is = omega arith

positive : (n : ℕ) → 0 < n + 1
positive n = omega arith

is_counted : (n : ℕ) → 0 < n → true ≡ nat_lt 0 n
is_counted n some = grind (arith, nat_tests)

is_none : false ≡ nat_lt 0 0
is_none = grind (arith, nat_tests)

-- what is counted once more weighs so much more
weighs_more : (n weight set was new now : ℕ) → set + n * weight ≡ was + (n + 1) * weight → new ≡ set → was ≡ now
    → new ≡ now + weight
weighs_more n weight set was new now more is seen =
    let once = once_more n weight in
    omega (arith, more, is, seen, once)

-- ---- what is found is how often the key is counted
counted : (g : _) (c : goal.Joined-get_mut g) (o : Option ℕ)
    → o ≡ lookup (g.K.PartialEq.eq c.args.key) c.self.inside.rows.entries
    → lookup (is_at (g.K.Ord.cmp c.args.key)) c.self.inside.rows.entries ≡ o
counted g c o is =
    let same = by_order g.K.Ord.cmp g.K.PartialEq.eq g.met.K.Ord.matches_eq in
    subst (λ (eq : _ → _ → Bool). lookup (eq c.args.key) c.self.inside.rows.entries ≡ o) same (sym is)

pub overflow_add-count : goal.overflow_add-count
overflow_add-count g c =
    let rows = c.self.inside.rows.entries in
    let same = by_order g.K.Ord.cmp g.K.PartialEq.eq g.met.K.Ord.matches_eq in
    let n = c.in-Some.count.now in
    let found = subst (λ (eq : _ → _ → Bool). lookup (eq c.args.key) rows ≡ Some n) same (sym c.in-Some.ensures.value) in
    let few : count_in g.K.Ord.cmp rows c.args.key < 65535 = rw c.self.view_is c.requires in
    let is = ap (λ (o : Option ℕ). unwrap_or o 0) found in
    fits n (count_in g.K.Ord.cmp rows c.args.key) few is

pub invariant_of-self : goal.invariant_of-self
invariant_of-self g c =
    let rows = c.self.inside.rows.entries in
    elim c.match-get_mut.branch [
      | in-Some w ↦
          let n = w.in-Some.count.now in
          let held = c.get_mut.follows.holds (n + 1) in
          let some = positive n in
          subst ArePositive (sym (ap (λ m. m.rows.entries) w.self-inside-is ∙ held.0))
          (positive_set (g.K.PartialEq.eq c.args.key) rows (n + 1) some c.self.invariant)
      | in-None w ↦ subst ArePositive
          (sym (ap (λ m. m.rows.entries) w.self-inside-is ∙ ap (λ m. m.entries) c.get_mut.follows.holds-at-none))
          c.self.invariant
    ]

pub returns-clause-positive : goal.returns-clause-positive
returns-clause-positive g c = invariant_of-self g c

pub returns-clause-test : goal.returns-clause-test
returns-clause-test g c =
    let rows = c.self.inside.rows.entries in
    let seen = ap (λ all. nat_lt 0 (count_in g.K.Ord.cmp all c.args.key)) c.self.view_is in
    elim c.match-get_mut.branch [
      | in-Some w ↦
          let n = w.in-Some.count.now in
          let found = counted g c (Some n) w.in-Some.ensures.value in
          let some = found_positive (is_at (g.K.Ord.cmp c.args.key)) rows n c.self.invariant found in
          let yes = is_counted n some in
          w.result-is ∙ yes ∙ sym (ap (λ (o : Option ℕ). nat_lt 0 (unwrap_or o 0)) found) ∙ seen
      | in-None w ↦
          let found = counted g c None w.in-None.ensures.value in
          w.result-is ∙ is_none ∙ sym (ap (λ (o : Option ℕ). nat_lt 0 (unwrap_or o 0)) found) ∙ seen
    ]

pub returns-clause-counts : goal.returns-clause-counts
returns-clause-counts g c =
    let cmp = g.K.Ord.cmp in
    let rows = c.self.inside.rows.entries in
    let key = c.args.key in
    let same = by_order cmp g.K.PartialEq.eq g.met.K.Ord.matches_eq in
    elim c.match-get_mut.branch [
      | in-Some w ↦
          let n = w.in-Some.count.now in
          let held = c.get_mut.follows.holds (n + 1) in
          let found = counted g c (Some n) w.in-Some.ensures.value in
          let there : IsSome (lookup (g.K.PartialEq.eq key) rows) =
          subst (λ (o : Option ℕ). IsSome o) w.in-Some.ensures.value refl in
          let updated = held.3 there in
          let new = c.match-get_mut.self-inside.rows.entries in
          let finds : (q : _) → lookup (g.K.PartialEq.eq q) new
          ≡ cond (g.K.PartialEq.eq key q) (Some (n + 1)) (lookup (g.K.PartialEq.eq q) rows) =
          λ q. ap (λ m. lookup (g.K.PartialEq.eq q) m.rows.entries) w.self-inside-is ∙ updated.0 q in
          λ yes other.
          counted_more cmp g.met.K.Ord.total rows new key n (sym (ap (λ (o : Option ℕ). unwrap_or o 0) found))
          (subst (λ (eq : _ → _ → Bool). (q : _)
          → lookup (eq q) new ≡ cond (eq key q) (Some (n + 1)) (lookup (eq q) rows)) same finds) other
          ∙ ap (λ seen. count_in cmp seen other + cond (is_at (cmp key) other) 1 0) c.self.view_is
      | in-None w ↦ rw w.result-is (λ is. absurd (false≢true is))
    ]

pub returns-clause-weights : goal.returns-clause-weights
returns-clause-weights g c =
    let cmp = g.K.Ord.cmp in
    let rows = c.self.inside.rows.entries in
    let key = c.args.key in
    let same = by_order cmp g.K.PartialEq.eq g.met.K.Ord.matches_eq in
    elim c.match-get_mut.branch [
      | in-Some w ↦
          let n = w.in-Some.count.now in
          let held = c.get_mut.follows.holds (n + 1) in
          let found = counted g c (Some n) w.in-Some.ensures.value in
          let new = c.match-get_mut.self-inside.rows.entries in
          let set = subst (λ (eq : _ → _ → Bool). new ≡ set_value (eq key) rows (n + 1)) same
          (ap (λ m. m.rows.entries) w.self-inside-is ∙ held.0) in
          λ yes weight alike.
          let more = weighed_set weight (is_at (cmp key)) (weight key) alike rows n (n + 1) found in
          let is = ap (weighed weight) set in
          let seen = ap (weighed weight) c.self.view_is in
          weighs_more n (weight key) _ _ _ _ more is seen
      | in-None w ↦ rw w.result-is (λ is. absurd (false≢true is))
    ]
