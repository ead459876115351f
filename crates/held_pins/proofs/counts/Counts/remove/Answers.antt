use Rattle.std.proofs.Common.{◌≡◌, ℕ, ◌*◌, ◌<◌, Bool, false, Option, None, Some, cond, ap, sym, subst, ◌∙◌}
use Rattle.std.proofs.Common.{arith}
use Rattle.std.specs.BTreeMap.{is_at}
use Rattle.std.specs.List.Sorted.{IsPermutation}
use Rattle.std.specs.Map.{lookup, remove_entry}
use Rattle.std.specs.Option.{unwrap_or}
use Rattle.std.specs.Prelude.{nat_lt}
use Rattle.std.proofs.lemmas.Bool.Decides.{nat_tests}
use Rattle.std.proofs.lemmas.List.Sorted.{sum_by-IsPermutation}
use Rattle.held_pins.specs.Counts.{count_in, weighed}
use Rattle.held_pins.proofs.Rows.{by_order, counted_less, once_found, positive_less, weighed_removed}
use Rattle.held_pins.proofs.counts.Counts.remove.Goals as goal

once : (n : ℕ) → 0 < n → false ≡ nat_lt 1 n → n ≡ 1
once n some few = grind (arith, nat_tests)

-- the rows are still those of the call
rows_are : (g : _) (c : goal.After-remove g) → c.self.inside.rows.entries ≡ c.args.self.now
rows_are g c = c.self.view_is ∙ c.remove_one.ensures.unchanged c.if-remove_one.false

-- the key is counted once
counted : (g : _) (c : goal.After-remove g)
    → lookup (is_at (g.K.Ord.cmp c.args.key)) c.self.inside.rows.entries ≡ Some 1
counted g c =
    let test = is_at (g.K.Ord.cmp c.args.key) in
    let is = once (count_in g.K.Ord.cmp c.args.self.now c.args.key) c.requires
    (sym c.if-remove_one.false ∙ c.remove_one.ensures.test) in
    once_found test c.self.inside.rows.entries
    (ap (λ all. count_in g.K.Ord.cmp all c.args.key) (rows_are g c) ∙ is)

-- without the first row of the key, in some order
removed : (g : _) (c : goal.After-remove g)
    → IsPermutation (remove_entry (is_at (g.K.Ord.cmp c.args.key)) c.self.inside.rows.entries) c.remove.new.self.entries
removed g c =
    let same = by_order g.K.Ord.cmp g.K.PartialEq.eq g.met.K.Ord.matches_eq in
    subst (λ (eq : _ → _ → Bool).
    IsPermutation (remove_entry (eq c.args.key) c.self.inside.rows.entries) c.remove.new.self.entries) same
    c.remove.ensures.entries

pub invariant_of-self : goal.invariant_of-self
invariant_of-self g c =
    positive_less (is_at (g.K.Ord.cmp c.args.key)) c.self.inside.rows.entries c.remove.new.self.entries (removed g c)
    c.self.invariant

pub returns-clause-positive : goal.returns-clause-positive
returns-clause-positive g c = invariant_of-self g c

pub returns-clause-counts : goal.returns-clause-counts
returns-clause-counts g c other =
    let cmp = g.K.Ord.cmp in
    let rows = c.self.inside.rows.entries in
    let new = c.remove.new.self.entries in
    let key = c.args.key in
    let same = by_order cmp g.K.PartialEq.eq g.met.K.Ord.matches_eq in
    counted_less cmp g.met.K.Ord.total rows new key None (sym (ap (λ (o : Option ℕ). unwrap_or o 0) (counted g c)))
    (subst (λ (eq : _ → _ → Bool). (q : _) → lookup (eq q) new ≡ cond (eq key q) None (lookup (eq q) rows)) same
    c.remove.ensures.updates.0) other
    ∙ ap (λ seen. count_in cmp seen other) (rows_are g c)

pub returns-clause-weights : goal.returns-clause-weights
returns-clause-weights g c weight alike =
    let test = is_at (g.K.Ord.cmp c.args.key) in
    let rows = c.self.inside.rows.entries in
    let less = weighed_removed weight test (weight c.args.key) alike rows 1 (counted g c) in
    let moved = sum_by-IsPermutation (λ row. row.1 * weight row.0) (remove_entry test rows) c.remove.new.self.entries
    (removed g c) in
    let seen = ap (weighed weight) (rows_are g c) in
    omega (arith, less, moved, seen)
