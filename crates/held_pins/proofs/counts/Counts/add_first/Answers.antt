use Rattle.std.proofs.Common.{◌≡◌, ◌+◌, ◌∷◌, ℕ, Bool, Option, Some, cond, ap, sym, subst, ◌∙◌}
use Rattle.std.specs.BTreeMap.{is_at}
use Rattle.std.specs.List.Sorted.{IsPermutation}
use Rattle.std.specs.Map.{lookup, set_value}
use Rattle.std.specs.Option.{MatchOption, unwrap_or}
use Rattle.held_pins.specs.Counts.{ArePositive, count_in, weighed}
use Rattle.held_pins.proofs.Rows.{absent_row, by_order, counted_more, first_put, positive_more, weighed_first}
use Rattle.held_pins.proofs.counts.Counts.add_first.Goals as goal
use Rattle.held_pins.proofs.counts.Counts.add_first.Goals.{in-Ok, in-Err, Joined-insert}

-- the key wasn't counted
none : (g : _) (c : goal.Joined-insert g) → count_in g.K.Ord.cmp c.self.inside.rows.entries c.args.key ≡ 0
none g c = ap (λ rows. count_in g.K.Ord.cmp rows c.args.key) c.self.view_is ∙ c.requires

-- so its row comes to the others
put : (g : _) (c : goal.Joined-insert g) (old : Option ℕ)
    → old ≡ lookup (g.K.PartialEq.eq c.args.key) c.self.inside.rows.entries
    → MatchOption old (IsPermutation ((c.args.key, 1) ∷ c.self.inside.rows.entries) c.insert.new.self.entries)
    (λ _. c.insert.new.self.entries ≡ set_value (g.K.PartialEq.eq c.args.key) c.self.inside.rows.entries 1)
    → IsPermutation ((c.args.key, 1) ∷ c.self.inside.rows.entries) c.insert.new.self.entries
put g c old is entries =
    let rows = c.self.inside.rows.entries in
    let key = c.args.key in
    let same = by_order g.K.Ord.cmp g.K.PartialEq.eq g.met.K.Ord.matches_eq in
    let absent = absent_row (g.K.PartialEq.eq key) rows c.self.invariant
    (subst (λ (eq : _ → _ → Bool). unwrap_or (lookup (eq key) rows) 0 ≡ 0) (sym same) (none g c)) in
    first_put (g.K.PartialEq.eq key) rows c.insert.new.self.entries key old (is ∙ absent) entries

pub invariant_of-self : goal.invariant_of-self
invariant_of-self g c = elim c.match-insert.branch [
  | in-Ok w ↦ positive_more c.self.inside.rows.entries c.insert.new.self.entries c.args.key (put g c _ w.in-Ok.ensures.old w.in-Ok.ensures.entries) c.self.invariant
  | in-Err w ↦ subst ArePositive (sym w.in-Err.ensures.err) c.self.invariant
]

pub returns-clause-positive : goal.returns-clause-positive
returns-clause-positive g c = invariant_of-self g c

pub returns-clause-weights : goal.returns-clause-weights
returns-clause-weights g c = elim c.match-insert.branch [
  | in-Ok w ↦ rw w.result-is (λ weight alike.
      weighed_first weight c.self.inside.rows.entries c.insert.new.self.entries c.args.key (put g c _ w.in-Ok.ensures.old w.in-Ok.ensures.entries)
      ∙ ap (λ rows. weighed weight rows + weight c.args.key) c.self.view_is)
  | in-Err w ↦ rw w.result-is tt
]

pub returns-clause-counts : goal.returns-clause-counts
returns-clause-counts g c =
    let cmp = g.K.Ord.cmp in
    let rows = c.self.inside.rows.entries in
    let new = c.insert.new.self.entries in
    let key = c.args.key in
    let same = by_order cmp g.K.PartialEq.eq g.met.K.Ord.matches_eq in
    elim c.match-insert.branch [
      | in-Ok w ↦ rw w.result-is (λ other.
          counted_more cmp g.met.K.Ord.total rows new key 0 (sym (none g c))
          (subst (λ (eq : _ → _ → Bool). (q : _)
          → lookup (eq q) new ≡ cond (eq key q) (Some 1) (lookup (eq q) rows)) same w.in-Ok.ensures.updates.0) other
          ∙ ap (λ seen. count_in cmp seen other + cond (is_at (cmp key) other) 1 0) c.self.view_is)
      | in-Err w ↦ rw w.result-is tt
    ]
