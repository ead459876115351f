use Rattle.std.proofs.Common.{◌≡◌, ◌-◌, ◌<◌, ◌≤◌, ◌∙◌, ℕ, cond, eqb, Option, None, Some, true, refl, sym, ap, subst, arith}
use Rattle.std.specs.HashMap.{spare}
use Rattle.std.specs.Map.{lookup}
use Rattle.std.specs.Prelude.{IsSome}
use Rattle.pinned_pages.specs.Access.{AccessMap, AccessRows, are_counted, pins_in, rising_rows, row_at}
use Rattle.pinned_pages.specs.declared.access_pins.AccessPin.{AccessPin}
use Rattle.pinned_pages.proofs.AccessRows.{changed_counted, row_found, set_same, sorted}
use Rattle.pinned_pages.proofs.pin_rows.PinRows.unpin_one.Goals as goal
use Rattle.pinned_pages.proofs.pin_rows.PinRows.unpin_one.Goals.{in-Some, in-Some-2, in-None, Joined-get_mut}

-- what is found is the page's row
row_is : (g : _) (c : goal.Joined-get_mut g) (o : Option AccessPin)
    → o ≡ lookup (λ (i : ℕ). eqb c.args.index i) c.self.inside.rows.entries
    → row_at c.args.self.now.rows c.args.index ≡ o
row_is g c o is =
    sym (is ∙ sym (row_found c.self.inside.rows.entries c.args.index)
    ∙ ap (λ (v : AccessMap). row_at v.rows c.args.index) c.self.view_is)

pub returns-clause-before : goal.returns-clause-before
returns-clause-before g c = elim c.match-get_mut.branch [
  | in-Some w ↦ rw w.result-is (row_is g c (Some w.in-Some.row.now) w.in-Some.ensures.value)
  | in-Some-2 w ↦ rw w.result-is tt
  | in-None w ↦ rw w.result-is tt
]

pub returns-clause-few : goal.returns-clause-few
returns-clause-few g c = elim c.match-get_mut.branch [
  | in-Some w ↦ rw w.result-is tt
  | in-Some-2 w ↦
      let pins = ap pins_in (row_is g c (Some w.in-Some.row.now) w.in-Some.ensures.value) in
      let few = w.if-get_mut-gt1.false in
      let most : pins_in (row_at c.args.self.now.rows c.args.index) ≤ 1 = omega (arith, pins, few) in
      rw w.result-is most
  | in-None w ↦
      let pins = ap pins_in (row_is g c None w.in-None.ensures.value) in
      let most : pins_in (row_at c.args.self.now.rows c.args.index) ≤ 1 = omega (arith, pins) in
      rw w.result-is most
]

pub returns-clause-rows : goal.returns-clause-rows
returns-clause-rows g c = elim c.match-get_mut.branch [
  | in-Some w ↦
      let row = w.in-Some.row.now in
      let pin : AccessPin = record { frame = row.frame; pins = row.pins - 1 } in
      let held = c.get_mut.follows.holds pin in
      let es = c.self.inside.rows.entries in
      let some : IsSome (lookup (λ (i : ℕ). eqb c.args.index i) es) =
      subst (λ (o : Option AccessPin). IsSome o) w.in-Some.ensures.value refl in
      let updated = held.3 some in
      rw w.result-is (λ other.
      row_found c.match-get_mut.self-inside.rows.entries other
      ∙ ap (λ m. row_at m.rows.entries other) w.self-inside-is
      ∙ updated.0 other
      ∙ ap (λ o. cond (eqb c.args.index other) (Some pin) o) (sym (row_found es other))
      ∙ ap (λ (v : AccessMap). cond (eqb c.args.index other) (Some pin) (row_at v.rows other)) c.self.view_is)
  | in-Some-2 w ↦ rw w.result-is tt
  | in-None w ↦ rw w.result-is tt
]

pub returns-clause-none : goal.returns-clause-none
returns-clause-none g c = elim c.match-get_mut.branch [
  | in-Some w ↦ rw w.result-is tt
  | in-Some-2 w ↦
      let row = w.in-Some.row.now in
      let held = c.get_mut.follows.holds row in
      let es = c.self.inside.rows.entries in
      let entries = ap (λ m. m.rows.entries) w.self-inside-is ∙ held.0
      ∙ set_same (λ (i : ℕ). eqb c.args.index i) es row (sym w.in-Some.ensures.value) in
      let room = ap (λ m. spare m.rows) w.self-inside-is ∙ held.6 in
      let same : _ ≡ c.args.self.now = (λ i. record { rows = rising_rows (entries i); room = room i }) ∙ c.self.view_is in
      rw w.result-is same
  | in-None w ↦
      let entries = ap (λ m. m.rows.entries) w.self-inside-is
      ∙ ap (λ m. m.entries) c.get_mut.follows.holds-at-none in
      let room = ap (λ m. spare m.rows) w.self-inside-is ∙ ap (λ m. spare m) c.get_mut.follows.holds-at-none in
      let same : _ ≡ c.args.self.now = (λ i. record { rows = rising_rows (entries i); room = room i }) ∙ c.self.view_is in
      rw w.result-is same
]

pub returns-clause-counted : goal.returns-clause-counted
returns-clause-counted g c n all = elim c.match-get_mut.branch [
  | in-Some w ↦
      let row = w.in-Some.row.now in
      let pin : AccessPin = record { frame = row.frame; pins = row.pins - 1 } in
      let often = w.if-get_mut-gt1.true in
      let some : 0 < row.pins - 1 = omega (arith, often) in
      let held = c.get_mut.follows.holds pin in
      let es = c.self.inside.rows.entries in
      let there : IsSome (lookup (λ (i : ℕ). eqb c.args.index i) es) =
      subst (λ (o : Option AccessPin). IsSome o) w.in-Some.ensures.value refl in
      let updated = held.3 there in
      changed_counted n c.args.index c.args.self.now.rows (rising_rows c.match-get_mut.self-inside.rows.entries) row pin
      (sorted c.match-get_mut.self-inside.rows.entries) (row_is g c (Some row) w.in-Some.ensures.value) some
      (λ other.
      row_found c.match-get_mut.self-inside.rows.entries other
      ∙ ap (λ m. row_at m.rows.entries other) w.self-inside-is
      ∙ updated.0 other
      ∙ ap (λ o. cond (eqb c.args.index other) (Some pin) o) (sym (row_found es other))
      ∙ ap (λ (v : AccessMap). cond (eqb c.args.index other) (Some pin) (row_at v.rows other)) c.self.view_is) all
  | in-Some-2 w ↦
      let row = w.in-Some.row.now in
      let held = c.get_mut.follows.holds row in
      let entries = ap (λ m. m.rows.entries) w.self-inside-is ∙ held.0
      ∙ set_same (λ (i : ℕ). eqb c.args.index i) c.self.inside.rows.entries row (sym w.in-Some.ensures.value) in
      subst (λ (rows : AccessRows). are_counted n rows ≡ true)
      (sym (ap rising_rows entries ∙ ap (λ (v : AccessMap). v.rows) c.self.view_is)) all
  | in-None w ↦
      let entries = ap (λ m. m.rows.entries) w.self-inside-is
      ∙ ap (λ m. m.entries) c.get_mut.follows.holds-at-none in
      subst (λ (rows : AccessRows). are_counted n rows ≡ true)
      (sym (ap rising_rows entries ∙ ap (λ (v : AccessMap). v.rows) c.self.view_is)) all
]
