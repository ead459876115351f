use Rattle.std.proofs.Common.{◌≡◌, ◌&&◌, ◌||◌, ℕ, Some, eqb, is_some, ap, sym, ◌∙◌}
use Rattle.std.specs.BTreeMap.{is_at}
use Rattle.std.specs.Map.{lookup}
use Rattle.std.specs.Ordering.{nat_cmp, ordering_then}
use Rattle.std.specs.Prelude.{IsSome}
use Rattle.std.proofs.lemmas.Map.Steps.{set_value_same}
use Rattle.std.proofs.lemmas.Result.{on_ok_weaker, on_err_weaker}
use Rattle.dirty_bitmap.specs.Tracking.{Tables, is_dirty, is_marked_in, is_table, is_tracked, marks_of}
use Rattle.dirty_bitmap.proofs.Tracked.{Puts, changed_tracks, marked_tables, puts, unmarked_tables}
use Rattle.dirty_bitmap.proofs.dirty_tables.DirtyTables.mark.Goals as goal
use Rattle.dirty_bitmap.proofs.dirty_tables.DirtyTables.mark.Goals.{in-Some, in-None, Joined-get_mut}

-- the marks that are written have their place
put : (g : _) (c : Joined-get_mut g) (words : _) (tables : Tables)
    → tables ≡ (c.get_mut.follows.lender words).entries
    → IsSome (marks_of c.self.inside.tables.entries c.args.file c.args.hwpt)
    → Puts c.self.inside.tables.entries tables c.args.file c.args.hwpt (Some words)
put g c words tables is some =
    puts c.self.inside.tables.entries tables c.args.file c.args.hwpt (Some words)
    (λ q. ap (λ (all : Tables). lookup
    (is_at (λ (x : ℕ × ℕ). ordering_then (nat_cmp q.0 x.0) (nat_cmp q.1 x.1))) all) is
    ∙ ((c.get_mut.follows.holds words).3 some).0 q)

pub returns-clause-tracks : goal.returns-clause-tracks
returns-clause-tracks g c f h =
    let seen = ap (λ (tables : Tables). is_tracked tables f h) c.self.view_is in
    elim c.match-get_mut.branch [
      | in-Some w ↦
          let found = sym w.in-Some.ensures.value in
          changed_tracks c.self.inside.tables.entries c.match-get_mut.self-inside.tables.entries c.args.file c.args.hwpt
          w.in-Some.marks.now w.set.new.self found
          (put g c w.set.new.self _ (ap (λ m. m.tables.entries) w.self-inside-is) (ap (λ o. is_some o) found)) f h
          ∙ seen
      | in-None w ↦
          ap (λ m. is_tracked m.tables.entries f h) w.self-inside-is
          ∙ ap (λ m. is_tracked m.entries f h) c.get_mut.follows.holds-at-none
          ∙ seen
    ]

pub returns-clause-marks : goal.returns-clause-marks
returns-clause-marks g c =
    let old = c.self.inside.tables.entries in
    elim c.match-get_mut.branch [
      | in-Some w ↦
          let found = sym w.in-Some.ensures.value in
          rw w.result-is (on_ok_weaker w.set.result (λ more f h other.
          marked_tables old c.match-get_mut.self-inside.tables.entries c.args.file c.args.hwpt
          w.in-Some.marks.now w.set.new.self found
          (put g c w.set.new.self _ (ap (λ m. m.tables.entries) w.self-inside-is) (ap (λ o. is_some o) found))
          c.args.page more f h other
          ∙ ap (λ (tables : Tables). is_dirty tables f h other
          || (is_tracked tables f h && (is_table c.args.file c.args.hwpt f h && eqb c.args.page other))) c.self.view_is)
          w.set.ensures.marks)
      | in-None w ↦
          rw w.result-is (λ f h other.
          ap (λ m. is_dirty m.tables.entries f h other) w.self-inside-is
          ∙ ap (λ m. is_dirty m.entries f h other) c.get_mut.follows.holds-at-none
          ∙ unmarked_tables old c.args.file c.args.hwpt (sym w.in-None.ensures.value) (eqb c.args.page other) f h other
          ∙ ap (λ (tables : Tables). is_dirty tables f h other
          || (is_tracked tables f h && (is_table c.args.file c.args.hwpt f h && eqb c.args.page other))) c.self.view_is)
    ]

pub returns-clause-memory : goal.returns-clause-memory
returns-clause-memory g c =
    elim c.match-get_mut.branch [
      | in-Some w ↦
          let found = ap (λ (tables : Tables). marks_of tables c.args.file c.args.hwpt) (sym c.self.view_is)
          ∙ sym w.in-Some.ensures.value in
          rw w.result-is (on_err_weaker w.set.result (λ none.
          (ap (λ o. is_some o) found, λ other same. ap (λ o. is_marked_in o other) found ∙ none other same))
          w.set.ensures.memory)
      | in-None w ↦ rw w.result-is tt
    ]

pub returns-clause-err : goal.returns-clause-err
returns-clause-err g c =
    elim c.match-get_mut.branch [
      | in-Some w ↦
          rw w.result-is (on_err_weaker w.set.result (λ same.
          ap (λ m. m.tables.entries) w.self-inside-is
          ∙ ap (λ words. (c.get_mut.follows.lender words).entries) same
          ∙ (c.get_mut.follows.holds w.in-Some.marks.now).0
          ∙ set_value_same _ c.self.inside.tables.entries w.in-Some.marks.now (sym w.in-Some.ensures.value)
          ∙ c.self.view_is) w.set.ensures.err)
      | in-None w ↦ rw w.result-is tt
    ]
