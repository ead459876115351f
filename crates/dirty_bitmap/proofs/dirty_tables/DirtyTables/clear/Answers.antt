use Rattle.std.proofs.Common.{◌≡◌, ◌&&◌, ℕ, Some, not, is_some, ap, sym, ◌∙◌}
use Rattle.std.specs.BTreeMap.{is_at}
use Rattle.std.specs.Map.{lookup}
use Rattle.std.specs.Ordering.{nat_cmp, ordering_then}
use Rattle.std.specs.Prelude.{IsSome}
use Rattle.iofd_words.specs.DirtyWords.{is_page_of}
use Rattle.dirty_bitmap.specs.Tracking.{Tables, is_dirty, is_table, is_tracked, marks_of}
use Rattle.dirty_bitmap.proofs.Tracked.{Puts, changed_tracks, cleared_tables, puts, uncleared_tables}
use Rattle.dirty_bitmap.proofs.dirty_tables.DirtyTables.clear.Goals as goal
use Rattle.dirty_bitmap.proofs.dirty_tables.DirtyTables.clear.Goals.{in-Some, in-None, Joined-get_mut}

-- the marks that are left have their place
put : (g : _) (c : Joined-get_mut g) (words : _) (tables : Tables)
    → tables ≡ (c.get_mut.follows.lender words).entries
    → IsSome (marks_of c.self.inside.tables.entries c.args.file c.args.hwpt)
    → Puts c.self.inside.tables.entries tables c.args.file c.args.hwpt (Some words)
put g c words tables is some =
    puts c.self.inside.tables.entries tables c.args.file c.args.hwpt (Some words)
    (λ q. ap (λ (all : Tables). lookup
    (is_at (λ (x : ℕ × ℕ). ordering_then (nat_cmp q.0 x.0) (nat_cmp q.1 x.1))) all) is
    ∙ ((c.get_mut.follows.holds words).3 some).0 q)

pub returns-clause-tracks : goal.returns-clause-tracks
returns-clause-tracks g c f h =
    let seen = ap (λ (tables : Tables). is_tracked tables f h) c.self.view_is in
    elim c.match-get_mut.branch [
      | in-Some w ↦
          let found = sym w.in-Some.ensures.value in
          changed_tracks c.self.inside.tables.entries c.match-get_mut.self-inside.tables.entries c.args.file c.args.hwpt
          w.in-Some.marks.now w.clear.new.self found
          (put g c w.clear.new.self _ (ap (λ m. m.tables.entries) w.self-inside-is) (ap (λ o. is_some o) found)) f h
          ∙ seen
      | in-None w ↦
          ap (λ m. is_tracked m.tables.entries f h) w.self-inside-is
          ∙ ap (λ m. is_tracked m.entries f h) c.get_mut.follows.holds-at-none
          ∙ seen
    ]

pub returns-clause-marks : goal.returns-clause-marks
returns-clause-marks g c f h page =
    let old = c.self.inside.tables.entries in
    let seen = ap (λ (tables : Tables). is_dirty tables f h page
    && not (is_table c.args.file c.args.hwpt f h && is_page_of c.args.span page)) c.self.view_is in
    elim c.match-get_mut.branch [
      | in-Some w ↦
          let found = sym w.in-Some.ensures.value in
          cleared_tables old c.match-get_mut.self-inside.tables.entries c.args.file c.args.hwpt
          w.in-Some.marks.now w.clear.new.self found
          (put g c w.clear.new.self _ (ap (λ m. m.tables.entries) w.self-inside-is) (ap (λ o. is_some o) found))
          (is_page_of c.args.span) w.clear.ensures f h page
          ∙ seen
      | in-None w ↦
          ap (λ m. is_dirty m.tables.entries f h page) w.self-inside-is
          ∙ ap (λ m. is_dirty m.entries f h page) c.get_mut.follows.holds-at-none
          ∙ uncleared_tables old c.args.file c.args.hwpt (sym w.in-None.ensures.value) (is_page_of c.args.span page)
          f h page
          ∙ seen
    ]
