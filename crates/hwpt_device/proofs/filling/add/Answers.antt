use Rattle.std.proofs.Common.{◌≡◌, ◌-◌, ◌++◌, ℕ, List, [], ◌∷◌, sym, ap, ◌∙◌, arith, is_some, None, subst, vec_capacity}
use Rattle.std.proofs.Common.{vec_len}
use Rattle.area_map_rows.specs.Areas.{AreApart}
use Rattle.std.specs.Prelude.{IfSome}
use Rattle.frame_memory.specs.Pool.{given, least_free}
use Rattle.page_table_set.specs.PageTables.{AllStand, PageTables, hwpt_at, root_frame, rows_of, with_hwpt}
use Rattle.iofd_words.specs.TablePlaces.{live_pages}
use Rattle.iofd_words.specs.declared.rows.Area.{Area}
use Rattle.iofd_words.specs.declared.rows.TableFrame.{TableFrame}
use Rattle.hwpt_device.proofs.FilledInTurn.{Leads}
use Rattle.hwpt_device.proofs.RootAdded.{added, added_alone, can_fill_new, of_some, some_frame, takes_one}
use Rattle.hwpt_device.specs.Filling.{Adds, CanAdd}
use Rattle.server_state.specs.Mapping.{own_areas}
use Rattle.hwpt_device.proofs.filling.add.Goals as goal

pub insert-requires-clause-free : goal.insert-requires-clause-free
insert-requires-clause-free g c =
    let some = some_frame c.args.pool.now c.args.page_tables.now.tables c.args.memory.now c.args.object c.args.width
    (own_areas c.args.table.now c.args.object.file c.args.ioas) (vec_capacity c.args.taken.now
    - vec_len c.args.taken.now) c.requires.can in
    ap is_some some.1

pub insert-requires-clause-place : goal.insert-requires-clause-place
insert-requires-clause-place g c =
    let can = c.requires.can in
    let one = takes_one can.frames c.args.object c.args.width
    (live_pages (own_areas c.args.table.now c.args.object.file c.args.ioas)) can.none in
    let enough = can.enough in
    omega (arith, one, enough)

pub fill-requires : goal.fill-requires
fill-requires g c =
    let areas = own_areas c.args.table.now c.args.object.file c.args.ioas in
    let room = vec_capacity c.args.taken.now - vec_len c.args.taken.now in
    let some = some_frame c.args.pool.now c.args.page_tables.now.tables c.args.memory.now c.args.object c.args.width
    areas room c.requires.can in
    let f = some.0 in
    let holds = c.args.pool.now.holds in
    let tables = c.args.page_tables.now.tables in
    let same : areas ≡ c.iter.result = c.in-Some.ensures ∙ sym c.iter.ensures.areas in
    let apart : AreApart c.iter.result = subst AreApart (sym c.iter.ensures.areas) c.iter.ensures.kept.apart in
    let out = of_some (λ (frame : ℕ). c.insert.new.out.items ≡ c.args.taken.now.items ++ record { 0 = frame } ∷ [])
    (least_free holds) f some.1 c.insert.ensures.out in
    let capacity = c.insert.ensures.capacity in
    let old = c.args.taken.now.ok in
    let now = c.insert.new.out.ok in
    can_fill_new c.args.object c.args.width c.args.memory.now tables c.insert.new.self.tables c.args.pool.now
    c.insert.new.pool c.args.taken.now.items c.insert.new.out.items f some.1
    (of_some (λ (frame : ℕ). c.insert.new.self.tables ≡ with_hwpt (hwpt_at c.args.object c.args.width frame) tables)
    (least_free holds) f some.1 c.insert.ensures.tables)
    (of_some (λ (frame : ℕ). c.insert.new.pool ≡ given c.args.pool.now frame) (least_free holds) f
    some.1 c.insert.ensures.pool)
    out
    (of_some (λ (frame : ℕ). (frames : List TableFrame) (leads : Leads) → AllStand c.args.pool.now frames leads tables
    → rows_of frames c.args.object ≡ [] → ((page : ℕ) → leads c.args.object page ≡ None)
    → AllStand c.insert.new.pool (frames ++ root_frame (hwpt_at c.args.object c.args.width frame) ∷ []) leads
    c.insert.new.self.tables) (least_free holds) f some.1 c.insert.ensures.stand)
    c.iter.result room (vec_capacity c.insert.new.out - vec_len c.insert.new.out)
    (omega (arith, capacity, old.0, old.1, now.0, now.1)) apart
    (subst (λ (l : List Area). CanAdd c.args.pool.now tables c.args.memory.now c.args.object c.args.width l room) same
    c.requires.can)

pub returns-in-Some-clause-added : goal.returns-in-Some-clause-added
returns-in-Some-clause-added g c =
    let areas = own_areas c.args.table.now c.args.object.file c.args.ioas in
    let some = some_frame c.args.pool.now c.args.page_tables.now.tables c.args.memory.now c.args.object c.args.width
    areas (vec_capacity c.args.taken.now - vec_len c.args.taken.now) c.requires.can in
    let f = some.0 in
    let holds = c.args.pool.now.holds in
    let tables = c.args.page_tables.now.tables in
    let same : c.iter.result ≡ areas = c.iter.ensures.areas ∙ sym c.in-Some.ensures in
    let apart : AreApart c.iter.result = subst AreApart (sym c.iter.ensures.areas) c.iter.ensures.kept.apart in
    let done = added c.args.object c.args.width c.args.memory.now tables c.insert.new.self.tables c.args.pool.now
    c.insert.new.pool c.args.taken.now.items c.insert.new.out.items f some.1
    (of_some (λ (frame : ℕ). c.insert.new.self.tables ≡ with_hwpt (hwpt_at c.args.object c.args.width frame) tables)
    (least_free holds) f some.1 c.insert.ensures.tables)
    (of_some (λ (frame : ℕ). c.insert.new.pool ≡ given c.args.pool.now frame) (least_free holds) f
    some.1 c.insert.ensures.pool)
    (of_some (λ (frame : ℕ). c.insert.new.out.items ≡ c.args.taken.now.items ++ record { 0 = frame } ∷ [])
    (least_free holds) f some.1 c.insert.ensures.out)
    (of_some (λ (frame : ℕ). (frames : List TableFrame) (leads : Leads) → AllStand c.args.pool.now frames leads tables
    → rows_of frames c.args.object ≡ [] → ((page : ℕ) → leads c.args.object page ≡ None)
    → AllStand c.insert.new.pool (frames ++ root_frame (hwpt_at c.args.object c.args.width frame) ∷ []) leads
    c.insert.new.self.tables) (least_free holds) f some.1 c.insert.ensures.stand)
    c.iter.result c.fill.new.pool c.fill.new.taken.items c.requires.can.other apart c.fill.ensures.filled in
    let here : Adds c.args.object c.args.width c.args.memory.now areas tables c.insert.new.self.tables c.args.pool.now
    c.fill.new.pool c.args.taken.now.items c.fill.new.taken.items =
    subst (λ (l : List Area). Adds c.args.object c.args.width c.args.memory.now l tables c.insert.new.self.tables
    c.args.pool.now c.fill.new.pool c.args.taken.now.items c.fill.new.taken.items) same done in
    subst (λ (p : PageTables). Adds c.args.object c.args.width c.args.memory.now areas tables p.tables c.args.pool.now
    c.fill.new.pool c.args.taken.now.items c.fill.new.taken.items) (sym c.fill.ensures.same) here

pub returns-in_default-clause-added : goal.returns-in_default-clause-added
returns-in_default-clause-added g c =
    let areas = own_areas c.args.table.now c.args.object.file c.args.ioas in
    let some = some_frame c.args.pool.now c.args.page_tables.now.tables c.args.memory.now c.args.object c.args.width
    areas (vec_capacity c.args.taken.now - vec_len c.args.taken.now) c.requires.can in
    let f = some.0 in
    let holds = c.args.pool.now.holds in
    let tables = c.args.page_tables.now.tables in
    added_alone c.args.object c.args.width c.args.memory.now tables c.insert.new.self.tables c.args.pool.now
    c.insert.new.pool c.args.taken.now.items c.insert.new.out.items f some.1
    (of_some (λ (frame : ℕ). c.insert.new.self.tables ≡ with_hwpt (hwpt_at c.args.object c.args.width frame) tables)
    (least_free holds) f some.1 c.insert.ensures.tables)
    (of_some (λ (frame : ℕ). c.insert.new.pool ≡ given c.args.pool.now frame) (least_free holds) f
    some.1 c.insert.ensures.pool)
    (of_some (λ (frame : ℕ). c.insert.new.out.items ≡ c.args.taken.now.items ++ record { 0 = frame } ∷ [])
    (least_free holds) f some.1 c.insert.ensures.out)
    (of_some (λ (frame : ℕ). (frames : List TableFrame) (leads : Leads) → AllStand c.args.pool.now frames leads tables
    → rows_of frames c.args.object ≡ [] → ((page : ℕ) → leads c.args.object page ≡ None)
    → AllStand c.insert.new.pool (frames ++ root_frame (hwpt_at c.args.object c.args.width frame) ∷ []) leads
    c.insert.new.self.tables) (least_free holds) f some.1 c.insert.ensures.stand)
    areas c.in_default.ensures

pub insert-requires-clause-room : goal.insert-requires-clause-room
insert-requires-clause-room g c = c.requires.room

pub returns-in-Some-clause-tables : goal.returns-in-Some-clause-tables
returns-in-Some-clause-tables g c =
    subst (λ (p : PageTables). IfSome (least_free c.args.pool.now.holds) (λ frame.
    p.tables ≡ with_hwpt (hwpt_at c.args.object c.args.width frame) c.args.page_tables.now.tables))
    (sym c.fill.ensures.same) c.insert.ensures.tables

pub returns-in_default-clause-tables : goal.returns-in_default-clause-tables
returns-in_default-clause-tables g c = c.insert.ensures.tables
