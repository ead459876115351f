use Rattle.std.proofs.Common.{◌≡◌, ℕ, ◌+◌, ◌*◌, ◌<◌, ◌≤◌, true, false, List, length, Option, Some, None, IfSome, IfNone}
use Rattle.std.proofs.Common.{Result, Ok, Err, IsOkUnless, Fits, w64, refl, subst, sym, ap, arith}
use Rattle.std.proofs.lemmas.Bool.Decides.{nat_tests}
use Rattle.std.proofs.Math.Nat.{le_refl}
use Rattle.iofd_words.specs.Bounds.{Bounds}
use Rattle.iofd_words.specs.declared.call_error.CallError.{CallError}
use Rattle.iofd_words.specs.declared.call_error.CallError.TheVariants.{Memory, Refused}
use Rattle.iofd_words.specs.declared.refusal.Cause.{Cause}
use Rattle.iofd_words.specs.declared.refusal.Cause.TheVariants.{Full, Overlap}
use Rattle.iofd_words.specs.declared.rows.Area.{Area}
use Rattle.iofd_words.specs.Areas.{areas_meet, has_no_room}
use Rattle.area_map_rows.specs.Rows.{in_rows}
use Rattle.area_map.specs.AreaTable.{AreaTable}
use Rattle.area_map.specs.Insertion.{insert_refusal}
use Rattle.area_map.specs.Kept.{room_of}
use Rattle.area_map.proofs.Joined.{few_rows}
use Rattle.area_map.proofs.RowsKept.{rows_with}
use Rattle.area_map.proofs.Room.{at_answer, at_error, room-most, room-none}
use Rattle.area_map.proofs.areas.Areas.insert.Goals as goal

-- what the answer is by the first cause that applies
refused_by : (cause : Option Cause) (one : Cause) (answer : Result (Unit {0}) CallError) → cause ≡ Some one
    → answer ≡ Err (Refused (record { cause = one }))
    → IfSome cause (λ other. answer ≡ Err (Refused (record { cause = other })))
refused_by cause one answer is told = rw is told

not_refused : (cause : Option Cause) (answer : Result (Unit {0}) CallError) → cause ≡ None
    → IfSome cause (λ other. answer ≡ Err (Refused (record { cause = other })))
not_refused cause answer is = rw is tt

not_taken : (cause : Option Cause) (one : Cause) (answer : Result (Unit {0}) CallError) → cause ≡ Some one
    → IfNone cause (IsOkUnless answer (Memory (record {})))
not_taken cause one answer is = rw is tt

taken_as : (cause : Option Cause) (answer : Result (Unit {0}) CallError) → cause ≡ None
    → IsOkUnless answer (Memory (record {})) → IfNone cause (IsOkUnless answer (Memory (record {})))
taken_as cause answer is told = rw is told

-- which cause that is, where the areas that are seen are those of the rows
overlaps : (span : Bounds) (seen : AreaTable) (rows now : List (List Area)) (room : ℕ)
    (hull : Option Bounds) (many : ℕ)
    → ◌≡◌ {A = AreaTable} (record { areas = in_rows rows; room = room; leaving = hull; rows = many }) seen → now ≡ rows
    → true ≡ areas_meet span (in_rows now) → insert_refusal span seen.areas ≡ Some Overlap
overlaps span seen rows now room hull many is same meets =
    let met : areas_meet span (in_rows rows) ≡ true = rw same at (sym meets) in
    rw (← is, met) refl

has_most : (span : Bounds) (seen : AreaTable) (rows now : List (List Area)) (count room : ℕ)
    (hull : Option Bounds) (many : ℕ)
    → ◌≡◌ {A = AreaTable} (record { areas = in_rows rows; room = room; leaving = hull; rows = many }) seen → now ≡ rows
    → false ≡ areas_meet span (in_rows now) → count ≡ length (in_rows rows) → 65535 ≤ count
    → insert_refusal span seen.areas ≡ Some Full
has_most span seen rows now count room hull many is same meets counted most =
    let met : areas_meet span (in_rows rows) ≡ false = rw same at (sym meets) in
    let full : has_no_room (in_rows rows) ≡ true = grind (arith, nat_tests) in
    rw (← is, met, full) refl

has_place : (span : Bounds) (seen : AreaTable) (rows now : List (List Area)) (count room : ℕ)
    (hull : Option Bounds) (many : ℕ)
    → ◌≡◌ {A = AreaTable} (record { areas = in_rows rows; room = room; leaving = hull; rows = many }) seen → now ≡ rows
    → false ≡ areas_meet span (in_rows now) → count ≡ length (in_rows rows) → count < 65535
    → insert_refusal span seen.areas ≡ None
has_place span seen rows now count room hull many is same meets counted few =
    let met : areas_meet span (in_rows rows) ≡ false = rw same at (sym meets) in
    let free : has_no_room (in_rows rows) ≡ false = grind (arith, nat_tests) in
    rw (← is, met, free) refl

fits : (count : ℕ) → count < 65535 → Fits w64 (count + 1)
fits count few = omega arith

le_more : (n : ℕ) → n ≤ n + 1
le_more n = omega arith

least : (m n : ℕ) → m ≡ 0 → m ≤ n
least m n none = omega arith

at_most : (m n : ℕ) → m ≤ 1 → m ≤ n + 1
at_most m n one = omega arith

pub rows_below-below-requires-clause-apart : goal.rows_below-below-requires-clause-apart
rows_below-below-requires-clause-apart g c = rw c.deref.ensures.value c.self.invariant.0.kept.apart

pub rows_below-below-requires-clause-rows : goal.rows_below-below-requires-clause-rows
rows_below-below-requires-clause-rows g c = rw c.deref.ensures.value c.self.invariant.0.each

pub prepare-requires-clause-spare : goal.prepare-requires-clause-spare
prepare-requires-clause-spare g c = c.self.invariant.1

pub prepare-requires-clause-blocks : goal.prepare-requires-clause-blocks
prepare-requires-clause-blocks g c = c.self.invariant.2

pub prepare-requires-clause-places : goal.prepare-requires-clause-places
prepare-requires-clause-places g c = c.self.invariant.3

pub invariant_of-self : goal.invariant_of-self
invariant_of-self g c = (
  rw c.prepare.ensures.rows c.self.invariant.0,
  c.prepare.ensures.spare,
  rw c.prepare.ensures.rows c.prepare.ensures.blocks,
  c.prepare.ensures.places,
)

pub returns-then-is_err-clause-err : goal.returns-then-is_err-clause-err
returns-then-is_err-clause-err g c = rw (c.prepare.ensures.rows, ← c.self.view_is) refl

pub add-requires-clause-apart : goal.add-requires-clause-apart
add-requires-clause-apart g c = rw c.prepare.ensures.rows c.self.invariant.0.kept.apart

pub add-requires-clause-rows : goal.add-requires-clause-rows
add-requires-clause-rows g c = rw c.prepare.ensures.rows c.self.invariant.0.each

pub add-requires-clause-spare : goal.add-requires-clause-spare
add-requires-clause-spare g c = c.prepare.ensures.spare

pub add-requires-clause-blocks : goal.add-requires-clause-blocks
add-requires-clause-blocks g c = rw c.prepare.ensures.rows c.prepare.ensures.blocks

pub add-requires-clause-alone : goal.add-requires-clause-alone
add-requires-clause-alone g c =
    rw (c.prepare.ensures.rows, ← c.deref-2.ensures.value) (sym c.if-meets_behind.ensures)

pub invariant_of-self-2 : goal.invariant_of-self-2
invariant_of-self-2 g c =
    let rows : List (List Area) = c.self.inside.rows.items in
    let a = c.args.area in
    let alone : areas_meet a.span (in_rows rows) ≡ false =
    rw c.deref-2.ensures.value at (sym c.if-meets_behind.ensures) in
    let added = rw c.prepare.ensures.rows at c.add.ensures.areas in
    let hull = c.with_area-self-inside in
    let leaves = hull.ensures in (
      rows_with a rows c.add.new.rows.items c.self.inside.count c.self.inside.leaving hull.result c.self.invariant.0
          c.add.ensures.rows c.add.ensures.joined added (omega arith) alone c.if-self-ge-MOST_AREAS.false leaves,
      c.add.ensures.spare,
      c.add.ensures.blocks,
      omega (arith, c.add.ensures.places, c.add.ensures.blocks_len, c.prepare.ensures.places),
    )

pub returns-clause-ok : goal.returns-clause-ok
returns-clause-ok g c = rw (← c.self.view_is) (rw c.prepare.ensures.rows at c.add.ensures.areas)

pub returns-then-meets_behind-clause-room : goal.returns-then-meets_behind-clause-room
returns-then-meets_behind-clause-room g c = le_more c.args.self.now.room

pub returns-then-self-ge-MOST_AREAS-clause-room : goal.returns-then-self-ge-MOST_AREAS-clause-room
returns-then-self-ge-MOST_AREAS-clause-room g c = le_more c.args.self.now.room

pub add-requires-clause-place : goal.add-requires-clause-place
add-requires-clause-place g c =
    rw c.prepare.ensures.rows (rw (
      c.deref-3.ensures.value,
      c.rows_below-below.ensures.value,
      c.deref.ensures.value,
      c.first.ensures.value,
    ) at c.row_for-index.ensures)

pub meets_behind-requires-clause-apart : goal.meets_behind-requires-clause-apart
meets_behind-requires-clause-apart g c = rw c.deref-2.ensures.value c.self.invariant.0.kept.apart

pub meets_behind-requires-clause-rows : goal.meets_behind-requires-clause-rows
meets_behind-requires-clause-rows g c = rw c.deref-2.ensures.value c.self.invariant.0.each

pub meets_behind-requires-clause-below : goal.meets_behind-requires-clause-below
meets_behind-requires-clause-below g c =
    rw c.deref-2.ensures.value (rw (c.deref.ensures.value, c.first.ensures.value) at c.rows_below-below.ensures.value)

pub meets_behind-requires-clause-bound : goal.meets_behind-requires-clause-bound
meets_behind-requires-clause-bound g c =
    rw c.deref-2.ensures.value (rw c.deref.ensures.value at c.rows_below-below.ensures.bound)

pub returns-then-meets_behind-clause-refused : goal.returns-then-meets_behind-clause-refused
returns-then-meets_behind-clause-refused g c =
    let cause = overlaps c.args.area.span c.args.self.now c.self.inside.rows.items c.deref-2.result.now
    (room_of c.self.inside.spare) c.self.inside.leaving (length c.self.inside.rows.items) c.self.view_is
    c.deref-2.ensures.value c.if-meets_behind.ensures in
    refused_by (insert_refusal c.args.area.span c.args.self.now.areas) Overlap (Err c.refused.result) cause
    (ap Err c.refused.ensures)

pub returns-then-meets_behind-clause-taken : goal.returns-then-meets_behind-clause-taken
returns-then-meets_behind-clause-taken g c =
    let cause = overlaps c.args.area.span c.args.self.now c.self.inside.rows.items c.deref-2.result.now
    (room_of c.self.inside.spare) c.self.inside.leaving (length c.self.inside.rows.items) c.self.view_is
    c.deref-2.ensures.value c.if-meets_behind.ensures in
    not_taken (insert_refusal c.args.area.span c.args.self.now.areas) Overlap (Err c.refused.result) cause

pub returns-then-meets_behind-clause-memory : goal.returns-then-meets_behind-clause-memory
returns-then-meets_behind-clause-memory g c = λ is. absurd (cc (is, c.refused.ensures))

pub returns-then-meets_behind-clause-ok : goal.returns-then-meets_behind-clause-ok
returns-then-meets_behind-clause-ok g c = tt

pub returns-then-meets_behind-clause-err : goal.returns-then-meets_behind-clause-err
returns-then-meets_behind-clause-err g c = refl

pub returns-then-meets_behind-clause-err_room : goal.returns-then-meets_behind-clause-err_room
returns-then-meets_behind-clause-err_room g c = le_refl c.args.self.now.room

pub returns-then-self-ge-MOST_AREAS-clause-refused : goal.returns-then-self-ge-MOST_AREAS-clause-refused
returns-then-self-ge-MOST_AREAS-clause-refused g c =
    let cause = has_most c.args.area.span c.args.self.now c.self.inside.rows.items c.deref-2.result.now
    c.self.inside.count (room_of c.self.inside.spare) c.self.inside.leaving (length c.self.inside.rows.items)
    c.self.view_is c.deref-2.ensures.value
    c.if-meets_behind.ensures c.self.invariant.0.counted c.if-self-ge-MOST_AREAS.true in
    refused_by (insert_refusal c.args.area.span c.args.self.now.areas) Full
    (Err c.refused-then-self-ge-MOST_AREAS.result) cause (ap Err c.refused-then-self-ge-MOST_AREAS.ensures)

pub returns-then-self-ge-MOST_AREAS-clause-taken : goal.returns-then-self-ge-MOST_AREAS-clause-taken
returns-then-self-ge-MOST_AREAS-clause-taken g c =
    let cause = has_most c.args.area.span c.args.self.now c.self.inside.rows.items c.deref-2.result.now
    c.self.inside.count (room_of c.self.inside.spare) c.self.inside.leaving (length c.self.inside.rows.items)
    c.self.view_is c.deref-2.ensures.value
    c.if-meets_behind.ensures c.self.invariant.0.counted c.if-self-ge-MOST_AREAS.true in
    not_taken (insert_refusal c.args.area.span c.args.self.now.areas) Full
    (Err c.refused-then-self-ge-MOST_AREAS.result) cause

pub returns-then-self-ge-MOST_AREAS-clause-memory : goal.returns-then-self-ge-MOST_AREAS-clause-memory
returns-then-self-ge-MOST_AREAS-clause-memory g c = λ is. absurd (cc (is, c.refused-then-self-ge-MOST_AREAS.ensures))

pub returns-then-self-ge-MOST_AREAS-clause-ok : goal.returns-then-self-ge-MOST_AREAS-clause-ok
returns-then-self-ge-MOST_AREAS-clause-ok g c = tt

pub returns-then-self-ge-MOST_AREAS-clause-err : goal.returns-then-self-ge-MOST_AREAS-clause-err
returns-then-self-ge-MOST_AREAS-clause-err g c = refl

pub returns-then-self-ge-MOST_AREAS-clause-err_room : goal.returns-then-self-ge-MOST_AREAS-clause-err_room
returns-then-self-ge-MOST_AREAS-clause-err_room g c = le_refl c.args.self.now.room

pub returns-then-is_err-clause-refused : goal.returns-then-is_err-clause-refused
returns-then-is_err-clause-refused g c =
    let cause = has_place c.args.area.span c.args.self.now c.self.inside.rows.items c.deref-2.result.now
    c.self.inside.count (room_of c.self.inside.spare) c.self.inside.leaving (length c.self.inside.rows.items)
    c.self.view_is c.deref-2.ensures.value
    c.if-meets_behind.ensures c.self.invariant.0.counted c.if-self-ge-MOST_AREAS.false in
    not_refused (insert_refusal c.args.area.span c.args.self.now.areas) (Err (Memory (record {}))) cause

pub returns-then-is_err-clause-taken : goal.returns-then-is_err-clause-taken
returns-then-is_err-clause-taken g c =
    let cause = has_place c.args.area.span c.args.self.now c.self.inside.rows.items c.deref-2.result.now
    c.self.inside.count (room_of c.self.inside.spare) c.self.inside.leaving (length c.self.inside.rows.items)
    c.self.view_is c.deref-2.ensures.value
    c.if-meets_behind.ensures c.self.invariant.0.counted c.if-self-ge-MOST_AREAS.false in
    taken_as (insert_refusal c.args.area.span c.args.self.now.areas) (Err (Memory (record {}))) cause refl

pub returns-then-is_err-clause-memory : goal.returns-then-is_err-clause-memory
returns-then-is_err-clause-memory g c = λ is.
    let none = at_error c.prepare.result (sym c.if-is_err.ensures.value) c.prepare.ensures.err in
    rw (← c.self.view_is) (room-none c.self.inside.spare none)

pub returns-then-is_err-clause-ok : goal.returns-then-is_err-clause-ok
returns-then-is_err-clause-ok g c = tt

pub returns-then-is_err-clause-room : goal.returns-then-is_err-clause-room
returns-then-is_err-clause-room g c =
    let none = at_error c.prepare.result (sym c.if-is_err.ensures.value) c.prepare.ensures.err in
    rw (← c.self.view_is) (least (room_of c.self.inside.spare) (room_of c.prepare.new.spare + 1)
    (room-none c.self.inside.spare none))

pub returns-then-is_err-clause-err_room : goal.returns-then-is_err-clause-err_room
returns-then-is_err-clause-err_room g c =
    let none = at_error c.prepare.result (sym c.if-is_err.ensures.value) c.prepare.ensures.err in
    rw (← c.self.view_is) (least (room_of c.self.inside.spare) (room_of c.prepare.new.spare)
    (room-none c.self.inside.spare none))

pub overflow_add-self : goal.overflow_add-self
overflow_add-self g c = fits c.self.inside.count c.if-self-ge-MOST_AREAS.false

pub add-requires-clause-room : goal.add-requires-clause-room
add-requires-clause-room g c = λ takes.
    at_answer c.prepare.result (sym c.if-is_err.ensures.value) c.prepare.ensures.ok
    (rw c.prepare.ensures.rows at takes)

pub returns-clause-refused : goal.returns-clause-refused
returns-clause-refused g c =
    let cause = has_place c.args.area.span c.args.self.now c.self.inside.rows.items c.deref-2.result.now
    c.self.inside.count (room_of c.self.inside.spare) c.self.inside.leaving (length c.self.inside.rows.items)
    c.self.view_is c.deref-2.ensures.value
    c.if-meets_behind.ensures c.self.invariant.0.counted c.if-self-ge-MOST_AREAS.false in
    not_refused (insert_refusal c.args.area.span c.args.self.now.areas) (Ok tt) cause

pub returns-clause-taken : goal.returns-clause-taken
returns-clause-taken g c =
    let cause = has_place c.args.area.span c.args.self.now c.self.inside.rows.items c.deref-2.result.now
    c.self.inside.count (room_of c.self.inside.spare) c.self.inside.leaving (length c.self.inside.rows.items)
    c.self.view_is c.deref-2.ensures.value
    c.if-meets_behind.ensures c.self.invariant.0.counted c.if-self-ge-MOST_AREAS.false in
    taken_as (insert_refusal c.args.area.span c.args.self.now.areas) (Ok tt) cause tt

pub returns-clause-memory : goal.returns-clause-memory
returns-clause-memory g c = λ is. absurd (cc is)

pub returns-clause-err : goal.returns-clause-err
returns-clause-err g c = tt

pub returns-clause-room : goal.returns-clause-room
returns-clause-room g c =
    rw (← c.self.view_is) (at_most (room_of c.self.inside.spare) (room_of c.add.new.spare)
    (room-most c.self.inside.spare))

pub returns-clause-err_room : goal.returns-clause-err_room
returns-clause-err_room g c = tt

pub returns-clause-leaving : goal.returns-clause-leaving
returns-clause-leaving g c = (invariant_of-self-2 g c).0.leave

pub returns-clause-rows : goal.returns-clause-rows
returns-clause-rows g c = few_rows c.add.new.rows.items (invariant_of-self-2 g c).0.joined

pub add-requires-clause-joined : goal.add-requires-clause-joined
add-requires-clause-joined g c = rw c.prepare.ensures.rows c.self.invariant.0.joined

pub returns-then-meets_behind-clause-rows : goal.returns-then-meets_behind-clause-rows
returns-then-meets_behind-clause-rows g c =
    let Few : AreaTable → Type 0 = λ v. 17 * v.rows ≤ 2 * length v.areas + 17 in
    subst Few c.self.view_is (few_rows c.self.inside.rows.items c.self.invariant.0.joined)

pub returns-then-self-ge-MOST_AREAS-clause-rows : goal.returns-then-self-ge-MOST_AREAS-clause-rows
returns-then-self-ge-MOST_AREAS-clause-rows g c =
    let Few : AreaTable → Type 0 = λ v. 17 * v.rows ≤ 2 * length v.areas + 17 in
    subst Few c.self.view_is (few_rows c.self.inside.rows.items c.self.invariant.0.joined)

pub returns-then-is_err-clause-rows : goal.returns-then-is_err-clause-rows
returns-then-is_err-clause-rows g c = few_rows c.prepare.new.rows.items (invariant_of-self g c).0.joined
