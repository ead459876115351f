-- The rows of one file, after a change of its slab.
use Rattle.std.proofs.Common.{◌≡◌, ℕ, ◌+◌, ◌-◌, ◌^◌, ◌<◌, Bool, true, false, ◌&&◌, not, cond, List, [], length, map}
use Rattle.std.proofs.Common.{Option, Some, None, IsSome, is_some, count_by, get_or, set, ap, refl, sym, ◌∙◌, inl, inr}
use Rattle.std.proofs.Common.{arith, ⊎_elim}
use Rattle.std.proofs.lemmas.Bool.Decides.{nat_tests}
use Rattle.std.proofs.lemmas.Bool.{cases_Bool, cases_lt, ltb-true}
use Rattle.std.proofs.lemmas.List.{length-map, get_or_past}
use Rattle.std.proofs.lemmas.List.Sums.{sum_by-set}
use Rattle.std.specs.Option.{option_map}
use Rattle.std.specs.Prelude.{nat_lt}
use Rattle.slab.specs.Slab.{entries, get, slab_len, Slab, Updates, with_value as with_slot}
use Rattle.slab.proofs.SlabLemmas.{length-entries}
use Rattle.iofd_words.specs.declared.numbers.ObjId.{ObjId}
use Rattle.object_table.specs.declared.file_objects.Entry.{Entry}
use Rattle.object_table.specs.declared.file_objects.FileObjects.{FileObjects}
use Rattle.object_table.specs.Table.{Row, greatest_count, inserted, removed, changed_at, stands_before, is_at}
use Rattle.object_table.specs.Layout.{row_of, keyed_row, entry_at, key_end, next_id, has_room, file_rows}
use Rattle.object_table.proofs.Lookup.{is_at-here, is_at-other_id}
use Rattle.object_table.proofs.Rows.{inserted_is}
use Rattle.object_table.proofs.EntryRows.{Parts, rows_of_slots, rows_of_slots-filled, rows_of_slots-emptied}
use Rattle.object_table.proofs.EntryRows.{rows_of_slots-written}

-- what holds of the choice of a value holds where there is one
pub chosen : {T : Type 0} (b : Bool) (o : Option T) → IsSome (cond b o None) → (b ≡ true) × IsSome o
chosen true o some = (refl, some)
chosen false o some = absurd (cc)

pub and_true : (a b : Bool) → (a && b) ≡ true → (a ≡ true) × (b ≡ true)
and_true true b both = (refl, both)
and_true false b both = absurd (cc)

-- a slab has as many values after a write
count-written : {T : Type 0} (xs : List (Option T)) (key : ℕ) (was value : T) → get_or xs key None ≡ Some was
    → count_by is_some (set xs key (Some value)) ≡ count_by is_some xs
count-written xs key was value present =
    let within : key < length xs = elim (cases_lt key (length xs)) [
      | inl within ↦ within
      | inr past ↦ let none =
          get_or_past xs key None past in absurd (let differs : Some was ≡ None = sym present ∙ none in cc)
    ] in
    let counted = rw present at (sum_by-set (λ o. cond (is_some o) 1 0) xs key (Some value) None within) in
    omega (arith, counted)

-- what is mapped is there
pub some_from_map : {T U : Type 0} (f : T → U) (o : Option T) → IsSome (option_map f o) → IsSome o
some_from_map f None some = absurd (cc)
some_from_map f (Some value) some = refl

module _ {V : Type 0} where
  parts : (number key : ℕ) (entry : Entry V)
      → Parts (keyed_row number) key (stands_before (keyed_row number (key, entry)))
  parts number key entry = record { early = λ e lt. grind (arith, nat_tests); late = λ e lt. grind (arith, nat_tests) }

  -- what room there is
  pub room_parts : (s : Slab (Entry V)) → has_room s ≡ true
      → (slab_len s < greatest_count) × (slab_len s < s.capacity) × (s.vacant_key < key_end)
  room_parts s room =
      let parts = and_true (nat_lt (slab_len s) greatest_count && nat_lt (slab_len s) s.capacity)
      (nat_lt s.vacant_key key_end) room in
      let lens = and_true (nat_lt (slab_len s) greatest_count) (nat_lt (slab_len s) s.capacity) parts.0 in
      (ltb-true _ _ lens.0, ltb-true _ _ lens.1, ltb-true _ _ parts.1)

module _ {V A : Type 0} where
  -- a file with an object at an id is open, the id isn't 0, and its slab has the object
  pub record IsThere (f : FileObjects V A) (id : ObjId) : Type 0 where
    pub open_mark : f.is_open ≡ true
    pub positive : 0 < id.0
    pub present : IsSome (get f.objects (id.0 - 1))

  pub there : (f : FileObjects V A) (id : ObjId) → IsSome (entry_at f id) → IsThere f id
  there f id some =
      let both = chosen (f.is_open && nat_lt 0 id.0) (get f.objects (id.0 - 1)) some in
      let marks = and_true f.is_open (nat_lt 0 id.0) both.0 in
      let lt = marks.1 in
      record { open_mark = marks.0; positive = grind (arith, nat_tests); present = both.1 }

  pub entry_there : (f : FileObjects V A) (id : ObjId) (entry : Entry V) → entry_at f id ≡ Some entry
      → (0 < id.0) × (get f.objects (id.0 - 1) ≡ Some entry)
  entry_there f id entry present =
      let is_there = there f id (rw present refl) in
      let lt : nat_lt 0 id.0 ≡ true = grind (arith, nat_tests, is_there.positive) in
      (is_there.positive, rw (is_there.open_mark, lt) at present)

  pub next_is_open : (f : FileObjects V A) → IsSome (next_id f) → (f.is_open ≡ true) × (has_room f.objects ≡ true)
  next_is_open f some = and_true f.is_open (has_room f.objects)
      (chosen (f.is_open && has_room f.objects) (Some (record { 0 = f.objects.vacant_key + 1 })) some).0

  -- the next object's id is in range
  pub next_in_range : (f : FileObjects V A) (id : ObjId) → next_id f ≡ Some id → (0 < id.0) × (id.0 < 2 ^ 31)
  next_in_range f id next =
      let marks = next_is_open f (rw next refl) in
      let same : record { 0 = f.objects.vacant_key + 1 } ≡ id = let is = rw (marks.0, marks.1) at next in cc in
      let number = ap (λ (i : ObjId). i.0) same in
      let below = (room_parts f.objects marks.1).2 in
      (omega (arith, number), omega (arith, number, below))

  -- without room there is no next id
  pub no_next : (f : FileObjects V A) → (has_room f.objects ≡ true → ⊥) → next_id f ≡ None
  no_next f no_room =
      let b = f.is_open && has_room f.objects in
      ⊎_elim (λ (some : b ≡ true). absurd (no_room (and_true f.is_open (has_room f.objects) some).1))
      (λ (none : b ≡ false). rw none refl) (cases_Bool b)

  -- an object that is added comes in at its place
  pub file_rows-filled : (number key : ℕ) (old new : FileObjects V A) (entry : Entry V) → new.is_open ≡ old.is_open
      → old.is_open ≡ true → get old.objects key ≡ None → Updates old.objects new.objects key (Some entry)
      → file_rows number new ≡ inserted (keyed_row number (key, entry)) (file_rows number old)
  file_rows-filled number key old new entry mark is_open vacant updates =
      rw (mark, is_open, inserted_is (keyed_row number (key, entry)) (map (keyed_row number) (entries old.objects)))
      (rows_of_slots-filled (keyed_row number) key _ (parts number key entry) entry key 0 (omega arith)
      old.objects.slots new.objects.slots vacant updates.changed updates.others)

  -- an object that is taken out leaves the other rows
  pub file_rows-emptied : (number : ℕ) (id : ObjId) (old new : FileObjects V A) → new.is_open ≡ old.is_open → 0 < id.0
      → new.objects.slots ≡ set old.objects.slots (id.0 - 1) None
      → file_rows number new ≡ removed (record { 0 = number }) id (file_rows number old)
  file_rows-emptied number id old new mark positive written = rw (mark, written) (by_mark old.is_open)
    where
      by_mark : (b : Bool) → cond b (rows_of_slots (keyed_row number) 0 (set old.objects.slots (id.0 - 1) None))
          [] ≡ removed (record { 0 = number }) id (cond b (rows_of_slots (keyed_row number) 0 old.objects.slots) [])
      by_mark false = refl
      by_mark true =
          rows_of_slots-emptied (keyed_row number) (id.0 - 1) (λ row. not (is_at (record { 0 = number }) id row))
          (λ e same. grind (arith, nat_tests)) (λ e differs. grind (arith, nat_tests)) (id.0 - 1) 0
          (omega arith) old.objects.slots

  -- an object that is written changes its row
  pub file_rows-written : (number : ℕ) (id : ObjId) (f : FileObjects V A) (was entry : Entry V) (change : Row V → Row V)
      → change (row_of (record { 0 = number }) id was) ≡ row_of (record { 0 = number }) id entry → 0 < id.0
      → get f.objects (id.0 - 1) ≡ Some was → file_rows number
      (record f { objects = with_slot f.objects (id.0 - 1) entry }) ≡ changed_at (record { 0 = number }) id
      change (file_rows number f)
  file_rows-written number id f was entry change changes positive present = by_mark f.is_open
    where
      by_mark : (b : Bool) → cond b (rows_of_slots (keyed_row number) 0 (set f.objects.slots (id.0 - 1) (Some entry)))
          [] ≡ changed_at (record { 0 = number }) id change
          (cond b (rows_of_slots (keyed_row number) 0 f.objects.slots) [])
      by_mark false = refl
      by_mark true =
          let again : id.0 - 1 + 1 ≡ id.0 = omega arith in
          rows_of_slots-written (keyed_row number) (id.0 - 1) was entry
          (λ row. cond (is_at (record { 0 = number }) id row) (change row) row)
          (rw (again, is_at-here (record { 0 = number }) id was) changes)
          (λ e differs. rw (is_at-other_id (record { 0 = number }) id (keyed_row number e)
          (λ same. differs (omega arith)))) (id.0 - 1) 0 (omega arith) f.objects.slots present

  pub next_id-written : (id : ObjId) (f : FileObjects V A) (was entry : Entry V) → get f.objects (id.0 - 1) ≡ Some was
      → next_id (record f { objects = with_slot f.objects (id.0 - 1) entry }) ≡ next_id f
  next_id-written id f was entry present = rw (count-written f.objects.slots (id.0 - 1) was entry present)

  -- an open file has as many rows as its slab has values
  pub length-file_rows : (number : ℕ) (f : FileObjects V A) → f.is_open ≡ true
      → length (file_rows number f) ≡ slab_len f.objects
  length-file_rows number f is_open =
      rw (is_open, length-map (entries f.objects) (keyed_row number)) (length-entries f.objects)
