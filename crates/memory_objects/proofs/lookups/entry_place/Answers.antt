use Rattle.std.proofs.Common.{◌∙◌, le_of_lt, length, pos_of_ne-zero, refl, sym, ap}
use Rattle.std.proofs.lemmas.Bool.{eqb-false, eqb-true}
use Rattle.std.proofs.lemmas.List.{nil_from_length}
use Rattle.std.proofs.lemmas.Option.{slice_get_read}
use Rattle.memory_objects.specs.Objects.{MemoryEntry, object_at}
use Rattle.memory_objects.proofs.OneObject.{found_by_number}
use Rattle.memory_objects.proofs.lookups.entry_place.Goals as goal

pub returns-then-entries-place-clause-some : goal.returns-then-entries-place-clause-some
returns-then-entries-place-clause-some g c =
    let objects = c.args.entries.now in
    let place = c.dense_place-place.result in
    let x = c.index-entries-place.result in
    let there =
    slice_get_read objects (length objects) place x refl c.dense_place-place.ensures c.index-entries-place.is in
    let same = ap (λ (o : MemoryEntry). o.number) c.index-entries-place.is ∙ c.if-entries-place.true in
    there ∙ sym (found_by_number objects place c.args.number x c.requires there same)

pub offset_bounds-entries-place : goal.offset_bounds-entries-place
offset_bounds-entries-place g c = le_of_lt c.dense_place-place.ensures

pub bounds-entries-place : goal.bounds-entries-place
bounds-entries-place g c = c.dense_place-place.ensures

pub bounds-entries-place-else-is_empty : goal.bounds-entries-place-else-is_empty
bounds-entries-place-else-is_empty g c = c.dense_place-place.ensures

pub returns-then-entries-place-clause-within : goal.returns-then-entries-place-clause-within
returns-then-entries-place-clause-within g c = c.dense_place-place.ensures

pub returns-then-entries-place-clause-none : goal.returns-then-entries-place-clause-none
returns-then-entries-place-clause-none g c = tt

pub searched_place-requires : goal.searched_place-requires
searched_place-requires g c = c.requires

pub returns-clause-some : goal.returns-clause-some
returns-clause-some g c = c.searched_place.ensures.some

pub returns-clause-within : goal.returns-clause-within
returns-clause-within g c = c.searched_place.ensures.within

pub returns-clause-none : goal.returns-clause-none
returns-clause-none g c = c.searched_place.ensures.none

pub returns-then-is_empty-clause-some : goal.returns-then-is_empty-clause-some
returns-then-is_empty-clause-some g c = tt

pub returns-then-is_empty-clause-within : goal.returns-then-is_empty-clause-within
returns-then-is_empty-clause-within g c = tt

pub dense_place-place-requires : goal.dense_place-place-requires
dense_place-place-requires g c = pos_of_ne-zero (eqb-false (length c.args.entries.now) 0 (sym c.if-is_empty.ensures))

pub returns-then-is_empty-clause-none : goal.returns-then-is_empty-clause-none
returns-then-is_empty-clause-none g c =
    let objects = c.args.entries.now in
    ap (λ os. object_at os c.args.number)
    (nil_from_length objects (eqb-true (length objects) 0 (sym c.if-is_empty.ensures)))
