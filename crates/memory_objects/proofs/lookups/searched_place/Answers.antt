use Rattle.std.proofs.Common.{◌∙◌, Bool, Some, None, cond, length, refl, sym, ap, arith}
use Rattle.std.specs.List.{slice_get}
use Rattle.std.proofs.lemmas.Bool.{eq-eqb, ne_eqb}
use Rattle.std.proofs.lemmas.Option.{slice_get_past, slice_get_read}
use Rattle.memory_objects.specs.Objects.{MemoryEntry}
use Rattle.memory_objects.proofs.Numbered.{found_there, not_found_past}
use Rattle.memory_objects.proofs.lookups.searched_place.Goals as goal

pub returns-then-place-entries-clause-none : goal.returns-then-place-entries-clause-none
returns-then-place-entries-clause-none g c =
    let objects = c.args.entries.now in
    let past = slice_get_past objects c.count_below-place.result (omega (arith, c.if-place-entries.true)) in
    not_found_past c.args.number objects c.requires (ap (slice_get objects) (sym c.count_below-place.ensures.value)
    ∙ past)

pub returns-then-entries-place-clause-some : goal.returns-then-entries-place-clause-some
returns-then-entries-place-clause-some g c =
    let objects = c.args.entries.now in
    let x = c.index-entries-place.result in
    let there = slice_get_read objects (length objects) c.count_below-place.result x refl (omega arith)
    c.index-entries-place.is in
    let found = found_there c.args.number objects c.requires x
    (ap (slice_get objects) (sym c.count_below-place.ensures.value) ∙ there) in
    let same = eq-eqb x.number c.args.number (ap (λ (o : MemoryEntry). o.number) c.index-entries-place.is
    ∙ c.if-entries-place.true) in
    there ∙ sym (found ∙ ap (λ (b : Bool). cond b (Some x) None) same)

pub returns-else-entries-place-clause-none : goal.returns-else-entries-place-clause-none
returns-else-entries-place-clause-none g c =
    let objects = c.args.entries.now in
    let x = c.index-entries-place.result in
    let there = slice_get_read objects (length objects) c.count_below-place.result x refl (omega arith)
    c.index-entries-place.is in
    let found = found_there c.args.number objects c.requires x
    (ap (slice_get objects) (sym c.count_below-place.ensures.value) ∙ there) in
    let other = ne_eqb x.number c.args.number
    (λ same. c.if-entries-place.false (sym (ap (λ (o : MemoryEntry). o.number) c.index-entries-place.is) ∙ same)) in
    found ∙ ap (λ (b : Bool). cond b (Some x) None) other
