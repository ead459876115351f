use Rattle.std.proofs.Common.{◌≡◌, ◌<◌, suc, length, ◌∙◌, arith, slice_index}
use Rattle.std.proofs.lemmas.List.{get_or_default}
use Rattle.iommufd_core.proofs.Counted.{none_set, numbered_at, numbered_beyond, set_counted}
use Rattle.iommufd_core.proofs.turn_counts.count_one.Goals as goal

pub overflow_add-index_mut : goal.overflow_add-index_mut
overflow_add-index_mut g c =
    let counts = c.args.counts.now.items in
    let place = c.in-Some.place in
    let above = c.in-Some.ensures in
    let number : c.args.device.0 ≡ suc place = omega (arith, above.0, above.1, c.from.ensures) in
    let within : place < length counts = omega (arith, c.if-place-len.true, c.len.ensures, c.args.counts.now.ok.0) in
    let here : c.index_mut.result.now ≡ slice_index counts place =
    c.index_mut.ensures.value ∙ get_or_default counts place c.index_mut.result.now 0 within in
    let room = c.requires c.args.device (slice_index counts place)
    (numbered_at counts c.args.device.0 place number within) in
    omega (arith, here, room)

pub returns-then-place-len : goal.returns-then-place-len
returns-then-place-len g c = λ other.
    let counts = c.args.counts.now.items in
    let place = c.in-Some.place in
    let above = c.in-Some.ensures in
    let within : place < length counts = omega (arith, c.if-place-len.true, c.len.ensures, c.args.counts.now.ok.0) in
    set_counted counts c.args.device.0 place other.0 c.index_mut.result.now
    (omega (arith, above.0, above.1, c.from.ensures))
    (c.index_mut.ensures.value ∙ get_or_default counts place c.index_mut.result.now 0 within)

pub returns-else-place-len : goal.returns-else-place-len
returns-else-place-len g c = λ other.
    let above = c.in-Some.ensures in
    none_set c.args.counts.now.items c.args.device.0 other.0
    (numbered_beyond c.args.counts.now.items c.args.device.0 c.in-Some.place
    (omega (arith, above.0, above.1, c.from.ensures))
    (omega (arith, c.if-place-len.false, c.len.ensures, c.args.counts.now.ok.0)))
