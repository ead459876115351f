use Rattle.std.proofs.Common.{◌≡◌, ◌∙◌, ◌≤◌, ap, arith, refl, rules, sym}
use Rattle.std.proofs.lemmas.Bool.{leb-true}
use Rattle.slab.specs.Slab.{Slab, slab_len}
use Rattle.object_table.specs.declared.file_objects.Entry.{Entry}
use Rattle.object_table.specs.Layout.{file_rows, key_end}
use Rattle.object_table.proofs.FileRows.{and_true, next_is_open, no_next, room_parts}
use Rattle.object_table.proofs.Tables.{no_value}
use Rattle.object_table.proofs.file_objects.FileObjects.reserve.Goals as goal

pub returns-clause-id : goal.returns-clause-id
returns-clause-id g c = search rules

pub returns-then-not-self-clause-id : goal.returns-then-not-self-clause-id
returns-then-not-self-clause-id g c = tt

pub returns-then-not-self-clause-unused : goal.returns-then-not-self-clause-unused
returns-then-not-self-clause-unused g c = tt

pub returns-then-not-self-clause-ok : goal.returns-then-not-self-clause-ok
returns-then-not-self-clause-ok g c = tt

pub returns-then-not-self-clause-why : goal.returns-then-not-self-clause-why
returns-then-not-self-clause-why g c = rw c.if-not-self.true refl

pub returns-then-not-self-clause-mark : goal.returns-then-not-self-clause-mark
returns-then-not-self-clause-mark g c = refl

pub returns-then-not-self-clause-rows : goal.returns-then-not-self-clause-rows
returns-then-not-self-clause-rows g c number = refl

pub returns-then-not-self-clause-had_room : goal.returns-then-not-self-clause-had_room
returns-then-not-self-clause-had_room g c some =
    absurd (no_value (rw c.if-not-self.true at (next_is_open c.args.self.now some).0))

pub returns-then-not-self-clause-kept : goal.returns-then-not-self-clause-kept
returns-then-not-self-clause-kept g c = refl

pub returns-then-not-self-clause-limits : goal.returns-then-not-self-clause-limits
returns-then-not-self-clause-limits g c limits = limits

pub returns-then-is_full-clause-id : goal.returns-then-is_full-clause-id
returns-then-is_full-clause-id g c = tt

pub returns-then-is_full-clause-unused : goal.returns-then-is_full-clause-unused
returns-then-is_full-clause-unused g c = tt

pub returns-then-is_full-clause-ok : goal.returns-then-is_full-clause-ok
returns-then-is_full-clause-ok g c = tt

pub returns-then-is_full-clause-why : goal.returns-then-is_full-clause-why
returns-then-is_full-clause-why g c =
    let full = (and_true c.args.self.now.is_open _ (sym c.if-is_full.ensures)).1 in
    rw (c.if-not-self.false, full) refl

pub returns-then-is_full-clause-mark : goal.returns-then-is_full-clause-mark
returns-then-is_full-clause-mark g c = refl

pub returns-then-is_full-clause-rows : goal.returns-then-is_full-clause-rows
returns-then-is_full-clause-rows g c number = refl

pub returns-then-is_full-clause-had_room : goal.returns-then-is_full-clause-had_room
returns-then-is_full-clause-had_room g c some =
    let full = (and_true c.args.self.now.is_open _ (sym c.if-is_full.ensures)).1 in
    let few = (room_parts c.args.self.now.objects (next_is_open c.args.self.now some).1).0 in
    absurd (omega (arith, leb-true _ _ full, few))

pub returns-then-is_full-clause-kept : goal.returns-then-is_full-clause-kept
returns-then-is_full-clause-kept g c = refl

pub returns-then-is_full-clause-limits : goal.returns-then-is_full-clause-limits
returns-then-is_full-clause-limits g c limits = limits

pub returns-then-len-capacity-clause-id : goal.returns-then-len-capacity-clause-id
returns-then-len-capacity-clause-id g c = tt

pub returns-then-len-capacity-clause-unused : goal.returns-then-len-capacity-clause-unused
returns-then-len-capacity-clause-unused g c = tt

pub returns-then-len-capacity-clause-ok : goal.returns-then-len-capacity-clause-ok
returns-then-len-capacity-clause-ok g c = tt

pub returns-then-len-capacity-clause-why : goal.returns-then-len-capacity-clause-why
returns-then-len-capacity-clause-why g c =
    let few = rw c.if-not-self.false at (sym c.if-is_full.ensures) in
    rw (c.if-not-self.false, few) refl

pub returns-then-len-capacity-clause-mark : goal.returns-then-len-capacity-clause-mark
returns-then-len-capacity-clause-mark g c = refl

pub returns-then-len-capacity-clause-rows : goal.returns-then-len-capacity-clause-rows
returns-then-len-capacity-clause-rows g c number =
    ap (λ (s : Slab (Entry g.row.V.Denot)). file_rows number (record c.args.self.now { objects = s }))
    c.reserve.ensures.rest_kept

pub returns-then-len-capacity-clause-had_room : goal.returns-then-len-capacity-clause-had_room
returns-then-len-capacity-clause-had_room g c some =
    let room = room_parts c.args.self.now.objects (next_is_open c.args.self.now some).1 in
    let same : slab_len c.reserve.new.self ≡ slab_len c.args.self.now.objects =
    ap (λ (s : Slab (Entry g.row.V.Denot)). slab_len s) c.reserve.ensures.rest_kept in
    absurd (omega (
      arith,
      room.1,
      same,
      c.reserve.ensures.capacity,
      c.if-len-capacity.true,
      c.len.ensures,
      c.capacity.ensures.value,
    ))

pub returns-then-len-capacity-clause-kept : goal.returns-then-len-capacity-clause-kept
returns-then-len-capacity-clause-kept g c =
    let old = c.args.self.now in
    let new = record c.args.self.now { objects = c.reserve.new.self } in
    let same : slab_len new.objects ≡ slab_len old.objects =
    ap (λ (s : Slab (Entry g.row.V.Denot)). slab_len s) c.reserve.ensures.rest_kept in
    let full : new.objects.capacity ≤ slab_len new.objects =
    omega (arith, c.if-len-capacity.true, c.len.ensures, c.capacity.ensures.value) in
    no_next new (λ room. omega (arith, (room_parts new.objects room).1, full))
    ∙ sym (no_next old (λ room. omega (arith, (room_parts old.objects room).1, same, full, c.reserve.ensures.capacity)))

pub returns-then-len-capacity-clause-limits : goal.returns-then-len-capacity-clause-limits
returns-then-len-capacity-clause-limits g c limits =
    rw c.reserve.ensures.rest_kept (record { count = limits.count; keys = limits.keys })

pub returns-then-key-ge-KEY_END-clause-id : goal.returns-then-key-ge-KEY_END-clause-id
returns-then-key-ge-KEY_END-clause-id g c = tt

pub returns-then-key-ge-KEY_END-clause-unused : goal.returns-then-key-ge-KEY_END-clause-unused
returns-then-key-ge-KEY_END-clause-unused g c = tt

pub returns-then-key-ge-KEY_END-clause-ok : goal.returns-then-key-ge-KEY_END-clause-ok
returns-then-key-ge-KEY_END-clause-ok g c = tt

pub returns-then-key-ge-KEY_END-clause-why : goal.returns-then-key-ge-KEY_END-clause-why
returns-then-key-ge-KEY_END-clause-why g c =
    let few = rw c.if-not-self.false at (sym c.if-is_full.ensures) in
    rw (c.if-not-self.false, few) refl

pub returns-then-key-ge-KEY_END-clause-mark : goal.returns-then-key-ge-KEY_END-clause-mark
returns-then-key-ge-KEY_END-clause-mark g c = refl

pub returns-then-key-ge-KEY_END-clause-rows : goal.returns-then-key-ge-KEY_END-clause-rows
returns-then-key-ge-KEY_END-clause-rows g c number =
    ap (λ (s : Slab (Entry g.row.V.Denot)). file_rows number (record c.args.self.now { objects = s }))
    c.reserve.ensures.rest_kept

pub returns-then-key-ge-KEY_END-clause-had_room : goal.returns-then-key-ge-KEY_END-clause-had_room
returns-then-key-ge-KEY_END-clause-had_room g c some =
    let room = room_parts c.args.self.now.objects (next_is_open c.args.self.now some).1 in
    let same : c.reserve.new.self.vacant_key ≡ c.args.self.now.objects.vacant_key =
    ap (λ (s : Slab (Entry g.row.V.Denot)). s.vacant_key) c.reserve.ensures.rest_kept in
    absurd (omega (arith, room.2, same, c.if-key-ge-KEY_END.true, c.vacant_key-key.ensures.value))

pub returns-then-key-ge-KEY_END-clause-kept : goal.returns-then-key-ge-KEY_END-clause-kept
returns-then-key-ge-KEY_END-clause-kept g c =
    let old = c.args.self.now in
    let new = record c.args.self.now { objects = c.reserve.new.self } in
    let same : new.objects.vacant_key ≡ old.objects.vacant_key =
    ap (λ (s : Slab (Entry g.row.V.Denot)). s.vacant_key) c.reserve.ensures.rest_kept in
    let past : key_end ≤ new.objects.vacant_key =
    omega (arith, c.if-key-ge-KEY_END.true, c.vacant_key-key.ensures.value) in
    no_next new (λ room. omega (arith, (room_parts new.objects room).2, past))
    ∙ sym (no_next old (λ room. omega (arith, (room_parts old.objects room).2, same, past)))

pub returns-then-key-ge-KEY_END-clause-limits : goal.returns-then-key-ge-KEY_END-clause-limits
returns-then-key-ge-KEY_END-clause-limits g c limits =
    rw c.reserve.ensures.rest_kept (record { count = limits.count; keys = limits.keys })

pub returns-clause-ok : goal.returns-clause-ok
returns-clause-ok g c =
    let few = rw c.if-not-self.false at (sym c.if-is_full.ensures) in
    rw (c.if-not-self.false, few) refl

pub returns-clause-why : goal.returns-clause-why
returns-clause-why g c = tt

pub returns-clause-mark : goal.returns-clause-mark
returns-clause-mark g c = refl

pub returns-clause-rows : goal.returns-clause-rows
returns-clause-rows g c number =
    ap (λ (s : Slab (Entry g.row.V.Denot)). file_rows number (record c.args.self.now { objects = s }))
    c.reserve.ensures.rest_kept

pub returns-clause-had_room : goal.returns-clause-had_room
returns-clause-had_room g c some =
    let room = room_parts c.args.self.now.objects (next_is_open c.args.self.now some).1 in (
      refl,
      ap (λ (s : Slab (Entry g.row.V.Denot)). record c.args.self.now { objects = s })
          (c.reserve.ensures.had_room (omega (arith, room.1))),
    )

pub returns-clause-kept : goal.returns-clause-kept
returns-clause-kept g c = tt

pub returns-clause-limits : goal.returns-clause-limits
returns-clause-limits g c limits =
    rw c.reserve.ensures.rest_kept (record { count = limits.count; keys = limits.keys })

pub overflow_cast-result : goal.overflow_cast-result
overflow_cast-result g c = record { fits = omega (arith, c.if-key-ge-KEY_END.false) }

pub overflow_add-result : goal.overflow_add-result
overflow_add-result g c = record { fits = omega (arith, c.if-key-ge-KEY_END.false) }
