use Rattle.std.proofs.Common.{◌≡◌, take, refl, ◌∙◌, arith, rules, ◌-◌, get_or, vec_capacity, vec_len}
use Rattle.std.proofs.lemmas.List.{take_all}
use Rattle.page_table_spans.proofs.SpanMapped.{holds_now, mapped_alike, mapped_next, none_mapped, page_below, room_left}
use Rattle.page_table_spans.proofs.SpanMapped.{still_free}
use Rattle.page_table_spans.proofs.mapping.map.Goals as goal

pub loop-frame-init : goal.loop-frame-init
loop-frame-init g c = record {
  page = omega arith;
  table = refl;
  capacity = refl;
  mapped = λ rows pages stands. none_mapped c.args.pool.now c.args.table.now rows pages c.args.first_page c.args.rights
      c.args.out.now.items stands;
}

pub map-requires-clause-table : goal.map-requires-clause-table
map-requires-clause-table g c =
    let inv = c.loop-frame.invariant in
    room_left c.args.pool.now c.loop-frame.pool c.args.table.now c.loop-frame.table c.args.first_page c.loop-frame.page
    c.loop-frame.frame-index c.args.frames.now c.args.rights c.args.out.now.items c.loop-frame.out.items
    inv.table inv.page c.loop-frame-test.true c.requires.below inv.mapped (vec_capacity c.args.out.now
    - vec_len c.args.out.now) (vec_capacity c.loop-frame.out - vec_len c.loop-frame.out) c.requires.table
    (let old = c.args.out.now.ok in let now = c.loop-frame.out.ok in let same = inv.capacity in omega (
      arith,
      old.0,
      old.1,
      now.0,
      now.1,
      same,
    ))

pub map-requires-clause-below : goal.map-requires-clause-below
map-requires-clause-below g c =
    let inv = c.loop-frame.invariant in
    page_below c.args.pool.now c.loop-frame.pool c.args.table.now c.loop-frame.table c.args.first_page c.loop-frame.page
    c.loop-frame.frame-index c.args.frames.now c.args.rights c.args.out.now.items c.loop-frame.out.items
    inv.table inv.page c.loop-frame-test.true c.requires.below inv.mapped

pub unwrap-requires : goal.unwrap-requires
unwrap-requires g c =
    let inv = c.loop-frame.invariant in
    let has = c.requires.table in
    let is = inv.mapped has.rows has.mapped has.stands in
    let free = still_free c.args.pool.now c.loop-frame.pool c.args.table.now c.loop-frame.table c.args.first_page
    c.loop-frame.page c.loop-frame.frame-index c.args.frames.now c.args.rights
    c.args.out.now.items c.loop-frame.out.items
    inv.table inv.page c.loop-frame-test.true c.requires.below inv.mapped (vec_capacity c.args.out.now
    - vec_len c.args.out.now) has in
    rw ((rw inv.table at c.map.ensures.taken) _ is.mapped is.becomes.stands (rw inv.table at free)) (search rules)

pub loop-frame-preserved : goal.loop-frame-preserved
loop-frame-preserved g c =
    let inv = c.loop-frame.invariant in
    record {
      page = omega (arith, inv.page);
      table = c.map.ensures.same ∙ inv.table;
      capacity = c.map.ensures.capacity ∙ inv.capacity;
      mapped = mapped_next c.args.pool.now c.loop-frame.pool c.args.table.now c.loop-frame.table c.args.first_page
          c.loop-frame.page c.loop-frame.frame-index c.args.frames.now c.args.rights
          c.args.out.now.items c.loop-frame.out.items
          inv.table inv.page c.loop-frame-test.true c.requires.below inv.mapped
          c.map.new.pool c.map.new.self c.map.new.out.items (record { 0 = 0 })
          (get_or c.args.frames.now c.loop-frame.frame-index (record { 0 = 0 })) refl c.map.ensures.same
          (rw c.unwrap.ensures at c.map.ensures.table)
          (rw c.unwrap.ensures at c.map.ensures.out)
          (rw c.unwrap.ensures at c.map.ensures.free);
    }

pub returns-clause-stands : goal.returns-clause-stands
returns-clause-stands g c =
    let inv = c.loop-frame.invariant in
    let has = c.requires.table in
    let is = inv.mapped has.rows has.mapped has.stands in
    rw inv.table (record { rows = _; pages = is.mapped; stands = is.becomes.stands })

pub returns-clause-mapped : goal.returns-clause-mapped
returns-clause-mapped g c = λ rows pages stands others maps.
    let inv = c.loop-frame.invariant in
    let all : take c.loop-frame.frame-index c.args.frames.now ≡ c.args.frames.now =
    take_all c.loop-frame.frame-index c.args.frames.now (omega arith) in
    rw inv.table
    (mapped_alike c.args.pool.now c.loop-frame.pool c.args.table.now rows pages c.args.first_page c.args.frames.now
    c.args.rights c.args.out.now.items c.loop-frame.out.items stands
    (rw all at inv.mapped rows pages stands) others maps)

pub returns-clause-holds : goal.returns-clause-holds
returns-clause-holds g c = λ rows pages stands.
    let inv = c.loop-frame.invariant in
    let all : take c.loop-frame.frame-index c.args.frames.now ≡ c.args.frames.now =
    take_all c.loop-frame.frame-index c.args.frames.now (omega arith) in
    holds_now c.args.pool.now c.loop-frame.pool c.args.table.now rows pages c.args.first_page c.args.frames.now
    c.args.rights c.args.out.now.items c.loop-frame.out.items stands (rw all at inv.mapped rows pages stands)

pub returns-clause-out : goal.returns-clause-out
returns-clause-out g c = λ rows pages stands.
    let inv = c.loop-frame.invariant in
    let all : take c.loop-frame.frame-index c.args.frames.now ≡ c.args.frames.now =
    take_all c.loop-frame.frame-index c.args.frames.now (omega arith) in
    (rw all at inv.mapped rows pages stands).out

pub returns-clause-free : goal.returns-clause-free
returns-clause-free g c = λ rows pages stands.
    let inv = c.loop-frame.invariant in
    let all : take c.loop-frame.frame-index c.args.frames.now ≡ c.args.frames.now =
    take_all c.loop-frame.frame-index c.args.frames.now (omega arith) in
    (rw all at inv.mapped rows pages stands).free
