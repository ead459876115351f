use Rattle.std.proofs.Common.{◌≡◌, List, [], ◌∷◌, length, ap, subst, sym, ◌∙◌, arith}
use Rattle.std.specs.Prelude.{is_none}
use Rattle.std.specs.List.{list_any}
use Rattle.access_pages.specs.Runs.{ArePinned, MayPin, runs_in}
use Rattle.memory_objects.specs.declared.run.PageRun.{PageRun}
use Rattle.test_pool.proofs.TwoAreas.{may_pin, pinned_twice, runs_are, two_runs}
use Rattle.user_memory.specs.Memory.{frame_now, has_room, new_in_runs}
use Rattle.test_pool.proofs.span_calls.pinned.Goals as goal

pub pin_all-requires-clause-may : goal.pin_all-requires-clause-may
pin_all-requires-clause-may g c =
    let are : runs_in c.the_span-2.result c.meeting.result ≡ two_runs =
    rw (c.meeting.ensures, c.the_span-2.ensures, c.the_span.ensures, c.requires.areas) runs_are in
    let P : List PageRun → Type 0 = λ runs. MayPin runs c.args.memory.now c.args.pool.now.holds in
    let L : PageRun → Type 0 = λ run. c.lacks_page_in.result ≡ list_any (λ page. is_none (frame_now c.args.memory.now
    page)) (new_in_runs c.args.memory.now (run ∷ [])) in
    let N : PageRun → Type 0 = λ run. c.new_pages_in-count.result ≡ length (new_in_runs c.args.memory.now (run ∷ [])) in
    subst P (sym are) (may_pin c.args.memory.now c.args.pool.now.holds c.args.pins c.requires.page c.requires.few
    (sym (subst L c.page-2.ensures c.lacks_page_in.ensures) ∙ c.if-lacks_page_in.false)
    (ap (has_room c.args.memory.now (record { 0 = 1 }))
    (sym (c.from.ensures ∙ subst N c.page.ensures c.new_pages_in-count.ensures)) ∙ sym c.if-not-has_room.ensures))

pub pin_all-requires-clause-few : goal.pin_all-requires-clause-few
pin_all-requires-clause-few g c = rw (c.meeting.ensures, c.the_span.ensures, c.requires.areas) (omega arith)

pub returns-in-Ok : goal.returns-in-Ok
returns-in-Ok g c =
    let are : runs_in c.the_span-2.result c.meeting.result ≡ two_runs =
    rw (c.meeting.ensures, c.the_span-2.ensures, c.the_span.ensures, c.requires.areas) runs_are in
    let P : List PageRun → Type 0 = λ runs. ArePinned runs c.args.memory.now c.pin_all.new.memory c.args.pool.now
    c.pin_all.new.pool in
    pinned_twice c.args.memory.now c.pin_all.new.memory c.args.pool.now c.pin_all.new.pool c.args.pins
    (subst P are c.in-Ok.ensures.ok) c.requires.page
