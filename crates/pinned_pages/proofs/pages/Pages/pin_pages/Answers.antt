use Rattle.std.proofs.Common.{◌≡◌, ◌+◌, ◌^◌, ◌<◌, ◌∙◌, cond, eqb, ℕ, true, get_or, refl, sym, ap, arith}
use Rattle.std.specs.Prelude.{is_none}
use Rattle.std.proofs.lemmas.Bool.Decides.{nat_tests}
use Rattle.pinned_pages.specs.Pages.{access_pins, frame_now, frame_of}
use Rattle.pinned_pages.proofs.AccessRuns.{frame_behind, frames_next, pinned_next, pins_behind, rows_next, there_behind}
use Rattle.pinned_pages.proofs.HoldsMove.{page_room}
use Rattle.pinned_pages.proofs.Runs.{counted_few, counted_more, if_none}
use Rattle.pinned_pages.proofs.pages.Pages.pin_pages.Goals as goal
use Rattle.pinned_pages.proofs.pages.Pages.pin_pages.Goals.{then-pin_page, else-pin_page}

pub pin_page-requires-clause-holds : goal.pin_page-requires-clause-holds
pin_page-requires-clause-holds g c =
    let first = c.args.first in
    let k = c.loop-at.at in
    let rows = c.args.users.now.pages in
    let old = c.args.self.now.pages in
    let mid = c.loop-at.self.pages in
    let before = c.loop-at.invariant.pinned in
    let next : first + k ≡ first + k = refl in
    if_none (frame_of mid (first + k)) ((frame : ℕ) → get_or c.loop-at.pool.holds frame 0 + 1 < 2 ^ 128)
    (λ none.
    page_room c.args.pool.now c.loop-at.pool (frame_of old) (frame_now old rows) first c.args.count k (first + k) next
    c.loop-at-test.true (omega (arith, c.ranges.count.fits)) c.requires.holds c.loop-at.invariant.held
    (ap is_none (sym (frame_behind first k (first + k) rows old mid next before)) ∙ none))

pub pin_page-requires-clause-present : goal.pin_page-requires-clause-present
pin_page-requires-clause-present g c =
    let first = c.args.first in
    let k = c.loop-at.at in
    let rows = c.args.users.now.pages in
    let old = c.args.self.now.pages in
    let mid = c.loop-at.self.pages in
    let before = c.loop-at.invariant.pinned in
    let next : first + k ≡ first + k = refl in
    there_behind first k (first + k) rows old mid next before c.args.count c.loop-at-test.true c.requires.present

pub pin_page-requires-clause-memory : goal.pin_page-requires-clause-memory
pin_page-requires-clause-memory g c none =
    let first = c.args.first in
    let k = c.loop-at.at in
    let rows = c.args.users.now.pages in
    let old = c.args.self.now.pages in
    let mid = c.loop-at.self.pages in
    let before = c.loop-at.invariant.pinned in
    let next : first + k ≡ first + k = refl in
    let p = λ (i : ℕ). eqb (access_pins old i) 0 in
    let pins = pins_behind first k (first + k) rows old mid next before in
    let yes : eqb (access_pins old (first + k)) 0 ≡ true = grind (arith, nat_tests) in
    let one = ap {B = ℕ} (λ b. cond b 1 0) yes in
    let more = counted_more p first k (first + k) next in
    let few = counted_few p first (k + 1) c.args.count (omega (arith, c.loop-at-test.true)) in
    omega (arith, one, more, few, c.loop-at.invariant.room, c.requires.memory)

pub loop-at-preserved : goal.loop-at-preserved
loop-at-preserved g c =
    let first = c.args.first in
    let k = c.loop-at.at in
    let rows = c.args.users.now.pages in
    let old = c.args.self.now.pages in
    let mid = c.loop-at.self.pages in
    let before = c.loop-at.invariant.pinned in
    let next : first + k ≡ first + k = refl in
    let rest = rows_next first k (first + k) rows old mid next before in
    let pinned = pinned_next first k (first + k) rows old mid next before c.pin_page.new.self.pages
    c.pin_page.ensures.pages in
    let capacity = c.pin_page.ensures.capacity ∙ c.loop-at.invariant.capacity in
    let held = frames_next first k (first + k) rows old mid next before c.args.pool.now c.loop-at.pool
    c.pin_page.new.pool c.loop-at.invariant.held c.pin_page.ensures.pool in
    let more = counted_more (λ (i : ℕ). is_none (frame_of old i)) first k (first + k) next in
    let anew = ap is_none (sym (frame_behind first k (first + k) rows old mid next before))
    ∙ sym c.pin_page.ensures.anew in
    elim c.if-pin_page.branch [
      | then-pin_page w ↦
          let one = ap {B = ℕ} (λ b. cond b 1 0) (anew ∙ w.if-pin_page.true) in
          rw w.new-is (record {
            pinned = pinned;
            capacity = capacity;
            room = omega (arith, rest, c.pin_page.ensures.room, c.loop-at.invariant.room);
            held = held;
            anew = omega (arith, more, one, c.loop-at.invariant.anew);
            few = omega (arith, c.loop-at.invariant.few);
          })
      | else-pin_page w ↦
          let zero = ap {B = ℕ} (λ b. cond b 1 0) (anew ∙ w.if-pin_page.false) in
          rw w.new-is (record {
            pinned = pinned;
            capacity = capacity;
            room = omega (arith, rest, c.pin_page.ensures.room, c.loop-at.invariant.room);
            held = held;
            anew = omega (arith, more, zero, c.loop-at.invariant.anew);
            few = omega (arith, c.loop-at.invariant.few);
          })
    ]
