use Rattle.std.proofs.Common.{◌≡◌, ◌+◌, ◌<◌, ◌∙◌, cond, ℕ, refl, sym, ap, arith, subst}
use Rattle.pinned_pages.specs.Accesses.{IsAccessReleased}
use Rattle.pinned_pages.specs.Pages.{MemoryPages, ObjectPages}
use Rattle.pinned_pages.proofs.AccessRuns.{gone_count_next, gone_frames_next, next_are_held, released_next}
use Rattle.pinned_pages.proofs.AccessRuns.{released_none}
use Rattle.pinned_pages.proofs.AccessRuns.{within_in}
use Rattle.pinned_pages.proofs.HoldsMove.{no_more}
use Rattle.pinned_pages.proofs.pages.Pages.unpin_pages.Goals as goal
use Rattle.pinned_pages.proofs.pages.Pages.unpin_pages.Goals.{then-unpin_page, else-unpin_page}

pub loop-at-init : goal.loop-at-init
loop-at-init g c =
    let inside = c.self.inside in
    let pages : ObjectPages = record {
      user = inside.user;
      va = inside.va;
      count = inside.count;
      writable = inside.writable;
      table_pins = inside.table_pins;
      frames = inside.frames.items;
      access = inside.access.rows;
    } in
    let same : pages ≡ c.args.self.now.pages = ap (λ (p : MemoryPages). p.pages) c.self.view_is in
    let R : ObjectPages → Type 0 = λ p. IsAccessReleased c.args.first 0 p p in
    record {
      released = subst R same (released_none c.args.first pages c.self.invariant);
      capacity = refl;
      held = no_more c.args.pool.now;
      gone = refl;
      few = omega arith;
    }

pub unpin_page-requires-clause-holds : goal.unpin_page-requires-clause-holds
unpin_page-requires-clause-holds g c =
    let first = c.args.first in
    let k = c.loop-at.at in
    let old = c.args.self.now.pages in
    let mid = c.loop-at.self.pages in
    let before = c.loop-at.invariant.released in
    let next : first + k ≡ first + k = refl in
    let some = c.requires.pins (first + k) (within_in first k c.args.count (first + k) next c.loop-at-test.true) in
    let low : first + k < old.count = omega (arith, c.requires.run, c.loop-at-test.true) in
    next_are_held first k (first + k) old mid next before some low c.loop-at.pool c.args.pool.now c.args.count
    c.loop-at-test.true c.loop-at.invariant.held c.requires.holds

pub loop-at-preserved : goal.loop-at-preserved
loop-at-preserved g c =
    let first = c.args.first in
    let k = c.loop-at.at in
    let old = c.args.self.now.pages in
    let mid = c.loop-at.self.pages in
    let before = c.loop-at.invariant.released in
    let next : first + k ≡ first + k = refl in
    let some = c.requires.pins (first + k) (within_in first k c.args.count (first + k) next c.loop-at-test.true) in
    let low : first + k < old.count = omega (arith, c.requires.run, c.loop-at-test.true) in
    let more = gone_count_next first k (first + k) old mid next before in
    let released = released_next first k (first + k) old mid next before c.unpin_page.new.self.pages
    c.unpin_page.ensures.pages in
    let held = gone_frames_next first k (first + k) old mid next before some low c.loop-at.pool c.unpin_page.new.pool
    c.args.pool.now c.loop-at.invariant.held c.unpin_page.ensures.pool in
    elim c.if-unpin_page.branch [
      | then-unpin_page w ↦
          let one = ap {B = ℕ} (λ b. cond b 1 0) (sym c.unpin_page.ensures.last ∙ w.if-unpin_page.true) in
          rw w.gone-is (record {
            released = released;
            capacity = c.unpin_page.ensures.capacity ∙ c.loop-at.invariant.capacity;
            held = held;
            gone = omega (arith, more, one, c.loop-at.invariant.gone);
            few = omega (arith, c.loop-at.invariant.few);
          })
      | else-unpin_page w ↦
          let zero = ap {B = ℕ} (λ b. cond b 1 0) (sym c.unpin_page.ensures.last ∙ w.if-unpin_page.false) in
          rw w.gone-is (record {
            released = released;
            capacity = c.unpin_page.ensures.capacity ∙ c.loop-at.invariant.capacity;
            held = held;
            gone = omega (arith, more, zero, c.loop-at.invariant.gone);
            few = omega (arith, c.loop-at.invariant.few);
          })
    ]
