use Rattle.std.proofs.Common.{◌≡◌, ◌+◌, ◌^◌, ◌<◌, ◌∙◌, ◌++◌, ℕ, List, Option, None, Some, [], sym, ap, arith, get_or}
use Rattle.std.proofs.Common.{append_assoc, refl, subst}
use Rattle.frame_memory.specs.Pool.{FramePool}
use Rattle.std.specs.Prelude.{IfNone, is_none}
use Rattle.std.specs.List.{cons_option, filter_map, range_with_len}
use Rattle.std.proofs.lemmas.List.{append-nil}
use Rattle.iofd_words.specs.Frames.{frame_at}
use Rattle.iofd_words.specs.Pages.{page_of}
use Rattle.iofd_words.specs.declared.numbers.FrameNo.{FrameNo}
use Rattle.pinned_pages.specs.Access.{frame_in, row_at}
use Rattle.pinned_pages.specs.Holds.{HasMoreHolds}
use Rattle.pinned_pages.specs.Pages.{or_else, unless}
use Rattle.pinned_pages.proofs.HoldsMove.{held_further, page_room}
use Rattle.pinned_pages.proofs.Runs.{mapped_more}
use Rattle.pinned_pages.proofs.frames.hold_all.Goals as goal
use Rattle.pinned_pages.proofs.frames.hold_all.Goals.{in-Some, in_default}

if_none : {X : Type 0} (o : Option X) (P : Type 0) → (o ≡ None → P) → IfNone o P
if_none None P there = there refl
if_none (Some x) P there = tt

pub hold_page-requires-clause-holds : goal.hold_page-requires-clause-holds
hold_page-requires-clause-holds g c =
    if_none c.frame-pinned.result ((frame : ℕ) → get_or c.loop-index.pool.holds frame 0 + 1 < 2 ^ 128)
    (λ none.
    page_room c.args.pool.now c.loop-index.pool (λ index. frame_in (row_at c.args.access.now.rows index))
    (λ index. frame_at c.args.users.now.pages c.args.user (page_of c.args.va + index)) 0 c.args.count
    c.loop-index.index c.loop-index.index (omega arith) c.loop-index-test.true (omega (arith, c.ranges.count.fits))
    c.requires.holds
    c.loop-index.invariant.held (ap is_none (sym c.frame-pinned.ensures ∙ none)))

-- one page more
module _ (a b : ℕ → Option FrameNo) (n : ℕ) (less now next : FramePool)
    (held : HasMoreHolds less now (filter_map (λ i. unless (a i) (b i)) (range_with_len 0 n)))
    (more : HasMoreHolds now next (cons_option (unless (a n) (b n)) [])) where
  held_next : HasMoreHolds less next (filter_map (λ i. unless (a i) (b i)) (range_with_len 0 (n + 1)))
  held_next =
      let H : List FrameNo → Type 0 = HasMoreHolds less next in
      subst H (sym (mapped_more (λ i. unless (a i) (b i)) 0 n n (omega arith)))
      (held_further less now next (filter_map (λ i. unless (a i) (b i)) (range_with_len 0 n))
      (cons_option (unless (a n) (b n)) []) held more)

items_next : (a b : ℕ → Option FrameNo) (n : ℕ) (old items : List FrameNo) (o : Option FrameNo)
    → items ≡ old ++ filter_map (λ i. or_else (a i) (b i)) (range_with_len 0 n) → or_else (a n) (b n) ≡ o
    → items ++ cons_option o [] ≡ old ++ filter_map (λ i. or_else (a i) (b i)) (range_with_len 0 (n + 1))
items_next a b n old items o is here =
    ap (λ (xs : List FrameNo). xs ++ cons_option o []) is
    ∙ append_assoc old (filter_map (λ i. or_else (a i) (b i)) (range_with_len 0 n)) (cons_option o [])
    ∙ ap (λ (xs : List FrameNo). old ++ xs) (ap (λ p. filter_map (λ i. or_else (a i) (b i)) (range_with_len 0 n)
    ++ cons_option p []) (sym here) ∙ sym (mapped_more (λ i. or_else (a i) (b i)) 0 n n (omega arith)))

pub loop-index-preserved : goal.loop-index-preserved
loop-index-preserved g c =
    let n = c.loop-index.index in
    let a = λ (i : ℕ). frame_in (row_at c.args.access.now.rows i) in
    let b = λ (i : ℕ). frame_at c.args.users.now.pages c.args.user (page_of c.args.va + i) in
    let H : Option FrameNo → Type 0 = λ o. HasMoreHolds c.loop-index.pool c.hold_page.new.pool
    (cons_option (unless o (b n)) []) in
    let here = ap (λ o. or_else o (b n)) (sym c.frame-pinned.ensures) ∙ sym c.hold_page.ensures.frame in
    let held = held_next a b n c.args.pool.now c.loop-index.pool c.hold_page.new.pool c.loop-index.invariant.held
    (subst H c.frame-pinned.ensures c.hold_page.ensures.pool) in
    elim c.match-hold_page.branch [
      | in-Some w ↦ rw w.frames-is (record {
        items = w.push_reserved.ensures.items ∙ items_next a b n c.args.frames.now.items c.loop-index.frames.items
            (Some w.in-Some.frame) c.loop-index.invariant.items (here ∙ w.in-Some.is);
        held = held;
        len = omega arith;
        capacity = w.push_reserved.ensures.capacity ∙ c.loop-index.invariant.capacity;
      })
      | in_default w ↦ rw w.frames-is (record {
        items = sym (append-nil c.loop-index.frames.items)
            ∙ items_next a b n c.args.frames.now.items c.loop-index.frames.items None c.loop-index.invariant.items
            (here ∙ w.in_default.is);
        held = held;
        len = omega arith;
        capacity = c.loop-index.invariant.capacity;
      })
    ]
