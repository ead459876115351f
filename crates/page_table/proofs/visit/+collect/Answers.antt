use Rattle.std.proofs.Common.{◌≡◌, ◌+◌, ◌-◌, ◌++◌, ℕ, List, ◌∷◌, length, sym, ap, ◌∙◌, arith}
use Rattle.std.specs.List.{flat_map, range_with_len}
use Rattle.iofd_words.specs.declared.numbers.FrameNo.{FrameNo}
use Rattle.page_table_words.specs.Under.{frames_of_entry, frames_under}
use Rattle.page_table_words.proofs.Visiting.{all_entries, entry_small, holds_within, items_more, length_more}
use Rattle.page_table_words.proofs.Visiting.{length_within}
use Rattle.page_table_words.proofs.Visiting.{next_holds, no_entries, present_frames, some_under}
use Rattle.page_table.proofs.Skipping.{is_present, none_between}
use Rattle.page_table.proofs.visit.+collect.Goals as goal

pub push_reserved-requires : goal.push_reserved-requires
push_reserved-requires g t c =
    omega (arith, c.requires.room, some_under c.args.pool.now (c.args.level - 1) c.args.table)

pub next_present-index-requires-clause-frame : goal.next_present-index-requires-clause-frame
next_present-index-requires-clause-frame g t c = holds_within c.args.pool.now c.args.level c.args.table c.requires.table

pub loop-index-init : goal.loop-index-init
loop-index-init g t c =
    let first = c.next_present-index.result in
    let none = none_between c.args.pool.now (c.args.level - 1 - 1) c.args.table 0 first (omega arith)
    c.next_present-index.ensures.absent in
    let count = ap (λ (fs : List FrameNo). length fs) none in
    record {
      within = c.next_present-index.ensures.within;
      present = c.next_present-index.ensures.present;
      items = c.push_reserved.ensures.items ∙ ap (λ (fs : List FrameNo). c.args.out.now.items
          ++ c.args.table ∷ fs) (sym none);
      len = omega (arith, count, c.push_reserved.ensures.len);
      capacity = c.push_reserved.ensures.capacity;
    }

pub at-entry-requires-clause-frame : goal.at-entry-requires-clause-frame
at-entry-requires-clause-frame g t c = holds_within c.args.pool.now c.args.level c.args.table c.requires.table

pub frame-requires : goal.frame-requires
frame-requires g t c = entry_small c.args.pool.now c.args.level c.args.table c.requires.table (omega arith)
    c.loop-index.index (omega arith) c.at-entry.result.0 c.at-entry.ensures

pub collect-requires : goal.collect-requires
collect-requires g t c κs within =
    let f = frames_of_entry c.args.pool.now (c.args.level - 1 - 1) c.args.table in
    let i = c.loop-index.index in
    let present = is_present c.args.pool.now c.args.table i c.at-entry.result.0 c.at-entry.ensures
    (c.loop-index.invariant.present (omega arith)) in
    let next = next_holds c.args.pool.now c.args.level c.args.table c.requires.table (omega arith) i (omega arith)
    c.at-entry.result.0 c.at-entry.ensures c.frame.result present c.frame.ensures in
    let named = ap (λ (fs : List FrameNo). length fs)
    (present_frames c.args.pool.now (c.args.level - 1 - 1) c.args.table c.frame.result i c.at-entry.result.0
    c.at-entry.ensures present c.frame.ensures) in
    let all =
    ap (λ (fs : List FrameNo). length fs) (all_entries c.args.pool.now c.args.level c.args.table (omega arith)) in
    let more = length_more f i in
    let within_all = length_within f (i + 1) 512 (omega arith) in (
      omega arith,
      (
        within.0,
        (
          within.1,
          (
            omega arith,
            (
              omega arith,
              (
                next,
                omega (
                  arith,
                  named,
                  all,
                  more,
                  within_all,
                  c.requires.room,
                  c.loop-index.invariant.len,
                  c.loop-index.invariant.capacity,
                ),
              ),
            ),
          ),
        ),
      ),
    )

pub next_present-index-requires-in-loop-index-clause-frame : goal.next_present-index-requires-in-loop-index-clause-frame
next_present-index-requires-in-loop-index-clause-frame g t c =
    holds_within c.args.pool.now c.args.level c.args.table c.requires.table

pub loop-index-preserved : goal.loop-index-preserved
loop-index-preserved g t c =
    let f = frames_of_entry c.args.pool.now (c.args.level - 1 - 1) c.args.table in
    let i = c.loop-index.index in
    let next = c.next_present-index-in-loop-index.result in
    let after = c.next_present-index-in-loop-index.ensures in
    let old = c.args.out.now.items in
    let present = is_present c.args.pool.now c.args.table i c.at-entry.result.0 c.at-entry.ensures
    (c.loop-index.invariant.present (omega arith)) in
    let named = present_frames c.args.pool.now (c.args.level - 1 - 1) c.args.table c.frame.result i c.at-entry.result.0
    c.at-entry.ensures present c.frame.ensures in
    let none = none_between c.args.pool.now (c.args.level - 1 - 1) c.args.table (i + 1) next after.from after.absent in
    let more = items_more f old c.loop-index.out.items
    (frames_under c.args.pool.now (c.args.level - 1 - 1) c.frame.result) c.args.table i
    c.loop-index.invariant.items (sym named) in
    record {
      within = after.within;
      present = after.present;
      items = c.collect.ensures.out ∙ more ∙ ap (λ (fs : List FrameNo). old ++ c.args.table ∷ fs) (sym none);
      len = omega (
        arith,
        length_more f i,
        ap (λ (fs : List FrameNo). length fs) named,
        ap (λ (fs : List FrameNo). length fs) none,
        c.collect.ensures.len,
        c.loop-index.invariant.len,
      );
      capacity = c.collect.ensures.capacity ∙ c.loop-index.invariant.capacity;
    }

pub returns-after-loop-index-clause-out : goal.returns-after-loop-index-clause-out
returns-after-loop-index-clause-out g t c =
    let f = frames_of_entry c.args.pool.now (c.args.level - 1 - 1) c.args.table in
    let end : c.loop-index.index ≡ 512 = omega (arith, c.loop-index.invariant.within) in
    c.loop-index.invariant.items ∙ ap (λ (n : ℕ). c.args.out.now.items ++ c.args.table
    ∷ flat_map f (range_with_len 0 n)) end
    ∙ ap (λ (fs : List FrameNo). c.args.out.now.items ++ fs)
    (sym (all_entries c.args.pool.now c.args.level c.args.table (omega arith)))

pub returns-after-loop-index-clause-len : goal.returns-after-loop-index-clause-len
returns-after-loop-index-clause-len g t c =
    let f = frames_of_entry c.args.pool.now (c.args.level - 1 - 1) c.args.table in
    let all =
    ap (λ (fs : List FrameNo). length fs) (all_entries c.args.pool.now c.args.level c.args.table (omega arith)) in
    let end : c.loop-index.index ≡ 512 = omega (arith, c.loop-index.invariant.within) in
    let counted = ap (λ (n : ℕ). length (flat_map f (range_with_len 0 n))) end in
    omega (arith, all, counted, c.loop-index.invariant.len)

pub returns-else-level-gt1-clause-out : goal.returns-else-level-gt1-clause-out
returns-else-level-gt1-clause-out g t c =
    c.push_reserved.ensures.items ∙ ap (λ (fs : List FrameNo). c.args.out.now.items ++ fs)
    (sym (no_entries c.args.pool.now c.args.level c.args.table c.requires.some (omega arith)))

pub returns-else-level-gt1-clause-len : goal.returns-else-level-gt1-clause-len
returns-else-level-gt1-clause-len g t c =
    let one = ap (λ (fs : List FrameNo). length fs)
    (no_entries c.args.pool.now c.args.level c.args.table c.requires.some (omega arith)) in
    omega (arith, one, c.push_reserved.ensures.len)
