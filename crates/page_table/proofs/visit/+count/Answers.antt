use Rattle.std.proofs.Common.{◌≡◌, ◌+◌, ◌-◌, ◌^◌, ℕ, List, length, sym, ap, arith}
use Rattle.std.specs.List.{flat_map, range_with_len}
use Rattle.iofd_words.specs.declared.numbers.FrameNo.{FrameNo}
use Rattle.page_table_words.specs.Under.{frames_of_entry}
use Rattle.page_table_words.proofs.Visiting.{all_entries, bound_kept, entry_small, holds_within, length_more}
use Rattle.page_table_words.proofs.Visiting.{next_holds}
use Rattle.page_table_words.proofs.Visiting.{no_entries, present_frames}
use Rattle.page_table.proofs.Parting.{sum_fits}
use Rattle.page_table.proofs.Skipping.{is_present, none_between, total_small}
use Rattle.page_table.proofs.visit.+count.Goals as goal

pub next_present-index-requires-clause-frame : goal.next_present-index-requires-clause-frame
next_present-index-requires-clause-frame g t c = holds_within c.args.pool.now c.args.level c.args.table c.requires.table

pub loop-index-init : goal.loop-index-init
loop-index-init g t c =
    let first = c.next_present-index.result in
    let none = ap (λ (fs : List FrameNo). length fs)
    (none_between c.args.pool.now (c.args.level - 1 - 1) c.args.table 0 first (omega arith)
    c.next_present-index.ensures.absent) in
    record {
      within = c.next_present-index.ensures.within;
      present = c.next_present-index.ensures.present;
      counted = omega (arith, none);
      small = omega arith;
    }

pub at-entry-requires-clause-frame : goal.at-entry-requires-clause-frame
at-entry-requires-clause-frame g t c = holds_within c.args.pool.now c.args.level c.args.table c.requires.table

pub frame-requires : goal.frame-requires
frame-requires g t c = entry_small c.args.pool.now c.args.level c.args.table c.requires.table (omega arith)
    c.loop-index.index (omega arith) c.at-entry.result.0 c.at-entry.ensures

pub count-total-requires : goal.count-total-requires
count-total-requires g t c κs within =
    let i = c.loop-index.index in
    let present = is_present c.args.pool.now c.args.table i c.at-entry.result.0 c.at-entry.ensures
    (c.loop-index.invariant.present (omega arith)) in
    let next = next_holds c.args.pool.now c.args.level c.args.table c.requires.table (omega arith) i (omega arith)
    c.at-entry.result.0 c.at-entry.ensures c.frame.result present c.frame.ensures in
    (omega arith, (within, (omega arith, (omega arith, next))))

pub overflow_add-total : goal.overflow_add-total
overflow_add-total g t c =
    let fits = sum_fits c.args.level c.loop-index.total c.loop-index.index c.count-total.result c.requires.few
    (omega arith) c.loop-index.invariant.small c.count-total.ensures.small in
    omega (arith, fits)

pub next_present-index-requires-in-loop-index-clause-frame : goal.next_present-index-requires-in-loop-index-clause-frame
next_present-index-requires-in-loop-index-clause-frame g t c =
    holds_within c.args.pool.now c.args.level c.args.table c.requires.table

pub loop-index-preserved : goal.loop-index-preserved
loop-index-preserved g t c =
    let f = frames_of_entry c.args.pool.now (c.args.level - 1 - 1) c.args.table in
    let i = c.loop-index.index in
    let next = c.next_present-index-in-loop-index.result in
    let after = c.next_present-index-in-loop-index.ensures in
    let present = is_present c.args.pool.now c.args.table i c.at-entry.result.0 c.at-entry.ensures
    (c.loop-index.invariant.present (omega arith)) in
    let named = ap (λ (fs : List FrameNo). length fs)
    (present_frames c.args.pool.now (c.args.level - 1 - 1) c.args.table c.frame.result i c.at-entry.result.0
    c.at-entry.ensures present c.frame.ensures) in
    let none = ap (λ (fs : List FrameNo). length fs)
    (none_between c.args.pool.now (c.args.level - 1 - 1) c.args.table (i + 1) next after.from after.absent) in
    record {
      within = after.within;
      present = after.present;
      counted =
          omega (arith, length_more f i, named, none, c.count-total.ensures.value, c.loop-index.invariant.counted);
      small = total_small (1000 ^ (c.args.level - 1)) c.loop-index.total i next c.count-total.result after.from
          c.loop-index.invariant.small c.count-total.ensures.small;
    }

pub returns-after-loop-index-clause-value : goal.returns-after-loop-index-clause-value
returns-after-loop-index-clause-value g t c =
    let f = frames_of_entry c.args.pool.now (c.args.level - 1 - 1) c.args.table in
    let all =
    ap (λ (fs : List FrameNo). length fs) (all_entries c.args.pool.now c.args.level c.args.table (omega arith)) in
    let end : c.loop-index.index ≡ 512 = omega (arith, c.loop-index.invariant.within) in
    let counted = ap (λ (n : ℕ). length (flat_map f (range_with_len 0 n))) end in
    omega (arith, all, counted, c.loop-index.invariant.counted)

pub returns-after-loop-index-clause-small : goal.returns-after-loop-index-clause-small
returns-after-loop-index-clause-small g t c =
    bound_kept c.args.level c.loop-index.total c.loop-index.index c.requires.some c.loop-index.invariant.small
    (omega (arith, c.loop-index.invariant.within))

pub returns-else-level-gt1-clause-value : goal.returns-else-level-gt1-clause-value
returns-else-level-gt1-clause-value g t c =
    sym (ap (λ (fs : List FrameNo). length fs)
    (no_entries c.args.pool.now c.args.level c.args.table c.requires.some (omega arith)))
