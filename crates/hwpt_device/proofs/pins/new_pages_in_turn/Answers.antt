use Rattle.std.proofs.Common.{true, false, List, [], ◌∷◌, ◌++◌, append-nil, length, length-append, sym, ◌∙◌, ap, arith}
use Rattle.iofd_words.specs.declared.rows.Area.{Area}
use Rattle.user_memory_rows.specs.Moves.{numbers_of}
use Rattle.user_memory.specs.Memory.{newly_pinned}
use Rattle.hwpt_device.proofs.CountedOnce.{moved_on, newly_next, none_newly}
use Rattle.hwpt_device.proofs.pins.new_pages_in_turn.Goals as goal

pub loop-area-init : goal.loop-area-init
loop-area-init g c = record {
  done = [];
  split = c.into_iter-area-iterator.ensures.into_iter_gives ∙ c.iter-area-items.ensures.areas;
  most = omega arith;
  pages = sym (none_newly c.args.memory.now c.objects_told.ensures);
}

pub loop-area-preserved-then-not-is_shared_before : goal.loop-area-preserved-then-not-is_shared_before
loop-area-preserved-then-not-is_shared_before g c =
    let m = c.args.memory.now in
    let area = c.in-Some.area.now in
    let before = c.loop-area.invariant in
    let split = ap (λ (l : List Area). before.done ++ l) (sym c.in-Some.ensures.steps) ∙ before.split in
    let next = newly_next m c.args.areas.now.areas before.done c.next.new.self area false c.objects_told.ensures
    c.iter-area-items.ensures.kept.apart split (sym c.is_shared_before.ensures ∙ c.if-not-is_shared_before.true) in
    let long = length-append before.done (area ∷ []) in
    let most = before.most in
    let pages = before.pages in
    let value = c.new_pages.ensures.value in
    let few = c.new_pages.ensures.few in
    let from = c.from-count.ensures in
    record {
      done = before.done ++ area ∷ [];
      split = moved_on c.args.areas.now.areas before.done c.next.new.self c.loop-area.area-iterator area before.split
          c.in-Some.ensures.steps;
      most = omega (arith, most, few, from, long);
      pages = omega (arith, pages, value, from, next);
    }

pub loop-area-preserved : goal.loop-area-preserved
loop-area-preserved g c =
    let m = c.args.memory.now in
    let area = c.in-Some.area.now in
    let before = c.loop-area.invariant in
    let split = ap (λ (l : List Area). before.done ++ l) (sym c.in-Some.ensures.steps) ∙ before.split in
    let next = newly_next m c.args.areas.now.areas before.done c.next.new.self area true c.objects_told.ensures
    c.iter-area-items.ensures.kept.apart split (sym c.is_shared_before.ensures ∙ c.if-not-is_shared_before.false) in
    let long = length-append before.done (area ∷ []) in
    let most = before.most in
    let pages = before.pages in
    record {
      done = before.done ++ area ∷ [];
      split = moved_on c.args.areas.now.areas before.done c.next.new.self c.loop-area.area-iterator area before.split
          c.in-Some.ensures.steps;
      most = omega (arith, most, long);
      pages = omega (arith, pages, next);
    }

pub returns : goal.returns
returns g c =
    let before = c.loop-area.invariant in
    before.pages
    ∙ ap (λ (l : List Area). newly_pinned c.args.memory.now (numbers_of l)) (sym (append-nil before.done)
    ∙ ap (λ (l : List Area). before.done ++ l) (sym c.in-None.ensures.steps.0) ∙ before.split)

pub overflow_add-count : goal.overflow_add-count
overflow_add-count g c =
    let before = c.loop-area.invariant in
    let rest : List Area = c.loop-area.area-iterator in
    let all = ap (λ (l : List Area). length l) before.split in
    let long = length-append before.done rest in
    let many = c.iter-area-items.ensures.kept.few in
    let most = before.most in
    let few = c.new_pages.ensures.few in
    let from = c.from-count.ensures in
    omega (arith, all, long, many, most, few, from)
