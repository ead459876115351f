use Rattle.std.proofs.Common.{sym, ◌∙◌, ap, subst}
use Rattle.std.specs.List.Sorted.{IsNonDecreasing}
use Rattle.std.proofs.lemmas.List.Sorted.{IsNonDecreasingBy-from_sort}
use Rattle.user_memory.specs.Memory.{newly_pinned}
use Rattle.hwpt_device.proofs.CountedOnce.{newly_permuted}
use Rattle.hwpt_device.proofs.pins.new_pages.Goals as goal

pub newly_pinned-requires : goal.newly_pinned-requires
newly_pinned-requires g c =
    subst IsNonDecreasing (sym c.deref.ensures.value)
    (IsNonDecreasingBy-from_sort (λ x. x) c.sort_unstable.new.self.items c.sort_unstable.ensures.sorted)

pub returns-in-Ok : goal.returns-in-Ok
returns-in-Ok g c =
    let m = c.args.memory.now in
    c.newly_pinned.ensures
    ∙ ap (newly_pinned m) c.deref.ensures.value
    ∙ newly_permuted m c.in-Ok.numbers.items c.sort_unstable.new.self.items c.sort_unstable.ensures.permutation
    ∙ ap (newly_pinned m) c.in-Ok.ensures
