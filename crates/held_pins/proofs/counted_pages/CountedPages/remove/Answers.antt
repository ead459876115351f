use Rattle.std.proofs.Common.{◌<◌, false, sym, subst, ◌∙◌}
use Rattle.held_pins.specs.Counts.{count_in}
use Rattle.held_pins.specs.PageOrder.{page_cmp}
use Rattle.held_pins.specs.declared.keys.PageKey.{PageKey}
use Rattle.held_pins.proofs.InOrder.{Has, order_last, order_still}
use Rattle.held_pins.proofs.counted_pages.CountedPages.remove.Goals as goal

pub invariant_of-self : goal.invariant_of-self
invariant_of-self g c =
    let held = c.self.inside in
    let some : 0 < count_in page_cmp held.counts c.args.key = rw c.self.view_is c.requires in
    let P : PageKey → Type 0 = λ other. Has held.by_access c.remove-then-remove-2.new.self other false in
    order_last held.counts c.args.key held.order held.by_access c.self.invariant c.remove.new.self
    c.remove-then-remove.new.self c.remove-then-remove-2.new.self (λ other. sym (c.remove.ensures.counts other)) some
    (sym c.if-remove.true ∙ c.remove.ensures.last) c.remove-then-remove.ensures.updates.0
    (subst P c.exchanged.ensures c.remove-then-remove-2.ensures.updates.0)

pub invariant_of-self-else-remove : goal.invariant_of-self-else-remove
invariant_of-self-else-remove g c =
    let held = c.self.inside in
    order_still held.counts c.args.key held.order held.by_access c.self.invariant c.remove.new.self
    (λ other. sym (c.remove.ensures.counts other)) (sym c.if-remove.false ∙ c.remove.ensures.last)
