use Rattle.std.proofs.Common.{◌≡◌, true, false, sym, subst, ◌∙◌}
use Rattle.std.specs.BTreeSet.{IsUnchanged, Updates}
use Rattle.held_pins.specs.Counts.{count_in}
use Rattle.held_pins.specs.PageOrder.{page_cmp}
use Rattle.held_pins.specs.declared.keys.PageKey.{PageKey}
use Rattle.held_pins.proofs.InOrder.{Has, IsMore, Pages, order_again, order_first, order_undone, orders_undone}
use Rattle.held_pins.proofs.InOrder.{uncounted}
use Rattle.held_pins.proofs.Results.{from_err, from_ok}
use Rattle.held_pins.proofs.counted_pages.CountedPages.add.Goals as goal

pub invariant_of-self : goal.invariant_of-self
invariant_of-self g c =
    order_again c.self.inside.counts c.args.key c.self.inside.order c.self.inside.by_access c.self.invariant
    c.add_again.new.self (c.add_again.ensures.counts c.if-add_again.true)
    (sym c.if-add_again.true ∙ c.add_again.ensures.test)

pub invariant_of-self-then-is_err-2 : goal.invariant_of-self-then-is_err-2
invariant_of-self-then-is_err-2 g c =
    let held = c.self.inside in
    let key = c.args.key in
    let none = uncounted (count_in page_cmp held.counts key) (sym c.if-add_again.false ∙ c.add_again.ensures.test) in
    let added = from_ok c.insert.result (Updates page_cmp held.order c.insert.new.self key true)
    (sym c.is_err.ensures.value ∙ c.if-is_err.false) c.insert.ensures.updates in
    let kept = from_err c.insert-2.result (IsUnchanged held.by_access c.insert-2.new.self)
    (sym c.is_err-2.ensures.value ∙ c.if-is_err-2.true) c.insert-2.ensures.err in
    order_undone held.counts key held.order held.by_access c.self.invariant none c.insert.new.self c.remove.new.self
    added.0 c.remove.ensures.updates.0 c.add_again.new.self c.insert-2.new.self
    (c.add_again.ensures.unchanged c.if-add_again.false) kept

pub invariant_of-self-then-is_err-3 : goal.invariant_of-self-then-is_err-3
invariant_of-self-then-is_err-3 g c =
    let held = c.self.inside in
    let key = c.args.key in
    let none = uncounted (count_in page_cmp held.counts key) (sym c.if-add_again.false ∙ c.add_again.ensures.test) in
    let same = from_err c.add_first.result (c.add_first.new.self ≡ c.add_again.new.self)
    (sym c.is_err-3.ensures.value ∙ c.if-is_err-3.true) c.add_first.ensures.err in
    let added = from_ok c.insert.result (Updates page_cmp held.order c.insert.new.self key true)
    (sym c.is_err.ensures.value ∙ c.if-is_err.false) c.insert.ensures.updates in
    let added-2 = from_ok c.insert-2.result
    (Updates page_cmp held.by_access c.insert-2.new.self c.exchanged-exchanged.result true)
    (sym c.is_err-2.ensures.value ∙ c.if-is_err-2.false) c.insert-2.ensures.updates in
    let P : PageKey → Type 0 = λ other. Has held.by_access c.insert-2.new.self other true in
    let Q : PageKey → Type 0 = λ other.
    Has c.insert-2.new.self c.remove-then-is_err-3-2.new.self other false in
    orders_undone held.counts key held.order held.by_access c.self.invariant none c.insert.new.self
    c.remove-then-is_err-3.new.self added.0 c.remove-then-is_err-3.ensures.updates.0 c.add_first.new.self
    c.insert-2.new.self c.remove-then-is_err-3-2.new.self
    (same ∙ c.add_again.ensures.unchanged c.if-add_again.false) (subst P c.exchanged-exchanged.ensures added-2.0)
    (subst Q c.exchanged-exchanged.ensures c.remove-then-is_err-3-2.ensures.updates.0)

pub invariant_of-self-else-is_err-3 : goal.invariant_of-self-else-is_err-3
invariant_of-self-else-is_err-3 g c =
    let held = c.self.inside in
    let key = c.args.key in
    let added = from_ok c.insert.result (Updates page_cmp held.order c.insert.new.self key true)
    (sym c.is_err.ensures.value ∙ c.if-is_err.false) c.insert.ensures.updates in
    let added-2 = from_ok c.insert-2.result
    (Updates page_cmp held.by_access c.insert-2.new.self c.exchanged-exchanged.result true)
    (sym c.is_err-2.ensures.value ∙ c.if-is_err-2.false) c.insert-2.ensures.updates in
    let more = from_ok c.add_first.result (IsMore c.add_again.new.self c.add_first.new.self key)
    (sym c.is_err-3.ensures.value ∙ c.if-is_err-3.false) c.add_first.ensures.counts in
    let P : PageKey → Type 0 = λ other. Has held.by_access c.insert-2.new.self other true in
    order_first held.counts key held.order held.by_access c.self.invariant c.add_first.new.self c.insert.new.self
    c.insert-2.new.self
    (subst (λ (rows : Pages). IsMore rows c.add_first.new.self key)
    (c.add_again.ensures.unchanged c.if-add_again.false) more)
    added.0 (subst P c.exchanged-exchanged.ensures added-2.0)

pub returns-clause-counts : goal.returns-clause-counts
returns-clause-counts g c =
    let more = from_ok c.add_first.result (IsMore c.add_again.new.self c.add_first.new.self c.args.key)
    (sym c.is_err-3.ensures.value ∙ c.if-is_err-3.false) c.add_first.ensures.counts in
    subst (λ (rows : Pages). IsMore rows c.add_first.new.self c.args.key)
    (c.add_again.ensures.unchanged c.if-add_again.false ∙ c.self.view_is) more
