use Rattle.std.proofs.Common.{ap, sym, ◌∙◌}
use Rattle.std.specs.Prelude.{nat_lt}
use Rattle.held_pins.specs.Counts.{count_in}
use Rattle.held_pins.specs.Held.{holder_cmp, holder_of, pins_of}
use Rattle.held_pins.specs.Held.Tally.{OfHolder}
use Rattle.held_pins.specs.HeldPins.{holds_some, is_of}
use Rattle.held_pins.proofs.Lists.{any_counted}
use Rattle.held_pins.proofs.held_pins.HeldPins.holds_some.Goals as goal

pub returns : goal.returns
returns g c =
    let held = c.self.inside in
    let file = c.args.file in
    let access = c.args.access in
    ap (λ n. nat_lt 0 n)
    (c.count.ensures
    ∙ ap (λ key. count_in holder_cmp held.counts.holders key) c.new.ensures
    ∙ c.self.invariant.tallied (OfHolder (holder_of file access)))
    ∙ sym (any_counted (is_of file access) (pins_of held.spans))
    ∙ ap (λ pins. holds_some pins file access) c.self.view_is
