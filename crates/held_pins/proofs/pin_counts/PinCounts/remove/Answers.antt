use Rattle.std.proofs.Common.{◌<◌, subst, sym, ◌∙◌}
use Rattle.held_pins.specs.Counts.{count_in}
use Rattle.held_pins.specs.Held.{holder_cmp, holder_of}
use Rattle.held_pins.specs.Held.Tally.{OfHolder, Pinned}
use Rattle.held_pins.specs.declared.keys.HolderKey.{HolderKey}
use Rattle.held_pins.proofs.Runs.{over_run, own_holder}
use Rattle.held_pins.proofs.pin_counts.PinCounts.remove.Goals as goal

pub remove_pages-requires-clause-counted : goal.remove_pages-requires-clause-counted
remove_pages-requires-clause-counted g c key is =
    c.requires (Pinned key)
    (sym (over_run c.args.pin.now c.first_of.result c.end_of.result c.first_of.ensures c.end_of.ensures.value key)
    ∙ is)

pub remove-requires : goal.remove-requires
remove-requires g c =
    let pin = c.args.pin.now in
    subst (λ (key : HolderKey). 0 < count_in holder_cmp c.args.self.now.holders key) (sym c.new.ensures)
    (c.requires (OfHolder (holder_of pin.file pin.access)) (own_holder pin))
