use Rattle.std.proofs.Common.{◌≡◌, ◌<◌, ap, refl, subst, sym, ◌∙◌}
use Rattle.held_pins.specs.Counts.{count_in}
use Rattle.held_pins.specs.Held.{AreAlike, holder_cmp, holder_of, Lack}
use Rattle.held_pins.specs.Held.Tally.{OfHolder, Pinned}
use Rattle.held_pins.specs.declared.keys.HolderKey.{HolderKey}
use Rattle.held_pins.specs.declared.pin_counts.PinCounts.{PinCounts}
use Rattle.held_pins.proofs.Results.{from_err, on_err}
use Rattle.held_pins.proofs.Runs.{own_holder, over_run, same_holders}
use Rattle.held_pins.proofs.pin_counts.PinCounts.add.Goals as goal

pub add_pages-requires-clause-room : goal.add_pages-requires-clause-room
add_pages-requires-clause-room g c key is =
    let over = over_run c.args.pin.now c.first_of-first.result c.end_of-end.result c.first_of-first.ensures
    c.end_of-end.ensures.value in
    c.requires (Pinned key) (sym (over key) ∙ is)

pub returns-in_err-add_pages-clause-full : goal.returns-in_err-add_pages-clause-full
returns-in_err-add_pages-clause-full g c =
    let over = over_run c.args.pin.now c.first_of-first.result c.end_of-end.result c.first_of-first.ensures
    c.end_of-end.ensures.value in
    let lacking = c.in_err-add_pages.ensures.full in
    on_err c.from_residual.result (Lack c.args.self.now c.args.pin.now)
    (Pinned lacking.0, sym (over lacking.0) ∙ lacking.1, lacking.2)

pub returns-in_err-add_pages-clause-err : goal.returns-in_err-add_pages-clause-err
returns-in_err-add_pages-clause-err g c =
    let old = c.args.self.now in
    let new : PinCounts _ = record { pages = c.add_pages.new.counts; holders = old.holders } in
    on_err c.from_residual.result (AreAlike new old) (same_holders old new refl c.in_err-add_pages.ensures.err)

pub add-requires : goal.add-requires
add-requires g c =
    let pin = c.args.pin.now in
    subst (λ (key : HolderKey). count_in holder_cmp c.args.self.now.holders key < 65535) (sym c.new-holder.ensures)
    (c.requires (OfHolder (holder_of pin.file pin.access)) (own_holder pin))

pub returns-then-is_err-clause-full : goal.returns-then-is_err-clause-full
returns-then-is_err-clause-full g c =
    let pin = c.args.pin.now in
    let none = from_err c.add.result (count_in holder_cmp c.args.self.now.holders c.new-holder.result ≡ 0)
    (sym c.is_err.ensures.value ∙ c.if-is_err.true) c.add.ensures.full in (
      OfHolder (holder_of pin.file pin.access),
      own_holder pin,
      sym (ap (λ (key : HolderKey). count_in holder_cmp c.args.self.now.holders key) c.new-holder.ensures) ∙ none,
    )
