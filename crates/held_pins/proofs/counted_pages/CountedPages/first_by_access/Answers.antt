use Rattle.std.proofs.Common.{ap}
use Rattle.held_pins.specs.PageOrder.{count_exchanged}
use Rattle.held_pins.proofs.InOrder.{first_answer, none_answer}
use Rattle.held_pins.proofs.counted_pages.CountedPages.first_by_access.Goals as goal

pub returns : goal.returns
returns g c =
    let first = c.first_in in
    let count = count_exchanged c.self.inside.counts in
    let now = count_exchanged c.args.self.now in
    let same = ap (λ rows. count_exchanged rows) c.self.view_is in
    let order = c.self.inside.by_access in
    let has = c.self.invariant.exchanged_keys in
    record {
      found = first_answer count now order c.args.key first.result has same first.ensures.there
          first.ensures.reached first.ensures.least;
      none = none_answer count now order c.args.key first.result has same first.ensures.none;
    }
