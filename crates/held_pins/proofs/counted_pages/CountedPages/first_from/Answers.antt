use Rattle.std.proofs.Common.{ap}
use Rattle.held_pins.specs.Counts.{count_in}
use Rattle.held_pins.specs.PageOrder.{page_cmp}
use Rattle.held_pins.proofs.InOrder.{first_answer, none_answer}
use Rattle.held_pins.proofs.counted_pages.CountedPages.first_from.Goals as goal

pub returns : goal.returns
returns g c =
    let first = c.first_in in
    let count = count_in page_cmp c.self.inside.counts in
    let now = count_in page_cmp c.args.self.now in
    let same = ap (λ rows. count_in page_cmp rows) c.self.view_is in
    let order = c.self.inside.order in
    record {
      found = first_answer count now order c.args.key first.result c.self.invariant.keys same first.ensures.there
          first.ensures.reached first.ensures.least;
      none = none_answer count now order c.args.key first.result c.self.invariant.keys same first.ensures.none;
    }
