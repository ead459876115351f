use Rattle.std.proofs.Common.{◌∙◌}
use Rattle.iova_ranges.proofs.Reaching.{find_reaching, copied-from_get}
use Rattle.iova_ranges.proofs.lookups.first_reaching.Goals as goal

pub returns : goal.returns
returns c =
    let got = copied-from_get c.args.spans.now c.count_below.result c.get.result c.get.ensures.lookup.0
    c.get.ensures.lookup.1 in
    let found = find_reaching c.args.number c.args.spans.now in
    rw c.count_below.ensures.value at got ∙ found
