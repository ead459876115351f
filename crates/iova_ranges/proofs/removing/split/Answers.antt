use Rattle.std.proofs.Common.{◌≡◌, ◌<◌, ◌+◌, ◌-◌, ◌∙◌, get_or, length, arith}
use Rattle.std.proofs.lemmas.List.{get_or_default}
use Rattle.iova_ranges.proofs.Removed.{set-inserted}
use Rattle.iova_ranges.proofs.removing.split.Goals as goal

pub returns-clause-items : goal.returns-clause-items
returns-clause-items g c =
    let xs = c.args.spans.now.items in
    let i = c.args.place in
    let within : i < length xs = omega arith in
    let whole : c.index-whole.result.now ≡ get_or xs i c.args.cut =
    c.index-whole.ensures ∙ get_or_default xs i c.index-whole.result.now c.args.cut within in
    let above : c.between-above.result ≡ record { first = c.args.cut.last + 1; last = (get_or xs i c.args.cut).last } =
    rw (c.last.ensures.value, c.last-last.ensures.value, whole) at c.between-above.ensures in
    let below : c.between.result ≡ record { first = (get_or xs i c.args.cut).first; last = c.args.cut.first - 1 } =
    rw (c.first.ensures.value, c.first-first.ensures.value, whole) at c.between.ensures in
    rw (
      c.in_ok-insert.ensures.items,
      above,
      below,
    ) (set-inserted xs i (record { first = (get_or xs i c.args.cut).first; last = c.args.cut.first - 1 })
    (record { first = c.args.cut.last + 1; last = (get_or xs i c.args.cut).last }) within)
