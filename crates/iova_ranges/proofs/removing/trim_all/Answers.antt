use Rattle.std.proofs.Common.{◌≡◌, ◌∙◌, ap, sym, set, arith}
use Rattle.std.proofs.lemmas.List.Edits.{map_over_more}
use Rattle.iofd_words.specs.Bounds.{Bounds}
use Rattle.iova_ranges.specs.Removing.{trimmed}
use Rattle.iova_ranges.proofs.removing.trim_all.Goals as goal

pub loop-span-preserved : goal.loop-span-preserved
loop-span-preserved g c =
    let f = trimmed c.args.cut in
    let items = c.loop-span.span-items in
    let step = map_over_more f c.deref_mut-span-items.result.now items c.loop-span.span-index c.span-item.result
    (omega arith) c.loop-span.invariant c.span-item.is in
    let new : c.trim.result ≡ f c.span-item.result = c.trim.ensures ∙ ap f (sym c.span-item.is) in
    ap (λ (a : Bounds). set items c.loop-span.span-index a) new ∙ step
