use Rattle.area_map_rows.proofs.Numbers.{greater}
use Rattle.std.proofs.Common.{◌≡◌, ◌∙◌, ℕ, List, fold, length, max, sym, ap, arith}
use Rattle.iofd_words.specs.declared.rows.Area.{Area}
use Rattle.iofd_words.specs.Areas.{most_tries, tries_of}
use Rattle.area_map_rows.proofs.totals.most_tries.Goals as goal

pub loop-area-init : goal.loop-area-init
loop-area-init g c = ap most_tries c.into_iter-area-iterator.ensures.into_iter_gives

pub loop-area-preserved : goal.loop-area-preserved
loop-area-preserved g c =
    let f = λ (most : ℕ) (area : Area). max most (tries_of area.phase) in
    let now : c.max-most.result ≡ max c.loop-area.most (tries_of c.in-Some.area.now.phase) =
    c.max-most.ensures ∙ greater c.loop-area.most c.tries_of.result
    ∙ ap (max c.loop-area.most) c.tries_of.ensures in
    ap (λ most. fold f most c.next.new.self) now
    ∙ ap (λ (areas : List Area). fold f c.loop-area.most areas) (sym c.in-Some.ensures.steps) ∙ c.loop-area.invariant

pub loop-area-smaller : goal.loop-area-smaller
loop-area-smaller g c = omega (arith, ap length c.in-Some.ensures.steps)

pub returns : goal.returns
returns g c =
    let f = λ (most : ℕ) (area : Area). max most (tries_of area.phase) in
    ap (λ (areas : List Area). fold f c.loop-area.most areas) (sym c.in-None.ensures.steps.0) ∙ c.loop-area.invariant
