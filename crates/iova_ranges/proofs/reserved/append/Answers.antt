use Rattle.std.proofs.Common.{◌∙◌, ◌++◌, ◌∷◌, [], List, take, sym, ap, append_assoc, append-nil, refl, arith}
use Rattle.std.proofs.lemmas.List.{take_more, take_all, map-append}
use Rattle.iofd_words.specs.Bounds.{Bounds}
use Rattle.iova_ranges.specs.Reserved.{rows_of}
use Rattle.iova_ranges.specs.declared.reserved.ReservedSpan.{ReservedSpan}
use Rattle.iova_ranges.proofs.reserved.append.Goals as goal

pub loop-span-init : goal.loop-span-init
loop-span-init g c = (sym (append-nil c.args.rows.now.items), omega arith, refl)

pub push_reserved-requires : goal.push_reserved-requires
push_reserved-requires g c =
    let before = c.loop-span.invariant in
    omega (arith, before.1, before.2, c.requires)

pub loop-span-preserved : goal.loop-span-preserved
loop-span-preserved g c =
    let owner = c.args.owner in
    let spans : List Bounds = c.args.spans.now in
    let old : List ReservedSpan = c.args.rows.now.items in
    let i = c.loop-span.span-index in
    let span = c.span-item.result in
    let before = c.loop-span.invariant in
    let next = take_more spans i span (omega arith)
    ∙ ap (λ (s : Bounds). take i spans ++ s ∷ []) (sym c.span-item.is) in
    let rows = ap (rows_of owner) next
    ∙ map-append (λ s. record { owner = owner; span = s }) (take i spans) (span ∷ []) in
    let row : ReservedSpan = record { owner = owner; span = span } in (
      c.push_reserved.ensures.items ∙ ap (λ (l : List ReservedSpan). l ++ row ∷ []) before.0
          ∙ append_assoc old (rows_of owner (take i spans)) (row ∷ [])
          ∙ ap (λ (l : List ReservedSpan). old ++ l) (sym rows),
      omega (arith, before.1, c.push_reserved.ensures.len),
      c.push_reserved.ensures.capacity ∙ before.2,
    )

pub returns-clause-items : goal.returns-clause-items
returns-clause-items g c =
    let all = take_all c.loop-span.span-index c.args.spans.now (omega arith) in
    c.loop-span.invariant.0 ∙ ap (λ (spans : List Bounds). c.args.rows.now.items ++ rows_of c.args.owner spans) all

pub returns-clause-capacity : goal.returns-clause-capacity
returns-clause-capacity g c = c.loop-span.invariant.2
