use Rattle.std.proofs.Common.{◌||◌, Bool, List, take, sym, ◌∙◌, ap, arith}
use Rattle.std.specs.List.{list_any}
use Rattle.std.proofs.lemmas.List.{take_all}
use Rattle.std.proofs.lemmas.List.Folds.{list_any_at, list_any_more}
use Rattle.iofd_words.specs.Bounds.{Bounds}
use Rattle.page_table_words.specs.Needed.{goes_through}
use Rattle.page_table_words.specs.Pruned.{is_kept}
use Rattle.page_table.proofs.prune.is_kept.Goals as goal

pub returns-then-goes_through : goal.returns-then-goes_through
returns-then-goes_through c =
    sym (list_any_at (goes_through c.args.level c.args.number) c.args.kept.now c.loop-span.span-index
    c.span-item.result c.loop-span-test.true
    (ap (goes_through c.args.level c.args.number) (sym c.span-item.is) ∙ sym c.goes_through.ensures
    ∙ c.if-goes_through.true))

pub loop-span-preserved : goal.loop-span-preserved
loop-span-preserved c =
    let level = c.args.level in
    let number = c.args.number in
    let before = take c.loop-span.span-index c.args.kept.now in
    list_any_more (goes_through level number) c.args.kept.now c.loop-span.span-index
    c.span-item.result c.loop-span-test.true
    ∙ ap (λ (s : Bounds). list_any (goes_through level number) before
    || goes_through level number s) (sym c.span-item.is)
    ∙ ap (λ (b : Bool). b || goes_through level number c.span-item.result) c.loop-span.invariant
    ∙ sym c.goes_through.ensures ∙ c.if-goes_through.false

pub returns : goal.returns
returns c = sym c.loop-span.invariant ∙ ap (λ (spans : List Bounds). is_kept spans c.args.level c.args.number)
    (take_all c.loop-span.span-index c.args.kept.now (omega arith))
