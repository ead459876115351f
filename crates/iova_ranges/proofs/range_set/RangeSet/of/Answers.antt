use Rattle.std.proofs.Common.{◌∙◌, ◌||◌, ◌==◌, ◌≡◌, ℕ, Bool, List, length, ap, refl, arith}
use Rattle.std.proofs.lemmas.List.{take_all}
use Rattle.std.proofs.lemmas.Result.{IfOk-from_err}
use Rattle.iofd_words.specs.Bounds.{Bounds}
use Rattle.iofd_words.specs.Ranges.{in_spans}
use Rattle.iofd_words.specs.Span.{holds}
use Rattle.iova_ranges.proofs.Errors.{on_err}
use Rattle.iova_ranges.proofs.Taken.{in_more, some_more}
use Rattle.iova_ranges.proofs.range_set.RangeSet.of.Goals as goal

pub loop-span-init : goal.loop-span-init
loop-span-init g c = rw c.new-set.ensures record { same = λ n. refl; merged = tt; empty = refl }

pub returns-in_err-add-clause-set : goal.returns-in_err-add-clause-set
returns-in_err-add-clause-set g c = IfOk-from_err c.from_residual.result _ c.from_residual.ensures.0

pub returns-in_err-add-clause-merged : goal.returns-in_err-add-clause-merged
returns-in_err-add-clause-merged g c = IfOk-from_err c.from_residual.result _ c.from_residual.ensures.0

pub returns-in_err-add-clause-empty : goal.returns-in_err-add-clause-empty
returns-in_err-add-clause-empty g c = IfOk-from_err c.from_residual.result _ c.from_residual.ensures.0

pub returns-in_err-add-clause-memory : goal.returns-in_err-add-clause-memory
returns-in_err-add-clause-memory g c = on_err c.from_residual.result (omega arith)

pub loop-span-smaller : goal.loop-span-smaller
loop-span-smaller g c = omega arith

pub loop-span-preserved : goal.loop-span-preserved
loop-span-preserved g c =
    let span = c.span-item.result in
    let before = c.loop-span.invariant in
    record {
      same = λ n. c.in_ok-add.ensures.set n ∙ ap (λ (b : Bool). b || holds span n) (before.same n)
          ∙ in_more c.args.spans.now c.loop-span.span-index span n (omega arith) c.span-item.is;
      merged = c.add.ensures.merged;
      empty = some_more (length c.add.new.self.spans) c.loop-span.span-index c.in_ok-add.ensures.some;
    }

pub returns-clause-set : goal.returns-clause-set
returns-clause-set g c =
    let all = take_all c.loop-span.span-index c.args.spans.now (omega arith) in
    λ n. c.loop-span.invariant.same n ∙ ap (λ (spans : List Bounds). in_spans spans n) all

pub returns-clause-merged : goal.returns-clause-merged
returns-clause-merged g c = c.loop-span.invariant.merged

pub returns-clause-empty : goal.returns-clause-empty
returns-clause-empty g c =
    let all : c.loop-span.span-index ≡ length c.args.spans.now = omega arith in
    c.loop-span.invariant.empty ∙ ap (λ (count : ℕ). count == 0) all
