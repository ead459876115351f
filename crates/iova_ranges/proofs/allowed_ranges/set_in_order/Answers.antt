use Rattle.std.proofs.Common.{◌∙◌, ◌||◌, Bool, List, ap, refl, arith}
use Rattle.std.proofs.lemmas.List.{take_all}
use Rattle.std.proofs.lemmas.Result.{IfOk-from_err}
use Rattle.iofd_words.specs.Bounds.{Bounds}
use Rattle.iofd_words.specs.Ranges.{in_spans}
use Rattle.iofd_words.specs.Span.{holds}
use Rattle.iova_ranges.proofs.Errors.{on_err}
use Rattle.iova_ranges.proofs.Taken.{in_more}
use Rattle.iova_ranges.proofs.allowed_ranges.set_in_order.Goals as goal

pub loop-range-init : goal.loop-range-init
loop-range-init g c = rw c.new-set.ensures record { same = λ n. refl; merged = tt }

pub returns-in_err-add_range-clause-set : goal.returns-in_err-add_range-clause-set
returns-in_err-add_range-clause-set g c = IfOk-from_err c.from_residual.result _ c.from_residual.ensures.0

pub returns-in_err-add_range-clause-memory : goal.returns-in_err-add_range-clause-memory
returns-in_err-add_range-clause-memory g c = on_err c.from_residual.result (omega arith)

pub loop-range-smaller : goal.loop-range-smaller
loop-range-smaller g c = omega arith

pub loop-range-preserved : goal.loop-range-preserved
loop-range-preserved g c =
    let range = c.range-item.result in
    let before = c.loop-range.invariant in
    record {
      same = λ n. c.in_ok-add_range.ensures.numbers n ∙ ap (λ (b : Bool). b || holds range n) (before.same n)
          ∙ in_more c.args.ranges.now c.loop-range.range-index range n (omega arith) c.range-item.is;
      merged = c.add_range.ensures.merged before.merged;
    }

pub returns-clause-set : goal.returns-clause-set
returns-clause-set g c =
    let before = c.loop-range.invariant in
    let all = take_all c.loop-range.range-index c.args.ranges.now (omega arith) in
    record {
      merged = before.merged;
      set = λ n. before.same n ∙ ap (λ (ranges : List Bounds). in_spans ranges n) all;
    }
