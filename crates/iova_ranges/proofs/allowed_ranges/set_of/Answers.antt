use Rattle.std.proofs.Common.{◌∙◌, sym}
use Rattle.std.proofs.lemmas.List.Sorted.{length_permutation, list_any-IsPermutation}
use Rattle.iofd_words.specs.Span.{holds}
use Rattle.iova_ranges.proofs.Errors.{on_err}
use Rattle.iova_ranges.proofs.allowed_ranges.set_of.Goals as goal

pub returns : goal.returns
returns g c = record {
  set = record {
    merged = c.in_ok-set.ensures.set.merged;
    set = λ n. rw c.deref.ensures.value at (c.in_ok-set.ensures.set.set n)
        ∙ sym (list_any-IsPermutation (λ span. holds span n) _ _ c.in_ok-sorted.ensures.same);
  };
  memory = record {};
}

pub returns-in_err-set-clause-memory : goal.returns-in_err-set-clause-memory
returns-in_err-set-clause-memory g c =
    let some =
    rw (c.deref.ensures.value, length_permutation _ _ c.in_ok-sorted.ensures.same) at c.in_err-set.ensures.memory in
    on_err c.from_residual-in_err-set.result some
