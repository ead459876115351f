use Rattle.std.proofs.Common.{rules}
use Rattle.std.proofs.lemmas.List.Sorted.{IsNonDecreasingBy-from_sort, answers_always}
use Rattle.iofd_words.specs.declared.numbers.FrameNo.{FrameNo}
use Rattle.page_table.proofs.release.sort_by_number.Goals as goal

pub returns-clause-rising : goal.returns-clause-rising
returns-clause-rising c =
    IsNonDecreasingBy-from_sort (λ (frame : FrameNo). frame.0) _
    (c.sort_unstable_by_key.ensures.sorted (λ (frame : FrameNo). frame.0)
    (answers_always _ _ _ (λ f a r g h. search rules)))
