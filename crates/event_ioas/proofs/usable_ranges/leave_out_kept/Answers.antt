use Rattle.std.proofs.Common.{ap, ◌∙◌}
use Rattle.std.proofs.lemmas.List.Sorted.{IsPermutation-sym, list_any-IsPermutation}
use Rattle.std.proofs.lemmas.Result.{on_ok_weaker}
use Rattle.iofd_words.specs.Ranges.{in_spans}
use Rattle.iofd_words.specs.Span.{holds}
use Rattle.event_ioas.proofs.LeavingOut.{out_by_alike}
use Rattle.event_ioas.proofs.usable_ranges.leave_out_kept.Goals as goal

pub returns : goal.returns
returns g c =
    let same = IsPermutation-sym _ _ c.sort_unstable_by_key.ensures.permutation in
    on_ok_weaker c.leave_out_spans.result
    (out_by_alike (λ n. ap (λ spans. in_spans spans n) c.deref.ensures.value
    ∙ list_any-IsPermutation (λ span. holds span n) _ _ same ∙ c.in_ok-spans.ensures n))
    c.leave_out_spans.ensures
