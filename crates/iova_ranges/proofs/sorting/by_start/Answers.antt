use Rattle.std.proofs.Common.{rules, sym}
use Rattle.std.proofs.lemmas.List.Sorted.{IsNonDecreasingBy-from_sort_by_key}
use Rattle.iova_ranges.proofs.sorting.by_start.Goals as goal

pub returns : goal.returns
returns g c = record {
  same = rw (sym c.in_ok-sorted.ensures.same) c.sort_unstable_by_key.ensures.permutation;
  rising = IsNonDecreasingBy-from_sort_by_key (λ range. range.first) _ c.sort_unstable_by_key.ensures.sorted
      (λ a r q k. search rules);
  memory = record {};
}
