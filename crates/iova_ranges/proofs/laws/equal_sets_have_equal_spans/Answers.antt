use Rattle.iova_ranges.proofs.Same.{spans-same}
use Rattle.iova_ranges.proofs.laws.equal_sets_have_equal_spans.Goals as goal

pub returns : goal.returns
returns c = λ xs ys x_merged y_merged same. spans-same 0 0 xs ys x_merged y_merged same
