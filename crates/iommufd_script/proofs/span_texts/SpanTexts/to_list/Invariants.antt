use Rattle.std.proofs.Common.{◌≡◌, ◌++◌, length}
use Rattle.iommufd_script.proofs.span_texts.SpanTexts.to_list.Given as goal

abbrev pub invariant-loop-span : goal.invariant-loop-span
invariant-loop-span g l = l.list.items ++ l.spans ≡ l.initial.spans

abbrev pub decreases-loop-span : goal.decreases-loop-span
decreases-loop-span g l = length l.spans
