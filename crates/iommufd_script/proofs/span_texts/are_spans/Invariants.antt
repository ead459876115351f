use Rattle.std.proofs.Common.{◌≡◌, length}
use Rattle.iommufd_script.specs.Fields.{are_spans}
use Rattle.iommufd_script.proofs.span_texts.are_spans.Given as goal

abbrev pub invariant-loop-field : goal.invariant-loop-field
invariant-loop-field l = are_spans l.fields ≡ are_spans l.initial.fields

abbrev pub decreases-loop-field : goal.decreases-loop-field
decreases-loop-field l = length l.fields
