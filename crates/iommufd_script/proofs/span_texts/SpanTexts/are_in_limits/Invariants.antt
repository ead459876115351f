use Rattle.std.proofs.Common.{◌≡◌, ◌+◌, ◌≤◌, length}
use Rattle.std.specs.List.{list_all}
use Rattle.iofd_words.specs.Settings.{is_reserved_span}
use Rattle.iommufd_script.proofs.span_texts.SpanTexts.are_in_limits.Given as goal

abbrev pub invariant-loop-span : goal.invariant-loop-span
invariant-loop-span l = record {
  few : l.count ≤ 16;
  count : l.count + length l.spans ≡ length l.initial.spans;
  limits : list_all is_reserved_span l.spans ≡ list_all is_reserved_span l.initial.spans;
}

abbrev pub decreases-loop-span : goal.decreases-loop-span
decreases-loop-span l = length l.spans
