use Rattle.std.proofs.Common.{List, sym, subst}
use Rattle.std.specs.Prelude.{MatchOption}
use Rattle.iofd_words.specs.Bounds.{Bounds}
use Rattle.iofd_words.specs.Usable.{allowed_spans}
use Rattle.iova_ranges.specs.Gaps.{IsGap}
use Rattle.iova_ranges.specs.Ranges.{AllIn}
use Rattle.event_map.proofs.choice.gap_meeting.Goals as goal

pub returns-in-Some : goal.returns-in-Some
returns-in-Some g c =
    subst (λ (spans : List Bounds). MatchOption c.gap_meeting.result (AllIn (allowed_spans spans) c.args.span)
    (IsGap (allowed_spans spans) c.args.span)) (sym c.in-Some.ensures) c.gap_meeting.ensures
