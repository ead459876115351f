use Rattle.std.proofs.Common.{◌<◌, ◌^◌, ◌∙◌, ap, length, subst}
use Rattle.std.proofs.lemmas.Result.{IfOk-weaker}
use Rattle.std.specs.Result.{IfOk}
use Rattle.iofd_words.specs.Limits.{first_outside}
use Rattle.iofd_steps.specs.Look.{AreUsableRanges}
use Rattle.iofd_steps.specs.Run.{world_of}
use Rattle.iofd_words.specs.View.{View, view}
use Rattle.iommufd_core.proofs.FewRanges.{few_ranges}
use Rattle.iommufd_core.proofs.Histories.{same_kept, tidy_run}
use Rattle.iommufd_core.proofs.apply.Core.ranges.Goals as goal

pub returns-clause-few : goal.returns-clause-few
returns-clause-few g c =
    let state = c.self.inside.state in
    let records = c.self.inside.records.items in
    let w = world_of state.config records in
    let tidy = tidy_run state.config records c.self.invariant.run c.self.invariant.used in
    let same = same_kept state c.self.inside.turns.items records c.self.invariant in
    let inside = ap first_outside c.self.invariant.shows.settings ∙ c.facts.ensures in
    IfOk-weaker c.usable_ranges.result (λ set. AreUsableRanges (view w) c.args.file c.args.ioas set.spans)
    (λ set. length set.spans < 2 ^ 32)
    (λ set are. few_ranges w c.args.file c.args.ioas set.spans inside tidy.fit tidy.few are)
    (subst (λ (v : View). IfOk c.usable_ranges.result (λ set. AreUsableRanges v c.args.file c.args.ioas set.spans)) same
    c.usable_ranges.ensures.ranges)
