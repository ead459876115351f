use Rattle.std.proofs.Common.{sym, ◌∙◌, ap}
use Rattle.iofd_refusals.specs.Checks.{passes_limit}
use Rattle.iofd_words.specs.Files.{user_of}
use Rattle.event_map.proofs.CopyAsks.{limit_told}
use Rattle.server_state.specs.Seen.{seen}
use Rattle.event_map.proofs.copy.passes_limit.Goals as goal

pub returns : goal.returns
returns g c =
    let s = c.args.state.now in
    let translated = sym c.has_hwpt.ensures ∙ c.if-not-has_hwpt.false in
    c.passes_limit.ensures
    ∙ ap (passes_limit (seen s) (user_of s.config c.args.file)) (c.from-count.ensures ∙ c.new_pages.ensures.value)
    ∙ limit_told s c.args.file c.args.request c.args.number c.requires.source c.new_pages.ensures.facts translated
