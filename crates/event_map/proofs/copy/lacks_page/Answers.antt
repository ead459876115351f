use Rattle.std.proofs.Common.{sym, ◌∙◌}
use Rattle.event_map.proofs.CopyAsks.{lacks_told}
use Rattle.event_map.proofs.copy.lacks_page.Goals as goal

pub returns : goal.returns
returns g c =
    let translated = sym c.has_hwpt.ensures ∙ c.if-not-has_hwpt.false in
    c.lacks_page.ensures ∙ lacks_told c.args.state.now c.args.file c.args.request c.args.number c.requires.source
    c.objects_told.ensures translated
