use Rattle.std.proofs.Common.{List, ◌++◌, map, ap, ◌∙◌}
use Rattle.std.specs.List.{list_any}
use Rattle.iofd_words.specs.Allowed.{AllowedRanges, allowed_of}
use Rattle.iofd_words.specs.Areas.{areas_of}
use Rattle.iofd_words.specs.World.{World}
use Rattle.iofd_words.specs.declared.rows.Area.{Area}
use Rattle.journal_audit_page_tables.specs.Unusable.{meets_unusable}
use Rattle.journal_audit_page_tables.proofs.Narrowed.{both_outside}
use Rattle.journal_audit_page_tables.proofs.narrowing.are_outside.Goals as goal

pub returns : goal.returns
returns g c =
    let v = c.world.inside in
    both_outside v.config c.args.unusable.now (areas_of v.areas.items c.args.file c.args.ioas)
    (allowed_of v.allowed.items c.args.file c.args.ioas) c.area_outside-areas.result c.allowed_outside-allowed.result
    (c.area_outside-areas.ensures
    ∙ ap (λ (rows : List Area). list_any (λ (area : Area). meets_unusable v.config c.args.unusable.now area.span)
    (areas_of rows c.args.file c.args.ioas)) c.deref.ensures.value)
    (c.allowed_outside-allowed.ensures
    ∙ ap (λ (rows : List AllowedRanges). list_any (meets_unusable v.config c.args.unusable.now)
    (allowed_of rows c.args.file c.args.ioas)) c.deref-2.ensures.value)
    ∙ ap (λ (w : World). list_any (meets_unusable w.settings c.args.unusable.now)
    (map (λ (area : Area). area.span) (areas_of w.areas c.args.file c.args.ioas)
    ++ allowed_of w.allowed c.args.file c.args.ioas)) c.world.view_is
