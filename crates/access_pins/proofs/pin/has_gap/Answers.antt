use Rattle.std.proofs.Common.{◌≡◌, ◌∙◌, Bool, List, MatchBool, not, subst, sym, true}
use Rattle.std.specs.List.{list_all}
use Rattle.access_pins.proofs.PinAsked.{gap_told}
use Rattle.area_map_rows.proofs.Kept.{apart-filter}
use Rattle.area_map_rows.specs.Areas.{AreApart, HasGap, IsCovered}
use Rattle.iofd_rows.proofs.ListTests.{all_pass}
use Rattle.iofd_words.specs.Span.{meets}
use Rattle.iofd_words.specs.declared.rows.Area.{Area}
use Rattle.access_pins.proofs.pin.has_gap.Goals as goal

pub cover-requires-clause-apart : goal.cover-requires-clause-apart
cover-requires-clause-apart g c =
    subst (λ (met : List Area). AreApart met) (sym c.requires.met)
    (apart-filter (λ (area : Area). meets area.span c.args.span) 0 c.args.areas.now.areas c.facts.ensures.kept.apart)

pub cover-requires-clause-met : goal.cover-requires-clause-met
cover-requires-clause-met g c =
    let span = c.args.span in
    subst (λ (met : List Area). list_all (λ (area : Area). meets area.span span) met ≡ true) (sym c.requires.met)
    (all_pass (λ (area : Area). meets area.span span) c.args.areas.now.areas)

pub returns : goal.returns
returns g c =
    let span = c.args.span in
    gap_told span c.args.areas.now.areas c.requires.span c.facts-2.ensures.ordered c.requires.sizes c.requires.starts
    c.cover.result
    (subst (λ (met : List Area). MatchBool c.cover.result (IsCovered span met) (HasGap span met)) c.requires.met
    c.cover.ensures)
