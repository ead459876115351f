use Rattle.std.proofs.Common.{ℕ, find, leb, sym, ap, ◌∙◌}
use Rattle.std.specs.Option.{option_copied}
use Rattle.iofd_words.specs.declared.rows.Area.{Area}
use Rattle.server_state.proofs.NewTables.{areas_below, never_reaches}
use Rattle.server_state.proofs.tables.tables_for.Goals as goal

pub unreachable-requires : goal.unreachable-requires
unreachable-requires g c =
    never_reaches c.args.width c.args.areas.now.areas c.in-Some.area.now
    (ap (λ (end : ℕ). find (λ (area : Area). leb end area.span.last) c.args.areas.now.areas) (sym c.end.ensures)
    ∙ sym c.first_reaching.ensures.area ∙ ap option_copied c.in-Some.is) c.requires.within
    c.facts.ensures.ordered c.facts.ensures.end

pub tables_for-requires : goal.tables_for-requires
tables_for-requires g c =
    areas_below c.args.width c.args.areas.now.areas c.first_reaching.ensures.kept.apart
    c.requires.pages c.requires.starts
    (ap (λ (end : ℕ). find (λ (area : Area). leb end area.span.last) c.args.areas.now.areas) (sym c.end.ensures)
    ∙ sym c.first_reaching.ensures.area ∙ ap option_copied c.in-None.is)
