use Rattle.std.proofs.Common.{◌≡◌, Bool, true, false, not, Some, List, [], ◌∷◌, ◌&&◌, refl, ap, sym, ◌∙◌}
use Rattle.std.specs.List.{list_any}
use Rattle.access_pages.specs.Runs.{meeting}
use Rattle.access_pins.proofs.NewAccessed.{whole_areas}
use Rattle.access_pins.proofs.PinAsked.{any_met}
use Rattle.iofd_words.specs.Accesses.{has_gap, lacks_right}
use Rattle.iofd_words.specs.Bounds.{Bounds}
use Rattle.iofd_words.specs.FirstTrue.{first_true}
use Rattle.iofd_words.specs.Span.{meets}
use Rattle.iofd_words.specs.TablePlaces.{is_live}
use Rattle.iofd_words.specs.declared.refusal.Cause.{Cause}
use Rattle.iofd_words.specs.declared.refusal.Cause.TheVariants as cause
use Rattle.iofd_words.specs.declared.rows.Area.{Area}
use Rattle.access_pins.proofs.pin.refusal_under.Goals as goal

-- a test of the areas that meet the span, asked of those that were found
met_alike : (test : Area → Bool) (span : Bounds) (here areas met again : List Area) (result : Bool) → here ≡ areas
    → met ≡ meeting span areas → again ≡ met → result ≡ list_any test again
    → list_any (λ (a : Area). meets a.span span && test a) here ≡ result
met_alike test span here areas met again result there found same is =
    ap (list_any (λ (a : Area). meets a.span span && test a)) there ∙ sym (any_met test span areas)
    ∙ ap (list_any test) (sym (same ∙ found)) ∙ sym is

-- the first row that holds decides
module _ (gap leaving right full absent account : Bool) where
  abbrev rows : List (Cause × Bool)
  rows =
      (cause.Span, gap) ∷ (cause.Leaving, leaving) ∷ (cause.Rights, right) ∷ (cause.Full, full)
      ∷ (cause.Absent, absent) ∷ (cause.Account, account) ∷ []

  leaves : gap ≡ false → leaving ≡ true → Some cause.Leaving ≡ first_true rows
  leaves covered is = rw (covered, is) refl

  lacks : gap ≡ false → leaving ≡ false → right ≡ true → Some cause.Rights ≡ first_true rows
  lacks covered live is = rw (covered, live, is) refl

  decides : (b : Bool) → gap ≡ false → leaving ≡ false → right ≡ false → full ≡ b
      → first_true ((cause.Full, b) ∷ (cause.Absent, absent) ∷ (cause.Account, account) ∷ []) ≡ first_true rows
  decides b covered live allowed is = rw (covered, live, allowed, is) refl

pub has_gap-requires-clause-sizes : goal.has_gap-requires-clause-sizes
has_gap-requires-clause-sizes g c =
    (whole_areas c.args.state.now c.requires.known c.args.file c.args.ioas c.args.areas.now.areas c.requires.there).0

pub has_gap-requires-clause-starts : goal.has_gap-requires-clause-starts
has_gap-requires-clause-starts g c =
    (whole_areas c.args.state.now c.requires.known c.args.file c.args.ioas c.args.areas.now.areas c.requires.there).1

pub has_gap-requires-clause-met : goal.has_gap-requires-clause-met
has_gap-requires-clause-met g c = c.again.ensures ∙ c.meeting-met.ensures

pub returns-then-some_leaving : goal.returns-then-some_leaving
returns-then-some_leaving g c =
    let gap = ap (has_gap c.args.span) c.requires.there ∙ sym c.has_gap.ensures ∙ c.if-has_gap.false in
    let leaving = met_alike (λ (a : Area). not (is_live a.phase)) c.args.span _ c.args.areas.now.areas
    c.meeting-met.result c.again-2.result c.some_leaving.result c.requires.there c.meeting-met.ensures c.again-2.ensures
    c.some_leaving.ensures in
    leaves _ _ _ _ _ _ gap (leaving ∙ c.if-some_leaving.true)

pub returns-then-some_without_right : goal.returns-then-some_without_right
returns-then-some_without_right g c =
    let gap = ap (has_gap c.args.span) c.requires.there ∙ sym c.has_gap.ensures ∙ c.if-has_gap.false in
    let leaving = met_alike (λ (a : Area). not (is_live a.phase)) c.args.span _ c.args.areas.now.areas
    c.meeting-met.result c.again-2.result c.some_leaving.result c.requires.there c.meeting-met.ensures c.again-2.ensures
    c.some_leaving.ensures in
    let right = met_alike (lacks_right c.args.write) c.args.span _ c.args.areas.now.areas c.meeting-met.result
    c.again-3.result c.some_without_right.result c.requires.there c.meeting-met.ensures c.again-3.ensures
    c.some_without_right.ensures in
    lacks _ _ _ _ _ _ gap (leaving ∙ c.if-some_leaving.false) (right ∙ c.if-some_without_right.true)

pub returns-then-is_full : goal.returns-then-is_full
returns-then-is_full g c =
    let gap = ap (has_gap c.args.span) c.requires.there ∙ sym c.has_gap.ensures ∙ c.if-has_gap.false in
    let leaving = met_alike (λ (a : Area). not (is_live a.phase)) c.args.span _ c.args.areas.now.areas
    c.meeting-met.result c.again-2.result c.some_leaving.result c.requires.there c.meeting-met.ensures c.again-2.ensures
    c.some_leaving.ensures in
    let right = met_alike (lacks_right c.args.write) c.args.span _ c.args.areas.now.areas c.meeting-met.result
    c.again-3.result c.some_without_right.result c.requires.there c.meeting-met.ensures c.again-3.ensures
    c.some_without_right.ensures in
    decides _ _ _ _ _ _ true gap (leaving ∙ c.if-some_leaving.false) (right ∙ c.if-some_without_right.false)
    (sym c.is_full.ensures ∙ c.if-is_full.true)

pub returns : goal.returns
returns g c =
    let gap = ap (has_gap c.args.span) c.requires.there ∙ sym c.has_gap.ensures ∙ c.if-has_gap.false in
    let leaving = met_alike (λ (a : Area). not (is_live a.phase)) c.args.span _ c.args.areas.now.areas
    c.meeting-met.result c.again-2.result c.some_leaving.result c.requires.there c.meeting-met.ensures c.again-2.ensures
    c.some_leaving.ensures in
    let right = met_alike (lacks_right c.args.write) c.args.span _ c.args.areas.now.areas c.meeting-met.result
    c.again-3.result c.some_without_right.result c.requires.there c.meeting-met.ensures c.again-3.ensures
    c.some_without_right.ensures in
    c.refusal_by_pages.ensures
    ∙ decides _ _ _ _ _ _ false gap (leaving ∙ c.if-some_leaving.false) (right ∙ c.if-some_without_right.false)
    (sym c.is_full.ensures ∙ c.if-is_full.false)
