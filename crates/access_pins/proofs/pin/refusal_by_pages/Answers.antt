use Rattle.std.proofs.Common.{◌≡◌, Bool, true, false, Some, is_none, List, [], ◌∷◌, refl, ap, sym, ◌∙◌}
use Rattle.std.specs.List.{list_any}
use Rattle.access_pages.specs.Runs.{runs_in}
use Rattle.access_pins.proofs.NewAccessed.{all_lie, all_meet, few_meet, lacked_met, passes_met}
use Rattle.iofd_words.specs.FirstTrue.{first_true}
use Rattle.iofd_words.specs.Pins.{ObjectPage}
use Rattle.iofd_words.specs.declared.refusal.Cause.TheVariants as cause
use Rattle.iofd_words.specs.declared.rows.Area.{Area}
use Rattle.user_memory.specs.Memory.{frame_now, new_in_runs}
use Rattle.access_pins.proofs.pin.refusal_by_pages.Goals as goal

-- the two rows
lacks : (absent account : Bool) → absent ≡ true
    → Some cause.Absent ≡ first_true ((cause.Absent, absent) ∷ (cause.Account, account) ∷ [])
lacks absent account is = rw is refl

decides : (absent account b : Bool) → absent ≡ false → account ≡ b
    → first_true ((cause.Account, b) ∷ []) ≡ first_true ((cause.Absent, absent) ∷ (cause.Account, account) ∷ [])
decides absent account b none is = rw (none, is) refl

pub lacks_page-requires-clause-met : goal.lacks_page-requires-clause-met
lacks_page-requires-clause-met g c =
    let ordered = c.facts-2.ensures.ordered in
    rw c.again.ensures (all_meet c.args.state.now c.requires.known c.args.file c.args.ioas c.args.span c.requires.span
    ordered c.args.areas.now.areas c.args.met c.requires.there c.facts.ensures.kept c.requires.met)

pub lacks_page-requires-clause-lies : goal.lacks_page-requires-clause-lies
lacks_page-requires-clause-lies g c =
    let ordered = c.facts-2.ensures.ordered in
    rw c.again.ensures (all_lie c.args.state.now c.requires.known c.args.file c.args.ioas c.args.span c.requires.span
    ordered c.args.areas.now.areas c.args.met c.requires.there c.facts.ensures.kept c.requires.met)

pub returns-then-lacks_page : goal.returns-then-lacks_page
returns-then-lacks_page g c =
    let ordered = c.facts-2.ensures.ordered in
    let s = c.args.state.now in
    let lacked = sym (lacked_met s c.requires.known c.args.file c.args.ioas c.args.span c.requires.span ordered
    c.args.areas.now.areas c.args.met c.requires.there c.facts.ensures.kept c.requires.met)
    ∙ ap (λ (l : List Area). list_any (λ (page : ObjectPage). is_none (frame_now s.memory page))
    (new_in_runs s.memory (runs_in c.args.span l))) (sym c.again.ensures) ∙ sym c.lacks_page.ensures in
    lacks _ _ (lacked ∙ c.if-lacks_page.true)

pub passes_limit-requires-clause-met : goal.passes_limit-requires-clause-met
passes_limit-requires-clause-met g c =
    let ordered = c.facts-2.ensures.ordered in
    all_meet c.args.state.now c.requires.known c.args.file c.args.ioas c.args.span c.requires.span ordered
    c.args.areas.now.areas c.args.met c.requires.there c.facts.ensures.kept c.requires.met

pub passes_limit-requires-clause-lies : goal.passes_limit-requires-clause-lies
passes_limit-requires-clause-lies g c =
    let ordered = c.facts-2.ensures.ordered in
    all_lie c.args.state.now c.requires.known c.args.file c.args.ioas c.args.span c.requires.span ordered
    c.args.areas.now.areas c.args.met c.requires.there c.facts.ensures.kept c.requires.met

pub passes_limit-requires-clause-few : goal.passes_limit-requires-clause-few
passes_limit-requires-clause-few g c =
    let ordered = c.facts-2.ensures.ordered in
    few_meet c.args.state.now c.requires.known c.args.file c.args.ioas c.args.span c.requires.span ordered
    c.args.areas.now.areas c.args.met c.requires.there c.facts.ensures.kept c.requires.met

pub returns-then-passes_limit : goal.returns-then-passes_limit
returns-then-passes_limit g c =
    let ordered = c.facts-2.ensures.ordered in
    let s = c.args.state.now in
    let lacked = sym (lacked_met s c.requires.known c.args.file c.args.ioas c.args.span c.requires.span ordered
    c.args.areas.now.areas c.args.met c.requires.there c.facts.ensures.kept c.requires.met)
    ∙ ap (λ (l : List Area). list_any (λ (page : ObjectPage). is_none (frame_now s.memory page))
    (new_in_runs s.memory (runs_in c.args.span l))) (sym c.again.ensures) ∙ sym c.lacks_page.ensures in
    let passes = sym (passes_met s c.requires.known c.args.file c.args.ioas c.args.span c.requires.span ordered
    c.args.areas.now.areas c.args.met c.requires.there c.facts.ensures.kept c.requires.met)
    ∙ sym c.passes_limit.ensures in
    decides _ _ true (lacked ∙ c.if-lacks_page.false) (passes ∙ c.if-passes_limit.true)

pub returns : goal.returns
returns g c =
    let ordered = c.facts-2.ensures.ordered in
    let s = c.args.state.now in
    let lacked = sym (lacked_met s c.requires.known c.args.file c.args.ioas c.args.span c.requires.span ordered
    c.args.areas.now.areas c.args.met c.requires.there c.facts.ensures.kept c.requires.met)
    ∙ ap (λ (l : List Area). list_any (λ (page : ObjectPage). is_none (frame_now s.memory page))
    (new_in_runs s.memory (runs_in c.args.span l))) (sym c.again.ensures) ∙ sym c.lacks_page.ensures in
    let passes = sym (passes_met s c.requires.known c.args.file c.args.ioas c.args.span c.requires.span ordered
    c.args.areas.now.areas c.args.met c.requires.there c.facts.ensures.kept c.requires.met)
    ∙ sym c.passes_limit.ensures in
    decides _ _ false (lacked ∙ c.if-lacks_page.false) (passes ∙ c.if-passes_limit.false)
