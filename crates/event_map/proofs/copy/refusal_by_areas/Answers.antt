use Rattle.std.proofs.Common.{◌≡◌, Bool, false, ◌&&◌, not, Option, Some, None, List, ◌∷◌, refl, sym, ◌∙◌, subst}
use Rattle.iofd_refusals.specs.Checks.{is_source_writable}
use Rattle.iofd_words.specs.Copies.{placed_as}
use Rattle.iofd_words.specs.FirstTrue.{first_true}
use Rattle.iofd_words.specs.Rights.{is_writeable}
use Rattle.iofd_words.specs.View.{View}
use Rattle.iofd_words.specs.declared.event.CopyRequest.{CopyRequest}
use Rattle.iofd_words.specs.declared.event.MapRequest.{MapRequest}
use Rattle.iofd_words.specs.declared.numbers.FileNo.{FileNo}
use Rattle.iofd_words.specs.declared.refusal.Cause.{Cause}
use Rattle.iofd_words.specs.declared.refusal.Cause.TheVariants as cause
use Rattle.event_map.proofs.AreaRows.{absent_row, account_row, frames_row, no_row, row_before}
use Rattle.event_map.specs.Place.{SeeksPlace, place_checks}
use Rattle.server_state.specs.Seen.{seen}
use Rattle.event_map.proofs.copy.refusal_by_areas.Goals as goal

-- the row of the source's rights, and those that ask for a place
module _ (v : View) (file : FileNo) (request : CopyRequest) where
  abbrev rights : Bool
  rights = is_writeable request.flags && not (is_source_writable v file request)

  abbrev rows : List (Cause × Bool)
  rows = (cause.Rights, rights) ∷ place_checks v file (placed_as request)

  behind : (placed : MapRequest) (o : Option Cause) → placed ≡ placed_as request → rights ≡ false
      → o ≡ first_true (place_checks v file placed) → o ≡ first_true rows
  behind placed o is right told = rw right (rw is at told)

pub refusal-requires : goal.refusal-requires
refusal-requires g c =
    subst (λ (placed : MapRequest). SeeksPlace c.args.state.now c.args.file placed c.args.areas.now.areas)
    (sym c.placed_as-placed.ensures) c.requires.seeks

pub lacks_right-requires : goal.lacks_right-requires
lacks_right-requires g c = c.requires.source

pub lacks_page-requires-clause-known : goal.lacks_page-requires-clause-known
lacks_page-requires-clause-known g c = c.requires.seeks.known

pub lacks_page-requires-clause-source : goal.lacks_page-requires-clause-source
lacks_page-requires-clause-source g c = c.requires.source

pub passes_limit-requires-clause-known : goal.passes_limit-requires-clause-known
passes_limit-requires-clause-known g c = c.requires.seeks.known

pub passes_limit-requires-clause-source : goal.passes_limit-requires-clause-source
passes_limit-requires-clause-source g c = c.requires.source

pub lacks_frames-requires-clause-seeks : goal.lacks_frames-requires-clause-seeks
lacks_frames-requires-clause-seeks g c =
    subst (λ (placed : MapRequest). SeeksPlace c.args.state.now c.args.file placed c.args.areas.now.areas)
    (sym c.placed_as-placed.ensures) c.requires.seeks

pub lacks_frames-requires-clause-passed : goal.lacks_frames-requires-clause-passed
lacks_frames-requires-clause-passed g c = sym c.refusal.ensures ∙ c.in_default.is

pub returns-then-lacks_right : goal.returns-then-lacks_right
returns-then-lacks_right g c = rw (sym c.lacks_right.ensures ∙ c.if-lacks_right.true) refl

pub returns-in-Some : goal.returns-in-Some
returns-in-Some g c =
    let v = seen c.args.state.now in
    row_before (rows v c.args.file c.args.request) _ _ _ c.in-Some.cause
    (behind v c.args.file c.args.request c.placed_as-placed.result (Some c.in-Some.cause) c.placed_as-placed.ensures
    (sym c.lacks_right.ensures ∙ c.if-lacks_right.false) (sym c.in-Some.is ∙ c.refusal.ensures))

pub returns-then-lacks_page : goal.returns-then-lacks_page
returns-then-lacks_page g c =
    let v = seen c.args.state.now in
    absent_row (rows v c.args.file c.args.request) _ _ _
    (behind v c.args.file c.args.request c.placed_as-placed.result None c.placed_as-placed.ensures
    (sym c.lacks_right.ensures ∙ c.if-lacks_right.false) (sym c.in_default.is ∙ c.refusal.ensures))
    (sym c.lacks_page.ensures ∙ c.if-lacks_page.true)

pub returns-then-passes_limit : goal.returns-then-passes_limit
returns-then-passes_limit g c =
    let v = seen c.args.state.now in
    account_row (rows v c.args.file c.args.request) _ _ _
    (behind v c.args.file c.args.request c.placed_as-placed.result None c.placed_as-placed.ensures
    (sym c.lacks_right.ensures ∙ c.if-lacks_right.false) (sym c.in_default.is ∙ c.refusal.ensures))
    (sym c.lacks_page.ensures ∙ c.if-lacks_page.false)
    (sym c.passes_limit.ensures ∙ c.if-passes_limit.true)

pub returns-then-lacks_frames : goal.returns-then-lacks_frames
returns-then-lacks_frames g c =
    let v = seen c.args.state.now in
    frames_row (rows v c.args.file c.args.request) _ _ _
    (behind v c.args.file c.args.request c.placed_as-placed.result None c.placed_as-placed.ensures
    (sym c.lacks_right.ensures ∙ c.if-lacks_right.false) (sym c.in_default.is ∙ c.refusal.ensures))
    (sym c.lacks_page.ensures ∙ c.if-lacks_page.false)
    (sym c.passes_limit.ensures ∙ c.if-passes_limit.false)
    (sym (rw c.placed_as-placed.ensures at c.lacks_frames.ensures) ∙ c.if-lacks_frames.true)

pub returns : goal.returns
returns g c =
    let v = seen c.args.state.now in
    no_row (rows v c.args.file c.args.request) _ _ _
    (behind v c.args.file c.args.request c.placed_as-placed.result None c.placed_as-placed.ensures
    (sym c.lacks_right.ensures ∙ c.if-lacks_right.false) (sym c.in_default.is ∙ c.refusal.ensures))
    (sym c.lacks_page.ensures ∙ c.if-lacks_page.false)
    (sym c.passes_limit.ensures ∙ c.if-passes_limit.false)
    (sym (rw c.placed_as-placed.ensures at c.lacks_frames.ensures) ∙ c.if-lacks_frames.false)
