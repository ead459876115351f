use Rattle.std.proofs.Common.{◌≡◌, true, [], ◌∷◌, ◌++◌, length, Contains}
use Rattle.std.specs.List.{list_any}
use Rattle.iofd_steps.specs.After.{changed}
use Rattle.iofd_words.specs.Pins.{is_page, page_of_pin}
use Rattle.iofd_steps.specs.Run.{world_of}
use Rattle.iofd_words.specs.Tables.{with_tables}
use Rattle.iofd_runs.proofs.Moves.{changed_moves}
use Rattle.iofd_runs.proofs.PagesToPin.{pages_in}
use Rattle.iofd_promises.proofs.Facts.{pinned_of, usable_of}
use Rattle.iofd_promises.proofs.KeptPinned.{keeps_page, row_stays}
use Rattle.iofd_promises.proofs.Rows.{contains, within}
use Rattle.iofd_promises.proofs.Steps.{by_record}
use Rattle.iofd_promises.proofs.access.pages_keep_their_frames_while_pinned.Goals as goal

pub returns : goal.returns
unfolding with_tables
returns g c = λ settings before r pin run has keeps.
    let w = world_of settings before in
    let kept = keeps_page (length (before ++ r ∷ [])) (world_of settings (before ++ r ∷ []))
    (pinned_of settings (before ++ r ∷ []) run) (usable_of settings (before ++ r ∷ []) run).sound.own_ids
    pin.memory pin.index keeps in
    by_record settings before r run
    (λ new. list_any (is_page (page_of_pin pin)) (pages_in new) ≡ true → Contains new.pins pin)
    (λ cause is told page. has)
    (λ none answers moves page.
    contains _ pin (row_stays (length before) w r.event (changed (length before) w r.event r.reply) pin
    (changed_moves (length before) w r.event r.reply).pins (within w.pins pin has) page)) kept
