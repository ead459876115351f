-- A page that stays pinned keeps its frame, and one that becomes pinned takes the frame that its user has there.
use Rattle.std.proofs.Common.{ℕ, Bool, true, false, Option, Some, None, refl, sym, subst, List, ap, ◌∙◌}
use Rattle.std.specs.List.{list_any}
use Rattle.iofd_steps.specs.After.{changed, settle}
use Rattle.iofd_refusals.specs.Checks.{refusal}
use Rattle.iofd_words.specs.Pins.{ObjectPage, frame_now, is_page, pinned_frame, pinned_pages}
use Rattle.iofd_steps.specs.Run.{after, after_answer}
use Rattle.iofd_words.specs.Record.{Record}
use Rattle.iofd_words.specs.Tables.{with_tables}
use Rattle.iofd_words.specs.World.{World}
use Rattle.iofd_words.specs.declared.numbers.FrameNo.{FrameNo}
use Rattle.iofd_words.specs.declared.refusal.Cause.{Cause}
use Rattle.iofd_laws.specs.Laws.{PinMoves, pin_moves}
use Rattle.iofd_rows.proofs.PinsFollow.{settled_at, settled_frame}
use Rattle.iofd_runs.proofs.Moves.{PinsMove, SamePins, Settled, changed_moves}
use Rattle.iofd_words.specs.declared.rows.Pin.{Pin}
use Rattle.iofd_words.specs.declared.event.Event.{Event}

same : (old now : Option FrameNo) → PinMoves old old now
same None now = tt
same (Some frame) now = refl

settles : (was is : Bool) (old now : Option FrameNo) → PinMoves old (settled_at was is old now) now
settles was false None now = tt
settles was false (Some old) now = tt
settles true true None now = tt
settles true true (Some old) now = refl
settles false true None None = tt
settles false true None (Some now) = refl
settles false true (Some old) now = refl

module _ (w : World) (page : ObjectPage) where
  stays : pin_moves page w w
  stays = same (pinned_frame w.pins page) (frame_now w.memory w.user_pages page)

  by_move : {A : Type 0} (at : ℕ) (e : Event A) (new : World) → PinsMove at w e new → pin_moves page w new
  unfolding settle
  by_move at e new (SamePins is alike) = rw is (same (pinned_frame w.pins page) _)
  by_move at e new (Settled is present) =
      let before = pinned_pages w.objects w.areas w.memory w.access_pins in
      let next = pinned_pages new.objects new.areas new.memory new.access_pins in
      let now = frame_now new.memory new.user_pages page in
      subst (λ o. PinMoves (pinned_frame w.pins page) o now)
      (sym (ap (λ (pins : List Pin). pinned_frame pins page) is
      ∙ settled_frame before next new.memory new.user_pages w.pins page))
      (settles (list_any (is_page page) before) (list_any (is_page page) next) (pinned_frame w.pins page) now)

  pub after_moves : {A : Type 0} (at : ℕ) (r : Record A) → pin_moves page w (after at w r)
  unfolding after with_tables
  after_moves at r = by_refusal (refusal w r.event)
    where
      by_refusal : (o : Option Cause) → pin_moves page w (after_answer at w r o)
      by_refusal (Some cause) = stays
      by_refusal None =
          by_move at r.event (changed at w r.event r.reply) (changed_moves at w r.event r.reply).pins
