-- A pin goes: its runs may be let go of, and what is kept then shows the world without it.
use Rattle.std.proofs.Common.{◌≡◌, ℕ, ◌+◌, ◌≤◌, Bool, true, false, ◌&&◌, leb, ltb, Some, None, List, refl, ap, subst}
use Rattle.std.proofs.Common.{sym, ◌^◌}
use Rattle.std.proofs.Common.{◌∙◌, arith}
use Rattle.std.proofs.lemmas.Bool.Decides.{nat_tests}
use Rattle.access_pages.specs.Runs.{AreReleased, MayRelease, meeting, runs_in, times_in}
use Rattle.access_pins.proofs.AskedPins.{held_fits}
use Rattle.access_pins.proofs.KeptPins.{shown_less, sum_without}
use Rattle.access_pins.proofs.PinnedRuns.{runs_lie, times_covered, unlisted_none}
use Rattle.access_pins.proofs.SettledShown.{settled_shown, with_access_pins}
use Rattle.area_map_rows.specs.Areas.{AreApart}
use Rattle.frame_memory.specs.Pool.{FramePool}
use Rattle.held_pins.specs.HeldPins.{HasOneMore}
use Rattle.held_pins.specs.declared.pin.HeldPin.{HeldPin}
use Rattle.iofd_rows.proofs.Bools.{and_true}
use Rattle.iofd_rows.specs.Pinned.{ArePinned}
use Rattle.iofd_runs.proofs.AccessesPassed.{access_unpin_passed}
use Rattle.iofd_runs.proofs.KeepsPins.{keeps_pins}
use Rattle.iofd_words.specs.Accesses.{pin_of}
use Rattle.iofd_steps.specs.After.{access_unpinned, changed}
use Rattle.iofd_steps.specs.Answers.{Answers}
use Rattle.iofd_words.specs.Areas.{areas_of}
use Rattle.iofd_refusals.specs.Checks.{access_unpin_checks}
use Rattle.iofd_words.specs.FirstTrue.{first_true}
use Rattle.iofd_words.specs.Objects.{access_ioas_of}
use Rattle.iofd_words.specs.Pins.{ObjectPage, is_held, without_pin}
use Rattle.iofd_words.specs.Span.{is_whole_pages}
use Rattle.iofd_words.specs.View.{view}
use Rattle.iofd_words.specs.World.{World}
use Rattle.iofd_words.specs.declared.event.Event.TheVariants as event
use Rattle.iofd_words.specs.declared.event.PinRequest.{PinRequest}
use Rattle.iofd_words.specs.declared.numbers.FileNo.{FileNo}
use Rattle.iofd_words.specs.declared.numbers.ObjId.{ObjId}
use Rattle.iofd_words.specs.declared.reply.Reply.TheVariants as reply
use Rattle.iofd_words.specs.declared.rows.AccessPin.{AccessPin}
use Rattle.memory_objects.specs.declared.run.PageRun.{PageRun}
use Rattle.server_state.specs.AccessPins.{row_of}
use Rattle.server_state.specs.Shows.{Shows}
use Rattle.server_state.specs.Step.{IsTidy}
use Rattle.server_state.specs.declared.state.State.{State}
use Rattle.user_memory.specs.Memory.{Memory, access_pins}
use Rattle.user_memory_rows.proofs.FramesFollow.{is_backed}
use Rattle.user_memory_rows.proofs.PinsFollow.{only_kept}
use Rattle.user_memory_rows.specs.Shown.{accessed, covered_by, has_page}

module _ {A : Type 0} (at : ℕ) (w : World) (s : State A) (file : FileNo) (id : ObjId) (request : PinRequest)
    (tidy : IsTidy at w) (shows : Shows w s) (none : first_true (access_unpin_checks (view w) file id request) ≡ None)
    (pin : HeldPin) (row : row_of pin ≡ pin_of file id request)
    (attached : access_ioas_of w.objects pin.file pin.access ≡ Some pin.ioas)
    (apart : AreApart (areas_of w.areas pin.file pin.ioas)) where
  abbrev runs : List PageRun
  runs = runs_in pin.span (meeting pin.span (areas_of w.areas pin.file pin.ioas))

  pub held : is_held w.access_pins (row_of pin) ≡ true
  held = ap (is_held w.access_pins) row ∙ (access_unpin_passed (view w) file id request none).held

  fits : (is_whole_pages pin.span && leb pin.span.first pin.span.last) ≡ true
  fits = (and_true (is_whole_pages pin.span && leb pin.span.first pin.span.last) (ltb pin.span.last (2 ^ 64))
      (held_fits at w tidy (row_of pin) held)).0

  whole : is_whole_pages pin.span ≡ true
  whole = (and_true (is_whole_pages pin.span) (leb pin.span.first pin.span.last) fits).0

  ordered : pin.span.first ≤ pin.span.last
  ordered =
      let is = (and_true (is_whole_pages pin.span) (leb pin.span.first pin.span.last) fits).1 in
      search (is, arith, nat_tests)

  -- how often access pins cover a page without it
  covered_without : (page : ObjectPage) → has_page w.memory page ≡ true
      → accessed w.objects w.areas (without_pin (row_of pin) w.access_pins) page + times_in runs page
      ≡ access_pins s.memory page
  covered_without page there =
      ap (λ n. accessed w.objects w.areas (without_pin (row_of pin) w.access_pins) page + n)
      (times_covered at w s tidy shows (row_of pin) pin.ioas attached whole ordered apart page there)
      ∙ sum_without (covered_by w.objects w.areas page) (row_of pin) w.access_pins held
      ∙ sym (shows.pins.access page there)

  pub may_unpin : MayRelease runs s.memory s.pool.holds
  may_unpin = record {
    lies = runs_lie at w s tidy shows (row_of pin) pin.ioas attached whole ordered apart;
    pins = λ page. by_page page (has_page w.memory page) refl;
    backed = is_backed w.settings.pool w.writes w.table_frames s.memory s.pool shows.frames;
    invariant = shows.pins.invariant;
    only = only_kept at w s.memory tidy.pins shows.pins;
  }
    where
      by_page : (page : ObjectPage) (b : Bool) → has_page w.memory page ≡ b
          → times_in runs page ≤ access_pins s.memory page
      by_page page true there = let sum = covered_without page there in omega (arith, sum)
      by_page page false absent =
          let zero = unlisted_none at w s tidy shows (row_of pin) pin.ioas attached whole ordered apart page absent in
          omega (arith, zero)

  next : ArePinned (at + 1) (access_unpinned w file id request reply.Done)
  unfolding changed Answers
  next = keeps_pins {A = ℕ} at w (event.AccessUnpin file id request) reply.Done none tt tidy.pins

  pub unpinned_shown : (kept : List HeldPin) (after : Memory) (pool : FramePool) → HasOneMore kept s.access_pins pin
      → AreReleased runs s.memory after s.pool pool
      → Shows (access_unpinned w file id request reply.Done)
      (record s { access_pins = kept; memory = after; pool = pool })
  unpinned_shown kept after pool less released =
      subst (λ (p : AccessPin). Shows (with_access_pins w (without_pin p w.access_pins))
      (record s { access_pins = kept; memory = after; pool = pool })) row
      (settled_shown at w s tidy shows (without_pin (row_of pin) w.access_pins) kept after pool
      (subst (λ (p : AccessPin). ArePinned (at + 1) (with_access_pins w (without_pin p w.access_pins))) (sym row) next)
      released.rows released.areas released.pins
      (λ page there.
      let sum = covered_without page there in let left = released.access page in omega (arith, sum, left))
      released.settles (shown_less w.objects w.access_pins s.access_pins pin shows.access_pins kept less held))
