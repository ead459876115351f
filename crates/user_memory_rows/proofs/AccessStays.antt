-- The access pins that there were cover each page as often after an event as before.
use Rattle.std.proofs.Common.{◌≡◌, ℕ, ◌+◌, true, None, ◌∙◌, refl}
use Rattle.iofd_rows.proofs.Each.{area_added}
use Rattle.iofd_rows.proofs.ObjectPages.{listed_fewer, listed_is}
use Rattle.iofd_rows.specs.Pinned.{ArePinned}
use Rattle.iofd_runs.proofs.Accessed.{EachHeld, each_held, new_uncovered, of_areas}
use Rattle.iofd_runs.proofs.KeepsPins.{keeps_pins}
use Rattle.iofd_runs.proofs.Moves.{AreasMove, FewerAreas, Moves, OneArea, OtherPhases, SameAreas, changed_moves}
use Rattle.iofd_steps.specs.After.{changed, mapped_area}
use Rattle.iofd_steps.specs.Answers.{Answers}
use Rattle.iofd_refusals.specs.Checks.{refusal}
use Rattle.iofd_words.specs.Pins.{ObjectPage}
use Rattle.iofd_words.specs.World.{World}
use Rattle.iofd_words.specs.declared.event.Event.{Event}
use Rattle.iofd_words.specs.declared.reply.Reply.{Reply}
use Rattle.user_memory_rows.proofs.AccessCounts.{counted_fewer, counted_more, counted_objects, counted_phases}
use Rattle.user_memory_rows.specs.Shown.{accessed, has_page}

-- the access pins that there were cover each page of a memory object that there is as often as before
abbrev pub CoveredAlike : World → World → Type 0
CoveredAlike w new = (page : ObjectPage) → has_page new.memory page ≡ true
    → accessed new.objects new.areas w.access_pins page ≡ accessed w.objects w.areas w.access_pins page

module _ {A : Type 0} (at : ℕ) (w : World) (e : Event A) (answer : Reply) (none : refusal w e ≡ None)
    (answers : Answers w e answer) (p : ArePinned at w) where
  each : EachHeld w.objects w.areas w.access_pins
  each = each_held w.objects w.areas w.access_pins p.held

  -- with the areas that it leaves, and the objects and pins that stood
  by_areas : (new : World) → ArePinned (at + 1) new → AreasMove at w e answer new → (page : ObjectPage)
      → has_page new.memory page ≡ true
      → accessed w.objects new.areas w.access_pins page ≡ accessed w.objects w.areas w.access_pins page
  by_areas new next (SameAreas is same) page there = rw is refl
  by_areas new next (FewerAreas goes by is left free) page there =
      rw is (counted_fewer w.objects goes w.areas w.access_pins page
      (of_areas w.memory w.areas page p.numbers p.sizes
      (listed_fewer _ w.memory page (rw left at (listed_is new.memory page ∙ there)))) (free none answers each))
  by_areas new next (OtherPhases phase lives is same) page there =
      rw is (counted_phases w.objects phase w.areas w.access_pins page)
  by_areas new next (OneArea number file request iova passed lies makes alike is under) page there =
      let area = mapped_area number file request iova in
      rw is (counted_more w.objects area w.areas w.access_pins page
      (new_uncovered w.objects area w.areas w.access_pins page each
      (λ same. of_areas new.memory new.areas page next.numbers next.sizes (listed_is new.memory page ∙ there) area
      (rw is (area_added area w.areas)) same) (lies none answers).apart))

  by_moves : (new : World) → ArePinned (at + 1) new → Moves at w e answer new → CoveredAlike w new
  by_moves new next m page there =
      counted_objects w.objects new.objects new.areas w.areas w.access_pins page (m.holders none answers).holders each
      ∙ by_areas new next m.areas page there

  pub accessed_stays : CoveredAlike w (changed at w e answer)
  accessed_stays =
      by_moves (changed at w e answer) (keeps_pins at w e answer none answers p) (changed_moves at w e answer)

-- what is known of pins in the world after it
pub record PinsNext (next : ℕ) (w new : World) : Type 0 where
  pub pins : ArePinned next new
  pub covered : CoveredAlike w new

pub pins_next : {A : Type 0} → (at : ℕ) (w : World) (e : Event A) (answer : Reply) → refusal w e ≡ None
    → Answers w e answer → ArePinned at w → PinsNext (at + 1) w (changed at w e answer)
pins_next at w e answer none answers p =
    record { pins = keeps_pins at w e answer none answers p; covered = accessed_stays at w e answer none answers p }
