-- What a lawful record leaves of access pins, a refused one too: the same, or one more or one less. The pages that they
-- cover change by the pins alone: with one more no fewer are covered, with one less no more, and else the same.
use Rattle.std.proofs.Common.{◌≡◌, ℕ, Bool, Option, Some, None, refl}
use Rattle.iofd_rows.specs.Pinned.{ArePinned}
use Rattle.iofd_runs.proofs.KeepsPins.{accesses_kept}
use Rattle.iofd_runs.proofs.Moves.{AccessPinsMove, LessAccessPin, OneAccessPin, SameAccessPins}
use Rattle.iofd_runs.proofs.Moves.{changed_moves}
use Rattle.iofd_runs.proofs.PagesToPin.{AccessedAlike}
use Rattle.iofd_steps.specs.After.{changed}
use Rattle.iofd_refusals.specs.Checks.{refusal}
use Rattle.iofd_words.specs.Pins.{ObjectPage, is_accessed}
use Rattle.iofd_steps.specs.Run.{IsAnswer, Lawful, after, after_answer}
use Rattle.iofd_words.specs.Record.{Record}
use Rattle.iofd_words.specs.Tables.{with_tables}
use Rattle.iofd_words.specs.World.{World}
use Rattle.iofd_words.specs.declared.refusal.Cause.{Cause}

-- ---- which events move access pins

-- ---- which pages they cover

-- the page is covered in the world
abbrev pub is_accessed_in : World → ObjectPage → Bool
is_accessed_in w page = is_accessed w.objects w.areas w.access_pins page

-- ---- after a record

pub after_alike : {A : Type 0} (at : ℕ) (w : World) (r : Record A) → Lawful at w r → ArePinned at w
    → AccessedAlike w (after at w r)
unfolding Lawful after with_tables
after_alike at w r lawful p = by_refusal (refusal w r.event) refl lawful.0
  where
    by_refusal : (o : Option Cause) → refusal w r.event ≡ o → IsAnswer w r o
        → AccessedAlike w (after_answer at w r o)
    by_refusal (Some cause) is answers = λ page listed. refl
    by_refusal None is answers = (accesses_kept at w r.event r.reply is answers p).accessed

pub after_access_pins : {A : Type 0} (at : ℕ) (w : World) (r : Record A) → AccessPinsMove w r.event (after at w r)
unfolding after with_tables
after_access_pins at w r = by_refusal (refusal w r.event) refl
  where
    by_tables : (new : World) → AccessPinsMove w r.event new
        → AccessPinsMove w r.event (with_tables r.taken r.given new)
    by_tables new (SameAccessPins is) = SameAccessPins is
    by_tables new (OneAccessPin pin makes same admitted is) =
        OneAccessPin pin makes (record { objects = same.objects; areas = same.areas; memory = same.memory }) admitted is
    by_tables new (LessAccessPin pin takes same held is) =
        LessAccessPin pin takes (record { objects = same.objects; areas = same.areas; memory = same.memory }) held is

    by_refusal : (o : Option Cause) → refusal w r.event ≡ o → AccessPinsMove w r.event (after_answer at w r o)
    by_refusal (Some cause) is = SameAccessPins refl
    by_refusal None is = by_tables (changed at w r.event r.reply) (changed_moves at w r.event r.reply).accesses
