-- Every event keeps the objects by rising file and id.
use Rattle.std.proofs.Common.{◌≡◌, ℕ, true, None, List, refl}
use Rattle.iofd_steps.specs.After.{changed}
use Rattle.iofd_steps.specs.Answers.{Answers}
use Rattle.iofd_refusals.specs.Checks.{refusal}
use Rattle.iofd_words.specs.Settings.{Settings}
use Rattle.iofd_words.specs.Tables.{with_tables}
use Rattle.iofd_words.specs.World.{World, opening}
use Rattle.iofd_words.specs.declared.event.Event.{Event}
use Rattle.iofd_words.specs.declared.numbers.FrameNo.{FrameNo}
use Rattle.iofd_words.specs.declared.reply.Reply.{Reply}
use Rattle.iofd_runs.specs.Rising.{objects_rise}
use Rattle.iofd_runs.proofs.OwnIds.{unused}
use Rattle.iofd_runs.proofs.RisingLists.{rise-filter, rise-with_object, rise-reattached}
use Rattle.iofd_runs.proofs.Moves.{ObjectsMove, Same, Fewer, More, changed_moves, Reattached}

-- it holds of a world
abbrev pub ObjectsRise : World → Type 0
ObjectsRise w = objects_rise w.objects ≡ true

pub opening_rises : (settings : Settings) → ObjectsRise (opening settings)
opening_rises settings = refl

pub keeps_rising : {A : Type 0} → (at : ℕ) (w : World) (e : Event A) (answer : Reply) → refusal w e ≡ None
    → Answers w e answer → ObjectsRise w → ObjectsRise (changed at w e answer)
keeps_rising at w e answer none answers rise = by_move (changed at w e answer) (changed_moves at w e answer).objects
  where
    by_move : (new : World) → ObjectsMove w e answer new → objects_rise new.objects ≡ true
    by_move new (Same is) = rw is rise
    by_move new (Fewer stays stay bound is) = rw is (rise-filter stays w.objects rise)
    by_move new (Reattached file id attached is) = rw is (rise-reattached file id attached w.objects rise)
    by_move new (More object fresh admitted makes is) =
        rw is (rise-with_object object w.objects (unused w.objects object.file object.id (fresh answers)) rise)

-- the frames of tables are no part of it
pub tabled_rises : (w : World) (taken given : List FrameNo) → ObjectsRise w → ObjectsRise (with_tables taken given w)
unfolding with_tables
tabled_rises w taken given rise = rise
