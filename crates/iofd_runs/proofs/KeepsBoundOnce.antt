-- Every event keeps each device bound by at most one object.
use Rattle.std.proofs.Common.{◌≡◌, ℕ, None, List, arith}
use Rattle.iofd_steps.specs.After.{changed}
use Rattle.iofd_steps.specs.Answers.{Answers}
use Rattle.iofd_refusals.specs.Checks.{refusal}
use Rattle.iofd_words.specs.Settings.{Settings}
use Rattle.iofd_words.specs.Tables.{with_tables}
use Rattle.iofd_words.specs.World.{World, opening}
use Rattle.iofd_words.specs.declared.event.Event.{Event}
use Rattle.iofd_words.specs.declared.numbers.FrameNo.{FrameNo}
use Rattle.iofd_words.specs.declared.reply.Reply.{Reply}
use Rattle.iofd_rows.specs.Ids.{AreBoundOnce}
use Rattle.iofd_rows.proofs.BoundOnce.{once-filter, once-with_object}
use Rattle.iofd_rows.proofs.Accesses.{once-reattached}
use Rattle.iofd_runs.proofs.Moves.{ObjectsMove, Same, Fewer, More, changed_moves, Reattached}

-- it holds of a world
abbrev pub DevicesOnce : World → Type 0
DevicesOnce w = AreBoundOnce w.objects

pub opening_once : (settings : Settings) → DevicesOnce (opening settings)
opening_once settings device = omega arith

pub keeps_once : {A : Type 0} → (at : ℕ) (w : World) (e : Event A) (answer : Reply) → refusal w e ≡ None
    → Answers w e answer → DevicesOnce w → DevicesOnce (changed at w e answer)
keeps_once at w e answer none answers once = by_move (changed at w e answer) (changed_moves at w e answer).objects
  where
    by_move : (new : World) → ObjectsMove w e answer new → AreBoundOnce new.objects
    by_move new (Same is) = rw is once
    by_move new (Fewer stays stay bound is) = rw is (once-filter stays w.objects once)
    by_move new (Reattached file id attached is) = rw is (once-reattached file id attached w.objects once)
    by_move new (More object fresh admitted makes is) =
        rw is (once-with_object object w.objects (admitted none).unbound once)

-- the frames of tables are no part of it
pub tabled_once : (w : World) (taken given : List FrameNo) → DevicesOnce w → DevicesOnce (with_tables taken given w)
unfolding with_tables
tabled_once w taken given once = once
