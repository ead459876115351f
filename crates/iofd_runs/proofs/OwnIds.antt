-- Each id is that of one object of its file, after every event.
use Rattle.std.proofs.Common.{◌≡◌, ℕ, true, None}
use Rattle.iofd_rows.specs.Ids.{have_own_ids}
use Rattle.iofd_runs.proofs.Moves.{ObjectsMove, Same, Fewer, More, changed_moves, Reattached}
use Rattle.iofd_steps.specs.After.{changed}
use Rattle.iofd_steps.specs.Answers.{Answers}
use Rattle.iofd_refusals.specs.Checks.{refusal}
use Rattle.iofd_words.specs.World.{World}
use Rattle.iofd_words.specs.declared.event.Event.{Event}
use Rattle.iofd_words.specs.declared.reply.Reply.{Reply}
pub use Rattle.iofd_rows.proofs.OwnIds.{any_found, own_ids-filter, own_ids-with_object, unused}
use Rattle.iofd_rows.proofs.Accesses.{own_ids-reattached}

pub keeps_own_ids : {A : Type 0} → (at : ℕ) (w : World) (e : Event A) (answer : Reply) → refusal w e ≡ None
    → Answers w e answer → have_own_ids w.objects ≡ true → have_own_ids (changed at w e answer).objects ≡ true
keeps_own_ids at w e answer none answers own =
    by_move (changed at w e answer) (changed_moves at w e answer).objects
  where
    by_move : (new : World) → ObjectsMove w e answer new → have_own_ids new.objects ≡ true
    by_move new (Same is) = rw is own
    by_move new (Fewer stays stay bound is) = rw is (own_ids-filter stays w.objects own)
    by_move new (Reattached file id attached is) = rw is (own_ids-reattached file id attached w.objects own)
    by_move new (More object fresh admitted makes is) =
        rw is (own_ids-with_object object w.objects (unused w.objects object.file object.id (fresh answers)) own)
