-- Every event leaves the memory objects of each file its own: only areas of one file share them.
use Rattle.std.proofs.Common.{◌≡◌, ℕ, ◌+◌, true, None, List, not}
use Rattle.iofd_steps.specs.After.{changed, mapped_area}
use Rattle.iofd_steps.specs.Answers.{Answers}
use Rattle.iofd_refusals.specs.Checks.{refusal}
use Rattle.iofd_words.specs.Tables.{with_tables}
use Rattle.iofd_words.specs.World.{World}
use Rattle.iofd_words.specs.declared.event.Event.{Event}
use Rattle.iofd_words.specs.declared.numbers.FileNo.{FileNo}
use Rattle.iofd_words.specs.declared.numbers.FrameNo.{FrameNo}
use Rattle.iofd_words.specs.declared.numbers.Iova.{Iova}
use Rattle.iofd_words.specs.declared.reply.Reply.{Reply}
use Rattle.iofd_words.specs.declared.rows.Area.{Area}
use Rattle.iofd_rows.specs.Pinned.{ArePinned, share_in_file, share_in_files}
use Rattle.iofd_runs.proofs.KeepsPins.{keeps_pins, later_pinned, tabled_pinned}
use Rattle.iofd_rows.proofs.Each.{of_each}
use Rattle.iofd_rows.proofs.OwnMemory.{shared-filter, shared-map, shared-with_area, shares_none}
use Rattle.std.specs.List.{list_all}
use Rattle.iofd_runs.proofs.Moves.{AreasMove, SameAreas, FewerAreas, OtherPhases, OneArea, MemoryUnder, NewMemory}
use Rattle.iofd_runs.proofs.Moves.{SharedMemory, changed_moves}
use Rattle.iofd_words.specs.declared.rows.MemoryObject.{MemoryObject}
use Rattle.iofd_words.specs.declared.event.MapRequest.{MapRequest}
use Rattle.iofd_runs.proofs.PagesToPin.{none_over}

pub keeps_own_memory : {A : Type 0} → (at : ℕ) (w : World) (e : Event A) (answer : Reply) → ArePinned at w
    → share_in_files w.areas ≡ true → share_in_files (changed at w e answer).areas ≡ true
keeps_own_memory at w e answer p own =
    by_move (changed at w e answer) (changed_moves at w e answer).areas
  where
    by_memory : (number : ℕ) (file : FileNo) (request : MapRequest) (iova : Iova) (memory : List MemoryObject)
        → MemoryUnder at w e file request iova number memory
        → list_all (share_in_file (mapped_area number file request iova)) w.areas ≡ true
    by_memory number file request iova memory (NewMemory user known short is more) =
        shares_none (mapped_area number file request iova) w.areas
        (rw is (none_over at w.areas w.memory p.made p.sizes))
    by_memory number file request iova memory (SharedMemory source within of_file size is same) =
        rw (← is, ← of_file) (of_each (λ (a : Area). list_all (share_in_file a) w.areas) w.areas source own within)

    by_move : (new : World) → AreasMove at w e answer new
        → share_in_files new.areas ≡ true
    by_move new (SameAreas is same) = rw is own
    by_move new (FewerAreas goes by is left free) = rw is (shared-filter (λ (a : Area). not (goes a)) w.areas own)
    by_move new (OtherPhases phase lives is same) = rw is (shared-map phase w.areas own)
    by_move new (OneArea number file request iova passed lies makes alike is under) =
        rw is (shared-with_area (mapped_area number file request iova) w.areas
        (by_memory number file request iova new.memory under) own)

-- pins, and memory objects that are of one file each
pub record OwnPins (at : ℕ) (w : World) : Type 0 where
  pub pins : ArePinned at w
  pub own : share_in_files w.areas ≡ true

pub tabled_own : (at : ℕ) (w : World) (taken given : List FrameNo) → OwnPins at w
    → OwnPins at (with_tables taken given w)
unfolding with_tables
tabled_own at w taken given p = record { pins = tabled_pinned at w taken given p.pins; own = p.own }

pub later_own : (at : ℕ) (w : World) → OwnPins at w → OwnPins (at + 1) w
later_own at w p = record { pins = later_pinned at w p.pins; own = p.own }

pub keeps_own_pins : {A : Type 0} → (at : ℕ) (w : World) (e : Event A) (answer : Reply) → refusal w e ≡ None
    → Answers w e answer → OwnPins at w → OwnPins (at + 1) (changed at w e answer)
keeps_own_pins at w e answer none answers p =
    record { pins = keeps_pins at w e answer none answers p.pins; own = keeps_own_memory at w e answer p.pins p.own }
