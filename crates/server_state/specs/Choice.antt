-- Which of the lawful answers is given: where a flush is owed the fault, to a user's new page and to each new table the
-- least free frame, to a MAP without a fixed address the least that may be chosen, and after an UNMAP each idle table
-- goes.
use Rattle.std.specs.Prelude.{◌≡◌, ℕ, ◌≤◌, Bool, true, false, not, ◌||◌, Option, Some, None, List, []}
use Rattle.std.specs.Prelude.{◌∷◌, filter}
use Rattle.std.specs.Prelude.{find, length, map, take, Contains}
use Rattle.std.specs.List.{list_all, list_any, range_with_len}
use Rattle.std.specs.Option.{option_map}
use Rattle.iofd_steps.specs.Answers.{write_reply}
use Rattle.iofd_refusals.specs.Checks.{may_choose}
use Rattle.iofd_words.specs.Frames.{is_free}
use Rattle.iofd_words.specs.Policy.{Outcome, Passes, Denied, outcomes}
use Rattle.iofd_words.specs.Copies.{placed_as}
use Rattle.iofd_words.specs.Rights.{is_fixed}
use Rattle.iofd_words.specs.Tables.{is_among, is_idle, may_go}
use Rattle.iofd_words.specs.View.{view}
use Rattle.iofd_words.specs.World.{World}
use Rattle.iofd_words.specs.declared.event.MapRequest.{MapRequest}
use Rattle.iofd_words.specs.declared.numbers.FileNo.{FileNo}
use Rattle.iofd_words.specs.declared.numbers.ObjId.{ObjId}
use Rattle.iofd_words.specs.declared.event.Event.{Event}
use Rattle.iofd_words.specs.declared.event.Event.TheVariants as event
use Rattle.iofd_words.specs.declared.fault.AccessKind.TheVariants.{Write}
use Rattle.iofd_words.specs.declared.numbers.FrameNo.{FrameNo}
use Rattle.iofd_words.specs.declared.query.Answer.{Answer}
use Rattle.iofd_words.specs.declared.query.Answer.TheVariants as answer
use Rattle.iofd_words.specs.declared.reply.Reply.{Reply}
use Rattle.iofd_words.specs.declared.reply.Reply.TheVariants as reply
use Rattle.server_state.specs.Pages.{free_frame}

-- of what may come of an access, what comes of it without a cached frame: the denial where one is lawful, else the pass
abbrev pub is_denial : Outcome → Bool
is_denial (Passes frame) = false
is_denial (Denied reason) = true

abbrev pub first_of : {X : Type 0} → List X → Option X
first_of [] = None
first_of (x ∷ xs) = Some x

abbrev pub without_cache : List Outcome → Option Outcome
without_cache outcomes = elim (find is_denial outcomes) [ Some denial ↦ Some denial | None ↦ first_of outcomes ]

-- the same of the answers to a question
abbrev pub is_fault : Answer → Bool
is_fault (answer.Read bytes) = false
is_fault (answer.Count count) = false
is_fault (answer.Attached hwpt) = false
is_fault (answer.Walk translation) = false
is_fault (answer.Dirty words) = false
is_fault (answer.Fault fault) = true
is_fault (answer.Refused refusal) = false

-- the answer that is given to a question: one of the lawful ones, the fault where it is among them
pub record IsLooked (lawful : List Answer) (given : Answer) : Type 0 where
  pub is_lawful : Contains lawful given
  pub is_fault_else : list_any is_fault lawful ≡ true → is_fault given ≡ true

-- the cached frame is one at which the policy lets the write pass now; only a device's write may have one
abbrev pub MayUse : {A : Type 0} → World → Event A → Option FrameNo → Type 0
MayUse w e None = Unit {0}
MayUse w (event.DeviceWrite device iova bytes) (Some frame) = Contains (outcomes w device iova.0 Write) (Passes frame)
MayUse w e (Some frame) = ⊥

-- what a device's write is answered: it passes at the cached frame, if there is one
abbrev pub WriteChosen : Option Outcome → Option FrameNo → (Outcome → Reply) → Reply → Type 0
WriteChosen uncached None told answer = option_map told uncached ≡ Some answer
WriteChosen uncached (Some frame) told answer = answer ≡ told (Passes frame)

-- of the addresses that may be chosen for a MAP the least is; a fixed one is no choice
abbrev pub IsLeastMapped : World → FileNo → MapRequest → Bool → Reply → Type 0
IsLeastMapped w file request true answer = Unit {0}
IsLeastMapped w file request false (reply.Iova iova) =
    (x : ℕ) → may_choose (view w) file request x ≡ true → iova.0 ≤ x
IsLeastMapped w file request false answer = ⊥

-- a user's new page gets the least frame that nobody reaches; which id an object gets is the server's
abbrev pub IsChosen : {A : Type 0} → World → Event A → Option FrameNo → Reply → Type 0
IsChosen w (event.IoasAlloc file) via answer = Unit {0}
IsChosen w (event.AllowIovas file ioas ranges) via answer = Unit {0}
IsChosen w (event.Map file request) via answer = IsLeastMapped w file request (is_fixed request.flags) answer
IsChosen w (event.Copy file request) via answer =
    IsLeastMapped w file (placed_as request) (is_fixed request.flags) answer
IsChosen w (event.Unmap file request) via answer = Unit {0}
IsChosen w (event.HwptAlloc file request) via answer = Unit {0}
IsChosen w (event.Destroy file id) via answer = Unit {0}
IsChosen w (event.Close file) via answer = Unit {0}
IsChosen w (event.UserMap user va) via answer =
    option_map reply.Frame (free_frame w.settings.pool w.user_pages w.pins w.table_frames) ≡ Some answer
IsChosen w (event.UserUnmap user va) via answer = Unit {0}
IsChosen w (event.UserWrite user va bytes) via answer = Unit {0}
IsChosen w (event.Bind file device) via answer = Unit {0}
IsChosen w (event.Unbind file id) via answer = Unit {0}
IsChosen w (event.Attach device pt_id) via answer = Unit {0}
IsChosen w (event.Detach device) via answer = Unit {0}
IsChosen w (event.Flush device) via answer = Unit {0}
IsChosen w (event.DeviceWrite device iova bytes) via answer =
    WriteChosen (without_cache (outcomes w device iova.0 Write)) via (write_reply w device iova.0) answer
IsChosen w (event.AccessCreate file) via answer = Unit {0}
IsChosen w (event.AccessAttach file id ioas) via answer = Unit {0}
IsChosen w (event.AccessDetach file id) via answer = Unit {0}
IsChosen w (event.AccessPin file id request) via answer = Unit {0}
IsChosen w (event.AccessUnpin file id request) via answer = Unit {0}
IsChosen w (event.AccessWrite file id iova bytes) via answer = Unit {0}
IsChosen w (event.DirtyEnable file hwpt on) via answer = Unit {0}
IsChosen w (event.DirtyClear file request) via answer = Unit {0}

-- ---- frames of tables

-- so many of the frames that nobody reaches, from the least on
abbrev pub least_free : World → ℕ → List FrameNo
least_free w count =
    map (λ frame. record { 0 = frame })
    (take count (filter (is_free w.settings.pool w.user_pages w.pins w.table_frames)
    (range_with_len 0 w.settings.pool)))

-- new tables get the least free frames in turn, and each table that may go does: after an UNMAP that answers bytes all
-- that are idle then. No others go but those of page tables that are gone, and after a pending UNMAP none
-- (`Tables.MovesTables`)
pub record AreFramesChosen {A : Type 0} (w left : World) (e : Event A) (answer : Reply)
    (new old : List FrameNo) : Type 0 where
  pub taken : new ≡ least_free w (length new)
  pub given : list_all (λ table. not (may_go left e answer table) || is_among old table.frame) w.table_frames ≡ true

-- while that is chosen no table is idle: below each root an area of the address space goes through each table
abbrev pub NoneIdle : World → Type 0
NoneIdle w =
    (file : FileNo) (ioas : ObjId) → list_any (is_idle w.objects w.areas file ioas) w.table_frames ≡ false
