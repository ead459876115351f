-- Which writes a step adds: a user's, an access object's, a device's, and none else; a frame that is given out loses
-- its own.
use Rattle.std.proofs.Common.{◌≡◌, ◌≢◌, ℕ, false, List, ap, ◌∙◌, refl, true}
use Rattle.iofd_steps.specs.After.{changed}
use Rattle.iofd_steps.specs.Answers.{Answers}
use Rattle.iofd_words.specs.Policy.{outcomes}
use Rattle.iofd_words.specs.World.{World}
use Rattle.iofd_words.specs.declared.event.Event.{Event}
use Rattle.iofd_words.specs.declared.event.Event.TheVariants as event
use Rattle.iofd_words.specs.declared.fault.AccessKind.TheVariants.{Write}
use Rattle.iofd_words.specs.declared.numbers.FrameNo.{FrameNo}
use Rattle.iofd_words.specs.declared.reply.Reply.{Reply}
use Rattle.iofd_words.specs.declared.reply.Reply.TheVariants as reply
use Rattle.iofd_words.specs.Frames.{FrameWrite}
use Rattle.iofd_runs.proofs.Moves.{FewerPages, MemoryMoves, OnePage, SameMemory, Written, Writes}
use Rattle.iofd_promises.proofs.Bytes.{reads_given, reads_not_given}
use Rattle.iofd_promises.specs.Bytes.{reads, changes_bytes}
use Rattle.iofd_laws.proofs.OwnFrames.{never_written}

-- a write that is carried out changes bytes
writes_change : {A : Type 0} → (e : Event A) (answer : Reply) → Writes e answer → changes_bytes e answer ≡ true
writes_change (event.UserWrite user va bytes) reply.Done written = refl
writes_change (event.DeviceWrite device iova bytes) (reply.Passed frame) written = refl
writes_change (event.AccessWrite file id iova bytes) reply.Done written = refl
writes_change e answer never = absurd never

-- an answer that gives out no frame, or another one
pub keeps_byte : {A : Type 0} (w new : World) (e : Event A) (answer : Reply) (frame place : ℕ)
    → MemoryMoves w e answer new → changes_bytes e answer ≡ false
    → ((given : FrameNo) → answer ≡ reply.Frame given → given.0 ≢ frame)
    → reads new.writes frame place ≡ reads w.writes frame place
keeps_byte w new e answer frame place (SameMemory pages is) none others =
    ap (λ (writes : List FrameWrite). reads writes frame place) is
keeps_byte w new e answer frame place (OnePage user va given passed free told pages is) none others =
    ap (λ (writes : List FrameWrite). reads writes frame place) is
    ∙ reads_not_given given.0 frame place w.writes (others given told)
keeps_byte w new e answer frame place (FewerPages stays pages is) none others =
    ap (λ (writes : List FrameWrite). reads writes frame place) is
keeps_byte w new e answer frame place (Written written pages) none others =
    let changes = writes_change e answer written in cc

-- what a user is given reads zero
pub gives_zero : {A : Type 0} → (at : ℕ) (w : World) (e : Event A) (frame : FrameNo) (place : ℕ)
    → Answers w e (reply.Frame frame) → reads (changed at w e (reply.Frame frame)).writes frame.0 place ≡ 0
unfolding changed Answers
gives_zero at w (event.UserMap user va) frame place answers = reads_given frame.0 place w.writes
gives_zero at w (event.DeviceWrite device iova bytes) frame place answers =
    absurd (never_written w device iova.0 (outcomes w device iova.0 Write) frame answers)
gives_zero at w e frame place answers = absurd answers
