-- What an event that nothing refuses may answer. Where the server may choose (an id, a frame, whether a
-- device that owes a flush is still let through), each lawful choice is an answer.
use Rattle.std.specs.Prelude.{◌≡◌, ℕ, Bool, true, false, not, List, Option, Some, None, map, Contains, IsTrue}
use Rattle.iofd_words.specs.Areas.{is_waiting, pending_errno, touched_bytes, touched_tries}
use Rattle.iofd_words.specs.Attachments.{devices_of}
use Rattle.iofd_refusals.specs.Checks.{may_choose}
use Rattle.iofd_words.specs.Copies.{placed_as}
use Rattle.iofd_words.specs.Dirty.{reported_words}
use Rattle.iofd_words.specs.Files.{device_of}
use Rattle.iofd_words.specs.Frames.{is_free}
use Rattle.iofd_words.specs.Objects.{automatic_hwpt, binding_of, is_fresh, kind_of}
use Rattle.iofd_words.specs.Policy.{Outcome, Passes, Denied, outcomes, fault_of}
use Rattle.iofd_words.specs.Rights.{is_fixed}
use Rattle.iofd_words.specs.Settings.{DeviceSettings}
use Rattle.iofd_words.specs.View.{view}
use Rattle.iofd_words.specs.World.{World}
use Rattle.iofd_words.specs.declared.event.Event.{Event}
use Rattle.iofd_words.specs.declared.event.Event.TheVariants as event
use Rattle.iofd_words.specs.declared.event.MapRequest.{MapRequest}
use Rattle.iofd_words.specs.declared.event.UnmapRequest.{UnmapRequest}
use Rattle.iofd_words.specs.declared.fault.AccessKind.TheVariants.{Write}
use Rattle.iofd_words.specs.declared.numbers.DeviceNo.{DeviceNo}
use Rattle.iofd_words.specs.declared.numbers.FileNo.{FileNo}
use Rattle.iofd_words.specs.declared.numbers.FrameNo.{FrameNo}
use Rattle.iofd_words.specs.declared.numbers.Iova.{Iova}
use Rattle.iofd_words.specs.declared.numbers.ObjId.{ObjId}
use Rattle.iofd_words.specs.declared.reply.Reply.{Reply}
use Rattle.iofd_words.specs.declared.reply.Reply.TheVariants as reply
use Rattle.iofd_words.specs.declared.rows.Object.{Object}
use Rattle.iofd_words.specs.declared.rows.ObjectKind.{ObjectKind}
use Rattle.iofd_words.specs.declared.rows.ObjectKind.TheVariants as kind
use Rattle.iofd_words.specs.declared.width.Width.{Width}
use Rattle.iofd_words.specs.Pins.{has_pin_in}

-- the page table of an attachment: the automatic one of that width, or a new one with an unused id
abbrev pub IsHwptFor : World → FileNo → ObjId → Option Object → Type 0
IsHwptFor w file id (Some automatic) = id ≡ automatic.id
IsHwptFor w file id None = IsTrue (is_fresh w.objects file id)

-- the page table, by what the file has under the id that the attachment names: an address space, or the page table
-- itself
abbrev pub IsTarget : World → FileNo → ObjId → ObjId → Width → Option ObjectKind → Type 0
IsTarget w file pt_id id width (Some kind.Ioas) = IsHwptFor w file id (automatic_hwpt w.objects file pt_id width)
IsTarget w file pt_id id width (Some (kind.Hwpt ioas of automatic)) = id ≡ pt_id
IsTarget w file pt_id id width (Some (kind.Device bound)) = ⊥
IsTarget w file pt_id id width (Some (kind.Access attached)) = ⊥
IsTarget w file pt_id id width None = ⊥

-- the page table of a device that is bound, and so is one of the settings
abbrev pub IsHwptOf : World → ObjId → ObjId → Option Object → Option DeviceSettings → Type 0
IsHwptOf w pt_id id None settings = ⊥
IsHwptOf w pt_id id (Some bound) None = ⊥
IsHwptOf w pt_id id (Some bound) (Some settings) =
    IsTarget w bound.file pt_id id settings.width (kind_of w.objects bound.file pt_id)

-- how the outcome of a write is told
abbrev pub write_reply : World → DeviceNo → ℕ → Outcome → Reply
write_reply w device address (Passes frame) = reply.Passed frame
write_reply w device address (Denied reason) = reply.Fault (fault_of w.settings device address Write reason)

-- where a MAP's area lies: at the fixed address, or at one that may be chosen
abbrev pub IsMappedAt : World → FileNo → MapRequest → Bool → Iova → Type 0
IsMappedAt w file request true iova = iova ≡ request.iova
IsMappedAt w file request false iova = IsTrue (may_choose (view w) file request iova.0)

-- ---- answers by their kind

-- the answer is an id, a frame or an address that is lawful; each other kind is none
abbrev pub AnswersId : (ObjId → Type 0) → Reply → Type 0
AnswersId IsLawful (reply.Id id) = IsLawful id
AnswersId IsLawful answer = ⊥

abbrev pub AnswersFrame : (FrameNo → Type 0) → Reply → Type 0
AnswersFrame IsLawful (reply.Frame frame) = IsLawful frame
AnswersFrame IsLawful answer = ⊥

abbrev pub AnswersIova : (Iova → Type 0) → Reply → Type 0
AnswersIova IsLawful (reply.Iova iova) = IsLawful iova
AnswersIova IsLawful answer = ⊥

abbrev pub AnswersDone : Reply → Type 0
AnswersDone reply.Done = Unit {0}
AnswersDone answer = ⊥

-- the words of a report that clears
abbrev pub AnswersDirty : List ℕ → Reply → Type 0
AnswersDirty words (reply.Dirty told) = told ≡ words
AnswersDirty words answer = ⊥

-- an UNMAP waits for the devices that are attached, and for access pins
abbrev pub waits : World → FileNo → UnmapRequest → Bool
waits w file request =
    is_waiting w.areas (devices_of w.objects w.attachments file request.ioas) (has_pin_in w.objects w.access_pins) file
    request

-- an UNMAP waits as long as some device still has to flush or an access pin is in its way, and says after a hundred
-- tries that this leads nowhere; else it answers how many bytes it took away
abbrev pub UnmapAnswers : World → FileNo → UnmapRequest → Reply → Type 0
UnmapAnswers w file request (reply.Bytes count) =
    IsTrue (not (waits w file request))
    × (count ≡ touched_bytes w.areas file request)
UnmapAnswers w file request (reply.Pending errno) =
    IsTrue (waits w file request)
    × (errno ≡ pending_errno (touched_tries w.areas file request))
UnmapAnswers w file request answer = ⊥

-- ---- the answers of each event

unfoldable pub Answers : {A : Type 0} → World → Event A → Reply → Type 0
Answers w (event.IoasAlloc file) answer = AnswersId (λ id. IsTrue (is_fresh w.objects file id)) answer
Answers w (event.AllowIovas file ioas ranges) answer = AnswersDone answer
Answers w (event.Map file request) answer = AnswersIova (IsMappedAt w file request (is_fixed request.flags)) answer
Answers w (event.Copy file request) answer =
    AnswersIova (IsMappedAt w file (placed_as request) (is_fixed request.flags)) answer
Answers w (event.Unmap file request) answer = UnmapAnswers w file request answer
Answers w (event.HwptAlloc file request) answer = AnswersId (λ id. IsTrue (is_fresh w.objects file id)) answer
Answers w (event.Destroy file id) answer = AnswersDone answer
Answers w (event.Close file) answer = AnswersDone answer
Answers w (event.UserMap user va) answer =
    AnswersFrame (λ frame. IsTrue (is_free w.settings.pool w.user_pages w.pins w.table_frames frame.0)) answer
Answers w (event.UserUnmap user va) answer = AnswersDone answer
Answers w (event.UserWrite user va bytes) answer = AnswersDone answer
Answers w (event.Bind file device) answer = AnswersId (λ id. IsTrue (is_fresh w.objects file id)) answer
Answers w (event.Unbind file id) answer = AnswersDone answer
Answers w (event.Attach device pt_id) answer =
    AnswersId (λ id. IsHwptOf w pt_id id (binding_of w.objects device) (device_of w.settings device)) answer
Answers w (event.Detach device) answer = AnswersDone answer
Answers w (event.Flush device) answer = AnswersDone answer
Answers w (event.DeviceWrite device iova bytes) answer =
    Contains (map (write_reply w device iova.0) (outcomes w device iova.0 Write)) answer
Answers w (event.AccessCreate file) answer = AnswersId (λ id. IsTrue (is_fresh w.objects file id)) answer
Answers w (event.AccessAttach file id ioas) answer = AnswersDone answer
Answers w (event.AccessDetach file id) answer = AnswersDone answer
Answers w (event.AccessPin file id request) answer = AnswersDone answer
Answers w (event.AccessUnpin file id request) answer = AnswersDone answer
Answers w (event.AccessWrite file id iova bytes) answer = AnswersDone answer
Answers w (event.DirtyEnable file hwpt on) answer = AnswersDone answer
Answers w (event.DirtyClear file request) answer = AnswersDirty (reported_words w.tracked file request) answer
