-- The answers to questions, which change nothing.
use Rattle.std.specs.Prelude.{ℕ, ◌≡◌, ◌^◌, Bool, ◌&&◌, not, nat_lt, Option, Some, None, is_none, List, []}
use Rattle.std.specs.Prelude.{◌∷◌, if◌then◌else◌, map}
use Rattle.std.specs.List.{list_any}
use Rattle.std.specs.Option.{option_map}
use Rattle.iofd_words.specs.Attachments.{attachment_of}
use Rattle.iofd_words.specs.Bounds.{Bounds}
use Rattle.iofd_words.specs.Accesses.{accessed_frame}
use Rattle.iofd_refusals.specs.Checks.{access_checks, dirty_checks, held_access_checks, unusable_in, user_access_checks}
use Rattle.iofd_words.specs.Dirty.{reported_words}
use Rattle.iofd_words.specs.FirstTrue.{first_true}
use Rattle.iofd_words.specs.Frames.{bytes_at, frame_at, free_count}
use Rattle.iofd_words.specs.Files.{is_device, is_user}
use Rattle.iofd_words.specs.Objects.{has_access, has_ioas}
use Rattle.iofd_words.specs.Pages.{offset_of, page_of}
use Rattle.iofd_words.specs.Pins.{held_by, pinned_frame}
use Rattle.iofd_words.specs.Policy.{Outcome, Passes, Denied, outcomes, fault_of, is_pass_at}
use Rattle.iofd_words.specs.Ranges.{AreMerged, in_spans}
use Rattle.iofd_steps.specs.Run.{world_of}
use Rattle.iofd_words.specs.Record.{Record}
use Rattle.iofd_words.specs.Settings.{Settings}
use Rattle.iofd_words.specs.Turns.{turns_of}
use Rattle.iofd_words.specs.View.{View, view}
use Rattle.iofd_words.specs.Walk.{translation}
use Rattle.iofd_words.specs.World.{World}
use Rattle.iofd_words.specs.declared.fault.AccessKind.{AccessKind}
use Rattle.iofd_words.specs.declared.fault.AccessKind.TheVariants.{Read}
use Rattle.iofd_words.specs.declared.numbers.DeviceNo.{DeviceNo}
use Rattle.iofd_words.specs.declared.numbers.FileNo.{FileNo}
use Rattle.iofd_words.specs.declared.numbers.FrameNo.{FrameNo}
use Rattle.iofd_words.specs.declared.numbers.Iova.{Iova}
use Rattle.iofd_words.specs.declared.numbers.ObjId.{ObjId}
use Rattle.iofd_words.specs.declared.query.Answer.{Answer}
use Rattle.iofd_words.specs.declared.query.Answer.TheVariants as answer
use Rattle.iofd_words.specs.declared.query.Query.{Query}
use Rattle.iofd_words.specs.declared.query.Query.TheVariants.{AccessRead, AttachedTo, CachedRead, DeviceRead, Dirty}
use Rattle.iofd_words.specs.declared.query.Query.TheVariants.{FreeFrames, Held, Turns, UserRead, WalkFor}
use Rattle.iofd_words.specs.declared.refusal.Cause.{Cause}
use Rattle.iofd_words.specs.declared.refusal.Cause.TheVariants as cause

-- the refusals of a question, in their order
abbrev pub query_checks : View → Query → List (Cause × Bool)
query_checks v (DeviceRead device iova len) = access_checks v device iova len
query_checks v (UserRead user va len) = user_access_checks v user va len
query_checks v (AccessRead file access iova len) = held_access_checks v file access iova len Read
query_checks v FreeFrames = []
query_checks v (Held user) = (cause.Id, not (is_user v.settings user)) ∷ []
query_checks v (AttachedTo device) = (cause.Id, not (is_device v.settings device)) ∷ []
query_checks v (Turns device) = (cause.Id, not (is_device v.settings device)) ∷ []
query_checks v (WalkFor device iova) = (cause.Id, not (is_device v.settings device)) ∷ []
query_checks v (CachedRead device iova len frame) = access_checks v device iova len
query_checks v (Dirty file request) = dirty_checks v file request

-- those of the question for an address space's usable ranges
abbrev pub ranges_checks : View → FileNo → ObjId → List (Cause × Bool)
ranges_checks v file ioas =
    (cause.Id, not (v.is_open file))
    ∷ (cause.Id, not (has_ioas v.objects file ioas))
    ∷ []

-- those of the question for an access object's notices
abbrev pub notices_checks : View → FileNo → ObjId → List (Cause × Bool)
notices_checks v file access =
    (cause.Id, not (v.is_open file))
    ∷ (cause.Id, not (has_access v.objects file access))
    ∷ []

-- the usable ranges of an address space: by rising start, no two of them overlap or adjoin, and they hold just the
-- addresses that can be used
pub record AreUsableRanges (v : View) (file : FileNo) (ioas : ObjId) (ranges : List Bounds) : Type 0 where
  pub merged : AreMerged ranges
  pub set : (n : ℕ) → in_spans ranges n ≡ (nat_lt n (2 ^ 64) && not (in_spans (unusable_in v file ioas) n))

-- how the outcome of a read is told: the bytes of the frame where it passes
abbrev pub read_answer : World → DeviceNo → ℕ → ℕ → Outcome → Answer
read_answer w device address len (Passes frame) = answer.Read (bytes_at w.writes frame.0 (offset_of address) len)
read_answer w device address len (Denied reason) = answer.Fault (fault_of w.settings device address Read reason)

-- the bytes that a page has in its frame, from the address on
abbrev pub page_bytes : World → ℕ → ℕ → Option FrameNo → List Answer
page_bytes w address len None = []
page_bytes w address len (Some frame) = answer.Read (bytes_at w.writes frame.0 (offset_of address) len) ∷ []

-- what a device reads at a frame that was kept for it: its bytes, where the policy lets the read pass there
abbrev pub cached_answers : World → DeviceNo → Iova → ℕ → FrameNo → List Answer
cached_answers w device iova len frame =
    if list_any (is_pass_at frame) (outcomes w device iova.0 Read)
    then answer.Read (bytes_at w.writes frame.0 (offset_of iova.0) len) ∷ []
    else []

-- the lawful answers to a question that nothing refuses, by the world and the records that led to it
abbrev pub lawful_answers : {A : Type 0} → World → List (Record A) → Query → List Answer
lawful_answers w records (DeviceRead device iova len) =
    map (read_answer w device iova.0 len) (outcomes w device iova.0 Read)
lawful_answers w records (UserRead user va len) = page_bytes w va len (frame_at w.user_pages user (page_of va))
lawful_answers w records (AccessRead file access iova len) =
    page_bytes w iova.0 len (accessed_frame (view w) file access iova.0)
lawful_answers w records FreeFrames =
    answer.Count (free_count w.settings.pool w.user_pages w.pins w.table_frames) ∷ []
lawful_answers w records (Held user) = answer.Count (held_by (pinned_frame w.pins) w.memory user) ∷ []
lawful_answers w records (AttachedTo device) =
    answer.Attached (option_map (λ a. a.hwpt) (attachment_of w.attachments device)) ∷ []
lawful_answers w records (Turns device) = answer.Count (turns_of device records) ∷ []
lawful_answers w records (WalkFor device iova) = answer.Walk (translation (view w) device iova.0) ∷ []
lawful_answers w records (CachedRead device iova len frame) = cached_answers w device iova len frame
lawful_answers w records (Dirty file request) = answer.Dirty (reported_words w.tracked file request) ∷ []

-- all lawful answers, in this world and after these records
unfoldable pub answers_in : {A : Type 0} → World → List (Record A) → Query → List Answer
answers_in w records query =
    elim (first_true (query_checks (view w) query)) [
      | Some cause ↦ answer.Refused (record { cause = cause }) ∷ []
      | None ↦ lawful_answers w records query
    ]

-- all lawful answers after a run
abbrev pub answers_to : {A : Type 0} → Settings → List (Record A) → Query → List Answer
answers_to settings records query = answers_in (world_of settings records) records query

-- nothing refuses the device's access to so many bytes from the address on, and the policy lets it pass at this frame
abbrev pub passes_in : World → DeviceNo → Iova → ℕ → AccessKind → FrameNo → Bool
passes_in w device iova len kind frame =
    is_none (first_true (access_checks (view w) device iova len))
    && list_any (is_pass_at frame) (outcomes w device iova.0 kind)
