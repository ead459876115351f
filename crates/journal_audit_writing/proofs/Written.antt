-- Which records have a spelling, and that what is written of them is it.
use Rattle.std.proofs.Common.{◌≡◌, ℕ, ◌^◌, ◌<◌, Bool, true, List, [], ◌∷◌, length, Option, Some, None}
use Rattle.std.proofs.Common.{refl, sym, ap, subst, ◌∙◌, suc, false, arith}
use Rattle.std.specs.Prelude.{nat_lt, option_map}
use Rattle.std.proofs.lemmas.Bool.{lt-ltb}
use Rattle.std.specs.Int.{w8, w16, w32, w64}
use Rattle.iofd_words.specs.Bounds.{Bounds}
use Rattle.iofd_words.specs.Fault.{reason_number}
use Rattle.iofd_words.specs.Files.{device_of}
use Rattle.iofd_words.specs.Pages.{page_of}
use Rattle.iofd_words.specs.Record.{Record}
use Rattle.iofd_words.specs.Refusal.{errno_number, number_of}
use Rattle.iofd_words.specs.Settings.{DeviceSettings, Settings}
use Rattle.iofd_words.specs.declared.event.Event.{Event}
use Rattle.iofd_words.specs.declared.event.Event.TheVariants as event
use Rattle.iofd_words.specs.declared.fault.AccessKind.TheVariants.{Write}
use Rattle.iofd_words.specs.declared.fault.Fault.{Fault}
use Rattle.iofd_words.specs.declared.fault.FaultReason.{FaultReason}
use Rattle.iofd_words.specs.declared.fault.FaultReason.TheVariants.{NoContext, BeyondWidth, WriteDenied, ReadDenied}
use Rattle.iofd_words.specs.declared.numbers.FrameNo.{FrameNo}
use Rattle.iofd_words.specs.declared.refusal.Cause.{Cause}
use Rattle.iofd_words.specs.declared.refusal.Cause.TheVariants as cause
use Rattle.iofd_words.specs.declared.refusal.Errno.{Errno}
use Rattle.iofd_words.specs.declared.refusal.Errno.TheVariants.{EPERM, ENOENT, E2BIG, EAGAIN, ENOMEM, EFAULT, EBUSY}
use Rattle.iofd_words.specs.declared.refusal.Errno.TheVariants.{EEXIST, EINVAL, ENOTTY, ENOSPC, EDEADLOCK, EOVERFLOW}
use Rattle.iofd_words.specs.declared.refusal.Errno.TheVariants.{EMSGSIZE, EOPNOTSUPP, EADDRINUSE}
use Rattle.iofd_words.specs.declared.reply.Reply.{Reply}
use Rattle.iofd_words.specs.declared.reply.Reply.TheVariants as reply
use Rattle.journal_audit_bytes.specs.Format.{Row, SpellsTagged, TailFits, access, always, burst, entries}
use Rattle.journal_audit_bytes.specs.Format.{events_of, is_switch, kept, pin, plain, replies_of}
use Rattle.journal_audit_bytes.specs.Journal.{SpellsRecord}
use Rattle.journal_audit_bytes.specs.Reading.{copy_numbers, map_numbers, of_frames, pairs, tagged_event, tagged_reply}
use Rattle.journal_audit_bytes.specs.Reading.{purpose_number, switch_number}
use Rattle.journal_audit_bytes.specs.Replies.{cause_by, errno_by, fault_by, fault_of, reason_by, reply_of, told}
use Rattle.journal_audit_bytes.specs.declared.version.Version.TheVariants.{Two}
use Rattle.journal_audit_bytes.specs.declared.spelled.SpelledReply.{SpelledReply}
use Rattle.journal_audit_bytes.specs.declared.spelled.SpelledReply.TheVariants as spelled
use Rattle.journal_audit_bytes.proofs.Fields.{some_is}
use Rattle.journal_audit_writing.specs.Texts.{HasWords, IsOwnReply, IsSpelt, ListOfFits, NumbersFit, RecordFits}
use Rattle.journal_audit_writing.specs.Texts.{event_numbers}
use Rattle.journal_audit_writing.specs.Texts.{event_text, is_kept_event, numbers_text, record_text, reply_numbers}

-- ---- replies

errno_again : (errno : Errno) → errno_by (errno_number errno) ≡ Some errno
errno_again EPERM = refl
errno_again ENOENT = refl
errno_again E2BIG = refl
errno_again EAGAIN = refl
errno_again ENOMEM = refl
errno_again EFAULT = refl
errno_again EBUSY = refl
errno_again EEXIST = refl
errno_again EINVAL = refl
errno_again ENOTTY = refl
errno_again ENOSPC = refl
errno_again EDEADLOCK = refl
errno_again EOVERFLOW = refl
errno_again EMSGSIZE = refl
errno_again EOPNOTSUPP = refl
errno_again EADDRINUSE = refl

reason_again : (reason : FaultReason) → reason_by (reason_number reason) ≡ Some reason
reason_again NoContext = refl
reason_again BeyondWidth = refl
reason_again WriteDenied = refl
reason_again ReadDenied = refl

cause_again : (cause : Cause) → cause_by (number_of cause) ≡ Some cause
cause_again cause.Number = refl
cause_again cause.Short = refl
cause_again cause.Tail = refl
cause_again cause.Unsupported = refl
cause_again cause.Array = refl
cause_again cause.Frames = refl
cause_again cause.Account = refl
cause_again cause.Absent = refl
cause_again cause.Overlap = refl
cause_again cause.Span = refl
cause_again cause.Id = refl
cause_again cause.InUse = refl
cause_again cause.Bound = refl
cause_again cause.Width = refl
cause_again cause.Narrow = refl
cause_again cause.Rights = refl
cause_again cause.Leaving = refl
cause_again cause.NotHeld = refl
cause_again cause.Sum = refl
cause_again cause.Align = refl
cause_again cause.NoRight = refl
cause_again cause.Reserved = refl
cause_again cause.Full = refl
cause_again cause.List = refl
cause_again cause.Places = refl
cause_again cause.Cross = refl
cause_again cause.InterruptRange = refl
cause_again cause.Unattached = refl
cause_again cause.Pending = refl
cause_again cause.Tracking = refl

count_pairs : (ranges : List Bounds) → length ranges ≡ length (pairs ranges)
count_pairs [] = refl
count_pairs (x ∷ xs) = ap (λ (n : ℕ). suc n) (count_pairs xs)

count_frames : (numbers : List FrameNo) → length numbers ≡ length (of_frames numbers)
count_frames [] = refl
count_frames (x ∷ xs) = ap (λ (n : ℕ). suc n) (count_frames xs)

is_purpose_number : (write : Bool) → nat_lt (purpose_number write) 2 ≡ true
is_purpose_number true = refl
is_purpose_number false = refl

is_switch_number : (on : Bool) → nat_lt (switch_number on) 2 ≡ true
is_switch_number true = refl
is_switch_number false = refl

words_spell : (words : List ℕ) → NumbersFit (reply_numbers (reply.Dirty words)) → length words ≡ 4
    → SpellsTagged (replies_of Two) (tagged_reply (spelled.Dirty words))
    (numbers_text (reply_numbers (reply.Dirty words)))
words_spell (a ∷ b ∷ c ∷ d ∷ []) fits four = record {
  row = plain 0x09 (w64 ∷ w64 ∷ w64 ∷ w64 ∷ []);
  known = refl;
  tag_fits = fits.0;
  numbers_fit = fits.1;
  list_fits = refl;
  allowed = refl;
  bytes_are = refl;
}
words_spell [] fits four = absurd cc
words_spell (a ∷ []) fits four = absurd cc
words_spell (a ∷ b ∷ []) fits four = absurd cc
words_spell (a ∷ b ∷ c ∷ []) fits four = absurd cc
words_spell (a ∷ b ∷ c ∷ d ∷ e ∷ more) fits four = absurd (omega (arith, four))

reply_spells : (r : Reply) → NumbersFit (reply_numbers r) → HasWords r
    → SpellsTagged (replies_of Two) (tagged_reply (told r)) (numbers_text (reply_numbers r))
reply_spells reply.Done fits four = record {
  row = plain 0x00 [];
  known = refl;
  tag_fits = fits.0;
  numbers_fit = fits.1;
  list_fits = refl;
  allowed = refl;
  bytes_are = refl;
}
reply_spells (reply.Id id) fits four = record {
  row = plain 0x01 (w32 ∷ []);
  known = refl;
  tag_fits = fits.0;
  numbers_fit = fits.1;
  list_fits = refl;
  allowed = refl;
  bytes_are = refl;
}
reply_spells (reply.Iova iova) fits four = record {
  row = plain 0x02 (w64 ∷ []);
  known = refl;
  tag_fits = fits.0;
  numbers_fit = fits.1;
  list_fits = refl;
  allowed = refl;
  bytes_are = refl;
}
reply_spells (reply.Bytes count) fits four = record {
  row = plain 0x03 (w64 ∷ []);
  known = refl;
  tag_fits = fits.0;
  numbers_fit = fits.1;
  list_fits = refl;
  allowed = refl;
  bytes_are = refl;
}
reply_spells (reply.Pending errno) fits four = record {
  row = plain 0x04 (w8 ∷ []);
  known = refl;
  tag_fits = fits.0;
  numbers_fit = fits.1;
  list_fits = refl;
  allowed = refl;
  bytes_are = refl;
}
reply_spells (reply.Frame frame) fits four = record {
  row = plain 0x05 (w32 ∷ []);
  known = refl;
  tag_fits = fits.0;
  numbers_fit = fits.1;
  list_fits = refl;
  allowed = refl;
  bytes_are = refl;
}
reply_spells (reply.Passed frame) fits four = record {
  row = plain 0x06 (w32 ∷ []);
  known = refl;
  tag_fits = fits.0;
  numbers_fit = fits.1;
  list_fits = refl;
  allowed = refl;
  bytes_are = refl;
}
reply_spells (reply.Fault fault) fits four = record {
  row = plain 0x07 (w8 ∷ []);
  known = refl;
  tag_fits = fits.0;
  numbers_fit = fits.1;
  list_fits = refl;
  allowed = refl;
  bytes_are = refl;
}
reply_spells (reply.Refused refusal) fits four = record {
  row = plain 0x08 (w8 ∷ []);
  known = refl;
  tag_fits = fits.0;
  numbers_fit = fits.1;
  list_fits = refl;
  allowed = refl;
  bytes_are = refl;
}
reply_spells (reply.Dirty words) fits four = words_spell words fits four

module _ {A : Type 0} where
  told_gives : (s : Settings) (e : Event A) (r : Reply) → IsOwnReply s e r → reply_of s e (told r) ≡ Some r
  told_gives s e reply.Done own = refl
  told_gives s e (reply.Id id) own = refl
  told_gives s e (reply.Iova iova) own = refl
  told_gives s e (reply.Bytes count) own = refl
  told_gives s e (reply.Pending errno) own =
      ap (λ (o : Option Errno). option_map (λ e. reply.Pending e) o) (errno_again errno)
  told_gives s e (reply.Frame frame) own = refl
  told_gives s e (reply.Passed frame) own = refl
  told_gives s e (reply.Fault fault) own =
      ap (λ (o : Option FaultReason). option_map (λ f. reply.Fault f)
      (elim o [ None ↦ None | Some reason ↦ fault_of s e reason ])) (reason_again fault.reason)
      ∙ ap (λ (o : Option Fault). option_map (λ f. reply.Fault f) o) own
  told_gives s e (reply.Dirty words) own = refl
  told_gives s e (reply.Refused refusal) own =
      ap (λ (o : Option Cause). option_map (λ c. reply.Refused (record { cause = c })) o) (cause_again refusal.cause)

  fault_reason : (s : Settings) (e : Event A) (reason : FaultReason) (f : Fault) → fault_of s e reason ≡ Some f
      → f.reason ≡ reason
  fault_reason s (event.DeviceWrite device iova bytes) reason f is = by_device (device_of s device) is
    where
      by_device : (d : Option DeviceSettings)
          → option_map (λ d. (let one : Fault = record {
            page = page_of iova.0;
            source = d.source;
            kind = Write;
            reason = reason;
          } in one)) d ≡ Some f → f.reason ≡ reason
      by_device None is = absurd cc
      by_device (Some d) is = sym (ap (λ (x : Fault). x.reason) (some_is (record {
        page = page_of iova.0;
        source = d.source;
        kind = Write;
        reason = reason;
      }) f is))
  fault_reason s e reason f is = absurd cc

  fault_own : (s : Settings) (e : Event A) (number : ℕ) (f : Fault)
      → option_map (λ x. reply.Fault x) (fault_by s e number) ≡ Some (reply.Fault f)
      → fault_of s e f.reason ≡ Some f
  fault_own s e number f is =
      by_reason (reason_by number) is
    where
      by_fault : (reason : FaultReason) (o : Option Fault) → fault_of s e reason ≡ o
          → option_map (λ x. reply.Fault x) o ≡ Some (reply.Fault f) → fault_of s e f.reason ≡ Some f
      by_fault reason None was is = absurd cc
      by_fault reason (Some x) was is =
          let same : x ≡ f = cc in
          let given : fault_of s e reason ≡ Some f = was ∙ ap (λ (y : Fault). Some y) same in
          subst (λ (r : FaultReason). fault_of s e r ≡ Some f) (sym (fault_reason s e reason f given)) given

      by_reason : (o : Option FaultReason)
          → option_map (λ x. reply.Fault x) (elim o [ None ↦ None | Some reason ↦ fault_of s e reason ])
          ≡ Some (reply.Fault f) → fault_of s e f.reason ≡ Some f
      by_reason None is = absurd cc
      by_reason (Some reason) is = by_fault reason (fault_of s e reason) refl is

  own_fault : (s : Settings) (e : Event A) (f : Fault) (told : SpelledReply)
      → reply_of s e told ≡ Some (reply.Fault f) → fault_of s e f.reason ≡ Some f
  own_fault s e f spelled.Done is = absurd cc
  own_fault s e f (spelled.Id id) is = absurd cc
  own_fault s e f (spelled.Iova iova) is = absurd cc
  own_fault s e f (spelled.Bytes count) is = absurd cc
  own_fault s e f (spelled.Pending errno) is = by_errno (errno_by errno) is
    where
      by_errno : (o : Option Errno) → option_map (λ e. reply.Pending e) o ≡ Some (reply.Fault f)
          → fault_of s e f.reason ≡ Some f
      by_errno None is = absurd cc
      by_errno (Some x) is = absurd cc
  own_fault s e f (spelled.Frame frame) is = absurd cc
  own_fault s e f (spelled.Passed frame) is = absurd cc
  own_fault s e f (spelled.Fault number) is = fault_own s e number f is
  own_fault s e f (spelled.Dirty words) is = absurd cc
  own_fault s e f (spelled.Refused number) is = by_cause (cause_by number) is
    where
      by_cause : (o : Option Cause)
          → option_map (λ c. reply.Refused (record { cause = c })) o ≡ Some (reply.Fault f)
          → fault_of s e f.reason ≡ Some f
      by_cause None is = absurd cc
      by_cause (Some x) is = absurd cc

  is_own : (s : Settings) (e : Event A) (r : Reply) (told : SpelledReply) → reply_of s e told ≡ Some r
      → IsOwnReply s e r
  is_own s e (reply.Fault fault) told is = own_fault s e fault told is
  is_own s e r told is = tt

  -- ---- events

  event_spells : (e : Event A) → NumbersFit (event_numbers e) → ListOfFits e → is_kept_event e ≡ true
      → SpellsTagged (events_of Two) (tagged_event e) (event_text e)
  event_spells (event.Close file) fits list always_kept = record {
    row = plain 0x01 (w16 ∷ []);
    known = refl;
    tag_fits = fits.0;
    numbers_fit = fits.1;
    list_fits = list;
    allowed = refl;
    bytes_are = refl;
  }
  event_spells (event.UserMap user va) fits list always_kept = record {
    row = plain 0x02 (w16 ∷ w64 ∷ []);
    known = refl;
    tag_fits = fits.0;
    numbers_fit = fits.1;
    list_fits = list;
    allowed = refl;
    bytes_are = refl;
  }
  event_spells (event.UserUnmap user va) fits list always_kept = record {
    row = plain 0x03 (w16 ∷ w64 ∷ []);
    known = refl;
    tag_fits = fits.0;
    numbers_fit = fits.1;
    list_fits = list;
    allowed = refl;
    bytes_are = refl;
  }
  event_spells (event.UserWrite user va bytes) fits list always_kept = record {
    row = access 0x04;
    known = refl;
    tag_fits = fits.0;
    numbers_fit = fits.1;
    list_fits = list;
    allowed = refl;
    bytes_are = refl;
  }
  event_spells (event.Bind file device) fits list always_kept = record {
    row = plain 0x05 (w16 ∷ w16 ∷ []);
    known = refl;
    tag_fits = fits.0;
    numbers_fit = fits.1;
    list_fits = list;
    allowed = refl;
    bytes_are = refl;
  }
  event_spells (event.Unbind file id) fits list always_kept = record {
    row = plain 0x06 (w16 ∷ w32 ∷ []);
    known = refl;
    tag_fits = fits.0;
    numbers_fit = fits.1;
    list_fits = list;
    allowed = refl;
    bytes_are = refl;
  }
  event_spells (event.Attach device pt_id) fits list always_kept = record {
    row = plain 0x07 (w16 ∷ w32 ∷ []);
    known = refl;
    tag_fits = fits.0;
    numbers_fit = fits.1;
    list_fits = list;
    allowed = refl;
    bytes_are = refl;
  }
  event_spells (event.Detach device) fits list always_kept = record {
    row = plain 0x08 (w16 ∷ []);
    known = refl;
    tag_fits = fits.0;
    numbers_fit = fits.1;
    list_fits = list;
    allowed = refl;
    bytes_are = refl;
  }
  event_spells (event.Flush device) fits list always_kept = record {
    row = plain 0x09 (w16 ∷ []);
    known = refl;
    tag_fits = fits.0;
    numbers_fit = fits.1;
    list_fits = list;
    allowed = refl;
    bytes_are = refl;
  }
  event_spells (event.DeviceWrite device iova bytes) fits list always_kept = record {
    row = access 0x0a;
    known = refl;
    tag_fits = fits.0;
    numbers_fit = fits.1;
    list_fits = list;
    allowed = refl;
    bytes_are = refl;
  }
  event_spells (event.AccessCreate file) fits list always_kept = record {
    row = plain 0x0b (w16 ∷ []);
    known = refl;
    tag_fits = fits.0;
    numbers_fit = fits.1;
    list_fits = list;
    allowed = refl;
    bytes_are = refl;
  }
  event_spells (event.AccessAttach file id ioas) fits list always_kept = record {
    row = plain 0x0c (w16 ∷ w32 ∷ w32 ∷ []);
    known = refl;
    tag_fits = fits.0;
    numbers_fit = fits.1;
    list_fits = list;
    allowed = refl;
    bytes_are = refl;
  }
  event_spells (event.AccessDetach file id) fits list always_kept = record {
    row = plain 0x0d (w16 ∷ w32 ∷ []);
    known = refl;
    tag_fits = fits.0;
    numbers_fit = fits.1;
    list_fits = list;
    allowed = refl;
    bytes_are = refl;
  }
  event_spells (event.AccessPin file id request) fits list always_kept = record {
    row = pin 0x0e;
    known = refl;
    tag_fits = fits.0;
    numbers_fit = fits.1;
    list_fits = list;
    allowed = is_purpose_number request.write;
    bytes_are = refl;
  }
  event_spells (event.AccessUnpin file id request) fits list always_kept = record {
    row = pin 0x0f;
    known = refl;
    tag_fits = fits.0;
    numbers_fit = fits.1;
    list_fits = list;
    allowed = is_purpose_number request.write;
    bytes_are = refl;
  }
  event_spells (event.AccessWrite file id iova bytes) fits list always_kept = record {
    row = record { tag = 0x10; numbers = w16 ∷ w32 ∷ w64 ∷ []; list = Some burst; allows = always };
    known = refl;
    tag_fits = fits.0;
    numbers_fit = fits.1;
    list_fits = list;
    allowed = refl;
    bytes_are = refl;
  }
  event_spells (event.Destroy file id) fits list always_kept = record {
    row = plain 0x80 (w16 ∷ w32 ∷ []);
    known = refl;
    tag_fits = fits.0;
    numbers_fit = fits.1;
    list_fits = list;
    allowed = refl;
    bytes_are = refl;
  }
  event_spells (event.IoasAlloc file) fits list always_kept = record {
    row = plain 0x81 (w16 ∷ []);
    known = refl;
    tag_fits = fits.0;
    numbers_fit = fits.1;
    list_fits = list;
    allowed = refl;
    bytes_are = refl;
  }
  event_spells (event.AllowIovas file ioas ranges) fits list always_kept = record {
    row = record { tag = 0x82; numbers = w16 ∷ w32 ∷ []; list = Some entries; allows = always };
    known = refl;
    tag_fits = fits.0;
    numbers_fit = fits.1;
    list_fits = list;
    allowed = refl;
    bytes_are = refl;
  }
  event_spells (event.Copy file request) fits list allowed = record {
    row = kept 0x83 (w16 ∷ w32 ∷ w32 ∷ w32 ∷ w64 ∷ w64 ∷ w64 ∷ []);
    known = refl;
    tag_fits = fits.0;
    numbers_fit = fits.1;
    list_fits = list;
    allowed = allowed;
    bytes_are = refl;
  }
  event_spells (event.Map file request) fits list allowed = record {
    row = kept 0x85 (w16 ∷ w32 ∷ w32 ∷ w64 ∷ w64 ∷ w64 ∷ []);
    known = refl;
    tag_fits = fits.0;
    numbers_fit = fits.1;
    list_fits = list;
    allowed = allowed;
    bytes_are = refl;
  }
  event_spells (event.Unmap file request) fits list always_kept = record {
    row = plain 0x86 (w16 ∷ w32 ∷ w64 ∷ w64 ∷ []);
    known = refl;
    tag_fits = fits.0;
    numbers_fit = fits.1;
    list_fits = list;
    allowed = refl;
    bytes_are = refl;
  }
  event_spells (event.HwptAlloc file request) fits list always_kept = record {
    row = plain 0x89 (w16 ∷ w32 ∷ w32 ∷ []);
    known = refl;
    tag_fits = fits.0;
    numbers_fit = fits.1;
    list_fits = list;
    allowed = refl;
    bytes_are = refl;
  }
  event_spells (event.DirtyEnable file hwpt on) fits list always_kept = record {
    row = record { tag = 0xf0; numbers = w16 ∷ w32 ∷ w8 ∷ []; list = None; allows = is_switch };
    known = refl;
    tag_fits = fits.0;
    numbers_fit = fits.1;
    list_fits = list;
    allowed = is_switch_number on;
    bytes_are = refl;
  }
  event_spells (event.DirtyClear file request) fits list always_kept = record {
    row = plain 0xf1 (w16 ∷ w32 ∷ w64 ∷ w64 ∷ []);
    known = refl;
    tag_fits = fits.0;
    numbers_fit = fits.1;
    list_fits = list;
    allowed = refl;
    bytes_are = refl;
  }

  -- the flags of a record that is spelled are known, and its ranges can be counted
  event_kept : (e : Event A) (text : List ℕ) → SpellsTagged (events_of Two) (tagged_event e) text
      → is_kept_event e ≡ true
  event_kept (event.Map file m) text t =
      let same : kept 0x85 (w16 ∷ w32 ∷ w32 ∷ w64 ∷ w64 ∷ w64 ∷ []) ≡ t.row = some_is _ t.row t.known in
      subst (λ (row : Row). row.allows (map_numbers file.0 m) ≡ true) (sym same) t.allowed
  event_kept (event.Copy file c) text t =
      let same : kept 0x83 (w16 ∷ w32 ∷ w32 ∷ w32 ∷ w64 ∷ w64 ∷ w64 ∷ []) ≡ t.row = some_is _ t.row t.known in
      subst (λ (row : Row). row.allows (copy_numbers file.0 c) ≡ true) (sym same) t.allowed
  event_kept (event.AllowIovas file ioas ranges) text t =
      let row : Row = record { tag = 0x82; numbers = w16 ∷ w32 ∷ []; list = Some entries; allows = always } in
      let same : row ≡ t.row = some_is row t.row t.known in
      let fits : TailFits (Some entries) (pairs ranges) =
      subst (λ (row : Row). TailFits row.list (pairs ranges)) (sym same) t.list_fits in
      lt-ltb (length ranges) (2 ^ 32) (subst (λ (n : ℕ). n < 2 ^ 32) (sym (count_pairs ranges)) fits.0)
  event_kept e text t = refl

  -- ---- records

  -- what is written of such a record is its spelling
  pub record_spells : (s : Settings) (r : Record A) → IsSpelt s r → RecordFits r → SpellsRecord Two s r (record_text r)
  record_spells s r spelt fits = record {
    reply = told r.reply;
    gives = told_gives s r.event r.reply spelt.reply;
    spells = record {
      pass = spelt.pass;
      pass_fits = fits.pass;
      event = event_text r.event;
      event_is = event_spells r.event fits.event fits.list spelt.event;
      reply = numbers_text (reply_numbers r.reply);
      reply_is = reply_spells r.reply fits.reply fits.words;
      taken_fit = fits.taken;
      given_fit = fits.given;
      bytes_are = refl;
    };
  }

  -- a record that some bytes spell is such a one
  pub is_spelt : (s : Settings) (r : Record A) (bytes : List ℕ) → SpellsRecord Two s r bytes → IsSpelt s r
  is_spelt s r bytes sp = record {
    pass = sp.spells.pass;
    event = event_kept r.event sp.spells.event sp.spells.event_is;
    reply = is_own s r.event r.reply sp.reply sp.gives;
    taken = subst (λ (n : ℕ). n < 2 ^ 16) (sym (count_frames r.taken)) sp.spells.taken_fit.0;
    given = subst (λ (n : ℕ). n < 2 ^ 16) (sym (count_frames r.given)) sp.spells.given_fit.0;
  }
