-- A record is known by its tags and fields, and by its bytes.
use Rattle.std.proofs.Common.{◌≡◌, ℕ, Bool, true, false, Some, List, [], ◌∷◌, ◌++◌, map, refl, sym, ap}
use Rattle.std.proofs.Common.{◌∙◌, subst, cond, eqb}
use Rattle.std.specs.List.{slice_index}
use Rattle.iofd_words.specs.Bounds.{Bounds}
use Rattle.iofd_words.specs.Record.{Record}
use Rattle.iofd_words.specs.Settings.{Settings}
use Rattle.iofd_words.specs.declared.event.Event.{Event}
use Rattle.iofd_words.specs.declared.event.Event.TheVariants as event
use Rattle.iofd_words.specs.declared.event.PinRequest.{PinRequest}
use Rattle.iofd_words.specs.declared.numbers.FrameNo.{FrameNo}
use Rattle.journal_audit_bytes.specs.Format.{Raw, Spells, Tagged}
use Rattle.journal_audit_bytes.specs.Journal.{SpellsRecord, raw_record}
use Rattle.journal_audit_bytes.specs.Reading.{of_frames, pairs, purpose_number, record_at, singles, switch_number}
use Rattle.journal_audit_bytes.specs.Reading.{tagged_event, tagged_reply}
use Rattle.journal_audit_bytes.specs.Replies.{reply_of}
use Rattle.journal_audit_bytes.specs.declared.spelled.SpelledReply.{SpelledReply}
use Rattle.journal_audit_bytes.specs.declared.spelled.SpelledReply.TheVariants as spelled
use Rattle.journal_audit_bytes.specs.declared.version.Version.{Version}
use Rattle.journal_audit_bytes.proofs.Fields.{some_is}
use Rattle.journal_audit_bytes.proofs.Records.{record_again}

-- ---- lists

abbrev first_of : List ℕ → ℕ
first_of numbers = slice_index numbers 0

singles_again : (bytes : List ℕ) → map first_of (singles bytes) ≡ bytes
singles_again [] = refl
singles_again (byte ∷ bytes) = ap (λ (rest : List ℕ). byte ∷ rest) (singles_again bytes)

abbrev pair_of : List ℕ → Bounds
pair_of numbers = record { first = slice_index numbers 0; last = slice_index numbers 1 }

pairs_again : (ranges : List Bounds) → map pair_of (pairs ranges) ≡ ranges
pairs_again [] = refl
pairs_again (range ∷ ranges) = ap (λ (rest : List Bounds). range ∷ rest) (pairs_again ranges)

abbrev frame_of : List ℕ → FrameNo
frame_of numbers = record { 0 = slice_index numbers 0 }

frames_again : (frames : List FrameNo) → map frame_of (of_frames frames) ≡ frames
frames_again [] = refl
frames_again (frame ∷ frames) = ap (λ (rest : List FrameNo). frame ∷ rest) (frames_again frames)

-- ---- events

abbrev at : Tagged → ℕ → ℕ
at t place = slice_index t.numbers place

abbrev bytes_of : Tagged → List ℕ
bytes_of t = map first_of t.list

abbrev pin_of : Tagged → PinRequest
pin_of t = record { iova = record { 0 = at t 2 }; length = at t 3; write = eqb (at t 4) 1 }

-- the event of a tag and its fields; any, where there is no such tag
abbrev pub event_of : {A : Type 0} → Tagged → Event A
event_of t =
    cond (eqb t.tag 0x01) (event.Close (record { 0 = at t 0 }))
    (cond (eqb t.tag 0x02) (event.UserMap (record { 0 = at t 0 }) (at t 1))
    (cond (eqb t.tag 0x03) (event.UserUnmap (record { 0 = at t 0 }) (at t 1))
    (cond (eqb t.tag 0x04) (event.UserWrite (record { 0 = at t 0 }) (at t 1) (bytes_of t))
    (cond (eqb t.tag 0x05) (event.Bind (record { 0 = at t 0 }) (record { 0 = at t 1 }))
    (cond (eqb t.tag 0x06) (event.Unbind (record { 0 = at t 0 }) (record { 0 = at t 1 }))
    (cond (eqb t.tag 0x07) (event.Attach (record { 0 = at t 0 }) (record { 0 = at t 1 }))
    (cond (eqb t.tag 0x08) (event.Detach (record { 0 = at t 0 }))
    (cond (eqb t.tag 0x09) (event.Flush (record { 0 = at t 0 }))
    (cond (eqb t.tag 0x0a) (event.DeviceWrite (record { 0 = at t 0 }) (record { 0 = at t 1 }) (bytes_of t))
    (cond (eqb t.tag 0x0b) (event.AccessCreate (record { 0 = at t 0 }))
    (cond (eqb t.tag 0x0c)
    (event.AccessAttach (record { 0 = at t 0 }) (record { 0 = at t 1 }) (record { 0 = at t 2 }))
    (cond (eqb t.tag 0x0d) (event.AccessDetach (record { 0 = at t 0 }) (record { 0 = at t 1 }))
    (cond (eqb t.tag 0x0e) (event.AccessPin (record { 0 = at t 0 }) (record { 0 = at t 1 }) (pin_of t))
    (cond (eqb t.tag 0x0f) (event.AccessUnpin (record { 0 = at t 0 }) (record { 0 = at t 1 }) (pin_of t))
    (cond (eqb t.tag 0x10)
    (event.AccessWrite (record { 0 = at t 0 }) (record { 0 = at t 1 }) (record { 0 = at t 2 }) (bytes_of t))
    (cond (eqb t.tag 0x80) (event.Destroy (record { 0 = at t 0 }) (record { 0 = at t 1 }))
    (cond (eqb t.tag 0x81) (event.IoasAlloc (record { 0 = at t 0 }))
    (cond (eqb t.tag 0x82)
    (event.AllowIovas (record { 0 = at t 0 }) (record { 0 = at t 1 }) (map pair_of t.list))
    (cond (eqb t.tag 0x83)
    (event.Copy (record { 0 = at t 0 }) (record {
      flags = record { 0 = at t 1 };
      dst_ioas = record { 0 = at t 2 };
      src_ioas = record { 0 = at t 3 };
      length = at t 4;
      dst_iova = record { 0 = at t 5 };
      src_iova = record { 0 = at t 6 };
    }))
    (cond (eqb t.tag 0x85)
    (event.Map (record { 0 = at t 0 }) (record {
      flags = record { 0 = at t 1 };
      ioas = record { 0 = at t 2 };
      user_va = at t 3;
      length = at t 4;
      iova = record { 0 = at t 5 };
    }))
    (cond (eqb t.tag 0x86)
    (event.Unmap (record { 0 = at t 0 }) (record {
      ioas = record { 0 = at t 1 };
      iova = record { 0 = at t 2 };
      length = at t 3;
    }))
    (cond (eqb t.tag 0x89)
    (event.HwptAlloc (record { 0 = at t 0 }) (record {
      device = record { 0 = at t 1 };
      ioas = record { 0 = at t 2 };
    }))
    (cond (eqb t.tag 0xf0)
    (event.DirtyEnable (record { 0 = at t 0 }) (record { 0 = at t 1 }) (eqb (at t 2) 1))
    (event.DirtyClear (record { 0 = at t 0 }) (record {
      hwpt = record { 0 = at t 1 };
      iova = record { 0 = at t 2 };
      length = at t 3;
    })))))))))))))))))))))))))

is_purpose : (write : Bool) → eqb (purpose_number write) 1 ≡ write
is_purpose true = refl
is_purpose false = refl

is_switch : (on : Bool) → eqb (switch_number on) 1 ≡ on
is_switch true = refl
is_switch false = refl

pin_again : (request : PinRequest) (write : Bool) → request.write ≡ write
    → (let p : PinRequest = record {
      iova = request.iova;
      length = request.length;
      write = eqb (purpose_number
          request.write) 1;
    } in p) ≡ request
pin_again request write is =
    ap (λ (b : Bool). record request { write = b }) (is_purpose request.write)

pub event_again : {A : Type 0} (e : Event A) → event_of (tagged_event e) ≡ e
event_again (event.Close file) = refl
event_again (event.UserMap user va) = refl
event_again (event.UserUnmap user va) = refl
event_again (event.UserWrite user va bytes) =
    ap (λ (b : List ℕ). event.UserWrite user va b) (singles_again bytes)
event_again (event.Bind file device) = refl
event_again (event.Unbind file id) = refl
event_again (event.Attach device pt_id) = refl
event_again (event.Detach device) = refl
event_again (event.Flush device) = refl
event_again (event.DeviceWrite device iova bytes) =
    ap (λ (b : List ℕ). event.DeviceWrite device iova b) (singles_again bytes)
event_again (event.AccessCreate file) = refl
event_again (event.AccessAttach file id ioas) = refl
event_again (event.AccessDetach file id) = refl
event_again (event.AccessPin file id request) =
    ap (λ (p : PinRequest). event.AccessPin file id p) (pin_again request request.write refl)
event_again (event.AccessUnpin file id request) =
    ap (λ (p : PinRequest). event.AccessUnpin file id p) (pin_again request request.write refl)
event_again (event.AccessWrite file id iova bytes) =
    ap (λ (b : List ℕ). event.AccessWrite file id iova b) (singles_again bytes)
event_again (event.Destroy file id) = refl
event_again (event.IoasAlloc file) = refl
event_again (event.AllowIovas file ioas ranges) =
    ap (λ (r : List Bounds). event.AllowIovas file ioas r) (pairs_again ranges)
event_again (event.Copy file request) = refl
event_again (event.Map file request) = refl
event_again (event.Unmap file request) = refl
event_again (event.HwptAlloc file request) = refl
event_again (event.DirtyEnable file hwpt on) =
    ap (λ (b : Bool). event.DirtyEnable file hwpt b) (is_switch on)
event_again (event.DirtyClear file request) = refl

-- ---- replies

abbrev pub reply_at : Tagged → SpelledReply
reply_at t =
    cond (eqb t.tag 0x00) spelled.Done
    (cond (eqb t.tag 0x01) (spelled.Id (at t 0))
    (cond (eqb t.tag 0x02) (spelled.Iova (at t 0))
    (cond (eqb t.tag 0x03) (spelled.Bytes (at t 0))
    (cond (eqb t.tag 0x04) (spelled.Pending (at t 0))
    (cond (eqb t.tag 0x05) (spelled.Frame (at t 0))
    (cond (eqb t.tag 0x06) (spelled.Passed (at t 0))
    (cond (eqb t.tag 0x07) (spelled.Fault (at t 0))
    (cond (eqb t.tag 0x08) (spelled.Refused (at t 0)) (spelled.Dirty t.numbers)))))))))

pub reply_again : (reply : SpelledReply) → reply_at (tagged_reply reply) ≡ reply
reply_again spelled.Done = refl
reply_again (spelled.Id id) = refl
reply_again (spelled.Iova iova) = refl
reply_again (spelled.Bytes count) = refl
reply_again (spelled.Pending errno) = refl
reply_again (spelled.Frame frame) = refl
reply_again (spelled.Passed frame) = refl
reply_again (spelled.Fault reason) = refl
reply_again (spelled.Refused number) = refl
reply_again (spelled.Dirty words) = refl

-- ---- records

-- the bytes tell what they spell
pub text_tells : (version : Version) (passes : ℕ) (a b : Raw) (text other rest behind : List ℕ)
    → Spells version passes a text
    → Spells version passes b other → text ++ rest ≡ other ++ behind → (a ≡ b) × (rest ≡ behind)
text_tells version passes a b text other rest behind p q same =
    let read = some_is (a, rest) (b, behind) (sym (record_again version passes a text rest p)
    ∙ ap (record_at version passes) same ∙ record_again version passes b other behind q) in
    (ap (λ (x : Raw × List ℕ). x.0) read, ap (λ (x : Raw × List ℕ). x.1) read)

module _ {A : Type 0} where
  pub same_raw : (s : Settings) (q r : Record A) (a b : SpelledReply) → raw_record q a ≡ raw_record r b
      → reply_of s q.event a ≡ Some q.reply → reply_of s r.event b ≡ Some r.reply → q ≡ r
  same_raw s q r a b same of_q of_r =
      let event : q.event ≡ r.event = sym (event_again q.event)
      ∙ ap (λ (raw : Raw). event_of raw.event) same ∙ event_again r.event in
      let told : a ≡ b = sym (reply_again a) ∙ ap (λ (raw : Raw). reply_at raw.reply) same ∙ reply_again b in
      let reply : q.reply ≡ r.reply = some_is q.reply r.reply (sym of_q
      ∙ ap (λ (e : Event A). reply_of s e a) event ∙ ap (λ (x : SpelledReply). reply_of s r.event x) told ∙ of_r) in
      let taken : q.taken ≡ r.taken = sym (frames_again q.taken)
      ∙ ap (λ (raw : Raw). map frame_of raw.taken) same ∙ frames_again r.taken in
      let given : q.given ≡ r.given = sym (frames_again q.given)
      ∙ ap (λ (raw : Raw). map frame_of raw.given) same ∙ frames_again r.given in
      let pass : q.pass.0 ≡ r.pass.0 = ap (λ (raw : Raw). raw.pass) same in
      by_parts q r (ap (λ n. record { 0 = n }) pass) event reply taken given
    where
      by_parts : (q r : Record A) → q.pass ≡ r.pass → q.event ≡ r.event → q.reply ≡ r.reply → q.taken ≡ r.taken
          → q.given ≡ r.given → q ≡ r
      by_parts q r p e a t g =
          ap (λ n. record q { pass = n }) p ∙ ap (λ e. record q { pass = r.pass; event = e }) e
          ∙ ap (λ a. record q { pass = r.pass; event = r.event; reply = a }) a
          ∙ ap (λ t. record r { taken = t; given = q.given }) t ∙ ap (λ g. record r { given = g }) g

  pub one_record : (version : Version) (s : Settings) (q r : Record A) (text other rest behind : List ℕ)
      → SpellsRecord version s q text
      → SpellsRecord version s r other → text ++ rest ≡ other ++ behind → (q ≡ r) × (rest ≡ behind)
  one_record version s q r text other rest behind p o same =
      let told =
      text_tells version s.passes (raw_record q p.reply) (raw_record r o.reply) text other rest behind p.spells
      o.spells same in
      (same_raw s q r p.reply o.reply told.0 p.gives o.gives, told.1)

  -- a record that other bytes at the same place spell is spelled by these
  pub spelled_here : (version : Version) (s : Settings) (raw : Raw) (r : Record A) (text other rest behind : List ℕ)
      → Spells version s.passes raw text → SpellsRecord version s r other → text ++ rest ≡ other ++ behind
      → SpellsRecord version s r text
  spelled_here version s raw r text other rest behind p o same =
      let told = text_tells version s.passes raw (raw_record r o.reply) text other rest behind p o.spells same in
      record {
        reply = o.reply;
        gives = o.gives;
        spells = subst (λ (x : Raw). Spells version s.passes x text) told.0 p;
      }
