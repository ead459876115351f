-- What a guard tells of a device's access, said of settings and records; and what the port keeps then.
use Rattle.std.proofs.Common.{◌≡◌, ℕ, true, Option, Some, None, Contains, IfSome, List, [], ◌∷◌, ◌++◌, length}
use Rattle.std.proofs.Common.{append-nil, is_none, sym, ap, subst, ◌∙◌}
use Rattle.std.specs.List.{list_any}
use Rattle.iofd_interleavings.proofs.KeepsSound.{no_cause}
use Rattle.iofd_rows.proofs.Bools.{and_true}
use Rattle.iofd_refusals.specs.Checks.{access_checks, device_write_checks, refusal}
use Rattle.iofd_words.specs.FirstTrue.{first_true}
use Rattle.iofd_words.specs.Policy.{is_pass_at, outcomes}
use Rattle.iofd_words.specs.View.{view}
use Rattle.iofd_words.specs.declared.event.Act.{Act}
use Rattle.iofd_words.specs.declared.event.Event.{Event}
use Rattle.iofd_words.specs.declared.event.Event.TheVariants as event
use Rattle.iofd_words.specs.declared.numbers.FrameNo.{FrameNo}
use Rattle.iofd_words.specs.declared.numbers.Iova.{Iova}
use Rattle.iofd_words.specs.declared.reply.Reply.{Reply}
use Rattle.iofd_words.specs.declared.reply.Reply.TheVariants as reply
use Rattle.iommufd_core.specs.declared.apply.Stamp.{Stamp}
use Rattle.server_state.specs.Choice.{IsChosen}
use Rattle.iofd_words.specs.declared.refusal.NoMemory.{NoMemory}
use Rattle.lane_lock.specs.declared.table.View.{View}
use Rattle.guarded_core.specs.Guarded.{RefusesCommit}
use Rattle.guarded_core.specs.declared.try_error.TryError.{TryError}
use Rattle.guarded_core.specs.declared.try_error.TryError.TheVariants as tried
use Rattle.guarded_core.proofs.Guards.{commit_sees}
use Rattle.shared_iommufd.specs.Made.{Makes}
use Rattle.iofd_words.specs.Files.{is_device}
use Rattle.iofd_steps.specs.Look.{answers_to}
use Rattle.iofd_words.specs.Pages.{page_of}
use Rattle.iofd_steps.specs.Run.{IsRun}
use Rattle.iofd_words.specs.Record.{Record}
use Rattle.iofd_words.specs.Settings.{Settings}
use Rattle.iofd_words.specs.Turns.{turns_of}
use Rattle.iofd_words.specs.declared.fault.AccessKind.{AccessKind}
use Rattle.iofd_words.specs.declared.fault.AccessKind.TheVariants.{Read, Write}
use Rattle.iofd_words.specs.declared.numbers.DeviceNo.{DeviceNo}
use Rattle.iofd_words.specs.declared.query.Answer.{Answer}
use Rattle.iofd_words.specs.declared.query.Query.TheVariants as query
use Rattle.iofd_words.specs.declared.query.Translation.{Translation}
use Rattle.iommufd_core.specs.History.{History, may_apply, world}
use Rattle.lane_lock.specs.History.{Legal, StartsWith}
use Rattle.lane_lock.specs.Outcomes.{OnlySees}
use Rattle.lane_lock.specs.Views.{IsBlank}
use Rattle.lane_lock.specs.Passes.{number_of, view_of}
use Rattle.port_cache.specs.Cached.{Leaves, Translations, compared}
use Rattle.port_cache.specs.declared.cache.Found.{Found}
use Rattle.guarded_core.specs.Caches.{IsGood, MayKeep, ReadBy, ReadUnder, TranslatedUnder, WriteUnder, found, frame_found}
use Rattle.guarded_core.specs.Entries.{history_of, maker_of, told}
use Rattle.guarded_core.specs.Passes.{CoreGhosts, CorePass}
use Rattle.guarded_core.specs.declared.kept_core.Entry.TheVariants as entry
use Rattle.guarded_core.proofs.Entered.{is_history, same_settings, told_more}
use Rattle.guarded_core.proofs.Kept.{keeps_found, keeps_later, keeps_serves}
use Rattle.shared_iommufd.specs.PortReads.{IsReadSo, TellsRead}
use Rattle.shared_iommufd.specs.PortTranslations.{IsTranslatedSo, TellsTranslation}
use Rattle.shared_iommufd.specs.PortWrites.{TellsWrite}
use Rattle.shared_iommufd.specs.Ports.{KeepsSame, Standing}
use Rattle.shared_iommufd.specs.Seen.{HasSeen}
use Rattle.shared_iommufd.proofs.DeviceAnswers.{run_before}
use Rattle.shared_iommufd.proofs.Shown.{has_seen}

-- a device of the server is one of what a guard shows
pub known_later : {A : Type 0} (o h : History A) (device : DeviceNo) → StartsWith (told h) (told o)
    → is_device o.settings device ≡ true → is_device h.settings device ≡ true
known_later o h device starts known =
    ap (λ (s : Settings). is_device s device) (same_settings h o starts) ∙ known

starts_same : {E : Type 0} (a b c : List E) → a ≡ b → StartsWith a c → StartsWith b c
starts_same a b c e starts = subst (λ l. StartsWith l c) e starts

itself : {E : Type 0} (a b : List E) → a ≡ b → StartsWith a b
itself a b e = ([], e ∙ sym (append-nil b))

module _ {A : Type 0} {g : CoreGhosts A} where
  pub tells_read : (settings : Settings) (o h : History A) (device : DeviceNo) (iova : Iova) (len : ℕ) (p : Standing A g)
      (finds : Found) (said : Answer) (q : CorePass A g) → o.settings ≡ settings → o.records ≡ []
      → StartsWith (told h) (told o) → (view_of q).seen ≡ told h
      → Legal maker_of (length (told o)) (told h) (number_of q) (view_of q).seen (view_of q).made
      → IsBlank (view_of q)
      → ReadUnder h device p.turns p.kept iova len finds said → TellsRead settings device iova.0 len p finds said q
  tells_read settings o h device iova len p finds said q opened fresh starts seen legal home under =
      let e : h.settings ≡ settings = same_settings h o starts ∙ opened in
      record {
        records = h.records;
        seen = has_seen settings o h q opened fresh starts under.run seen legal home;
        turns = under.turned;
        found = subst (λ (s : Settings). finds.translation ≡ found s h.records device p.turns p.kept iova.0 Read) e
            under.found_so;
        lawful = subst (λ (s : Settings).
            Contains (answers_to s h.records (query.DeviceRead device iova len)) said) e under.lawful;
        by = subst (λ (s : Settings). ReadBy s h.records device iova len finds.translation said) e under.by;
      }

  pub tells_translation : (settings : Settings) (o h : History A) (device : DeviceNo) (iova : Iova) (kind : AccessKind)
      (p : Standing A g) (finds : Found) (q : CorePass A g) → o.settings ≡ settings → o.records ≡ []
      → StartsWith (told h) (told o) → (view_of q).seen ≡ told h
      → Legal maker_of (length (told o)) (told h) (number_of q) (view_of q).seen (view_of q).made
      → IsBlank (view_of q)
      → TranslatedUnder h device p.turns p.kept iova kind finds → TellsTranslation settings device iova.0 kind p finds q
  tells_translation settings o h device iova kind p finds q opened fresh starts seen legal home under =
      let e : h.settings ≡ settings = same_settings h o starts ∙ opened in
      record {
        records = h.records;
        seen = has_seen settings o h q opened fresh starts under.run seen legal home;
        turns = under.turned;
        found = subst (λ (s : Settings). finds.translation ≡ found s h.records device p.turns p.kept iova.0 kind) e
            under.found_so;
        right = under.right;
        backed = subst (λ (x : History A). IfSome finds.translation (IsGood x device (page_of iova.0)))
            (is_history h settings e) under.backed;
      }

  -- ---- what the port keeps then

  -- what an access found after these records, which the pass has seen
  keeps_after : (settings : Settings) (device : DeviceNo) (most address : ℕ) (kind : AccessKind) (p q : Standing A g)
      (records : List (Record A)) (finds : Found) → MayKeep told device (view_of p.pass).seen p.turns p.kept
      → OnlySees (view_of p.pass) (view_of q.pass) → HasSeen settings q.pass records
      → finds.turns ≡ turns_of device records
      → finds.translation ≡ found settings records device p.turns p.kept address kind → q.turns ≡ finds.turns
      → Leaves most (page_of address) finds.translation (compared p.turns finds.turns p.kept) q.kept
      → MayKeep told device (view_of q.pass).seen q.turns q.kept
  keeps_after settings device most address kind p q records finds may sees has turned is turns leaves =
      let h = history_of settings records in
      let later : StartsWith (told h) (view_of p.pass).seen =
      starts_same (view_of q.pass).seen (told h) (view_of p.pass).seen has.seen sees.later in
      keeps_found h device has.run p.turns p.kept (view_of q.pass).seen q.turns most address kind finds.translation q.kept
      (itself (view_of q.pass).seen (told h) has.seen)
      (keeps_serves device h (view_of p.pass).seen p.turns p.kept later may) (turns ∙ turned) is
      (subst (λ (n : ℕ). Leaves most (page_of address) finds.translation (compared p.turns n p.kept) q.kept) turned
      leaves)

  pub keeps_read : (settings : Settings) (device : DeviceNo) (most address len : ℕ) (p : Standing A g) (said : Answer)
      (q : Standing A g) → MayKeep told device (view_of p.pass).seen p.turns p.kept
      → IsReadSo settings device most address len p said q → MayKeep told device (view_of q.pass).seen q.turns q.kept
  keeps_read settings device most address len p said q may read =
      let tells = read.tells in
      keeps_after settings device most address Read p q tells.records read.finds may read.sees tells.seen tells.turns
      tells.found read.turns read.leaves

  pub keeps_translated : (settings : Settings) (device : DeviceNo) (most address : ℕ) (kind : AccessKind)
      (p : Standing A g) (said : Option Translation) (q : Standing A g)
      → MayKeep told device (view_of p.pass).seen p.turns p.kept
      → IsTranslatedSo settings device most address kind p said q
      → MayKeep told device (view_of q.pass).seen q.turns q.kept
  keeps_translated settings device most address kind p said q may so =
      let tells = so.tells in
      keeps_after settings device most address kind p q tells.records so.finds may so.sees tells.seen tells.turns
      tells.found so.turns so.leaves

  pub keeps_written : (settings : Settings) (device : DeviceNo) (most address : ℕ) (bytes : List ℕ) (p : Standing A g)
      (finds : Found) (stamp : Stamp) (q : CorePass A g) (turns : ℕ) (kept : Translations)
      → MayKeep told device (view_of p.pass).seen p.turns p.kept
      → TellsWrite settings device address bytes p finds stamp q → turns ≡ finds.turns
      → Leaves most (page_of address) finds.translation (compared p.turns finds.turns p.kept) kept
      → MayKeep told device (view_of q).seen turns kept
  keeps_written settings device most address bytes p finds stamp q turns kept may tells same leaves =
      let m = tells.makes in
      let h = history_of settings m.before in
      let run : IsRun settings m.before = run_before settings m.before m.made m.applied.run in
      let more : (view_of q).seen ≡ told h ++ entry.Made m.made ∷ [] = m.seen ∙ told_more h m.made in
      keeps_found h device run p.turns p.kept (view_of q).seen turns most address Write finds.translation kept
      (entry.Made m.made ∷ [], more) (keeps_serves device h (view_of p.pass).seen p.turns p.kept m.later may)
      (same ∙ tells.turns) tells.found
      (subst (λ (n : ℕ). Leaves most (page_of address) finds.translation (compared p.turns n p.kept) kept) tells.turns
      leaves)

-- ---- where a write was at a frame that was found, it passed there

abbrev write_of : (A : Type 0) → DeviceNo → Iova → List ℕ → Event A
write_of A device iova bytes = event.DeviceWrite device iova bytes

passed_at : {A : Type 0} (h : History A) (device : DeviceNo) (iova : Iova) (bytes : List ℕ) (frame : FrameNo)
    (said : Reply) → may_apply h (write_of A device iova bytes) (Some frame) ≡ true
    → (refusal (world h) (write_of A device iova bytes) ≡ None
    → IsChosen (world h) (write_of A device iova bytes) (Some frame) said) → said ≡ reply.Passed frame
unfolding device_write_checks
passed_at h device iova bytes frame said may chosen =
    chosen (no_cause (first_true (access_checks (view (world h)) device iova (length bytes))) (and_true
    (is_none (first_true (access_checks (view (world h)) device iova (length bytes))))
    (list_any (is_pass_at frame) (outcomes (world h) device iova.0 Write)) may).0)

pub passes_found : {A : Type 0} (h : History A) (device : DeviceNo) (iova : Iova) (bytes : List ℕ)
    (o : Option Translation) (said : Reply)
    → may_apply h (write_of A device iova bytes) (frame_found o) ≡ true
    → (refusal (world h) (write_of A device iova bytes) ≡ None
    → IsChosen (world h) (write_of A device iova bytes) (frame_found o) said)
    → IfSome o (λ t. said ≡ reply.Passed t.frame)
passes_found h device iova bytes None said may chosen = tt
passes_found h device iova bytes (Some t) said may chosen = passed_at h device iova bytes t.frame said may chosen

module _ {A : Type 0} {g : CoreGhosts A} where
  -- a write that made a record after those that the core h tells
  pub tells_write : (settings : Settings) (h : History A) (device : DeviceNo) (iova : Iova) (bytes : List ℕ)
      (p : Standing A g) (finds : Found) (act : Act A) (stamp : Stamp) (q : CorePass A g)
      → h.settings ≡ settings → (m : Makes settings p.pass act stamp q) → m.before ≡ h.records
      → (refusal (world h) act.event ≡ None → IsChosen (world h) act.event act.via stamp.reply)
      → WriteUnder h device p.turns p.kept iova bytes finds act
      → TellsWrite settings device iova.0 bytes p finds stamp q
  tells_write settings h device iova bytes p finds act stamp q e m same chosen under =
      let is = under.by in
      let made = subst (λ (a : Act A). (n : Makes settings p.pass a stamp q) × (n.before ≡ h.records)) is (m, same) in
      record {
        makes = made.0;
        turns = under.turned ∙ ap (turns_of device) (sym made.1);
        found = under.found_so
            ∙ (λ i. found (e i) (sym made.1 i) device p.turns p.kept iova.0 Write);
        passes = passes_found h device iova bytes finds.translation stamp.reply
            (subst (λ (a : Act A). may_apply h a.event a.via ≡ true) is under.may)
            (subst (λ (a : Act A). refusal (world h) a.event ≡ None
            → IsChosen (world h) a.event a.via stamp.reply) is chosen);
      }

-- a commit that was refused made nothing
pub refused_sees : {E : Type 0} (lanes : ℕ) (v w : View E) (e : TryError NoMemory) → RefusesCommit lanes v w e
    → OnlySees v w
refused_sees lanes v w (tried.NotNow refused) denied = commit_sees lanes v w refused denied
refused_sees lanes v w (tried.Call no_memory) denied = denied.0
