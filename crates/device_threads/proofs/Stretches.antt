-- What a port's call makes is one stretch, and its last record has the place that the port tells.
use Rattle.std.proofs.Common.{ℕ, ◌+◌, ◌-◌, List, [], ◌∷◌, ◌++◌, map, length, refl, sym, ap, ◌∙◌, subst}
use Rattle.std.proofs.Common.{append_assoc, append-nil, Option, Some, None, Result, Ok, Err}
use Rattle.std.proofs.lemmas.List.{map-append}
use Rattle.iofd_words.specs.Record.{Record}
use Rattle.iofd_words.specs.Settings.{Settings}
use Rattle.iofd_words.specs.declared.event.Act.{Act}
use Rattle.iofd_words.specs.declared.event.Event.{Event}
use Rattle.iofd_words.specs.declared.event.Event.TheVariants as event
use Rattle.iofd_words.specs.declared.numbers.DeviceNo.{DeviceNo}
use Rattle.iofd_words.specs.declared.refusal.NoMemory.{NoMemory}
use Rattle.iofd_words.specs.declared.reply.Reply.{Reply}
use Rattle.iofd_words.specs.declared.reply.Reply.TheVariants as reply
use Rattle.iommufd_core.specs.declared.apply.Stamp.{Stamp}
use Rattle.lane_lock.specs.Outcomes.{OnlySees}
use Rattle.lane_lock.specs.Passes.{view_of}
use Rattle.guarded_core.specs.Caches.{write_by}
use Rattle.guarded_core.specs.Entries.{history_of, told}
use Rattle.guarded_core.specs.Passes.{CoreGhosts, CorePass}
use Rattle.guarded_core.specs.declared.kept_core.Entry.TheVariants as entry
use Rattle.guarded_core.specs.declared.try_error.TryError.TheVariants as tried
use Rattle.guarded_core.proofs.Entered.{starts_so}
use Rattle.shared_iommufd.specs.Made.{Makes, act_of}
use Rattle.shared_iommufd.specs.Pieces.{Follow, Piece, last_place, standing_after}
use Rattle.shared_iommufd.specs.PortReads.{as_tried}
use Rattle.shared_iommufd.specs.PortWrites.{DeniesWrite, HasWritten, IsWrittenPiece, IsWrittenSo, Writes}
use Rattle.shared_iommufd.specs.Ports.{CorePort, Standing, most_of, standing_of}
use Rattle.shared_iommufd.specs.declared.error.PortCause.{PortCause}
use Rattle.shared_iommufd.specs.declared.error.PortCause.TheVariants as why
use Rattle.shared_iommufd.specs.declared.error.PortError.{PortError}
use Rattle.device_threads.specs.Jobs.{ComesOf, Turns}
use Rattle.device_threads.specs.Stretches.{EndsAt, HasMade}
use Rattle.device_threads.specs.declared.job.Job.{Job}
use Rattle.device_threads.specs.declared.job.Job.TheVariants as task
use Rattle.device_threads.specs.declared.job.Outcome.{Outcome}
use Rattle.device_threads.specs.declared.job.Outcome.TheVariants as outcome

module _ {A : Type 0} {g : CoreGhosts A} (settings : Settings) where
  -- all that the pass made, and the place of the last record
  pub record Grows (p q : CorePass A g) (place : Option ℕ) : Type 0 where
    pub stretch : List (Record A)
    pub made : HasMade p stretch q
    pub at : EndsAt settings q stretch place

  grows_none : (p : CorePass A g) → Grows p p None
  grows_none p = record { stretch = []; made = sym (append-nil (view_of p).made); at = refl }

  ends_later : (p q : CorePass A g) (records : List (Record A)) (place : Option ℕ) → OnlySees (view_of p) (view_of q)
      → EndsAt settings p records place → EndsAt settings q records place
  ends_later p q records None sees ends = ends
  ends_later p q records (Some place) sees (others, last, is, stands) = (
    others,
    last,
    is,
    record {
      before = stands.before;
      seen = starts_so (view_of q).seen (view_of p).seen (told (history_of settings (stands.before ++ last ∷ [])))
          sees.later stands.seen;
      count = stands.count;
    },
  )

  -- the pass has only seen more since
  grows_later : (o p q : CorePass A g) (place : Option ℕ) → Grows o p place → OnlySees (view_of p) (view_of q)
      → Grows o q place
  grows_later o p q place grows sees = record {
    stretch = grows.stretch;
    made = sees.made ∙ grows.made;
    at = ends_later p q grows.stretch place sees grows.at;
  }

  -- it made one record more
  grows_more : (o p q : CorePass A g) (before : Option ℕ) (act : Act A) (stamp : Stamp) → Grows o p before
      → Makes settings p act stamp q → Grows o q (Some stamp.at)
  grows_more o p q before act stamp grows m = record {
    stretch = grows.stretch ++ m.made ∷ [];
    made = m.own ∙ (ap (λ l. l ++ entry.Made m.made ∷ []) grows.made
        ∙ (append_assoc (view_of o).made (map entry.Made grows.stretch) (entry.Made m.made ∷ [])
        ∙ ap (λ l. (view_of o).made ++ l) (sym (map-append entry.Made grows.stretch (m.made ∷ [])))));
    at = (
      grows.stretch,
      m.made,
      refl,
      record {
        before = m.before;
        seen = ([], m.seen ∙ sym (append-nil (told (history_of settings (m.before ++ m.made ∷ [])))));
        count = sym m.applied.at;
      },
    );
  }

  grows_so : (device : DeviceNo) (most address : ℕ) (bytes : List ℕ) (o : CorePass A g) (p : Standing A g)
      (before : Option ℕ) (answer : Reply) (place : Option ℕ) (q : Standing A g) → Grows o p.pass before
      → IsWrittenSo settings device most address bytes p answer place q → Grows o q.pass place
  grows_so device most address bytes o p before answer place q grows written =
      subst (Grows o q.pass) (sym written.at)
      (grows_more o p.pass q.pass before (write_by device address bytes written.finds.translation) written.stamp grows
      written.tells.makes)

  grows_pieces : (device : DeviceNo) (most address left : ℕ) (o : CorePass A g) (p : Standing A g) (before : Option ℕ)
      (pieces : List (Piece A g)) → Grows o p.pass before
      → Follow (IsWrittenPiece settings device most) address left p pieces
      → Grows o (standing_after p pieces).pass (last_place before pieces)
  grows_pieces device most address left o p before [] grows follow = grows
  grows_pieces device most address left o p before (x ∷ xs) grows follow =
      grows_pieces device most (address + length x.bytes) (left - length x.bytes) o x.after x.at xs
      (grows_so device most address x.bytes o p before (reply.Passed follow.3.frame) x.at x.after grows
      follow.3.written)
      follow.4

  grows_written : (device : DeviceNo) (most address : ℕ) (bytes : List ℕ) (p : Standing A g) (done : ℕ)
      (q : Standing A g) (last : Option ℕ) → HasWritten settings device most address bytes p done q last
      → Grows p.pass q.pass last
  grows_written device most address bytes p done q last has =
      subst (Grows p.pass q.pass) (sym has.ends)
      (grows_later p.pass (standing_after p has.pieces).pass q.pass (last_place None has.pieces)
      (grows_pieces device most address (length bytes) p.pass p None has.pieces (grows_none p.pass) has.passed.follow)
      has.passed.sees)

  grows_denied : (lanes : ℕ) (device : DeviceNo) (most address : ℕ) (bytes : List ℕ) (o : CorePass A g)
      (p : Standing A g) (before : Option ℕ) (cause : PortCause) (q : Standing A g) (last : Option ℕ)
      → Grows o p.pass before
      → DeniesWrite settings lanes device most address bytes p before (tried.Call cause) q last → Grows o q.pass last
  grows_denied lanes device most address bytes o p before (why.Refused refusal) q last grows denied =
      grows_so device most address bytes o p before (reply.Refused refusal) last q grows denied
  grows_denied lanes device most address bytes o p before (why.Fault fault) q last grows denied =
      grows_so device most address bytes o p before (reply.Fault fault) last q grows denied
  grows_denied lanes device most address bytes o p before (why.Memory no_memory) q last grows denied =
      subst (Grows o q.pass) (sym denied.2) (grows_later o p.pass q.pass before grows denied.0)

  grows_write : (lanes : ℕ) (device : DeviceNo) (most address : ℕ) (bytes : List ℕ) (p : Standing A g)
      (ended : Result (Unit {0}) (PortError PortCause)) (q : Standing A g) (last : Option ℕ)
      → Writes settings lanes device most address bytes p (as_tried ended) q last → Grows p.pass q.pass last
  grows_write lanes device most address bytes p (Ok done) q last writes =
      grows_written device most address bytes p (length bytes) q last writes
  grows_write lanes device most address bytes p (Err error) q last writes =
      grows_denied lanes device most _ _ p.pass writes.before writes.place error.cause q last
      (grows_written device most address bytes p error.done writes.before writes.place writes.written) writes.denied

  grows_turn : (e : Event A) (p : CorePort A g) (told : Result Reply NoMemory) (q : CorePort A g)
      → Turns settings e p told q → Grows p.pass q.pass q.last
  grows_turn e p (Ok told) q turns =
      subst (Grows p.pass q.pass) (sym turns.last)
      (grows_more p.pass p.pass q.pass None (act_of e) turns.stamp (grows_none p.pass) turns.makes)
  grows_turn e p (Err no_memory) q turns =
      subst (Grows p.pass q.pass) (sym turns.2) (grows_later p.pass p.pass q.pass None (grows_none p.pass) turns.0)

  -- what a job makes
  pub stretch_of : (lanes : ℕ) (p : CorePort A g) (what : Job) (came : Outcome) (q : CorePort A g)
      → ComesOf settings lanes p what came q → Grows p.pass q.pass q.last
  stretch_of lanes p (task.Read iova buffer) (outcome.Read back ended) q comes =
      subst (Grows p.pass q.pass) (sym comes.last)
      (grows_later p.pass p.pass q.pass None (grows_none p.pass) comes.sees)
  stretch_of lanes p (task.Write iova bytes) (outcome.Write ended) q comes =
      grows_write lanes p.device (most_of p) iova.0 bytes.items (standing_of p) ended (standing_of q) q.last comes
  stretch_of lanes p task.Flush (outcome.Turn told) q comes = grows_turn (event.Flush p.device) p told q comes.0
  stretch_of lanes p (task.Attach pt_id) (outcome.Turn told) q comes =
      grows_turn (event.Attach p.device pt_id) p told q comes.0
  stretch_of lanes p task.Detach (outcome.Turn told) q comes = grows_turn (event.Detach p.device) p told q comes.0
  stretch_of lanes p what came q comes = absurd comes
