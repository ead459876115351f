-- What a question shows to its pass.
use Rattle.std.specs.Prelude.{◌≡◌, ℕ, List, Result, Ok, Err, Vec}
use Rattle.iofd_words.specs.Bounds.{Bounds}
use Rattle.iofd_steps.specs.Look.{answers_to}
use Rattle.iofd_steps.specs.Run.{IsRun}
use Rattle.iofd_words.specs.Record.{Record}
use Rattle.iofd_words.specs.Settings.{Settings}
use Rattle.iofd_words.specs.declared.call_error.CallError.{CallError}
use Rattle.iofd_words.specs.declared.numbers.FileNo.{FileNo}
use Rattle.iofd_words.specs.declared.numbers.ObjId.{ObjId}
use Rattle.iofd_words.specs.declared.query.Answer.{Answer}
use Rattle.iofd_words.specs.declared.query.Query.{Query}
use Rattle.journal_audit_writing.specs.declared.whole.JournalError.{JournalError}
use Rattle.lane_lock.specs.History.{Legal}
use Rattle.lane_lock.specs.Outcomes.{HadLane, MetNone, RefusesRead}
use Rattle.lane_lock.specs.Passes.{lane_of, number_of, view_of}
use Rattle.lane_lock.specs.Views.{IsBlank}
use Rattle.server_state.specs.Choice.{IsLooked}
use Rattle.guarded_core.specs.Entries.{history_of, maker_of, told}
use Rattle.guarded_core.specs.Passes.{CoreGhosts, CorePass}
use Rattle.guarded_core.specs.Told.{TellsJournal, TellsNotices}
use Rattle.guarded_core.specs.declared.try_error.TryError.{TryError}
use Rattle.guarded_core.specs.declared.try_error.TryError.TheVariants as tried

module _ {A : Type 0} {g : CoreGhosts A} where
  -- the pass has seen just these records of a server that was opened with the settings; they are a run, and legal for
  -- the pass: its own among them are those that it made; and it holds no lane
  pub record HasSeen (settings : Settings) (p : CorePass A g) (records : List (Record A)) : Type 0 where
    pub seen : (view_of p).seen ≡ told (history_of settings records)
    pub run : IsRun settings records
    pub legal : Legal maker_of 1 (told (history_of settings records)) (number_of p) (view_of p).seen (view_of p).made
    pub home : IsBlank (view_of p)

  -- the question has this answer after all records that the pass has seen
  pub record IsAnswered (settings : Settings) (p : CorePass A g) (query : Query) (answer : Answer) : Type 0 where
    pub records : List (Record A)
    pub seen : HasSeen settings p records
    pub looked : IsLooked (answers_to settings records query) answer

  -- the access object's driver is told these notices, or why there are none, after all records that the pass has seen
  pub record AreNotices (settings : Settings) (p : CorePass A g) (file : FileNo) (access : ObjId)
      (answer : Result (Vec Bounds A) CallError) : Type 0 where
    pub records : List (Record A)
    pub seen : HasSeen settings p records
    pub tells : TellsNotices (history_of settings records) file access answer

  -- the same of a question that doesn't wait: no lane was met held, and the pass had a share once; or its lane was held
  -- or empty, the pass has seen no more, and that isn't told as a failure
  abbrev pub AreTriedNotices : Settings → CorePass A g → CorePass A g → FileNo → ObjId
      → Result (Vec Bounds A) (TryError CallError) → Type 0
  AreTriedNotices settings p q file access (Ok spans) =
      AreNotices settings q file access (Ok spans) × MetNone (view_of p) (view_of q) × HadLane (view_of p) (view_of q)
  AreTriedNotices settings p q file access (Err (tried.Call failed)) =
      AreNotices settings q file access (Err failed) × MetNone (view_of p) (view_of q)
      × HadLane (view_of p) (view_of q)
  AreTriedNotices settings p q file access (Err (tried.NotNow refused)) =
      RefusesRead (view_of p) (view_of q) (lane_of p) refused

  -- the journal is told of all records that the pass has seen, and no others, or why there is none
  pub record IsJournalOf (settings : Settings) (p : CorePass A g) (answer : Result (Vec ℕ A) JournalError) : Type 0
    where
      pub records : List (Record A)
      pub seen : HasSeen settings p records
      pub tells : TellsJournal (history_of settings records) answer

  -- the same of a question that doesn't wait
  abbrev pub IsTriedJournalOf : Settings → CorePass A g → CorePass A g → Result (Vec ℕ A) (TryError JournalError)
      → Type 0
  IsTriedJournalOf settings p q (Ok bytes) =
      IsJournalOf settings q (Ok bytes) × MetNone (view_of p) (view_of q) × HadLane (view_of p) (view_of q)
  IsTriedJournalOf settings p q (Err (tried.Call failed)) =
      IsJournalOf settings q (Err failed) × MetNone (view_of p) (view_of q) × HadLane (view_of p) (view_of q)
  IsTriedJournalOf settings p q (Err (tried.NotNow refused)) = RefusesRead (view_of p) (view_of q) (lane_of p) refused
