-- What one step does to what is kept.
use Rattle.std.specs.Prelude.{◌≡◌, ℕ, true, Option, None, List}
use Rattle.iofd_steps.specs.After.{changed}
use Rattle.iofd_steps.specs.Answers.{Answers}
use Rattle.iofd_refusals.specs.Checks.{refusal}
use Rattle.iofd_rows.specs.Debts.{DebtsAttached}
use Rattle.iofd_runs.specs.Apart.{are_apart}
use Rattle.iofd_runs.specs.Few.{RowsFew}
use Rattle.iofd_runs.specs.Fits.{RowsFit}
use Rattle.iofd_runs.specs.InUsable.{AreasUsable}
use Rattle.iofd_runs.specs.Owned.{AreasOwned}
use Rattle.iofd_runs.specs.PinsFit.{AccessPinsFit}
use Rattle.iofd_runs.specs.Rising.{objects_rise}
use Rattle.iofd_runs.specs.Tabled.{AreTabled}
use Rattle.iofd_rows.specs.Ids.{AreBoundOnce, have_own_ids}
use Rattle.iofd_rows.specs.Pinned.{ArePinned, share_in_files}
use Rattle.iofd_words.specs.World.{World}
use Rattle.iofd_words.specs.FirstTrue.{first_true}
use Rattle.iofd_steps.specs.Look.{query_checks}
use Rattle.iofd_words.specs.Record.{Record}
use Rattle.iofd_words.specs.View.{view}
use Rattle.iofd_words.specs.declared.event.Event.{Event}
use Rattle.iofd_words.specs.declared.query.Query.{Query}
use Rattle.iofd_words.specs.declared.numbers.FrameNo.{FrameNo}
use Rattle.iofd_words.specs.declared.reply.Reply.{Reply}
use Rattle.iofd_steps.specs.Run.{Lawful, after}
use Rattle.iofd_words.specs.Tables.{MovesTables, with_tables}
use Rattle.iofd_words.specs.declared.numbers.PassNo.{PassNo}
use Rattle.server_state.specs.Choice.{AreFramesChosen, IsChosen, MayUse, NoneIdle}
use Rattle.server_state.specs.Shows.{Shows}
use Rattle.server_state.specs.declared.state.State.{State}

-- the world of a run: what laws say of it, at the position of the next record
pub record IsTidy (at : ℕ) (w : World) : Type 0 where
  pub pins : ArePinned at w
  -- areas share memory with areas of their own file alone
  pub own : share_in_files w.areas ≡ true
  pub debts : DebtsAttached w
  pub ids : have_own_ids w.objects ≡ true
  pub rise : objects_rise w.objects ≡ true
  -- each device is bound by at most one object
  pub once : AreBoundOnce w.objects
  pub fit : RowsFit w
  -- memory is of the users of its areas' files
  pub owned : AreasOwned w
  -- areas of an address space have no address in common, and lie in addresses that can be used
  pub apart : are_apart w.areas ≡ true
  pub usable : AreasUsable w
  -- each page table has the tables that it needs
  pub tabled : AreTabled w
  -- and below its root none without an area: by what this server chooses, and not of every run
  pub used : NoneIdle w
  -- access pins are of whole pages, and few, as objects and areas are
  pub pins_fit : AccessPinsFit w
  pub few : RowsFew w

-- a record that took and gave back these frames for tables
abbrev pub recorded : {A : Type 0} → PassNo → Event A → Reply → List FrameNo → List FrameNo → Record A
recorded pass event reply taken given =
    record { pass = pass; event = event; reply = reply; taken = taken; given = given }

module _ {A : Type 0} where
  -- a world of a run is shown
  pub record IsKnown (s : State A) : Type 0 where
    pub at : ℕ
    pub world : World
    pub tidy : IsTidy at world
    pub shows : Shows world s

  -- and nothing refuses the event there, at this position
  pub record IsGrantedAt (at : ℕ) (event : Event A) (s : State A) : Type 0 where
    pub world : World
    pub tidy : IsTidy at world
    pub shows : Shows world s
    pub none : refusal world event ≡ None

  -- at some position
  pub record IsGranted (event : Event A) (s : State A) : Type 0 where
    pub at : ℕ
    pub granted : IsGrantedAt at event s

  -- and a cached frame is one at which the policy lets the event pass
  pub record IsGrantedFor (at : ℕ) (event : Event A) (via : Option FrameNo) (s : State A) : Type 0 where
    pub granted : IsGrantedAt at event s
    pub may : MayUse granted.world event via

  pub record IsGrantedVia (event : Event A) (via : Option FrameNo) (s : State A) : Type 0 where
    pub at : ℕ
    pub granted : IsGrantedFor at event via s

  -- the event is asked for at this position, with such a frame if nothing refuses it
  pub record IsCalled (at : ℕ) (event : Event A) (via : Option FrameNo) (s : State A) : Type 0 where
    pub world : World
    pub tidy : IsTidy at world
    pub shows : Shows world s
    pub may : refusal world event ≡ None → MayUse world event via

  -- nothing refuses the question there
  pub record IsAsked (query : Query) (s : State A) : Type 0 where
    pub known : IsKnown s
    pub none : first_true (query_checks (view known.world) query) ≡ None

  -- an event that nothing refuses, and that moves no frames of tables, is answered so, and the world after it is shown
  abbrev pub Steps : ℕ → Event A → State A → Reply → State A → Type 0
  Steps at event old reply new =
      (w : World) → IsTidy at w → Shows w old → refusal w event ≡ None
      → Answers w event reply × Shows (changed at w event reply) new

  -- the same world is shown
  abbrev pub ShowsSame : State A → State A → Type 0
  ShowsSame old new = (w : World) → Shows w old → Shows w new

  -- the same world of a run is shown
  abbrev pub TidyShowsSame : ℕ → State A → State A → Type 0
  TidyShowsSame at old new = (w : World) → IsTidy at w → Shows w old → Shows w new

  -- the same of an event that may have a cached frame, and the reply is the one that is chosen
  abbrev pub ChosenSteps : ℕ → Event A → Option FrameNo → State A → Reply → State A → Type 0
  ChosenSteps at event via old reply new =
      (w : World) → IsTidy at w → Shows w old → refusal w event ≡ None → MayUse w event via
      → Answers w event reply × IsChosen w event via reply × Shows (changed at w event reply) new

  -- the same of one that takes and gives back these frames, which are those that are chosen
  abbrev pub MovingSteps : ℕ → Event A → Option FrameNo → State A → Reply → List FrameNo →
      List FrameNo → State A
      → Type 0
  MovingSteps at event via old reply taken given new =
      (w : World) → IsTidy at w → Shows w old → refusal w event ≡ None → MayUse w event via
      → Answers w event reply × IsChosen w event via reply
      × MovesTables w (changed at w event reply) event reply taken given
      × AreFramesChosen w (changed at w event reply) event reply taken given
      × Shows (with_tables taken given (changed at w event reply)) new

  -- whatever the event: its record is one that may be made, its reply and its frames are those that are chosen, and the
  -- world after it is shown
  abbrev pub Answered : ℕ → Event A → Option FrameNo → State A → Reply → List FrameNo → List FrameNo →
      State A → Type 0
  Answered at event via old reply taken given new =
      (pass : PassNo) (w : World) → IsTidy at w → Shows w old → (refusal w event ≡ None → MayUse w event via)
      → Lawful at w (recorded {A = A} pass event reply taken given)
      × (refusal w event ≡ None →
      IsChosen w event via reply × AreFramesChosen w (changed at w event reply) event reply taken given)
      × Shows (after at w (recorded {A = A} pass event reply taken given)) new
