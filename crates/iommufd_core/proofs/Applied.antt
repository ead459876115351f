-- What applying an event makes of what a core keeps.
use Rattle.std.proofs.Common.{◌≡◌, ℕ, true, is_none, Option, Some, None, List, [], ◌∷◌}
use Rattle.std.proofs.Common.{◌++◌, length, refl, sym, ◌∙◌, subst}
use Rattle.std.specs.List.{list_any}
use Rattle.std.specs.Option.{option_map}
use Rattle.iofd_rows.proofs.Bools.{and_true}
use Rattle.iofd_steps.specs.After.{changed}
use Rattle.iofd_refusals.specs.Checks.{refusal}
use Rattle.iofd_words.specs.Policy.{outcomes}
use Rattle.iofd_steps.specs.Run.{IsAnswer, IsRun, Lawful, after, after_answer, world_of}
use Rattle.iofd_words.specs.Record.{Record}
use Rattle.iofd_words.specs.Tables.{with_tables}
use Rattle.iofd_words.specs.World.{World}
use Rattle.iofd_words.specs.declared.event.Event.{Event}
use Rattle.iofd_words.specs.declared.event.Event.TheVariants as event
use Rattle.iofd_words.specs.declared.fault.AccessKind.TheVariants.{Write}
use Rattle.iofd_words.specs.declared.numbers.DeviceNo.{DeviceNo}
use Rattle.iofd_words.specs.declared.numbers.FrameNo.{FrameNo}
use Rattle.iofd_words.specs.declared.numbers.PassNo.{PassNo}
use Rattle.iofd_words.specs.declared.refusal.Cause.{Cause}
use Rattle.iofd_words.specs.declared.reply.Reply.{Reply}
use Rattle.iofd_runs.proofs.OneMore.{run_more, world_more}
use Rattle.iofd_runs.proofs.PassFound.{pass_found}
use Rattle.iofd_runs.specs.Fits.{RowsFit}
use Rattle.server_state.proofs.KeepsUsed.{keeps_used}
use Rattle.iofd_runs.proofs.SameSettings.{changed_settings}
use Rattle.iommufd_core.proofs.Counted.{one_counted}
use Rattle.iommufd_core.proofs.Histories.{fit_run, tidy_run}
use Rattle.server_state.specs.Choice.{AreFramesChosen, IsChosen, MayUse, NoneIdle}
use Rattle.iommufd_core.specs.History.{History, may_apply, world}
use Rattle.iofd_words.specs.Policy.{is_pass_at}
use Rattle.server_state.specs.Step.{recorded}
use Rattle.iommufd_core.specs.Kept.{IsKept}
use Rattle.iommufd_core.specs.TurnCounts.{AreTurns, count_for, counted_with}
use Rattle.server_state.specs.Shows.{Shows}
use Rattle.server_state.specs.Step.{Answered, IsTidy, TidyShowsSame}
use Rattle.server_state.specs.declared.state.State.{State}

-- ---- no event changes what the core was opened with

after_settings : {A : Type 0} (at : ℕ) (w : World) (r : Record A) → (after at w r).settings ≡ w.settings
unfolding after with_tables
after_settings at w r = by_cause (refusal w r.event)
  where
    by_cause : (o : Option Cause) → (after_answer at w r o).settings ≡ w.settings
    by_cause None = changed_settings at w r.event r.reply
    by_cause (Some cause) = refl

-- ---- a cached frame is one at which the policy lets the write pass

pub may_use : {A : Type 0} (h : History A) (e : Event A) (via : Option FrameNo) → may_apply h e via ≡ true
    → MayUse (world h) e via
may_use h e None is = tt
may_use h (event.DeviceWrite device iova bytes) (Some frame) is =
    pass_found frame (outcomes (world h) device iova.0 Write)
    (and_true (is_none _) (list_any (is_pass_at frame) (outcomes (world h) device iova.0 Write)) is).1
may_use h e (Some frame) is = cc

-- ---- no table is idle after the record

module _ {A : Type 0} (at : ℕ) (w : World) (r : Record A) (tidy : IsTidy at w) (lawful : Lawful at w r)
    (chosen : refusal w r.event ≡ None
    → AreFramesChosen w (changed at w r.event r.reply) r.event r.reply r.taken r.given) (fit : RowsFit (after at w r)) where
  used_after : NoneIdle (after at w r)
  unfolding after Lawful with_tables
  used_after = by_cause (refusal w r.event) refl lawful.0 fit
    where
      by_cause : (o : Option Cause) → refusal w r.event ≡ o → IsAnswer w r o → RowsFit (after_answer at w r o)
          → NoneIdle (after_answer at w r o)
      by_cause None none answers fit = keeps_used at w r.event r.reply r.taken r.given none answers (chosen none) tidy.ids
          tidy.tabled tidy.debts.areas fit.starts tidy.used
      by_cause (Some cause) none answers fit = tidy.used

-- ---- the fields

module _ {A : Type 0} (old new : State A) (counts : List ℕ) (records : List (Record A))
    (kept : IsKept old counts records) where
  same_config : (w : World) → Shows (world_of old.config records) old → Shows w new
      → w.settings ≡ (world_of old.config records).settings → new.config ≡ old.config
  same_config w shows shown same = sym shown.settings ∙ same ∙ shows.settings

  pub unchanged_config : TidyShowsSame (length records) old new → new.config ≡ old.config
  unchanged_config stays = same_config (world_of old.config records) kept.shows
      (stays (world_of old.config records) (tidy_run old.config records kept.run kept.used) kept.shows) refl

  pub unchanged_kept : TidyShowsSame (length records) old new → IsKept new counts records
  unchanged_kept stays =
      let config = unchanged_config stays in
      record {
        run = rw config kept.run;
        shows = subst (λ settings. Shows (world_of settings records) new) (sym config)
            (stays (world_of old.config records) (tidy_run old.config records kept.run kept.used) kept.shows);
        used = rw config kept.used;
        turns = subst (λ settings. AreTurns counts settings records) (sym config) kept.turns;
      }

  module _ (pass : PassNo) (e : Event A) (via : Option FrameNo) (answer : Reply) (taken given : List FrameNo)
      (may : MayUse (world_of old.config records) e via)
      (answered : Answered (length records) e via old answer taken given new) where
    told : Lawful (length records) (world_of old.config records) (recorded {A = A} pass e answer taken given)
        × (refusal (world_of old.config records) e ≡ None
        → IsChosen (world_of old.config records) e via answer
        × AreFramesChosen (world_of old.config records)
        (changed (length records) (world_of old.config records) e answer) e answer taken given)
        × Shows (after (length records) (world_of old.config records) (recorded {A = A} pass e answer taken given)) new
    told = answered pass (world_of old.config records) (tidy_run old.config records kept.run kept.used) kept.shows (λ none. may)

    pub applied_config : new.config ≡ old.config
    applied_config =
        same_config (after (length records) (world_of old.config records) (recorded pass e answer taken given))
        kept.shows told.2
        (after_settings (length records) (world_of old.config records) (recorded pass e answer taken given))

    one_more : IsRun old.config (records ++ recorded pass e answer taken given ∷ [])
    one_more = run_more old.config records (recorded pass e answer taken given) kept.run told.0

    none_idle : NoneIdle (world_of old.config (records ++ recorded pass e answer taken given ∷ []))
    none_idle =
        let all : RowsFit (world_of old.config (records ++ recorded pass e answer taken given ∷ [])) =
        fit_run old.config (records ++ recorded pass e answer taken given ∷ []) one_more in
        let fit : RowsFit (after (length records) (world_of old.config records) (recorded pass e answer taken given)) =
        rw (world_more old.config records (recorded pass e answer taken given)) at all in
        rw (world_more old.config records (recorded pass e answer taken given))
        (used_after (length records) (world_of old.config records) (recorded pass e answer taken given)
        (tidy_run old.config records kept.run kept.used) told.0 (λ none. (told.1 none).1) fit)

    pub applied_kept : (later : List ℕ)
        → ((device : DeviceNo) → count_for later device
        ≡ option_map (counted_with e device) (count_for counts device))
        → IsKept new later (records ++ recorded pass e answer taken given ∷ [])
    applied_kept later counted =
        record {
          run = rw applied_config one_more;
          shows = subst (λ settings. Shows (world_of settings (records ++ recorded pass e answer taken given ∷ [])) new)
              (sym applied_config)
              (rw (world_more old.config records (recorded pass e answer taken given)) told.2);
          used = rw applied_config none_idle;
          turns = subst (λ settings. AreTurns later settings (records ++ recorded pass e answer taken given ∷ []))
              (sym applied_config)
              (one_counted counts later old.config records (recorded pass e answer taken given) kept.turns counted);
        }

    pub applied_chosen : refusal (world_of old.config records) e ≡ None
        → IsChosen (world_of old.config records) e via answer
    applied_chosen none = (told.1 none).0

    pub applied_frames : refusal (world_of old.config records) e ≡ None
        → AreFramesChosen (world_of old.config records)
        (changed (length records) (world_of old.config records) e answer) e answer taken given
    applied_frames none = (told.1 none).1
