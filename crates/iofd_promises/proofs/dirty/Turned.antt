-- Which record of a run turned tracking on.
use Rattle.std.proofs.Common.{true, List, [], ◌∷◌, ◌++◌, refl}
use Rattle.std.proofs.Common.{sym, ◌∙◌, subst, inl}
use Rattle.iofd_steps.specs.After.{changed}
use Rattle.iofd_steps.specs.Run.{IsRun, world_of}
use Rattle.iofd_words.specs.Record.{Record}
use Rattle.iofd_words.specs.Settings.{Settings}
use Rattle.iofd_words.specs.Tables.{with_tables}
use Rattle.iofd_words.specs.World.{World}
use Rattle.iofd_words.specs.declared.event.Event.TheVariants as event
use Rattle.iofd_words.specs.declared.numbers.FileNo.{FileNo}
use Rattle.iofd_words.specs.declared.numbers.ObjId.{ObjId}
use Rattle.iofd_words.specs.declared.reply.Reply.TheVariants as reply
use Rattle.iofd_promises.proofs.Steps.{by_event, run_before}
use Rattle.iofd_promises.specs.Marks.{HasTable, IsTracked, IsTurnedOn}
use Rattle.iofd_promises.specs.Marks.{Turns}
use Rattle.iofd_promises.proofs.dirty.OneMore.{grown, no_more, none_later, none_more, parts_more, stands_more}
use Rattle.iofd_promises.proofs.dirty.Records.{ByClear, ByTurn, ByWrite, ComesBy, Stays}
use Rattle.iofd_promises.proofs.dirty.Rows.{HasRow}
use Rattle.iofd_promises.proofs.dirty.Runs.{row_of_tracked, stays_later, step_comes}
use Rattle.iofd_promises.proofs.dirty.Runs.{tracked_of_row, run_first}
use Rattle.iofd_promises.proofs.dirty.There.{Any, has_table, with_any}

module _ {A : Type 0} (settings : Settings) (file : FileNo) (hwpt : ObjId) where
  abbrev Tracked : List (Record A) → Type 0
  Tracked records = HasRow (world_of settings records).tracked file hwpt Any

  abbrev TurnedOn : List (Record A) → Type 0
  TurnedOn records = IsRun settings records → Tracked records → IsTurnedOn settings records file hwpt

  module _ (before : List (Record A)) (c : Record A) (earlier : TurnedOn before)
      (run : IsRun settings (before ++ c ∷ [])) (table : HasTable (world_of settings (before ++ c ∷ [])) file hwpt)
    where
      abbrev w : World
      w = world_of settings before

      stays : Tracked before → (Turns c file hwpt → ⊥) → IsTurnedOn settings (before ++ c ∷ []) file hwpt
      stays has no_turn =
          let is = earlier (run_before settings before (c ∷ []) run) has in
          record {
            before = is.before;
            r = is.r;
            later = is.later ++ c ∷ [];
            parts = parts_more settings before c file hwpt is.before is.r is.later is.parts;
            asked = is.asked;
            done = is.done;
            not_turned = none_more settings before c file hwpt is.before is.r is.later is.parts
                (λ d. Turns d file hwpt) is.not_turned no_turn;
            stands = stands_more settings before c file hwpt is.before is.r is.later is.parts is.stands table;
          }

      by_origin : ComesBy w c.event c.reply file hwpt Any → IsTurnedOn settings (before ++ c ∷ []) file hwpt
      by_origin (Stays has no_turn no_clear) = stays has (λ turns. no_turn turns.on turns.asked turns.done)
      by_origin (ByTurn asked done any) = record {
        before = before;
        r = c;
        later = [];
        parts = refl;
        asked = asked;
        done = done;
        not_turned = no_more (λ d. Turns d file hwpt);
        stands = none_later settings before c file hwpt table;
      }
      by_origin (ByWrite device iova bytes frame asked passed a found of_file of_table has) =
          stays (with_any w file hwpt _ has) (λ turns. let other = sym asked ∙ turns.asked in cc)
      by_origin (ByClear request words asked told of_table has) =
          stays (with_any w file hwpt _ has) (λ turns. let other = sym asked ∙ turns.asked in cc)

  turned_at : (records : List (Record A)) → TurnedOn records
  unfolding world_of
  turned_at = grown TurnedOn (λ run has. absurd has.there)
      (λ before c earlier run has.
      by_origin before c earlier run (has_table settings (before ++ c ∷ []) file hwpt run has)
      (step_comes settings before c file hwpt Any run has))

pub turned_of : {A : Type 0} (settings : Settings) (records : List (Record A)) (file : FileNo) (hwpt : ObjId)
    → IsRun settings records → IsTracked (world_of settings records) file hwpt
    → IsTurnedOn settings records file hwpt
turned_of settings records file hwpt run is =
    turned_at settings file hwpt records run (row_of_tracked (world_of settings records) file hwpt is)

pub tracked_after : {A : Type 0} (settings : Settings) (records : List (Record A)) (file : FileNo) (hwpt : ObjId)
    → IsRun settings records → IsTurnedOn settings records file hwpt
    → IsTracked (world_of settings records) file hwpt
unfolding changed with_tables
tracked_after {A = A} settings records file hwpt run is =
    tracked_of_row (world_of settings records) file hwpt Any
    (subst (λ (l : List (Record A)). HasRow (world_of settings l).tracked file hwpt Any) (sym is.parts)
    (stays_later settings is.before is.r is.later run_all file hwpt Any is.not_turned is.stands
    (λ page pages any. any) (λ w c listed request words none asked told of_table pages any. any) here))
  where
    run_all : IsRun settings (is.before ++ is.r ∷ is.later)
    run_all = subst (IsRun settings) is.parts run

    here : HasRow (world_of settings (is.before ++ is.r ∷ [])).tracked file hwpt Any
    here = by_event settings is.before is.r (run_first settings is.before is.r is.later run_all)
        (λ new. HasRow new.tracked file hwpt Any) (event.DirtyEnable file hwpt true) reply.Done refl is.asked is.done
        (λ none answers. record {
          row = record { file = file; hwpt = hwpt; pages = [] };
          there = inl refl;
          of_file = refl;
          of_table = refl;
          pages = tt;
        })
