-- What is tracked is a page table that is there.
use Rattle.std.proofs.Common.{◌≡◌, ℕ, Bool, true, Some, None, List, refl, ◌∙◌}
use Rattle.iofd_steps.specs.After.{changed}
use Rattle.iofd_steps.specs.Answers.{Answers}
use Rattle.iofd_refusals.specs.Checks.{refusal}
use Rattle.iofd_words.specs.Objects.{is_hwpt, kind_of}
use Rattle.iofd_steps.specs.Run.{IsRun, world_of}
use Rattle.iofd_words.specs.Record.{Record}
use Rattle.iofd_words.specs.Settings.{Settings}
use Rattle.iofd_words.specs.Tables.{with_tables}
use Rattle.iofd_words.specs.View.{view}
use Rattle.iofd_words.specs.World.{World, opening}
use Rattle.iofd_words.specs.declared.event.Event.{Event}
use Rattle.iofd_words.specs.declared.event.Event.TheVariants as event
use Rattle.iofd_words.specs.declared.numbers.FileNo.{FileNo}
use Rattle.iofd_words.specs.declared.numbers.ObjId.{ObjId}
use Rattle.iofd_words.specs.declared.reply.Reply.{Reply}
use Rattle.iofd_words.specs.declared.rows.Object.{Object}
use Rattle.iofd_words.specs.declared.rows.ObjectKind.{ObjectKind}
use Rattle.iofd_words.specs.declared.rows.ObjectKind.TheVariants as kind
use Rattle.iofd_words.specs.declared.width.Width.{Width}
use Rattle.iofd_rows.proofs.Named.{kind_kept, object_of_kind, some_passes}
use Rattle.iofd_runs.proofs.NotRefused.{dirty_enable_passed}
use Rattle.iofd_runs.proofs.Runs.{run_keeps}
use Rattle.iofd_promises.proofs.Rows.{contains}
use Rattle.iofd_promises.specs.Marks.{HasTable}
use Rattle.iofd_promises.proofs.dirty.Records.{ByClear, ByTurn, ByWrite, ComesBy, Stays, comes_by}
use Rattle.iofd_promises.proofs.dirty.Rows.{HasRow, row_was}
use Rattle.iofd_promises.proofs.dirty.TrackedMoves.{IsCleared, IsTurned, IsWrittenBy, SameTracked, SomeGo, TrackedMove}
use Rattle.iofd_promises.proofs.dirty.TrackedMoves.{tracked_moves}

-- whatever is marked
abbrev pub Any : List ℕ → Type 0
Any pages = Unit {0}

pub with_any : (w : World) (file : FileNo) (hwpt : ObjId) (P : List ℕ → Type 0) → HasRow w.tracked file hwpt P
    → HasRow w.tracked file hwpt Any
with_any w file hwpt P has = record {
  row = has.row;
  there = has.there;
  of_file = has.of_file;
  of_table = has.of_table;
  pages = tt;
}

abbrev TableThere : List Object → FileNo → ObjId → Type 0
TableThere objects file hwpt = (k : ObjectKind) × (is_hwpt k ≡ true) × (kind_of objects file hwpt ≡ Some k)

abbrev AllThere : World → Type 0
AllThere w = (file : FileNo) (hwpt : ObjId) → HasRow w.tracked file hwpt Any → TableThere w.objects file hwpt

-- where no page table goes
module _ {A : Type 0} (w : World) (e : Event A) (answer : Reply) (new : World) (none : refusal w e ≡ None)
    (all : AllThere w) (file : FileNo) (hwpt : ObjId) where
  by_origin : new.objects ≡ w.objects → ComesBy w e answer file hwpt Any → TableThere new.objects file hwpt
  by_origin same (Stays has no_turn no_clear) = rw same (all file hwpt has)
  by_origin same (ByWrite device iova bytes frame is passed a found of_file of_table has) =
      rw same (all file hwpt (with_any w file hwpt _ has))
  by_origin same (ByClear request words is told of_table has) = rw same (all file hwpt (with_any w file hwpt _ has))
  by_origin same (ByTurn is done p) =
      let none_of : refusal w (let x : Event A = event.DirtyEnable file hwpt true in x) ≡ None = rw is at none in
      let (k, named, table) = some_passes is_hwpt (kind_of w.objects file hwpt)
      (dirty_enable_passed (view w) file hwpt none_of).there in
      rw same (k, table, named)

  by_move : Answers w e answer → TrackedMove w e answer new → HasRow new.tracked file hwpt Any
      → TableThere new.objects file hwpt
  by_move answers (SameTracked is quiet stay) has =
      let (k, table, named) = all file hwpt (rw is at has) in (k, table, stay answers file hwpt k table named)
  by_move answers (SomeGo gone stays quiet is objects left kept) has =
      let (before, other) = row_was gone w.tracked file hwpt Any (rw is at has) in
      let (k, table, named) = all file hwpt before in (
        k,
        table,
        rw objects (kind_kept stays w.objects file hwpt k
            (λ object of_file of_id of_kind. kept object (rw (of_file, of_id) other)) named),
      )
  by_move answers (IsTurned own own_table on is done tracked objects) has =
      by_origin objects
      (comes_by w e answer new file hwpt Any (IsTurned own own_table on is done tracked objects) has)
  by_move answers (IsWrittenBy device iova bytes frame is passed tracked objects) has =
      by_origin objects
      (comes_by w e answer new file hwpt Any (IsWrittenBy device iova bytes frame is passed tracked objects) has)
  by_move answers (IsCleared own request words is told tracked objects) has =
      by_origin objects
      (comes_by w e answer new file hwpt Any (IsCleared own request words is told tracked objects) has)

all_there : {A : Type 0} (settings : Settings) (records : List (Record A)) → IsRun settings records
    → AllThere (world_of settings records)
unfolding IsRun world_of with_tables
all_there settings records run =
    run_keeps AllThere (λ w taken given all. all)
    (λ at w e answer none answers all file hwpt has. by_move w e answer (changed at w e answer) none all file hwpt
    answers (tracked_moves at w e answer) has) 0 (opening settings) records run (λ file hwpt has. absurd has.there)

hwpt_kind : (k : ObjectKind) → is_hwpt k ≡ true
    → (ioas : ObjId) × (width : Width) × (automatic : Bool) × (k ≡ kind.Hwpt ioas width automatic)
hwpt_kind (kind.Hwpt ioas width automatic) is = (ioas, width, automatic, refl)
hwpt_kind kind.Ioas is = cc
hwpt_kind (kind.Device device) is = cc
hwpt_kind (kind.Access attached) is = cc

pub has_table : {A : Type 0} (settings : Settings) (records : List (Record A)) (file : FileNo) (hwpt : ObjId)
    → IsRun settings records → HasRow (world_of settings records).tracked file hwpt Any
    → HasTable (world_of settings records) file hwpt
has_table settings records file hwpt run has =
    let w = world_of settings records in
    let (k, table, named) = all_there settings records run file hwpt has in
    let (object, found, there, of_file, of_id, of_kind) = object_of_kind w.objects file hwpt k named in
    let (ioas, width, automatic, is) = hwpt_kind k table in
    record {
      table = object;
      there = contains w.objects object there;
      of_file = of_file;
      of_id = of_id;
      ioas = ioas;
      width = width;
      automatic = automatic;
      is_table = of_kind ∙ is;
    }
