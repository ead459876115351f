-- Which frames of tables a record moves, told over the world that its event has left.
use Rattle.std.specs.Prelude.{◌≡◌, ℕ, Bool, true, false, ◌==◌, ◌&&◌, ◌||◌, not, Option, Some, None, List, ◌++◌, length}
use Rattle.std.specs.List.{list_all, list_any}
use Rattle.iofd_steps.specs.After.{changed}
use Rattle.iofd_steps.specs.Answers.{Answers}
use Rattle.iofd_refusals.specs.Checks.{refusal}
use Rattle.iofd_words.specs.Frames.{is_free}
use Rattle.iofd_words.specs.Objects.{kind_of}
use Rattle.iofd_words.specs.Tables.{are_different, are_rising, in_frames, is_among, is_below_root, is_idle}
use Rattle.iofd_words.specs.Tables.{kept_tables, MissingTable}
use Rattle.iofd_words.specs.World.{World}
use Rattle.iofd_words.specs.declared.event.Event.{Event}
use Rattle.iofd_words.specs.declared.event.Event.TheVariants as event
use Rattle.iofd_words.specs.declared.numbers.FileNo.{FileNo}
use Rattle.iofd_words.specs.declared.numbers.FrameNo.{FrameNo}
use Rattle.iofd_words.specs.declared.numbers.ObjId.{ObjId}
use Rattle.iofd_words.specs.declared.reply.Reply.{Reply}
use Rattle.iofd_words.specs.declared.reply.Reply.TheVariants as reply
use Rattle.iofd_words.specs.declared.rows.Area.{Area}
use Rattle.iofd_words.specs.declared.rows.Object.{Object}
use Rattle.iofd_words.specs.declared.rows.TableFrame.{TableFrame}
use Rattle.journal_audit_events.specs.Gone.{gone_with, is_gone}
use Rattle.journal_audit_events.specs.declared.gone.Gone.{Gone}
use Rattle.journal_audit_tables.specs.Coming.{coming_with, missing_with}
use Rattle.journal_audit_tables.specs.declared.coming.Coming.{Coming}
use Rattle.journal_audit_world.specs.Kept.{IsKept}
use Rattle.journal_audit_world.specs.Unwritten.{unwritten}

-- ---- given back

-- the address space whose idle tables may go: that of an UNMAP that answers bytes
abbrev pub thinned_by : {A : Type 0} → Event A → Reply → Option (FileNo × ObjId)
thinned_by (event.Unmap file request) (reply.Bytes count) = Some (file, request.ioas)
thinned_by e answer = None

-- below the root of a page table over the address space
abbrev pub is_below : List Object → ObjId → TableFrame → Bool
is_below objects ioas table =
    elim (kind_of objects table.file table.hwpt) [ Some kind ↦ is_below_root ioas table kind | None ↦ false ]

abbrev pub is_idle_in : List Object → List Area → Option (FileNo × ObjId) → TableFrame → Bool
is_idle_in objects areas None table = false
is_idle_in objects areas (Some space) table = is_idle objects areas space.0 space.1 table

-- the row goes, or may
abbrev pub may_give : Gone → List Object → List Area → Option (FileNo × ObjId) → TableFrame → Bool
may_give gone objects areas space table = is_gone gone table || is_idle_in objects areas space table

-- the frames rise; those of rows that go are among them, and each is that of a row that goes or may
abbrev pub are_given : Gone → Option (FileNo × ObjId) → World → List FrameNo → Bool
are_given gone space left given =
    are_rising given
    && (list_all (λ table. not (is_gone gone table) || is_among given table.frame) left.table_frames
    && list_all (λ frame. list_any (λ table. table.frame.0 == frame.0
    && may_give gone left.objects left.areas space table) left.table_frames) given)

-- ---- taken too

-- the world without the tables in these frames
abbrev pub without_given : List FrameNo → World → World
without_given given left = record left { table_frames = kept_tables given left.table_frames }

-- one frame is taken for each table that is missing
abbrev pub is_enough : Coming → World → List FrameNo → Bool
is_enough what left taken = length taken == length (missing_with what left.objects left.areas left.table_frames)

-- and these stand in them
abbrev pub row_of : MissingTable → FrameNo → TableFrame
row_of missing frame =
    record {
      file = missing.file;
      hwpt = missing.hwpt;
      level = missing.place.level;
      first = record { 0 = missing.place.first };
      frame = frame;
    }

abbrev pub taken_world : Coming → World → List FrameNo → World
taken_world what left taken =
    record left {
      table_frames = left.table_frames ++ in_frames (missing_with what left.objects left.areas left.table_frames) taken;
    }

-- ---- for a record

-- a world in which nothing refused the event, whose answer is lawful, and which the event has made this one; what goes
-- and comes with it, and that the frames it takes were free
pub record IsLeftBy {A : Type 0} (at : ℕ) (w left : World) (e : Event A) (answer : Reply) (taken : List FrameNo)
    (gone : Gone) (what : Coming) : Type 0 where
  pub kept : IsKept at w
  pub granted : refusal w e ≡ None
  pub answers : Answers w e answer
  pub changed : unwritten left ≡ unwritten (changed at w e answer)
  pub goes : gone ≡ gone_with w e
  pub comes : what ≡ coming_with w e answer
  pub free : (list_all (λ frame. is_free w.settings.pool w.user_pages w.pins w.table_frames frame.0) taken
      && are_different taken) ≡ true
