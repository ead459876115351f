-- Frames of the pool that hold the tables of page tables: which a step takes, and which it gives back. A step takes a
-- frame for each table that is needed and has none; a table goes with its page table. An UNMAP that answers bytes may
-- give back tables that no area needs any more.
use Rattle.std.specs.Prelude.{◌≡◌, ◌+◌, ◌*◌, ◌^◌, Bool, true, false, ◌==◌, ◌&&◌, ◌||◌}
use Rattle.std.specs.Prelude.{not, nat_lt, Some, None, List}
use Rattle.std.specs.Prelude.{[], ◌∷◌, ◌++◌, filter, length, map}
use Rattle.std.specs.List.{flat_map, list_all, list_any}
use Rattle.iofd_words.specs.Areas.{areas_meet, areas_of}
use Rattle.iofd_words.specs.Bounds.{Bounds}
use Rattle.iofd_words.specs.Frames.{is_free}
use Rattle.iofd_words.specs.Levels.{levels_of}
use Rattle.iofd_words.specs.Objects.{kind_of, is_hwpt}
use Rattle.iofd_words.specs.Span.{span_from}
use Rattle.iofd_words.specs.TablePlaces.{TablePlace, has_table, lacking, live_pages, places_of}
use Rattle.iofd_words.specs.World.{World}
use Rattle.iofd_words.specs.declared.event.Event.{Event}
use Rattle.iofd_words.specs.declared.event.Event.TheVariants as event
use Rattle.iofd_words.specs.declared.numbers.FileNo.{FileNo}
use Rattle.iofd_words.specs.declared.numbers.FrameNo.{FrameNo}
use Rattle.iofd_words.specs.declared.numbers.ObjId.{ObjId}
use Rattle.iofd_words.specs.declared.reply.Reply.{Reply}
use Rattle.iofd_words.specs.declared.reply.Reply.TheVariants as reply
use Rattle.iofd_words.specs.declared.rows.Area.{Area}
use Rattle.iofd_words.specs.declared.rows.Object.{Object}
use Rattle.iofd_words.specs.declared.rows.ObjectKind.{ObjectKind}
use Rattle.iofd_words.specs.declared.rows.ObjectKind.TheVariants as kind
use Rattle.iofd_words.specs.declared.rows.TableFrame.{TableFrame}

-- ---- the tables that have no frame

-- a table of a file's page table that is needed and has no frame
pub record MissingTable : Type 0 where
  pub file : FileNo
  pub hwpt : ObjId
  pub place : TablePlace

-- those of an object: a page table has them for the pages of the live areas of its address space, another object has
-- none
abbrev pub missing_of_kind : List Area → List TableFrame → FileNo → ObjId → ObjectKind → List MissingTable
missing_of_kind areas tables file id kind.Ioas = []
missing_of_kind areas tables file id (kind.Hwpt ioas width automatic) =
    map (λ place. record { file = file; hwpt = id; place = place })
    (lacking (has_table tables file id) (places_of width (live_pages (areas_of areas file ioas))))
missing_of_kind areas tables file id (kind.Device device) = []
missing_of_kind areas tables file id (kind.Access attached) = []

abbrev pub missing_of : List Area → List TableFrame → Object → List MissingTable
missing_of areas tables object = missing_of_kind areas tables object.file object.id object.kind

-- those of all page tables: by rising file and then by rising id, of each by rising first address and then from the
-- root down
abbrev pub missing_tables : List Object → List Area → List TableFrame → List MissingTable
missing_tables objects areas tables = flat_map (missing_of areas tables) objects

-- these tables in these frames, in turn
abbrev pub in_frames : List MissingTable → List FrameNo → List TableFrame
in_frames [] frames = []
in_frames (missing ∷ rest) [] = []
in_frames (missing ∷ rest) (frame ∷ frames) =
    record {
      file = missing.file;
      hwpt = missing.hwpt;
      level = missing.place.level;
      first = record { 0 = missing.place.first };
      frame = frame;
    } ∷ in_frames rest frames

-- ---- lists of frames

abbrev pub is_among : List FrameNo → FrameNo → Bool
is_among frames frame = list_any (λ other. other.0 == frame.0) frames

-- each is there once
abbrev pub are_different : List FrameNo → Bool
are_different [] = true
are_different (frame ∷ frames) = not (is_among frames frame) && are_different frames

abbrev pub are_rising : List FrameNo → Bool
are_rising [] = true
are_rising (frame ∷ frames) = list_all (λ other. nat_lt frame.0 other.0) frames && are_rising frames

-- ---- the tables that go

-- its page table isn't there any more
abbrev pub is_orphan : List Object → TableFrame → Bool
is_orphan objects table =
    elim (kind_of objects table.file table.hwpt) [ Some kind ↦ not (is_hwpt kind) | None ↦ true ]

-- the addresses that go through it
abbrev pub span_of_table : TableFrame → Bounds
span_of_table table = span_from table.first.0 (2 ^ (9 * table.level + 12))

-- it is below the root of a page table over the address space
abbrev pub is_below_root : ObjId → TableFrame → ObjectKind → Bool
is_below_root ioas table kind.Ioas = false
is_below_root ioas table (kind.Hwpt over width automatic) = over.0 == ioas.0 && not (table.level == levels_of width)
is_below_root ioas table (kind.Device device) = false
is_below_root ioas table (kind.Access attached) = false

-- and no page of an area goes through it, whatever the area's phase
abbrev pub is_idle : List Object → List Area → FileNo → ObjId → TableFrame → Bool
is_idle objects areas file ioas table =
    table.file.0 == file.0
    && elim (kind_of objects table.file table.hwpt) [ Some kind ↦ is_below_root ioas table kind | None ↦ false ]
    && not (areas_meet (span_of_table table) (areas_of areas file ioas))

-- an UNMAP that answers bytes may give back tables that are idle then
abbrev pub may_go : {A : Type 0} → World → Event A → Reply → TableFrame → Bool
may_go w (event.Unmap file request) (reply.Bytes count) table = is_idle w.objects w.areas file request.ioas table
may_go w e answer table = false

-- ---- the tables after a step

-- the tables that stay where these frames are given back
abbrev pub kept_tables : List FrameNo → List TableFrame → List TableFrame
kept_tables given tables = filter (λ table. not (is_among given table.frame)) tables

-- and then those that are missing, in the frames that are taken
abbrev pub tables_after : List FrameNo → List FrameNo → World → List TableFrame
tables_after taken given w =
    kept_tables given w.table_frames
    ++ in_frames (missing_tables w.objects w.areas (kept_tables given w.table_frames)) taken

-- the world with the tables that are left when these frames were taken and given back
unfoldable pub with_tables : List FrameNo → List FrameNo → World → World
with_tables taken given w = record w { table_frames = tables_after taken given w }

-- what the step from a world to the one that the event has left may take and give back
pub record MovesTables {A : Type 0} (w left : World) (e : Event A) (answer : Reply)
    (taken given : List FrameNo) : Type 0 where
  -- a frame for each table that is missing, each another one that is free
  pub enough : length taken ≡ length (missing_tables left.objects left.areas (kept_tables given left.table_frames))
  pub free : list_all (λ frame. is_free w.settings.pool w.user_pages w.pins w.table_frames frame.0) taken ≡ true
  pub different : are_different taken ≡ true
  -- the tables of page tables that are gone, and others that may go, by rising frame
  pub gone :
      list_all (λ table. not (is_orphan left.objects table) || is_among given table.frame) w.table_frames ≡ true
  pub may : list_all (λ frame. list_any
      (λ table. table.frame.0 == frame.0 && (is_orphan left.objects table || may_go left e answer table))
      w.table_frames) given ≡ true
  pub rising : are_rising given ≡ true
