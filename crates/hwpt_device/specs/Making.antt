-- A page table that comes over an address space, and the one that is there for an attachment.
use Rattle.std.specs.Prelude.{◌≡◌, nat_lt, ℕ, Bool, true, false, Option, Some, None, List, [], length, IsTrue}
use Rattle.std.specs.List.{list_any}
use Rattle.std.specs.Option.{option_map}
use Rattle.iofd_steps.specs.After.{settle}
use Rattle.iofd_refusals.specs.Checks.{lacks_attached_page, passes_limit_attached}
use Rattle.iofd_words.specs.Files.{device_of}
use Rattle.iofd_words.specs.Objects.{automatic_hwpt, has_ioas, is_fresh, is_full, kind_of, with_object}
use Rattle.iofd_words.specs.Settings.{Settings}
use Rattle.iofd_words.specs.Span.{meets}
use Rattle.iofd_words.specs.TablePlaces.{lacking, live_pages, places_of}
use Rattle.iofd_words.specs.Tables.{MissingTable, missing_tables, with_tables}
use Rattle.iofd_words.specs.Usable.{beyond}
use Rattle.iofd_words.specs.View.{View, view}
use Rattle.iofd_words.specs.World.{World}
use Rattle.iofd_words.specs.declared.numbers.DeviceNo.{DeviceNo}
use Rattle.iofd_words.specs.declared.numbers.FileNo.{FileNo}
use Rattle.iofd_words.specs.declared.numbers.FrameNo.{FrameNo}
use Rattle.iofd_words.specs.declared.numbers.ObjId.{ObjId}
use Rattle.iofd_words.specs.declared.rows.Object.{Object}
use Rattle.iofd_words.specs.declared.rows.ObjectKind.{ObjectKind}
use Rattle.iofd_words.specs.declared.rows.ObjectKind.TheVariants as kind
use Rattle.iofd_words.specs.declared.width.Width.{Width}
use Rattle.server_state.specs.Choice.{least_free}
use Rattle.server_state.specs.Shows.{Shows}
use Rattle.server_state.specs.Step.{IsTidy}
use Rattle.server_state.specs.declared.state.State.{State}

-- the width of a device's addresses
abbrev pub width_of : Settings → DeviceNo → Option Width
width_of settings device = elim (device_of settings device) [ Some device ↦ Some device.width | None ↦ None ]

-- the page table that is there for an attachment, by what is named: itself, or an automatic one of the width over it
abbrev pub named_table : List Object → FileNo → ObjId → Width → Option ObjectKind → Option ObjId
named_table objects file pt_id width (Some (kind.Hwpt ioas of automatic)) = Some pt_id
named_table objects file pt_id width (Some kind.Ioas) =
    option_map (λ object. object.id) (automatic_hwpt objects file pt_id width)
named_table objects file pt_id width (Some (kind.Device device)) =
    option_map (λ object. object.id) (automatic_hwpt objects file pt_id width)
named_table objects file pt_id width (Some (kind.Access attached)) =
    option_map (λ object. object.id) (automatic_hwpt objects file pt_id width)
named_table objects file pt_id width None = option_map (λ object. object.id) (automatic_hwpt objects file pt_id width)

abbrev pub table_there : List Object → FileNo → ObjId → Width → Option ObjId
table_there objects file pt_id width = named_table objects file pt_id width (kind_of objects file pt_id)

-- fewer frames are free than a new page table of this width has tables, which maps all live areas of the address space
abbrev pub lacks_tables : View → FileNo → ObjId → Width → Bool
lacks_tables v file ioas width =
    nat_lt v.free_count (length (lacking (λ place. false) (places_of width (live_pages (v.areas_of file ioas)))))

-- what a new page table of this width asks: that no area reaches beyond it, room in its file for one more object, of
-- the first over an address space that the pages it pins are there, and that its user may have so many pinned pages
-- more, and a free frame for each of its tables
pub record IsRoomy (v : View) (file : FileNo) (ioas : ObjId) (width : Width) : Type 0 where
  pub opened : v.is_open file ≡ true
  pub space : has_ioas v.objects file ioas ≡ true
  pub wide : list_any (λ area. meets (beyond width) area.span) (v.areas_of file ioas) ≡ false
  pub roomy : is_full v.objects file ≡ false
  pub present : lacks_attached_page v file ioas ≡ false
  pub within_limit : passes_limit_attached v file ioas ≡ false
  pub frames : lacks_tables v file ioas width ≡ false

abbrev pub made_object : FileNo → ObjId → ObjId → Width → Bool → Object
made_object file ioas id width automatic = record { file = file; id = id; kind = kind.Hwpt ioas width automatic }

-- the world with one more object, and the pins that follow
abbrev pub with_table : World → Object → World
with_table w object = settle w (record w { objects = with_object object w.objects })

-- the tables that are missing in it
abbrev pub missing_with : World → Object → List MissingTable
missing_with w object = missing_tables (with_object object w.objects) w.areas w.table_frames

module _ {A : Type 0} where
  -- a world of a run is shown in which one may come
  pub record MayCome (file : FileNo) (ioas : ObjId) (width : Width) (s : State A) : Type 0 where
    pub at : ℕ
    pub world : World
    pub tidy : IsTidy at world
    pub shows : Shows world s
    pub may : IsRoomy (view world) file ioas width

  -- one of this width came under an unused id. Its tables are in the least free frames, one for each that is missing in
  -- the world with it, and that world is shown with them
  abbrev pub IsMade : ℕ → FileNo → ObjId → Width → Bool → State A → ObjId → List FrameNo →
      State A → Type 0
  IsMade at file ioas width automatic old id taken new =
      (w : World) → IsTidy at w → Shows w old → IsRoomy (view w) file ioas width
      → IsTrue (is_fresh w.objects file id)
      × (taken ≡ least_free w (length taken))
      × (length taken ≡ length (missing_with w (made_object file ioas id width automatic)))
      × Shows (with_tables taken [] (with_table w (made_object file ioas id width automatic))) new
