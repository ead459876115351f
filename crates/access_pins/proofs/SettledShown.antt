-- Access pins come or go, and pins of pages follow: what is kept shows the world after it.
use Rattle.std.proofs.Common.{◌≡◌, ℕ, ◌+◌, ◌<◌, true, List, [], get_or, refl, ap, sym, ◌∙◌, arith}
use Rattle.std.specs.List.{count_by}
use Rattle.frame_memory.specs.Pool.{FramePool}
use Rattle.held_pins.specs.declared.pin.HeldPin.{HeldPin}
use Rattle.iofd_rows.specs.Pinned.{ArePinned}
use Rattle.iofd_steps.specs.After.{settle}
use Rattle.iofd_words.specs.Areas.{areas_of}
use Rattle.iofd_words.specs.Frames.{frame_at}
use Rattle.iofd_words.specs.Objects.{has_hwpt}
use Rattle.iofd_words.specs.Pins as pin
use Rattle.iofd_words.specs.Pins.{ObjectPage}
use Rattle.iofd_words.specs.World.{World}
use Rattle.iofd_words.specs.declared.numbers.FileNo.{FileNo}
use Rattle.iofd_words.specs.declared.numbers.ObjId.{ObjId}
use Rattle.iofd_words.specs.declared.rows.AccessPin.{AccessPin}
use Rattle.iofd_words.specs.declared.rows.MemoryObject.{MemoryObject}
use Rattle.page_table_set.specs.PageTables.{AllStand}
use Rattle.server_state.proofs.LeadsStay.{is_translated, lead_alike, pin_stays, spaces_alike}
use Rattle.server_state.proofs.TablesFollow.{tables_follow}
use Rattle.server_state.specs.AccessPins.{AccessPinsShown}
use Rattle.server_state.specs.Leads.{leads_of, live_area_at, object_page, space_leads}
use Rattle.server_state.specs.Shows.{Shows}
use Rattle.server_state.specs.Step.{IsTidy}
use Rattle.server_state.specs.declared.state.State.{State}
use Rattle.user_memory.specs.Changes.{Settles}
use Rattle.user_memory.specs.Memory.{Memory, access_pins, areas_over, rows_of, table_pins, reached}
use Rattle.user_memory_rows.proofs.FramesFollow.{frames_follow}
use Rattle.user_memory_rows.proofs.Named.{settles_named}
use Rattle.user_memory_rows.proofs.PinsFollow.{pins_follow}
use Rattle.user_memory_rows.specs.Shown.{FramesShown, PinsShown, accessed, has_page}

-- the world with these access pins
abbrev pub with_access_pins : World → List AccessPin → World
with_access_pins w pins = settle w (record w { access_pins = pins })

module _ {A : Type 0} (at : ℕ) (w : World) (s : State A) (tidy : IsTidy at w) (shows : Shows w s)
    (pins : List AccessPin) (kept : List HeldPin) (after : Memory) (pool : FramePool)
    (next : ArePinned (at + 1) (with_access_pins w pins)) (rows : rows_of after ≡ rows_of s.memory)
    (areas : (number : ℕ) → areas_over after number ≡ areas_over s.memory number)
    (tables : (number : ℕ) → table_pins after number ≡ table_pins s.memory number)
    (access : (page : ObjectPage) → has_page w.memory page ≡ true
    → access_pins after page ≡ accessed w.objects w.areas pins page)
    (settles : Settles s.memory after s.pool pool) (shown : AccessPinsShown w.objects pins kept) where
  abbrev new : World
  new = with_access_pins w pins

  pins_now : PinsShown w.objects w.areas w.memory new.pins pins after
  unfolding settle
  pins_now =
      pins_follow at (at + 1) w new s.memory after s.pool pool tidy.pins next shows.pins refl
      (λ user page. shows.users.pages user page ∙ ap (λ l. frame_at l user page) (sym settles.pages))
      (shows.pins.rows ∙ sym rows) (λ n. areas n ∙ shows.pins.areas n) (λ n. tables n ∙ shows.pins.tables n) access
      settles

  named : (f : ℕ) → 0 < reached after f → 0 < reached s.memory f
  named f some = settles_named s.memory after s.pool pool shows.pins.invariant.rising settles f some

  frames_now : FramesShown w.settings.pool w.writes w.table_frames after pool
  frames_now =
      frames_follow w.settings.pool w.writes w.table_frames s.memory after s.pool pool shows.frames settles.holds
      settles.bytes named

  stand : AllStand pool w.table_frames (leads_of w) s.page_tables.tables
  stand =
      tables_follow w.settings.pool w.writes w.writes w.table_frames (leads_of w) s.page_tables.tables s.memory after
      s.pool pool shows.tables.stand shows.frames frames_now (λ f held some. named f some)
      (λ f held none. ap (λ (all : List (List ℕ)). get_or all f []) settles.bytes)

  -- a page that a page table translates stays pinned where it was
  leads : (file : FileNo) (ioas : ObjId) (page : ℕ) → has_hwpt w.objects file ioas ≡ true
      → space_leads new.pins w.areas file ioas page ≡ space_leads w.pins w.areas file ioas page
  unfolding settle
  leads file ioas page has =
      lead_alike (pin.pinned_frame w.pins) (pin.pinned_frame new.pins) page
      (live_area_at page (areas_of w.areas file ioas)) (λ a found.
      let some = is_translated w.objects w.areas file ioas page a has found in
      let was = shows.pins.tables a.memory in
      let now = tables a.memory in
      pin_stays at w new s.memory after s.pool pool tidy.pins shows.pins pins_now settles (object_page page a)
      (ap (λ (l : List MemoryObject). has_page l (object_page page a)) rows) (omega (arith, some, was))
      (omega (arith, some, was, now)))

  pub settled_shown : Shows new (record s { access_pins = kept; memory = after; pool = pool })
  unfolding settle
  settled_shown = record {
    settings = shows.settings;
    limits = settles.limits ∙ shows.limits;
    dirty = shows.dirty;
    allowed = shows.allowed;
    objects = shows.objects;
    devices = shows.devices;
    users = record {
      pages = λ user page. shows.users.pages user page ∙ ap (λ l. frame_at l user page) (sym settles.pages);
      counts = λ test. shows.users.counts test ∙ ap (count_by test) (sym settles.pages);
    };
    pins = pins_now;
    access_pins = shown;
    frames = frames_now;
    tables = record {
      tables = shows.tables.tables;
      widths = shows.tables.widths;
      stand = spaces_alike w new w.objects s.page_tables.tables pool w.table_frames shows.tables.tables leads stand;
    };
  }
