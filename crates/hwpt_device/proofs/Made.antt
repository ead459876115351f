-- What is kept after a page table came shows the world with it.
use Rattle.std.proofs.Common.{◌≡◌, ◌+◌, ℕ, eqb, List, map, sym, ◌∙◌, ap, subst, arith}
use Rattle.std.specs.List.{count_by, list_all}
use Rattle.frame_memory.specs.Pool.{FramePool}
use Rattle.page_table_set.specs.PageTables.{AllStand, Hwpt, PageTables}
use Rattle.iofd_words.specs.Frames.{frame_at}
use Rattle.iofd_words.specs.World.{World}
use Rattle.iofd_words.specs.declared.rows.UserPage.{UserPage}
use Rattle.memory_objects.specs.Objects.{pins_on}
use Rattle.user_memory_rows.proofs.FramesFollow.{pins_same}
use Rattle.user_memory_rows.specs.Shown.{FramesShown, tables_in}
use Rattle.object_table.specs.Table.{Row}
use Rattle.server_state.specs.Held.{areas_at, object_of}
use Rattle.server_state.specs.Leads.{leads_of}
use Rattle.server_state.specs.Shows.{Shows, TablesShown}
use Rattle.server_state.specs.Tables.{has_own_width}
use Rattle.server_state.specs.Users.{users_at}
use Rattle.server_state.specs.declared.held.Held.{Held}
use Rattle.server_state.specs.declared.state.State.{State}
use Rattle.user_memory.specs.Memory.{Memory, reached}
use Rattle.hwpt_device.specs.Pinning.{Stays}

-- ---- room that is reserved isn't seen

-- the page tables are told by their list
tables_same : (w : World) (old new : PageTables) (pool : FramePool) → new.tables ≡ old.tables → TablesShown w old pool
    → TablesShown w new pool
tables_same w old new pool same shown = record {
  tables = ap (map (λ (h : Hwpt). h.object)) same ∙ shown.tables;
  widths = ap (list_all has_own_width) same ∙ shown.widths;
  stand = subst (AllStand pool w.table_frames (leads_of w)) (sym same) shown.stand;
}

module _ {A : Type 0} where
  pub reserved_unseen : (w : World) (s new : State A) → new.objects.rows ≡ s.objects.rows
      → new.objects.files ≡ s.objects.files → new.page_tables.tables ≡ s.page_tables.tables
      → new ≡ record s { objects = new.objects; page_tables = new.page_tables } → Shows w s → Shows w new
  reserved_unseen w s new rows files tables others shows =
      subst (Shows w) (sym others) (record {
        settings = shows.settings;
        limits = shows.limits;
        dirty = shows.dirty;
        allowed = shows.allowed;
        objects = record {
          rows = shows.objects.rows ∙ ap (map object_of) (sym rows);
          spaces = λ f i. shows.objects.spaces f i ∙ ap (λ (l : List (Row (Held A))). areas_at l f i) (sym rows);
          files = λ number. rw files (shows.objects.files number);
          counted = λ f i. ap (λ (l : List (Row (Held A))). users_at l f i) rows ∙ shows.objects.counted f i;
          accesses = shows.objects.accesses;
        };
        devices = shows.devices;
        users = shows.users;
        pins = shows.pins;
        access_pins = shows.access_pins;
        frames = shows.frames;
        tables = tables_same w s.page_tables new.page_tables s.pool tables shows.tables;
      })

  -- ---- where memory was wanting nothing is seen to have changed

  frames_stay : (w : World) (s : State A) (after : Memory) → ((f : ℕ) → reached after f ≡ reached s.memory f)
      → FramesShown w.settings.pool w.writes w.table_frames s.memory s.pool
      → FramesShown w.settings.pool w.writes w.table_frames after s.pool
  frames_stay w s after same shown = record {
    size = shown.size;
    count = shown.count;
    full = λ f within some. shown.full f within (let is = same f in omega (arith, is, some));
    holds = λ f. shown.holds f ∙ ap (λ (n : ℕ). n + tables_in w.table_frames f) (sym (same f));
    once = shown.once;
    written =
        λ f offset within below some. shown.written f offset within below (let is = same f in omega (arith, is, some));
  }

  pub shows_stayed : (w : World) (s : State A) (after : Memory) (pool : FramePool) → Stays s.memory after s.pool pool
      → Shows w s → Shows w (record s { memory = after; pool = pool })
  shows_stayed w s after pool stays shows = record {
    settings = shows.settings;
    limits = stays.limits ∙ shows.limits;
    dirty = shows.dirty;
    allowed = shows.allowed;
    objects = shows.objects;
    devices = shows.devices;
    users = record {
      pages = λ u page. shows.users.pages u page ∙ ap (λ (l : List UserPage). frame_at l u page) (sym stays.pages);
      counts = λ test. shows.users.counts test ∙ ap (count_by test) (sym stays.pages);
    };
    pins = pins_same w.objects w.areas w.memory w.pins w.access_pins s.memory after shows.pins stays.objects;
    access_pins = shows.access_pins;
    frames = subst (FramesShown w.settings.pool w.writes w.table_frames after) (sym stays.pool)
        (frames_stay w s after same shows.frames);
    tables = subst (TablesShown w s.page_tables) (sym stays.pool) shows.tables;
  }
    where
      same : (f : ℕ) → reached after f ≡ reached s.memory f
      same f = ap (λ (l : List UserPage). count_by (λ page. eqb page.frame.0 f) l + pins_on after.objects f) stays.pages
          ∙ ap (λ (n : ℕ). count_by (λ page. eqb page.frame.0 f) s.memory.pages + n) (stays.objects.named f)
