use Rattle.std.proofs.Common.{◌≡◌, ℕ, ◌<◌, Bool, true, false, not, Option, Some, None, is_some, refl, sym, ◌∙◌, ap}
use Rattle.std.proofs.Common.{arith}
use Rattle.std.specs.List.{find, range_with_len}
use Rattle.std.specs.Option.{IsSome, option_map}
use Rattle.frame_memory.specs.UserPages.{user_page}
use Rattle.iofd_rows.proofs.Each.{in_found}
use Rattle.iofd_runs.proofs.NotRefused.{user_map_passed}
use Rattle.iofd_steps.specs.After.{changed}
use Rattle.iofd_steps.specs.Answers.{Answers}
use Rattle.iofd_words.specs.Frames.{is_free, without_frame}
use Rattle.iofd_words.specs.Pages.{page_of}
use Rattle.iofd_words.specs.View.{view}
use Rattle.iofd_words.specs.declared.numbers.FrameNo.{FrameNo}
use Rattle.iofd_words.specs.declared.reply.Reply.TheVariants as reply
use Rattle.server_state.proofs.ViewShown.{same_least}
use Rattle.user_memory_rows.proofs.Counts.{count_found}
use Rattle.user_memory_rows.proofs.FramesFollow.{given_shown, least_within, pins_same, users_more}
use Rattle.event_user_memory.proofs.UsersNamed.{more_named, tables_given}
use Rattle.server_state.specs.Leads.{leads_of}
use Rattle.event_user_memory.proofs.user_map.commit.Goals as goal

none_of : {X : Type 0} (o : Option X) → is_some o ≡ false → o ≡ None
none_of None is = refl
none_of (Some x) is = cc

some_of : {X : Type 0} (o : Option X) → is_some o ≡ true → IsSome o
some_of None is = cc
some_of (Some x) is = refl

found_of : (b : Bool) → not b ≡ false → b ≡ true
found_of true is = refl
found_of false is = cc

pub map_page-requires-clause-absent : goal.map_page-requires-clause-absent
map_page-requires-clause-absent g c =
    let known = c.requires.granted in
    let passed = user_map_passed (view known.world) c.args.user c.args.va
    known.none in
    sym (known.shows.users.pages c.args.user (page_of c.args.va)) ∙ none_of _ passed.unmapped

pub map_page-requires-clause-free : goal.map_page-requires-clause-free
map_page-requires-clause-free g c =
    let known = c.requires.granted in
    let w = known.world in
    let passed = user_map_passed (view w) c.args.user c.args.va
    known.none in
    let free = is_free w.settings.pool w.user_pages w.pins w.table_frames in
    let some : is_some (find (is_free w.settings.pool w.user_pages w.pins w.table_frames)
    (range_with_len 0 w.settings.pool)) ≡ true =
    found_of _ (sym (count_found free (range_with_len 0 w.settings.pool)) ∙ passed.roomy)
    in
    some_of _ (ap (λ (o : Option ℕ). is_some o) (sym (same_least w c.args.state.now known.shows)) ∙ some)

pub returns-clause-ok : goal.returns-clause-ok
unfolding changed Answers
returns-clause-ok g c = λ at via w tidy shows none may.
    let frame = c.in_ok-frame.frame in
    let old = c.args.state.now in
    let told = c.in_ok-frame.ensures in
    let least : find (is_free w.settings.pool w.user_pages w.pins w.table_frames) (range_with_len 0 w.settings.pool)
    ≡ Some c.in_ok-frame.frame.0 =
    same_least w c.args.state.now shows ∙ c.in_ok-frame.ensures.least
    in
    let free = (in_found (is_free w.settings.pool w.user_pages w.pins w.table_frames)
    (range_with_len 0 w.settings.pool) frame.0 least).1 in
    let held = least_within old.pool.holds frame.0 told.least in
    let size = shows.frames.size in
    let within : c.in_ok-frame.frame.0 < w.settings.pool = omega (arith, held, size) in
    let more = more_named old.memory c.map_page.new.self (user_page c.args.user (page_of c.args.va) frame) told.pages
    c.map_page.ensures.objects in
    let frames = given_shown w.settings.pool w.writes w.table_frames old.memory c.map_page.new.self old.pool
    frame.0 shows.frames within (rw c.in_ok-frame.ensures.pool at c.in_ok-frame.ensures.holds) more in (
      free,
      ap (λ (o : Option ℕ). option_map reply.Frame (elim o as (λ _.
          Option FrameNo) [ Some number ↦ Some (record { 0 = number }) | None ↦ None ])) least,
      record {
        settings = shows.settings;
        limits = c.map_page.ensures.limits ∙ shows.limits;
        dirty = shows.dirty;
        allowed = shows.allowed;
        objects = shows.objects;
        devices = shows.devices;
        users = users_more w.user_pages old.memory.pages c.map_page.new.self.pages
            (user_page c.args.user (page_of c.args.va) frame) shows.users told.pages;
        pins = pins_same w.objects w.areas w.memory w.pins w.access_pins old.memory c.map_page.new.self shows.pins
            c.map_page.ensures.objects;
        access_pins = shows.access_pins;
        frames = rw c.in_ok-frame.ensures.pool frames;
        tables = record {
          tables = shows.tables.tables;
          widths = shows.tables.widths;
          stand = rw c.in_ok-frame.ensures.pool (tables_given w.settings.pool w.writes
              (without_frame frame.0 w.writes) w.table_frames (leads_of w) old.page_tables.tables old.memory
              c.map_page.new.self old.pool frame.0 shows.tables.stand shows.frames frames told.least more);
        };
      },
    )
