use Rattle.std.proofs.Common.{◌≡◌, ℕ, ◌<◌, false, Option, Some, None, List, [], get_or, is_none, refl, sym, ◌∙◌, ap}
use Rattle.std.specs.Option.{IfSome, IsSome}
use Rattle.frame_memory.specs.UserPages.{HasOneMore, user_page}
use Rattle.iofd_runs.proofs.NotRefused.{user_unmap_passed}
use Rattle.iofd_steps.specs.After.{changed}
use Rattle.iofd_steps.specs.Answers.{Answers}
use Rattle.iofd_words.specs.Frames.{frame_at, without_page}
use Rattle.iofd_words.specs.Pages.{page_of}
use Rattle.iofd_words.specs.View.{view}
use Rattle.iofd_words.specs.declared.numbers.FrameNo.{FrameNo}
use Rattle.iofd_words.specs.declared.numbers.UserNo.{UserNo}
use Rattle.user_memory_rows.proofs.FramesFollow.{frames_follow, is_backed, pins_same, users_less}
use Rattle.user_memory_rows.specs.Shown.{UsersShown}
use Rattle.server_state.proofs.TablesFollow.{tables_follow}
use Rattle.server_state.specs.Leads.{leads_of}
use Rattle.user_memory.specs.Changes.{SameObjects}
use Rattle.user_memory.specs.Memory.{Memory, reached}
use Rattle.event_user_memory.proofs.UsersNamed.{less_named}
use Rattle.event_user_memory.proofs.user_unmap.commit.Goals as goal

some_of : {X : Type 0} (o : Option X) → is_none o ≡ false → IsSome o
some_of None is = cc
some_of (Some x) is = refl

pub unmap_page-requires-clause-present : goal.unmap_page-requires-clause-present
unmap_page-requires-clause-present g c =
    let known = c.requires.granted in
    let passed = user_unmap_passed (view known.world) c.args.user c.args.va
    known.none in
    some_of _ (ap (λ (o : Option FrameNo). is_none o) (sym (known.shows.users.pages c.args.user (page_of c.args.va)))
    ∙ passed.mapped)

pub unmap_page-requires-clause-backed : goal.unmap_page-requires-clause-backed
unmap_page-requires-clause-backed g c =
    let known = c.requires.granted in
    let w = known.world in
    is_backed w.settings.pool w.writes w.table_frames c.args.state.now.memory c.args.state.now.pool known.shows.frames

-- the page that the user has goes
gone : (rows : _) (old new : Memory) (user : UserNo) (page : _) (o : Option FrameNo) → IsSome o
    → UsersShown rows old.pages
    → IfSome o (λ frame. HasOneMore new.pages old.pages (user_page user page frame))
    → UsersShown (without_page rows user page) new.pages
gone rows old new user page None some shown has = cc
gone rows old new user page (Some frame) some shown has = users_less rows old.pages new.pages user page frame shown has

-- no frame is named that wasn't
named : (old new : Memory) (user : UserNo) (page : _) (o : Option FrameNo) → IsSome o
    → IfSome o (λ frame. HasOneMore new.pages old.pages (user_page user page frame))
    → SameObjects old new
    → (f : ℕ) → 0 < reached new f → 0 < reached old f
named old new user page None some has same = cc
named old new user page (Some frame) some has same = less_named old new (user_page user page frame) has same

pub returns : goal.returns
unfolding changed Answers
returns g c = λ at w tidy shows none.
    let old = c.args.state.now in
    let new = c.unmap_page.new in
    let passed = user_unmap_passed (view w) c.args.user c.args.va
    none in
    let some = some_of _ (ap (λ (o : Option FrameNo). is_none o)
    (sym (shows.users.pages c.args.user (page_of c.args.va))) ∙ passed.mapped) in
    let fewer = named old.memory new.self c.args.user (page_of c.args.va)
    (frame_at old.memory.pages c.args.user (page_of c.args.va)) some c.unmap_page.ensures.pages
    c.unmap_page.ensures.objects in
    let frames = frames_follow w.settings.pool w.writes w.table_frames old.memory new.self old.pool new.pool
    shows.frames c.unmap_page.ensures.holds c.unmap_page.ensures.bytes fewer in (
      tt,
      record {
        settings = shows.settings;
        limits = c.unmap_page.ensures.limits ∙ shows.limits;
        dirty = shows.dirty;
        allowed = shows.allowed;
        objects = shows.objects;
        devices = shows.devices;
        users = gone w.user_pages old.memory new.self c.args.user (page_of c.args.va)
            (frame_at old.memory.pages c.args.user (page_of c.args.va)) some shows.users c.unmap_page.ensures.pages;
        pins = pins_same w.objects w.areas w.memory w.pins w.access_pins old.memory new.self shows.pins
            c.unmap_page.ensures.objects;
        access_pins = shows.access_pins;
        frames = frames;
        tables = record {
          tables = shows.tables.tables;
          widths = shows.tables.widths;
          stand = tables_follow w.settings.pool w.writes w.writes w.table_frames (leads_of w) old.page_tables.tables
              old.memory new.self old.pool new.pool shows.tables.stand shows.frames frames (λ f held. fewer f)
              (λ f held none. ap (λ (all : List (List ℕ)). get_or all f []) c.unmap_page.ensures.bytes);
        };
      },
    )
