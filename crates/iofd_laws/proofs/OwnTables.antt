-- A table's frame is of the pool and of no other table, and no user's page and no pin has it.
use Rattle.std.proofs.Common.{◌≡◌, ℕ, Bool, true, false, cond, ◌&&◌, ◌||◌, ◌++◌, not, eqb, ltb, None}
use Rattle.std.proofs.Common.{List, [], ◌∷◌, length, refl, ap, ◌∙◌, subst}
use Rattle.std.specs.List.{filter, list_all, list_any}
use Rattle.std.proofs.lemmas.List.Folds.{list_all-append, list_any-append}
use Rattle.iofd_steps.specs.After.{changed, settle}
use Rattle.iofd_steps.specs.Answers.{Answers}
use Rattle.iofd_refusals.specs.Checks.{refusal}
use Rattle.iofd_words.specs.Frames.{is_free, is_reached}
use Rattle.iofd_words.specs.Policy.{outcomes}
use Rattle.iofd_words.specs.Settings.{Settings}
use Rattle.iofd_words.specs.Tables.{MissingTable, MovesTables, are_different, in_frames, is_among, is_orphan}
use Rattle.iofd_words.specs.Tables.{kept_tables, may_go, missing_tables, with_tables}
use Rattle.iofd_words.specs.World.{World, opening}
use Rattle.iofd_words.specs.declared.event.Event.{Event}
use Rattle.iofd_words.specs.declared.event.Event.TheVariants as event
use Rattle.iofd_words.specs.declared.fault.AccessKind.TheVariants.{Write}
use Rattle.iofd_words.specs.declared.numbers.FrameNo.{FrameNo}
use Rattle.iofd_words.specs.declared.reply.Reply.{Reply}
use Rattle.iofd_words.specs.declared.reply.Reply.TheVariants as reply
use Rattle.iofd_words.specs.declared.rows.Pin.{Pin}
use Rattle.iofd_words.specs.declared.rows.TableFrame.{TableFrame}
use Rattle.iofd_words.specs.declared.rows.UserPage.{UserPage}
use Rattle.iofd_rows.proofs.Bools.{and_true, both_false, both_true, clash, not_false, not_true, or_false}
use Rattle.iofd_rows.proofs.Each.{IsIn, in_filter, of_all, of_each}
use Rattle.iofd_rows.proofs.Found.{all_filter}
use Rattle.iofd_rows.proofs.Unusable.{each_not, none_of}
use Rattle.iofd_runs.proofs.KeepsFits.{settled_frames}
use Rattle.iofd_runs.proofs.KeepsTabled.{HasTables, keeps_tables, opening_tables}
use Rattle.iofd_runs.proofs.MissingTables.{is_owned}
use Rattle.iofd_runs.proofs.SameSettings.{changed_settings}
use Rattle.iofd_runs.proofs.SameTables.{same_tables}
use Rattle.iofd_runs.proofs.StillTabled.{none_given}
use Rattle.iofd_laws.proofs.OwnFrames.{flipped, given_free, never_written}
use Rattle.iofd_laws.specs.Laws.{TablesAlone, is_alone, tables_differ}
use Rattle.iofd_runs.proofs.Moves.{MemoryMoves, SameMemory, OnePage, FewerPages, Written, PinsMove, SamePins, Settled}
use Rattle.iofd_runs.proofs.Moves.{changed_moves}

-- ---- what holds of all frames of users' pages and pins

pub record OfFrames (q : ℕ → Bool) (w : World) : Type 0 where
  pub users : list_all (λ (p : UserPage). q p.frame.0) w.user_pages ≡ true
  pub pins : list_all (λ (pin : Pin). q pin.frame.0) w.pins ≡ true

all_more : (q : ℕ → Bool) (pages : List UserPage) (page : UserPage)
    → list_all (λ (p : UserPage). q p.frame.0) pages ≡ true → q page.frame.0 ≡ true
    → list_all (λ (p : UserPage). q p.frame.0) (pages ++ page ∷ []) ≡ true
all_more q pages page all here =
    list_all-append (λ (p : UserPage). q p.frame.0) pages (page ∷ []) ∙ both_true _ _ all (both_true _ _ here refl)

module _ (q : ℕ → Bool) (w : World) (all : OfFrames q w) where
  users_stay : {A : Type 0} (e : Event A) (answer : Reply) (new : World) → MemoryMoves w e answer new
      → ((frame : FrameNo) → answer ≡ reply.Frame frame → q frame.0 ≡ true)
      → list_all (λ (p : UserPage). q p.frame.0) new.user_pages ≡ true
  users_stay e answer new (SameMemory is same) given = rw is all.users
  users_stay e answer new (OnePage user va frame passed free told is less) given =
      rw is (all_more q w.user_pages _ all.users (given frame told))
  users_stay e answer new (FewerPages stays is same) given =
      rw is (all_filter (λ (p : UserPage). q p.frame.0) stays w.user_pages all.users)
  users_stay e answer new (Written written is) given = rw is all.users

  pins_stay : {A : Type 0} (at : ℕ) (e : Event A) (new : World) → PinsMove at w e new
      → list_all (λ (p : UserPage). q p.frame.0) new.user_pages ≡ true
      → list_all (λ (pin : Pin). q pin.frame.0) new.pins ≡ true
  unfolding settle
  pins_stay at e new (SamePins is alike) users = rw is all.pins
  pins_stay at e new (Settled is present) users =
      rw is (settled_frames q new.memory new.user_pages users _ _ w.pins all.pins)

  -- it holds still, if it holds of the frame that is answered
  frames_stay : {A : Type 0} (at : ℕ) (e : Event A) (answer : Reply)
      → ((frame : FrameNo) → answer ≡ reply.Frame frame → q frame.0 ≡ true) → OfFrames q (changed at w e answer)
  frames_stay at e answer given =
      let new : World = changed at w e answer in
      let users = users_stay e answer new (changed_moves at w e answer).memory given in
      record { users = users; pins = pins_stay at e new (changed_moves at w e answer).pins users }

-- ---- none and each not

pub none_all : {X : Type 0} (p : X → Bool) (xs : List X) → not (list_any p xs) ≡ true
    → list_all (λ x. not (p x)) xs ≡ true
none_all p xs none = of_all (λ x. not (p x)) xs (λ x within. not_false (p x) (each_not p xs x (not_true _ none) within))

pub all_none : {X : Type 0} (p : X → Bool) (xs : List X) → list_all (λ x. not (p x)) xs ≡ true
    → not (list_any p xs) ≡ true
all_none p xs all = not_false _ (none_of p xs (λ x within. not_true (p x) (of_each (λ x. not (p x)) xs x all within)))

-- ---- rows in frames

rows_in : (q : FrameNo → Bool) (missing : List MissingTable) (frames : List FrameNo) → list_all q frames ≡ true
    → list_all (λ (table : TableFrame). q table.frame) (in_frames missing frames) ≡ true
rows_in q [] frames all = refl
rows_in q (m ∷ missing) [] all = refl
rows_in q (m ∷ missing) (frame ∷ frames) all =
    let parts = and_true (q frame) (list_all q frames) all in
    both_true _ _ parts.0 (rows_in q missing frames parts.1)

new_differ : (missing : List MissingTable) (frames : List FrameNo) → are_different frames ≡ true
    → tables_differ (in_frames missing frames) ≡ true
new_differ [] frames different = refl
new_differ (m ∷ missing) [] different = refl
new_differ (m ∷ missing) (frame ∷ frames) different =
    let parts = and_true (not (is_among frames frame)) (are_different frames) different in
    let others = rows_in (λ f. not (eqb f.0 frame.0)) missing frames
    (none_all (λ (f : FrameNo). eqb f.0 frame.0) frames parts.0) in
    both_true _ _ (all_none (λ (table : TableFrame). eqb table.frame.0 frame.0) (in_frames missing frames) others)
    (new_differ missing frames parts.1)

fewer_differ : (keeps : TableFrame → Bool) (tables : List TableFrame) → tables_differ tables ≡ true
    → tables_differ (filter keeps tables) ≡ true
fewer_differ keeps [] differ = refl
fewer_differ keeps (table ∷ tables) differ =
    let parts = and_true (not (list_any (λ (other : TableFrame). eqb other.frame.0 table.frame.0) tables))
    (tables_differ tables) differ in
    let others = all_filter (λ (other : TableFrame). not (eqb other.frame.0 table.frame.0)) keeps tables
    (none_all (λ (other : TableFrame). eqb other.frame.0 table.frame.0) tables parts.0) in
    by_test (keeps table) (all_none (λ (other : TableFrame). eqb other.frame.0 table.frame.0) (filter keeps tables)
    others) (fewer_differ keeps tables parts.1)
  where
    by_test : (b : Bool) → not (list_any (λ (other : TableFrame). eqb other.frame.0 table.frame.0)
        (filter keeps tables)) ≡ true → tables_differ (filter keeps tables) ≡ true
        → tables_differ (cond b (table ∷ filter keeps tables) (filter keeps tables)) ≡ true
    by_test true first rest = both_true _ _ first rest
    by_test false first rest = rest

both_differ : (tables new : List TableFrame) → tables_differ tables ≡ true → tables_differ new ≡ true
    → list_all (λ (table : TableFrame). not (list_any (λ (other : TableFrame). eqb other.frame.0 table.frame.0) new))
    tables ≡ true → tables_differ (tables ++ new) ≡ true
both_differ [] new first second apart = second
both_differ (table ∷ tables) new first second apart =
    let parts = and_true (not (list_any (λ (other : TableFrame). eqb other.frame.0 table.frame.0) tables))
    (tables_differ tables) first in
    let aparts = and_true (not (list_any (λ (other : TableFrame). eqb other.frame.0 table.frame.0) new))
    (list_all (λ (t : TableFrame). not (list_any (λ (other : TableFrame). eqb other.frame.0 t.frame.0) new)) tables)
    apart in
    both_true _ _ (not_false _ (list_any-append (λ (other : TableFrame). eqb other.frame.0 table.frame.0) tables new
    ∙ both_false _ _ (not_true _ parts.0) (not_true _ aparts.0))) (both_differ tables new
    parts.1 second aparts.1)

-- ---- a step in which a user gets a frame moves none of tables

pub none_goes : {A : Type 0} (w left : World) (e : Event A) (answer : Reply) (taken given : List FrameNo)
    → MovesTables w left e answer taken given → list_all (is_owned left.objects) w.table_frames ≡ true
    → ((table : TableFrame) → may_go left e answer table ≡ false) → given ≡ []
none_goes w left e answer taken [] moves owned stay = refl
none_goes w left e answer taken (frame ∷ given) moves owned stay =
    let test = λ (table : TableFrame). eqb table.frame.0 frame.0
    && (is_orphan left.objects table || may_go left e answer table) in
    let some = (and_true (list_any test w.table_frames) _ moves.may).0 in
    absurd (clash _ (none_of test w.table_frames
    (λ table within. not_and (eqb table.frame.0 frame.0) _
    (both_false _ _ (not_true _ (of_each (is_owned left.objects) w.table_frames table owned within))
    (stay table)))) some)
  where
    not_and : (a b : Bool) → b ≡ false → (a && b) ≡ false
    not_and true b is = is
    not_and false b is = refl

none_taken : {A : Type 0} (at : ℕ) (w : World) (e : Event A) (frame : FrameNo) (taken given : List FrameNo)
    → Answers w e (reply.Frame frame) → MovesTables w (changed at w e (reply.Frame frame)) e (reply.Frame frame) taken
    given → HasTables w → taken ≡ []
unfolding Answers changed
none_taken at w (event.UserMap user va) frame taken given answers moves has =
    let none = none_goes w _ _ _ taken given moves has.tables.owned (λ table. refl) in
    let kept : kept_tables given w.table_frames ≡ w.table_frames =
    ap (λ g. kept_tables g w.table_frames) none ∙ none_given w.table_frames in
    empty taken (moves.enough ∙ ap length (ap (missing_tables w.objects w.areas) kept ∙ has.tables.needed))
  where
    empty : (frames : List FrameNo) → length frames ≡ 0 → frames ≡ []
    empty [] is = refl
    empty (f ∷ frames) is = cc
none_taken at w (event.DeviceWrite device iova bytes) frame taken given answers moves has =
    absurd (never_written w device iova.0 (outcomes w device iova.0 Write) frame answers)
none_taken at w e frame taken given answers moves has = absurd answers

-- ---- each step keeps them apart

-- from a world to the one that the event has left
module _ {A : Type 0} (w left : World) (e : Event A) (answer : Reply) (taken given : List FrameNo)
    (answers : Answers w e answer) (moves : MovesTables w left e answer taken given)
    (same_settings : left.settings ≡ w.settings)
    (same_frames : left.table_frames ≡ w.table_frames) (own : TablesAlone w)
    (stay : (q : ℕ → Bool) → ((frame : FrameNo) → answer ≡ reply.Frame frame → q frame.0 ≡ true) → OfFrames q w
    → OfFrames q left)
    (still : (frame : FrameNo) → answer ≡ reply.Frame frame → taken ≡ []) where
  abbrev kept : List TableFrame
  kept = kept_tables given left.table_frames

  abbrev missing : List MissingTable
  missing = missing_tables left.objects left.areas kept

  abbrev new : List TableFrame
  new = in_frames missing taken

  was : (table : TableFrame) → IsIn kept table → IsIn w.table_frames table
  was table within = subst (λ tables. IsIn tables table) same_frames
      (in_filter (λ (t : TableFrame). not (is_among given t.frame)) left.table_frames table within).0

  -- a frame that is taken
  unreached : (frame : FrameNo) → IsIn taken frame → (ltb frame.0 w.settings.pool ≡ true)
      × (is_reached w.user_pages w.pins w.table_frames frame.0 ≡ false)
  unreached frame within =
      let parts = and_true (ltb frame.0 w.settings.pool) (not (is_reached w.user_pages w.pins w.table_frames frame.0))
      (of_each (λ (f : FrameNo). is_free w.settings.pool w.user_pages w.pins w.table_frames f.0) taken
      frame moves.free within) in
      (parts.0, not_true _ parts.1)

  none_at : (frame : ℕ) → is_reached w.user_pages w.pins w.table_frames frame ≡ false
      → (list_any (λ (p : UserPage). eqb p.frame.0 frame) w.user_pages ≡ false)
      × (list_any (λ (pin : Pin). eqb pin.frame.0 frame) w.pins ≡ false)
      × (list_any (λ (table : TableFrame). eqb table.frame.0 frame) w.table_frames ≡ false)
  none_at frame free =
      let tables = list_any (λ (table : TableFrame). eqb table.frame.0 frame) w.table_frames in
      let pins = list_any (λ (pin : Pin). eqb pin.frame.0 frame) w.pins in
      let users = list_any (λ (p : UserPage). eqb p.frame.0 frame) w.user_pages in
      let first = or_false (users || pins) tables free in
      let second = or_false users pins first.0 in
      (second.0, second.1, first.1)

  -- a table that stays has no frame that is free
  apart_of : (table : TableFrame) → IsIn kept table → (frame : ℕ)
      → is_reached w.user_pages w.pins w.table_frames frame ≡ false → eqb frame table.frame.0 ≡ false
  apart_of table within frame free = flipped table.frame.0 frame
      (each_not (λ (t : TableFrame). eqb t.frame.0 frame) w.table_frames table
      (none_at frame free).2 (was table within))

  in_pool : list_all (λ (table : TableFrame). ltb table.frame.0 left.settings.pool) (kept ++ new) ≡ true
  in_pool =
      rw same_settings (list_all-append (λ (table : TableFrame). ltb table.frame.0 w.settings.pool) kept new
      ∙ both_true _ _ (of_all (λ (table : TableFrame). ltb table.frame.0 w.settings.pool) kept
      (λ table within. of_each (λ (t : TableFrame). ltb t.frame.0 w.settings.pool) w.table_frames table
      own.pool (was table within)))
      (rows_in (λ f. ltb f.0 w.settings.pool) missing taken
      (of_all (λ (f : FrameNo). ltb f.0 w.settings.pool) taken (λ frame within. (unreached frame within).0))))

  differ : tables_differ (kept ++ new) ≡ true
  differ =
      both_differ kept new (fewer_differ (λ (t : TableFrame). not (is_among given t.frame)) left.table_frames
      (rw same_frames own.differ)) (new_differ missing taken moves.different)
      (of_all (λ (table : TableFrame). not (list_any (λ (other : TableFrame). eqb other.frame.0 table.frame.0) new))
      kept
      (λ table within. all_none (λ (other : TableFrame). eqb other.frame.0 table.frame.0) new
      (rows_in (λ f. not (eqb f.0 table.frame.0)) missing taken
      (of_all (λ (f : FrameNo). not (eqb f.0 table.frame.0)) taken
      (λ frame held. not_false _ (apart_of table within frame.0 (unreached frame held).1))))))

  -- a frame that no user's page and no pin has, and that isn't answered, is none of theirs after the step
  alone_after : (frame : ℕ) → not (list_any (λ (p : UserPage). eqb p.frame.0 frame) w.user_pages) ≡ true
      → not (list_any (λ (pin : Pin). eqb pin.frame.0 frame) w.pins) ≡ true
      → ((f : FrameNo) → answer ≡ reply.Frame f → eqb f.0 frame ≡ false)
      → (not (list_any (λ (p : UserPage). eqb p.frame.0 frame) left.user_pages)
      && not (list_any (λ (pin : Pin). eqb pin.frame.0 frame) left.pins)) ≡ true
  alone_after frame no_user no_pin other =
      let q = λ (n : ℕ). not (eqb n frame) in
      let all : OfFrames q w = record {
        users = none_all (λ (p : UserPage). eqb p.frame.0 frame) w.user_pages no_user;
        pins = none_all (λ (pin : Pin). eqb pin.frame.0 frame) w.pins no_pin;
      } in
      let after = stay q (λ f is. not_false _ (other f is)) all in
      both_true _ _ (all_none (λ (p : UserPage). eqb p.frame.0 frame) left.user_pages after.users)
      (all_none (λ (pin : Pin). eqb pin.frame.0 frame) left.pins after.pins)

  abbrev is_alone_at : ℕ → Bool
  is_alone_at frame = not (list_any (λ (p : UserPage). eqb p.frame.0 frame) left.user_pages)
      && not (list_any (λ (pin : Pin). eqb pin.frame.0 frame) left.pins)

  alone : list_all (is_alone left.user_pages left.pins) (kept ++ new) ≡ true
  alone =
      list_all-append (is_alone left.user_pages left.pins) kept new
      ∙ both_true _ _ (of_all (is_alone left.user_pages left.pins) kept old_alone)
      (rows_in (λ f. is_alone_at f.0) missing taken (of_all (λ (f : FrameNo). is_alone_at f.0) taken new_alone))
    where
      old_alone : (table : TableFrame) → IsIn kept table → is_alone left.user_pages left.pins table ≡ true
      old_alone table within =
          let before = and_true (not (list_any (λ (p : UserPage). eqb p.frame.0 table.frame.0) w.user_pages))
          (not (list_any (λ (pin : Pin). eqb pin.frame.0 table.frame.0) w.pins))
          (of_each (is_alone w.user_pages w.pins) w.table_frames table own.alone (was table within)) in
          alone_after table.frame.0 before.0 before.1
          (λ f is. apart_of table within f.0 (given_free w e f (subst (Answers w e) is answers)).1)

      new_alone : (frame : FrameNo) → IsIn taken frame → is_alone_at frame.0 ≡ true
      new_alone frame within =
          let none = none_at frame.0 (unreached frame within).1 in
          alone_after frame.0 (not_false _ none.0) (not_false _ none.1) (λ f is. absurd (held f is))
        where
          held : (f : FrameNo) → answer ≡ reply.Frame f → ⊥
          held f is = subst (λ frames. IsIn frames frame) (still f is) within

  pub alone_moved : TablesAlone (with_tables taken given left)
  unfolding with_tables
  alone_moved = record { pool = in_pool; differ = differ; alone = alone }

-- with what else it takes
pub record OwnTables (w : World) : Type 0 where
  pub has : HasTables w
  pub alone : TablesAlone w

pub opening_own_tables : (settings : Settings) → OwnTables (opening settings)
opening_own_tables settings =
    record { has = opening_tables settings; alone = record { pool = refl; differ = refl; alone = refl } }

pub keeps_own_tables : {A : Type 0} → (at : ℕ) (w : World) (e : Event A) (answer : Reply) (taken given : List FrameNo)
    → refusal w e ≡ None → Answers w e answer → MovesTables w (changed at w e answer) e answer taken given → OwnTables w
    → OwnTables (with_tables taken given (changed at w e answer))
keeps_own_tables at w e answer taken given none answers moves own =
    record {
      has = keeps_tables at w e answer taken given none answers moves own.has;
      alone =
          alone_moved w (changed at w e answer) e answer taken given answers moves (changed_settings at w e answer)
          (same_tables at w e answer) own.alone
          (λ q given_frame all. frames_stay q w all at e answer given_frame)
          (λ frame is. none_taken at w e frame taken given (subst (Answers w e) is answers)
          (subst (λ r. MovesTables w (changed at w e r) e r taken given) is moves) own.has);
    }
