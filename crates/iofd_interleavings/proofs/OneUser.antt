-- The users' pages and the pins that have one frame are of one user.
use Rattle.std.proofs.Common.{◌≡◌, ◌<◌, ℕ, ◌+◌, Bool, true, false, ◌||◌, not, eqb, ltb, None, List, []}
use Rattle.std.proofs.Common.{◌∷◌, ◌++◌, length, refl, sym, ap, ◌∙◌, subst, arith, ◌⊎◌, inl, inr, ⊎_elim}
use Rattle.std.specs.List.{list_any}
use Rattle.std.proofs.lemmas.Bool.Decides.{nat_tests}
use Rattle.iofd_steps.specs.After.{changed, memory_object}
use Rattle.iofd_steps.specs.Answers.{Answers}
use Rattle.iofd_refusals.specs.Checks.{refusal}
use Rattle.iofd_words.specs.Frames.{is_free, is_reached}
use Rattle.iofd_words.specs.Pins.{ObjectPage, is_page, page_of_pin, pinned_pages}
use Rattle.iofd_steps.specs.Run.{IsRun, world_of}
use Rattle.iofd_words.specs.Record.{Record}
use Rattle.iofd_words.specs.Settings.{Settings}
use Rattle.iofd_words.specs.Tables.{with_tables}
use Rattle.iofd_words.specs.World.{World, opening}
use Rattle.iofd_words.specs.declared.event.Event.{Event}
use Rattle.iofd_words.specs.declared.event.MapRequest.{MapRequest}
use Rattle.iofd_words.specs.declared.numbers.FileNo.{FileNo}
use Rattle.iofd_words.specs.declared.numbers.FrameNo.{FrameNo}
use Rattle.iofd_words.specs.declared.numbers.Iova.{Iova}
use Rattle.iofd_words.specs.declared.numbers.UserNo.{UserNo}
use Rattle.iofd_words.specs.declared.reply.Reply.{Reply}
use Rattle.iofd_words.specs.declared.rows.MemoryObject.{MemoryObject}
use Rattle.iofd_words.specs.declared.rows.Pin.{Pin}
use Rattle.iofd_words.specs.declared.rows.UserPage.{UserPage}
use Rattle.iofd_rows.specs.Pinned.{ArePinned, have_own_numbers}
use Rattle.iofd_rows.proofs.Bools.{and_true, clash, not_true}
use Rattle.iofd_rows.proofs.Each.{IsIn, in_filter, of_any, of_each}
use Rattle.iofd_rows.proofs.ListTests.{any_of_all}
use Rattle.iofd_rows.proofs.ObjectPages.{has_page, in_pinned, is_listed, listed_is}
use Rattle.iofd_runs.proofs.KeepsPins.{keeps_pins, later_pinned, opening_pinned, tabled_pinned}
use Rattle.iofd_runs.proofs.Runs.{run_keeps_at}
use Rattle.iofd_promises.specs.Owners.{IsUsersPage}
use Rattle.iofd_promises.proofs.Lists.{in_append}
use Rattle.iofd_runs.proofs.Moves.{AreasMove, FewerAreas, OneArea, OtherPhases, SameAreas}
use Rattle.iofd_runs.proofs.Moves.{FewerPages, MemoryMoves, OnePage, SameMemory, Written, changed_moves}
use Rattle.iofd_runs.proofs.Moves.{MemoryUnder, NewMemory, SharedMemory}
use Rattle.iofd_promises.proofs.NewPins.{pin_from}
use Rattle.iofd_promises.proofs.Rows.{contains, within}
use Rattle.iofd_interleavings.specs.FramesApart.{AreOfOneUser, IsPageAt, IsPinAt, IsUsedBy}

-- ---- memory objects

-- a memory object after an event is an old one, or has the position as its number
abbrev Came : ℕ → World → List MemoryObject → Type 0
Came at w memory = (m : MemoryObject) → IsIn memory m → IsIn w.memory m ⊎ (m.number ≡ at)

came : {A : Type 0} → (at : ℕ) (w : World) (e : Event A) (answer : Reply) → Came at w (changed at w e answer).memory
came {A = A} at w e answer m there = by_move (changed_moves at w e answer).areas
  where
    new : World
    new = changed at w e answer

    still : new.memory ≡ w.memory → IsIn w.memory m ⊎ (m.number ≡ at)
    still same = inl (subst (λ (l : List MemoryObject). IsIn l m) same there)

    under : (file : FileNo) (request : MapRequest) (iova : Iova) (number : ℕ)
        → MemoryUnder at w e file request iova number new.memory → IsIn w.memory m ⊎ (m.number ≡ at)
    under file request iova number (NewMemory user of long is same) = ⊎_elim
        (λ (old : IsIn w.memory m). inl old)
        (λ (made : IsIn (memory_object at user request ∷ []) m). inr (of_new made))
        (in_append w.memory (memory_object at user request ∷ []) m
        (subst (λ (l : List MemoryObject). IsIn l m) same there))
      where
        of_new : IsIn (memory_object at user request ∷ []) m → m.number ≡ at
        of_new (inl is) = sym (ap (λ (x : MemoryObject). x.number) is)
        of_new (inr none) = absurd none
    under file request iova number (SharedMemory source within of long is same) = still same

    by_move : AreasMove at w e answer new → IsIn w.memory m ⊎ (m.number ≡ at)
    by_move (SameAreas areas same) = still same
    by_move (FewerAreas goes by areas same free) =
        inl (in_filter _ w.memory m (subst (λ (l : List MemoryObject). IsIn l m) same there)).0
    by_move (OtherPhases phase dead areas same) = still same
    by_move (OneArea number file request iova placed lies makes translations areas memory) =
        under file request iova number memory

-- two of one number are one
one_object : (memory : List MemoryObject) (m n : MemoryObject) → have_own_numbers memory ≡ true → IsIn memory m
    → IsIn memory n → m.number ≡ n.number → m ≡ n
one_object [] m n own first second same = absurd first
one_object (o ∷ memory) m n own first second same =
    by_place first second (λ a b. one_object memory m n owns.1 a b same)
  where
    owns : (not (list_any (λ (x : MemoryObject). eqb x.number o.number) memory) ≡ true)
        × (have_own_numbers memory ≡ true)
    owns = and_true (not (list_any (λ (x : MemoryObject). eqb x.number o.number) memory)) (have_own_numbers memory) own

    again : (x : MemoryObject) → IsIn memory x → o.number ≡ x.number → ⊥
    again x later number = clash _ (not_true _ owns.0)
        (of_any (λ (x : MemoryObject). eqb x.number o.number) memory x later (search (number, arith, nat_tests)))

    by_place : (o ≡ m) ⊎ IsIn memory m → (o ≡ n) ⊎ IsIn memory n → (IsIn memory m → IsIn memory n → m ≡ n) → m ≡ n
    by_place (inl a) (inl b) rest = sym a ∙ b
    by_place (inl a) (inr b) rest = absurd (again n b (ap (λ (x : MemoryObject). x.number) a ∙ same))
    by_place (inr a) (inl b) rest = absurd (again m a (ap (λ (x : MemoryObject). x.number) b ∙ sym same))
    by_place (inr a) (inr b) rest = rest a b

-- a pin's memory object was made before
any_same : {X : Type 0} (b : Bool) (xs : List X) → list_any (λ (x : X). b) xs ≡ true → b ≡ true
any_same true xs any = refl
any_same false [] any = any
any_same false (x ∷ xs) any = any_same false xs any

made_before : (at : ℕ) (w : World) (pin : Pin) → ArePinned at w → IsIn w.pins pin → ltb pin.memory at ≡ true
made_before at w pin pinned there =
    let page : ObjectPage = page_of_pin pin in
    let is = of_each (λ (p : Pin). list_any (is_page (page_of_pin p))
    (pinned_pages w.objects w.areas w.memory w.access_pins)) w.pins pin pinned.only there in
    let listed = (and_true (is_listed w.memory page) _ (sym (in_pinned w.objects w.areas w.memory w.access_pins page)
    ∙ is)).0 in
    any_same (ltb pin.memory at) w.memory
    (any_of_all (λ (m : MemoryObject). ltb m.number at) (has_page page) (λ (m : MemoryObject). ltb pin.memory at)
    w.memory (λ m early has. earlier m early has) pinned.made (sym (listed_is w.memory page) ∙ listed))
  where
    earlier : (m : MemoryObject) → ltb m.number at ≡ true
        → has_page (page_of_pin pin) m ≡ true → ltb pin.memory at ≡ true
    earlier m early has =
        let same = (and_true (eqb pin.memory m.number) (ltb pin.index m.count) has).0 in
        search (same, early, arith, nat_tests)

-- ---- uses of a frame

-- no page comes: who uses a frame used it before
module _ {A : Type 0} (at : ℕ) (w : World) (e : Event A) (answer : Reply) (none : refusal w e ≡ None)
    (answers : Answers w e answer) (pinned : ArePinned at w) where
  abbrev new : World
  new = changed at w e answer

  next : ArePinned (at + 1) new
  next = keeps_pins at w e answer none answers pinned

  old_pin : (frame : ℕ) (user : UserNo) (u : IsPinAt new frame user) → IsIn w.pins u.pin → IsUsedBy w frame user
  old_pin frame user u old =
      by_object (came at w e answer u.m (within new.memory u.m u.among))
    where
      early : u.pin.memory < at
      early = search (made_before at w u.pin pinned old, arith, nat_tests)

      by_object : IsIn w.memory u.m ⊎ (u.m.number ≡ at) → IsUsedBy w frame user
      by_object (inl there) = inr (record {
        pin = u.pin;
        there = contains w.pins u.pin old;
        m = u.m;
        among = contains w.memory u.m there;
        number = u.number;
        of = u.of;
        frame_is = u.frame_is;
      })
      by_object (inr made) = absurd (omega (arith, early, made, u.number))

  -- a new pin has the frame of a page of its user
  new_pin : (frame : ℕ) (user : UserNo) (u : IsPinAt new frame user) → IsUsersPage new u.pin → IsPageAt new frame user
  new_pin frame user u page =
      let same = one_object new.memory page.object u.m next.numbers (within new.memory page.object page.there)
      (within new.memory u.m u.among) (page.number ∙ sym u.number) in
      record {
        page = page.page;
        there = page.listed;
        of = page.of_user ∙ ap (λ (m : MemoryObject). m.user) same ∙ u.of;
        frame_is = ap (λ (f : FrameNo). f.0) page.of_frame ∙ u.frame_is;
      }

  -- so who uses a frame used it before, or has a page there
  used : (frame : ℕ) (user : UserNo) → IsUsedBy new frame user → IsUsedBy w frame user ⊎ IsPageAt new frame user
  used frame user (inl page) = inr page
  used frame user (inr u) = ⊎_elim
      (λ (old : IsIn w.pins u.pin). inl (old_pin frame user u old))
      (λ (page : IsUsersPage new u.pin). inr (new_pin frame user u page))
      (pin_from w u.pin at e new (changed_moves at w e answer).pins (within new.pins u.pin u.there))

  page_was : (frame : ℕ) (user : UserNo) (u : IsPageAt new frame user) → IsIn w.user_pages u.page
      → IsUsedBy w frame user
  page_was frame user u old = inl (record {
    page = u.page;
    there = contains w.user_pages u.page old;
    of = u.of;
    frame_is = u.frame_is;
  })

  -- and who uses a frame reaches it
  reached : (frame : ℕ) (user : UserNo) → IsUsedBy w frame user
      → is_reached w.user_pages w.pins w.table_frames frame ≡ true
  reached frame user (inl u) =
      by_page _ _ _ (of_any (λ (p : UserPage). eqb p.frame.0 frame) w.user_pages u.page
      (within w.user_pages u.page u.there) (search (u.frame_is, arith, nat_tests)))
    where
      by_page : (a b c : Bool) → a ≡ true → (a || b || c) ≡ true
      by_page a b c is = rw is refl
  reached frame user (inr u) =
      by_pin _ _ _ (of_any (λ (p : Pin). eqb p.frame.0 frame) w.pins u.pin (within w.pins u.pin u.there)
      (search (u.frame_is, arith, nat_tests)))
    where
      by_pin : (a b c : Bool) → b ≡ true → (a || b || c) ≡ true
      by_pin true b c is = refl
      by_pin false b c is = rw is refl

  -- where no page comes
  no_page_comes : ((page : UserPage) → IsIn new.user_pages page → IsIn w.user_pages page) → AreOfOneUser w
      → AreOfOneUser new
  no_page_comes fewer one = λ frame a b first second. one frame a b (before frame a first) (before frame b second)
    where
      before : (frame : ℕ) (user : UserNo) → IsUsedBy new frame user → IsUsedBy w frame user
      before frame user u = ⊎_elim
          (λ (old : IsUsedBy w frame user). old)
          (λ (p : IsPageAt new frame user). page_was frame user p
          (fewer p.page (within new.user_pages p.page p.there)))
          (used frame user u)

  -- where one comes, in a free frame
  page_comes : (one_page : UserPage) → new.user_pages ≡ w.user_pages ++ one_page ∷ []
      → is_reached w.user_pages w.pins w.table_frames one_page.frame.0 ≡ false → AreOfOneUser w → AreOfOneUser new
  page_comes one_page is free one = λ frame a b first second. both frame a b (before frame a first)
      (before frame b second)
    where
      before : (frame : ℕ) (user : UserNo) → IsUsedBy new frame user
          → IsUsedBy w frame user ⊎ ((one_page.frame.0 ≡ frame) × (one_page.user ≡ user))
      before frame user u = ⊎_elim
          (λ (old : IsUsedBy w frame user). inl old)
          (λ (p : IsPageAt new frame user). by_page p (in_append w.user_pages (one_page ∷ []) p.page
          (subst (λ (pages : List UserPage). IsIn pages p.page) is (within new.user_pages p.page p.there))))
          (used frame user u)
        where
          by_page : (p : IsPageAt new frame user) → IsIn w.user_pages p.page ⊎ IsIn (one_page ∷ []) p.page
              → IsUsedBy w frame user ⊎ ((one_page.frame.0 ≡ frame) × (one_page.user ≡ user))
          by_page p (inl old) = inl (page_was frame user p old)
          by_page p (inr (inl same)) =
              inr (ap (λ (x : UserPage). x.frame.0) same ∙ p.frame_is, ap (λ (x : UserPage). x.user) same ∙ p.of)
          by_page p (inr (inr never)) = absurd never

      never : (frame : ℕ) (user : UserNo) → IsUsedBy w frame user → one_page.frame.0 ≡ frame → ⊥
      never frame user old same = clash _ free
          (subst (λ (n : ℕ). is_reached w.user_pages w.pins w.table_frames n ≡ true) (sym same)
          (reached frame user old))

      both : (frame : ℕ) (a b : UserNo) → IsUsedBy w frame a ⊎ ((one_page.frame.0 ≡ frame) × (one_page.user ≡ a))
          → IsUsedBy w frame b ⊎ ((one_page.frame.0 ≡ frame) × (one_page.user ≡ b)) → a.0 ≡ b.0
      both frame a b (inl first) (inl second) = one frame a b first second
      both frame a b (inl first) (inr second) = absurd (never frame a first second.0)
      both frame a b (inr first) (inl second) = absurd (never frame b second first.0)
      both frame a b (inr first) (inr second) = ap (λ (u : UserNo). u.0) (sym first.1 ∙ second.1)

  one_user_after : AreOfOneUser w → AreOfOneUser new
  one_user_after one = by_move (changed_moves at w e answer).memory
    where
      free_frame : (frame : ℕ) → is_free w.settings.pool w.user_pages w.pins w.table_frames frame ≡ true
          → is_reached w.user_pages w.pins w.table_frames frame ≡ false
      free_frame frame is = not_true _ (and_true (ltb frame w.settings.pool)
          (not (is_reached w.user_pages w.pins w.table_frames frame)) is).1

      by_move : MemoryMoves w e answer new → AreOfOneUser new
      by_move (SameMemory pages same) =
          no_page_comes (λ page there. subst (λ (ps : List UserPage). IsIn ps page) pages there) one
      by_move (OnePage user va frame passed free is pages less) =
          page_comes _ pages (free_frame frame.0 (free answers)) one
      by_move (FewerPages stays pages same) =
          no_page_comes (λ page there. (in_filter stays w.user_pages page
          (subst (λ (ps : List UserPage). IsIn ps page) pages there)).0) one
      by_move (Written written pages) =
          no_page_comes (λ page there. subst (λ (ps : List UserPage). IsIn ps page) pages there) one

-- ---- in every run

record OneUser (at : ℕ) (w : World) : Type 0 where
  pinned : ArePinned at w
  one : AreOfOneUser w

nobody : (settings : Settings) → AreOfOneUser (opening settings)
nobody settings = λ frame a b first second. none first
  where
    none : {X : Type 0} {frame : ℕ} {user : UserNo} → IsUsedBy (opening settings) frame user → X
    none (inl u) = absurd (within [] u.page u.there)
    none (inr u) = absurd (within [] u.pin u.there)

tabled_one : (at : ℕ) (w : World) (taken given : List FrameNo) → OneUser at w → OneUser at (with_tables taken given w)
unfolding with_tables
tabled_one at w taken given p = record {
  pinned = tabled_pinned at w taken given p.pinned;
  one = λ frame a b first second. p.one frame a b (same frame a first) (same frame b second);
}
  where
    same : (frame : ℕ) (user : UserNo) → IsUsedBy (with_tables taken given w) frame user → IsUsedBy w frame user
    same frame user (inl u) =
        inl (record { page = u.page; there = u.there; of = u.of; frame_is = u.frame_is })
    same frame user (inr u) = inr (record {
      pin = u.pin;
      there = u.there;
      m = u.m;
      among = u.among;
      number = u.number;
      of = u.of;
      frame_is = u.frame_is;
    })

pub one_user_of : {A : Type 0} (settings : Settings) (records : List (Record A)) → IsRun settings records
    → AreOfOneUser (world_of settings records)
unfolding IsRun world_of
one_user_of settings records run =
    (run_keeps_at OneUser tabled_one
    (λ at w p. record { pinned = later_pinned at w p.pinned; one = p.one })
    (λ at w e answer none answers p. record {
      pinned = keeps_pins at w e answer none answers p.pinned;
      one = one_user_after at w e answer none answers p.pinned p.one;
    })
    0 (length records) (opening settings) records (omega arith) run
    (record { pinned = opening_pinned settings; one = nobody settings })).one
