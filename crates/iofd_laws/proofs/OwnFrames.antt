-- Each page in a user's memory has a frame of its own.
use Rattle.std.proofs.Common.{◌≡◌, ℕ, zero, suc, ◌<◌, Bool, true, false, cond, ◌||◌, not, eqb, Option, Some, None, List}
use Rattle.std.proofs.Common.{[], ◌∷◌, ◌++◌, map, Contains, refl, sym, ◌∙◌, subst, arith, IsTrue, inl, inr}
use Rattle.std.specs.List.{filter, list_any}
use Rattle.std.proofs.lemmas.Bool.Decides.{nat_tests}
use Rattle.iofd_steps.specs.After.{changed}
use Rattle.iofd_steps.specs.Answers.{Answers, write_reply}
use Rattle.iofd_refusals.specs.Checks.{refusal}
use Rattle.iofd_words.specs.Frames.{is_free, is_reached}
use Rattle.iofd_laws.specs.Laws.{have_own_frames, WasFree}
use Rattle.iofd_words.specs.Policy.{Outcome, Passes, Denied, outcomes}
use Rattle.iofd_steps.specs.Run.{IsAnswer, Lawful, MovesFrames}
use Rattle.iofd_words.specs.Record.{Record}
use Rattle.iofd_words.specs.World.{World}
use Rattle.iofd_words.specs.declared.event.Event.{Event}
use Rattle.iofd_words.specs.declared.event.Event.TheVariants as event
use Rattle.iofd_words.specs.declared.fault.AccessKind.TheVariants.{Write}
use Rattle.iofd_words.specs.declared.numbers.DeviceNo.{DeviceNo}
use Rattle.iofd_words.specs.declared.numbers.FrameNo.{FrameNo}
use Rattle.iofd_words.specs.declared.refusal.Cause.{Cause}
use Rattle.iofd_words.specs.declared.reply.Reply.{Reply}
use Rattle.iofd_words.specs.declared.reply.Reply.TheVariants as reply
use Rattle.iofd_words.specs.declared.rows.Pin.{Pin}
use Rattle.iofd_words.specs.declared.rows.TableFrame.{TableFrame}
use Rattle.iofd_words.specs.declared.rows.UserPage.{UserPage}
use Rattle.iofd_rows.proofs.Each.{IsIn, of_each}
use Rattle.iofd_rows.proofs.Bools.{or_false, and_true, both_false, both_true, not_true, not_false}
use Rattle.iofd_runs.proofs.Moves.{MemoryMoves, SameMemory, OnePage, FewerPages, Written, changed_moves}

-- ---- a free frame is reached by nobody

pub free_parts : (pool : ℕ) (pages : List UserPage) (pins : List Pin) (tables : List TableFrame) (frame : ℕ)
    → IsTrue (is_free pool pages pins tables frame) → (frame < pool) × (is_reached pages pins tables frame ≡ false)
free_parts pool pages pins tables frame free = grind (arith, nat_tests)

pub no_page : (pages : List UserPage) (pins : List Pin) (tables : List TableFrame) (frame : ℕ)
    → is_reached pages pins tables frame ≡ false → list_any (λ (p : UserPage). eqb p.frame.0 frame) pages ≡ false
no_page pages pins tables frame free = grind (arith, nat_tests)

pub flipped : (m n : ℕ) → eqb m n ≡ false → eqb n m ≡ false
flipped m n is = grind (arith, nat_tests)

refused_frame : (cause : Cause) (frame : FrameNo) → reply.Refused (record { cause = cause }) ≡ reply.Frame frame → ⊥
refused_frame cause frame is = cc

-- ---- one more page

any_more : (pages : List UserPage) (page : UserPage) (frame : ℕ)
    → list_any (λ (p : UserPage). eqb p.frame.0 frame)
    (pages ++ page ∷ []) ≡ (list_any (λ (p : UserPage). eqb p.frame.0 frame) pages || eqb page.frame.0 frame)
any_more [] page frame = grind (arith, nat_tests)
any_more (p ∷ pages) page frame = let rest = any_more pages page frame in grind (arith, nat_tests)

own_frames_more : (pages : List UserPage) (page : UserPage)
    → list_any (λ (p : UserPage). eqb p.frame.0 page.frame.0) pages ≡ false → have_own_frames pages ≡ true
    → have_own_frames (pages ++ page ∷ []) ≡ true
own_frames_more [] page free own = refl
own_frames_more (p ∷ pages) page free own =
    let frees =
    or_false (eqb p.frame.0 page.frame.0) (list_any (λ (q : UserPage). eqb q.frame.0 page.frame.0) pages) free in
    let owns =
    and_true (not (list_any (λ (q : UserPage). eqb q.frame.0 p.frame.0) pages)) (have_own_frames pages) own in
    let differ : eqb page.frame.0 p.frame.0 ≡ false = flipped p.frame.0 page.frame.0 frees.0 in
    let more = any_more pages page p.frame.0 ∙ both_false _ _ (not_true _ owns.0) differ in
    both_true _ _ (not_false _ more) (own_frames_more pages page frees.1 owns.1)

-- ---- some pages go

none_left : (stays : UserPage → Bool) (pages : List UserPage) (frame : ℕ)
    → list_any (λ (p : UserPage). eqb p.frame.0 frame) pages ≡ false
    → list_any (λ (p : UserPage). eqb p.frame.0 frame) (filter stays pages) ≡ false
none_left stays [] frame none = refl
none_left stays (p ∷ pages) frame none =
    let parts = or_false (eqb p.frame.0 frame) (list_any (λ (q : UserPage). eqb q.frame.0 frame) pages) none in
    by_test (stays p) parts.0 (none_left stays pages frame parts.1)
  where
    by_test : (b : Bool) → eqb p.frame.0 frame ≡ false
        → list_any (λ (q : UserPage). eqb q.frame.0 frame) (filter stays pages) ≡ false
        → list_any (λ (q : UserPage). eqb q.frame.0 frame)
        (cond b (p ∷ filter stays pages) (filter stays pages)) ≡ false
    by_test true here rest = both_false _ _ here rest
    by_test false here rest = rest

own_frames-filter : (stays : UserPage → Bool) (pages : List UserPage) → have_own_frames pages ≡ true
    → have_own_frames (filter stays pages) ≡ true
own_frames-filter stays [] own = refl
own_frames-filter stays (p ∷ pages) own =
    let owns =
    and_true (not (list_any (λ (q : UserPage). eqb q.frame.0 p.frame.0) pages)) (have_own_frames pages) own in
    by_test (stays p) (none_left stays pages p.frame.0 (not_true _ owns.0)) (own_frames-filter stays pages owns.1)
  where
    by_test : (b : Bool) → list_any (λ (q : UserPage). eqb q.frame.0 p.frame.0) (filter stays pages) ≡ false
        → have_own_frames (filter stays pages) ≡ true
        → have_own_frames (cond b (p ∷ filter stays pages) (filter stays pages)) ≡ true
    by_test true none rest = both_true _ _ (not_false _ none) rest
    by_test false none rest = rest

-- ---- every event keeps them apart

pub keeps_own_frames : {A : Type 0} → (at : ℕ) (w : World) (e : Event A) (answer : Reply) → refusal w e ≡ None
    → Answers w e answer → have_own_frames w.user_pages ≡ true
    → have_own_frames (changed at w e answer).user_pages ≡ true
keeps_own_frames at w e answer none answers own =
    by_move (changed at w e answer) (changed_moves at w e answer).memory
  where
    by_move : (new : World) → MemoryMoves w e answer new → have_own_frames new.user_pages ≡ true
    by_move new (SameMemory is same) = rw is own
    by_move new (OnePage user va frame passed free told is less) =
        rw is (own_frames_more w.user_pages _ (no_page w.user_pages w.pins w.table_frames frame.0
        (free_parts w.settings.pool w.user_pages w.pins w.table_frames frame.0 (free answers)).1) own)
    by_move new (FewerPages stays is same) = rw is (own_frames-filter stays w.user_pages own)
    by_move new (Written written is) = rw is own

-- ---- a frame that is given out was free

-- a write is not answered with a frame that is given out
pub never_written : (w : World) (device : DeviceNo) (address : ℕ) (os : List Outcome) (frame : FrameNo)
    → Contains (map (write_reply w device address) os) (reply.Frame frame) → ⊥
never_written w device address [] frame (k, within, is) = absurd (omega (arith, within))
never_written w device address (Passes f ∷ os) frame (zero, within, is) = cc
never_written w device address (Denied reason ∷ os) frame (zero, within, is) = cc
never_written w device address (o ∷ os) frame (suc k, within, is) =
    never_written w device address os frame (k, omega (arith, within), is)

pub given_free : {A : Type 0} → (w : World) (e : Event A) (frame : FrameNo) → Answers w e (reply.Frame frame)
    → WasFree w frame
unfolding Answers
given_free w (event.UserMap user va) frame answers =
    free_parts w.settings.pool w.user_pages w.pins w.table_frames frame.0 answers
given_free w (event.DeviceWrite device iova bytes) frame answers =
    absurd (never_written w device iova.0 (outcomes w device iova.0 Write) frame answers)
given_free w e frame answers = absurd answers

-- what a list contains is in it
pub is_in : {X : Type 0} (xs : List X) (x : X) → Contains xs x → IsIn xs x
is_in [] x (k, within, is) = absurd (omega (arith, within))
is_in (y ∷ ys) x (zero, within, is) = inl is
is_in (y ∷ ys) x (suc k, within, is) = inr (is_in ys x (k, omega (arith, within), is))

pub lawful_frame : {A : Type 0} (at : ℕ) (w : World) (r : Record A) (frame : FrameNo) → Lawful at w r
    → r.reply ≡ reply.Frame frame → WasFree w frame
unfolding Lawful
lawful_frame {A = A} at w r frame lawful is = by_answer (refusal w r.event) lawful.0
  where
    by_answer : (o : Option Cause) → IsAnswer w r o → WasFree w frame
    by_answer (Some cause) answer = let other = sym answer ∙ is in absurd (refused_frame cause frame other)
    by_answer None answer = given_free w r.event frame (subst (Answers w r.event) is answer)

-- nor was one that is taken for a table reached
pub lawful_taken : {A : Type 0} (at : ℕ) (w : World) (r : Record A) (frame : FrameNo) → Lawful at w r
    → Contains r.taken frame → WasFree w frame
unfolding Lawful
lawful_taken {A = A} at w r frame lawful has = by_answer (refusal w r.event) lawful.1
  where
    by_answer : (o : Option Cause) → MovesFrames at w r o → WasFree w frame
    by_answer (Some cause) moves = absurd (is_in [] frame (subst (λ taken. Contains taken frame) moves.0 has))
    by_answer None moves =
        free_parts w.settings.pool w.user_pages w.pins w.table_frames frame.0
        (of_each (λ (f : FrameNo). is_free w.settings.pool w.user_pages w.pins w.table_frames f.0) r.taken frame
        moves.free (is_in r.taken frame has))
