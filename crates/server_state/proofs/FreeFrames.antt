-- The frames that new tables get: the least on which no hold stands are the least that nobody reaches in the world that
-- is shown, and a step may take them.
use Rattle.std.proofs.Common.{◌≡◌, ℕ, zero, suc, ◌+◌, ◌<◌, ◌≤◌, Bool, true, false, cond, ◌&&◌, ◌||◌, not, eqb, ltb}
use Rattle.std.proofs.Common.{Option, Some, None, List, [], ◌∷◌, length, map, take, get_or, set, refl, sym, ◌∙◌, ap}
use Rattle.std.proofs.Common.{⊎_elim, arith}
use Rattle.std.specs.List.{filter, list_all, position_or_len, range_with_len}
use Rattle.std.specs.Option.{option_map_or}
use Rattle.std.proofs.lemmas.Bool.{cases_lt, cond-false, cond-true, lt-ltb}
use Rattle.std.proofs.lemmas.Bool.Decides.{nat_tests}
use Rattle.frame_memory.specs.Pool.{free_count}
use Rattle.iofd_rows.proofs.Found.{all_weaker}
use Rattle.iofd_rows.proofs.ListTests.{or_left}
use Rattle.iofd_runs.proofs.StillTabled.{none_given}
use Rattle.iofd_words.specs.Frames.{is_free}
use Rattle.iofd_words.specs.Tables.{MovesTables, are_different, is_among, is_orphan, may_go, missing_tables}
use Rattle.iofd_words.specs.World.{World}
use Rattle.iofd_words.specs.declared.event.Event.{Event}
use Rattle.iofd_words.specs.declared.numbers.FrameNo.{FrameNo}
use Rattle.iofd_words.specs.declared.reply.Reply.{Reply}
use Rattle.iofd_words.specs.declared.rows.TableFrame.{TableFrame}
use Rattle.user_memory_rows.proofs.FramesFollow.{free_alike}
use Rattle.server_state.specs.Choice as choice
use Rattle.server_state.specs.Choice.{AreFramesChosen}
use Rattle.server_state.proofs.Still.{none_go}
use Rattle.server_state.specs.Shows.{Shows}
use Rattle.server_state.specs.declared.state.State.{State}
use Rattle.page_table_spans.proofs.LeastFrames.{length_least}
use Rattle.page_table_words.specs.Taken.{least_frames}

-- ---- the least of a list of holds

abbrev frame_no : ℕ → FrameNo
frame_no n = record { 0 = n }

abbrev is_unheld : ℕ → Bool
is_unheld count = eqb count 0

-- the places of the frames on which no hold stands, where the list begins at place a
abbrev unheld_from : ℕ → List ℕ → List ℕ
unheld_from a [] = []
unheld_from a (count ∷ holds) = cond (is_unheld count) (a ∷ unheld_from (a + 1) holds) (unheld_from (a + 1) holds)

-- they are those of the range that pass such a test
unheld_in : (p : ℕ → Bool) (holds : List ℕ) (a : ℕ)
    → ((k : ℕ) → k < length holds → p (a + k) ≡ is_unheld (get_or holds k 0))
    → filter p (range_with_len a (length holds)) ≡ unheld_from a holds
unheld_in p [] a each = refl
unheld_in p (count ∷ holds) a each =
    let first : p a ≡ is_unheld count = ap p (omega arith) ∙ each 0 (omega arith) in
    let rest = unheld_in p holds (a + 1) (λ k below. ap p (omega arith) ∙ each (suc k) (omega (arith, below))) in
    rw (first, rest) refl

first_unheld : (holds : List ℕ) (a : ℕ) → position_or_len is_unheld holds < length holds
    → unheld_from a holds ≡ (a + position_or_len is_unheld holds)
    ∷ unheld_from a (set holds (position_or_len is_unheld holds) 1)
first_unheld [] a within = absurd (omega (arith, within))
first_unheld (count ∷ holds) a within = by_test (is_unheld count) refl within (first_unheld holds (a + 1))
  where
    by_test : (b : Bool) → is_unheld count ≡ b → position_or_len is_unheld (count ∷ holds) < length (count ∷ holds)
        → (position_or_len is_unheld holds < length holds
        → unheld_from (a + 1) holds ≡ (a + 1 + position_or_len is_unheld holds)
        ∷ unheld_from (a + 1) (set holds (position_or_len is_unheld holds) 1))
        → unheld_from a (count ∷ holds) ≡ (a + position_or_len is_unheld (count ∷ holds))
        ∷ unheld_from a (set (count ∷ holds) (position_or_len is_unheld (count ∷ holds)) 1)
    by_test true is within later =
        let here : a ≡ a + 0 = omega arith in
        rw is (ap (λ (n : ℕ). n ∷ unheld_from (a + 1) holds) here)
    by_test false is within later =
        let further : 1 + position_or_len is_unheld holds ≡ suc (position_or_len is_unheld holds) = omega arith in
        let place : a + suc (position_or_len is_unheld holds) ≡ a + 1 + position_or_len is_unheld holds = omega arith in
        let inside : position_or_len is_unheld holds < length holds = let all = rw is at within in omega (arith, all) in
        rw (is, further, is, place) (later inside)

none_unheld : (holds : List ℕ) (a : ℕ) → length holds ≤ position_or_len is_unheld holds → unheld_from a holds ≡ []
none_unheld [] a past = refl
none_unheld (count ∷ holds) a past = by_test (is_unheld count) refl past (none_unheld holds (a + 1))
  where
    by_test : (b : Bool) → is_unheld count ≡ b → length (count ∷ holds) ≤ position_or_len is_unheld (count ∷ holds)
        → (length holds ≤ position_or_len is_unheld holds → unheld_from (a + 1) holds ≡ [])
        → unheld_from a (count ∷ holds) ≡ []
    by_test true is past later = absurd (let all = rw is at past in omega (arith, all))
    by_test false is past later = rw is (later (let all = rw is at past in omega (arith, all)))

least_unheld : (n : ℕ) (holds : List ℕ) → least_frames holds n ≡ map frame_no (take n (unheld_from 0 holds))
unfolding least_frames
least_unheld zero holds = refl
least_unheld (suc n) holds = ⊎_elim (some (least_unheld n (set holds (position_or_len is_unheld holds) 1))) none
    (cases_lt (position_or_len is_unheld holds) (length holds))
  where
    taken : Option ℕ → List FrameNo
    taken o = option_map_or (λ (f : ℕ). frame_no f ∷ least_frames (set holds f 1) n) o []

    some : least_frames (set holds (position_or_len is_unheld holds) 1) n ≡ map frame_no
        (take n (unheld_from 0 (set holds (position_or_len is_unheld holds) 1)))
        → position_or_len is_unheld holds < length holds
        → least_frames holds (suc n) ≡ map frame_no (take (suc n) (unheld_from 0 holds))
    some later within =
        let here : 0 + position_or_len is_unheld holds ≡ position_or_len is_unheld holds = omega arith in
        ap taken (cond-true (ltb (position_or_len is_unheld holds) (length holds))
        (Some (position_or_len is_unheld holds)) None
        (lt-ltb (position_or_len is_unheld holds) (length holds) within))
        ∙ ap (λ (l : List FrameNo). frame_no (position_or_len is_unheld holds) ∷ l) later
        ∙ ap (λ (f : ℕ). map frame_no (take (suc n)
        (f ∷ unheld_from 0 (set holds (position_or_len is_unheld holds) 1)))) (sym here)
        ∙ ap (λ (l : List ℕ). map frame_no (take (suc n) l)) (sym (first_unheld holds 0 within))

    none : length holds ≤ position_or_len is_unheld holds
        → least_frames holds (suc n) ≡ map frame_no (take (suc n) (unheld_from 0 holds))
    none past =
        let not_below : ltb (position_or_len is_unheld holds) (length holds) ≡ false =
        search (past, arith, nat_tests) in
        ap taken (cond-false (ltb (position_or_len is_unheld holds) (length holds))
        (Some (position_or_len is_unheld holds)) None not_below)
        ∙ ap (λ (l : List ℕ). map frame_no (take (suc n) l)) (sym (none_unheld holds 0 past))

-- ---- of the world that is shown

-- numbers of a range, some of those that pass a test
above_all : (p : ℕ → Bool) (count n from low : ℕ) → low < from
    → is_among (map frame_no (take n (filter p (range_with_len from count)))) (frame_no low) ≡ false
above_all p count zero from low below = refl
above_all p zero (suc n) from low below = refl
above_all p (suc count) (suc n) from low below =
    by_test (p from) (above_all p count n (from + 1) low (omega (arith, below)))
    (above_all p count (suc n) (from + 1) low (omega (arith, below)))
  where
    by_test : (b : Bool) → is_among (map frame_no (take n (filter p (range_with_len (from + 1) count))))
        (frame_no low) ≡ false
        → is_among (map frame_no (take (suc n) (filter p (range_with_len (from + 1) count)))) (frame_no low) ≡ false
        → is_among (map frame_no (take (suc n) (cond b (from ∷ filter p (range_with_len (from + 1) count))
        (filter p (range_with_len (from + 1) count))))) (frame_no low) ≡ false
    by_test true rest more = let other : eqb from low ≡ false = grind (arith, nat_tests) in rw (other, rest) refl
    by_test false rest more = more

range_different : (p : ℕ → Bool) (count n from : ℕ)
    → are_different (map frame_no (take n (filter p (range_with_len from count)))) ≡ true
range_different p count zero from = refl
range_different p zero (suc n) from = refl
range_different p (suc count) (suc n) from =
    by_test (p from) (above_all p count n (from + 1) from (omega arith)) (range_different p count n (from + 1))
    (range_different p count (suc n) (from + 1))
  where
    by_test : (b : Bool) → is_among (map frame_no (take n (filter p (range_with_len (from + 1) count))))
        (frame_no from) ≡ false
        → are_different (map frame_no (take n (filter p (range_with_len (from + 1) count)))) ≡ true
        → are_different (map frame_no (take (suc n) (filter p (range_with_len (from + 1) count)))) ≡ true
        → are_different (map frame_no (take (suc n)
        (cond b (from ∷ filter p (range_with_len (from + 1) count))
        (filter p (range_with_len (from + 1) count))))) ≡ true
    by_test true apart rest more = rw (apart, rest) refl
    by_test false apart rest more = more

taken_pass : (p : ℕ → Bool) (n : ℕ) (xs : List ℕ)
    → list_all (λ (frame : FrameNo). p frame.0) (map frame_no (take n (filter p xs))) ≡ true
taken_pass p zero xs = refl
taken_pass p (suc n) [] = refl
taken_pass p (suc n) (x ∷ xs) = by_test (p x) refl (taken_pass p n xs) (taken_pass p (suc n) xs)
  where
    by_test : (b : Bool) → p x ≡ b → list_all (λ (frame : FrameNo). p frame.0) (map frame_no (take n (filter p xs)))
        ≡ true → list_all (λ (frame : FrameNo). p frame.0) (map frame_no (take (suc n) (filter p xs))) ≡ true
        → list_all (λ (frame : FrameNo). p frame.0)
        (map frame_no (take (suc n) (cond b (x ∷ filter p xs) (filter p xs)))) ≡ true
    by_test true is rest more = rw (is, rest) refl
    by_test false is rest more = more

module _ {A : Type 0} (w : World) (s : State A) (shows : Shows w s) where
  -- the least free frames of the pool are those of the world
  pub least_frames_free : (n : ℕ) → least_frames s.pool.holds n ≡ choice.least_free w n
  least_frames_free n =
      least_unheld n s.pool.holds
      ∙ ap (λ (l : List ℕ). map frame_no (take n l))
      (sym (unheld_in (is_free w.settings.pool w.user_pages w.pins w.table_frames) s.pool.holds 0 unheld))
      ∙ ap (λ (count : ℕ). map frame_no (take n
      (filter (is_free w.settings.pool w.user_pages w.pins w.table_frames) (range_with_len 0 count))))
      shows.frames.size
    where
      unheld : (k : ℕ) → k < length s.pool.holds
          → is_free w.settings.pool w.user_pages w.pins w.table_frames (0 + k) ≡ eqb (get_or s.pool.holds k 0) 0
      unheld k within =
          let below : ltb k (length s.pool.holds) ≡ true = search (within, arith, nat_tests) in
          ap (is_free w.settings.pool w.user_pages w.pins w.table_frames) (omega arith)
          ∙ free_alike w.settings.pool w.writes w.table_frames w.user_pages w.objects w.areas w.memory w.pins
          w.access_pins s.memory s.pool shows.users shows.pins shows.frames k
          ∙ ap (λ (b : Bool). b && eqb (get_or s.pool.holds k 0) 0) below

  -- each of them is free
  pub least_are_free : (n : ℕ) → list_all (λ frame. is_free w.settings.pool w.user_pages w.pins w.table_frames frame.0)
      (least_frames s.pool.holds n) ≡ true
  least_are_free n =
      ap (list_all (λ (frame : FrameNo). is_free w.settings.pool w.user_pages w.pins w.table_frames frame.0))
      (least_frames_free n)
      ∙ taken_pass (is_free w.settings.pool w.user_pages w.pins w.table_frames) n (range_with_len 0 w.settings.pool)

  -- and each is there once
  pub least_are_different : (n : ℕ) → are_different (least_frames s.pool.holds n) ≡ true
  least_are_different n = ap are_different (least_frames_free n)
      ∙ range_different (is_free w.settings.pool w.user_pages w.pins w.table_frames) w.settings.pool n 0

  -- a step that takes the least for the tables that are missing, and gives none back, moves them as it may and as is
  -- chosen
  pub takes : {E : Type 0} → (left : World) (e : Event E) (answer : Reply) (taken : List FrameNo) (n : ℕ)
      → n ≡ length (missing_tables left.objects left.areas left.table_frames) → n ≤ free_count s.pool.holds
      → taken ≡ least_frames s.pool.holds n → left.table_frames ≡ w.table_frames
      → list_all (λ table. not (is_orphan left.objects table)) w.table_frames ≡ true
      → ((t : TableFrame) → may_go left e answer t ≡ false)
      → MovesTables w left e answer taken [] × AreFramesChosen w left e answer taken []
  takes left e answer taken n missing enough are same owned never =
      let many : length taken ≡ n = ap length are ∙ length_least s.pool.holds n enough in (
        record {
          enough = many ∙ missing ∙ ap (λ (tables : List TableFrame). length
              (missing_tables left.objects left.areas tables)) (sym (none_given left.table_frames));
          free = ap (list_all (λ (frame : FrameNo). is_free w.settings.pool w.user_pages w.pins w.table_frames frame.0))
              are ∙ least_are_free n;
          different = ap are_different are ∙ least_are_different n;
          gone = all_weaker (λ table. not (is_orphan left.objects table)) (λ table. not (is_orphan left.objects table)
              || is_among [] table.frame) w.table_frames (λ table own. or_left _ _ own) owned;
          may = refl;
          rising = refl;
        },
        record { taken = are ∙ least_frames_free n ∙ ap (choice.least_free w) (sym many); given = none_go _ [] w.table_frames never },
      )
