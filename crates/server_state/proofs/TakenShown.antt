-- Frames are shown once some that were free hold tables.
use Rattle.std.proofs.Common.{◌≡◌, ℕ, zero, suc, ◌+◌, ◌<◌, ◌≤◌, ◌⊎◌, inl, inr, Bool, true, false, cond, eqb, List, []}
use Rattle.std.proofs.Common.{◌∷◌, ◌++◌, get_or, length, set, refl, ap, sym, ◌∙◌, arith}
use Rattle.std.specs.Prelude.{slice_index}
use Rattle.std.proofs.lemmas.Bool.Decides.{nat_tests}
use Rattle.std.proofs.lemmas.List.{get_or-set_other, get_or-set_same, length-set}
use Rattle.iofd_words.specs.Frames.{FrameWrite}
use Rattle.iofd_words.specs.Tables.{MissingTable, in_frames}
use Rattle.iofd_words.specs.declared.numbers.FrameNo.{FrameNo}
use Rattle.iofd_words.specs.declared.rows.TableFrame.{TableFrame}
use Rattle.frame_memory.specs.Pool.{FramePool}
use Rattle.page_table_set.proofs.Counted.{tables_append}
use Rattle.page_table_set.specs.PageTables.{KeepsOthers}
use Rattle.user_memory_rows.proofs.CountBy.{count-cons}
use Rattle.user_memory_rows.specs.Shown.{FramesShown, tables_in}
use Rattle.server_state.proofs.GivenBack.{times_in}
use Rattle.page_table_spans.proofs.LeastFrames.{length_held}
use Rattle.page_table_spans.specs.Spans.{held_once}
use Rattle.user_memory.specs.Memory.{Memory, reached}

-- ---- frames that are held once

one_time : (frame : FrameNo) (frames : List FrameNo) (f : ℕ)
    → times_in (frame ∷ frames) f ≡ cond (eqb frame.0 f) 1 0 + times_in frames f
one_time frame frames f = count-cons (λ (x : FrameNo). eqb x.0 f) frame frames

-- the others keep their holds
held_else : (holds : List ℕ) (frames : List FrameNo) (f : ℕ) → times_in frames f ≡ 0
    → slice_index (held_once holds frames) f ≡ slice_index holds f
held_else holds [] f none = refl
held_else holds (frame ∷ frames) f none =
    by_test (eqb frame.0 f) refl (sym (one_time frame frames f) ∙ none)
    (λ fewer. held_else (set holds frame.0 1) frames f fewer)
  where
    by_test : (b : Bool) → eqb frame.0 f ≡ b → cond b 1 0 + times_in frames f ≡ 0
        → (times_in frames f ≡ 0 → slice_index (held_once (set holds frame.0 1) frames) f ≡ slice_index
        (set holds frame.0 1) f)
        → slice_index (held_once (set holds frame.0 1) frames) f ≡ slice_index holds f
    by_test true is sum later = absurd (omega (arith, sum))
    by_test false is sum later =
        later (omega (arith, sum)) ∙ get_or-set_other holds frame.0 f 1 0 (λ same. unlike (sym same))
      where
        unlike : frame.0 ≡ f → ⊥
        unlike same = let itself : eqb frame.0 f ≡ true = grind (arith, nat_tests) in cc

-- and each of them has one
held_here : (holds : List ℕ) (frames : List FrameNo) (f : ℕ) → times_in frames f ≡ 1 → f < length holds
    → slice_index (held_once holds frames) f ≡ 1
held_here holds [] f once within = cc
held_here holds (frame ∷ frames) f once within =
    by_test (eqb frame.0 f) refl (sym (one_time frame frames f) ∙ once)
    (λ again. held_here (set holds frame.0 1) frames f again
    (let long = length-set holds frame.0 1 in omega (arith, long, within)))
  where
    by_test : (b : Bool) → eqb frame.0 f ≡ b → cond b 1 0 + times_in frames f ≡ 1
        → (times_in frames f ≡ 1 → slice_index (held_once (set holds frame.0 1) frames) f ≡ 1)
        → slice_index (held_once (set holds frame.0 1) frames) f ≡ 1
    by_test true is sum later =
        let same : frame.0 ≡ f = grind (arith, nat_tests) in
        let below : frame.0 < length holds = omega (arith, same, within) in
        held_else (set holds frame.0 1) frames f (omega (arith, sum))
        ∙ ap (λ (n : ℕ). get_or (set holds frame.0 1) n 0) (sym same)
        ∙ get_or-set_same holds frame.0 1 0 below
    by_test false is sum later = later (omega (arith, sum))

-- ---- the frames of new tables

-- as many tables are in a frame as it is listed
pub in_listed : (missing : List MissingTable) (frames : List FrameNo) (f : ℕ) → length frames ≡ length missing
    → tables_in (in_frames missing frames) f ≡ times_in frames f
in_listed [] [] f long = refl
in_listed [] (frame ∷ frames) f long = cc
in_listed (m ∷ missing) [] f long = cc
in_listed (m ∷ missing) (frame ∷ frames) f long =
    let rest = in_listed missing frames f (omega (arith, long)) in
    let one = one_time frame frames f in
    let row : tables_in (in_frames (m ∷ missing) (frame ∷ frames)) f ≡ cond (eqb frame.0 f) 1 0
    + tables_in (in_frames missing frames) f =
    count-cons (λ (t : TableFrame). eqb t.frame.0 f) (record {
      file = m.file;
      hwpt = m.hwpt;
      level = m.place.level;
      first = record { 0 = m.place.first };
      frame = frame;
    }) (in_frames missing frames) in
    row ∙ ap (λ (n : ℕ). cond {A = ℕ} (eqb frame.0 f) 1 0 + n) rest ∙ sym one

module _ (pool : ℕ) (writes : List FrameWrite) (frames more : List TableFrame) (memory : Memory)
    (before after : FramePool) (taken : List FrameNo)
    (shown : FramesShown pool writes frames memory before)
    (unreached : (f : ℕ) → 0 < tables_in frames f → reached memory f ≡ 0)
    (free : (f : ℕ) → 0 < times_in taken f → (f < length before.holds) × (slice_index before.holds f ≡ 0))
    (once : (f : ℕ) → times_in taken f ≤ 1)
    (in_them : (f : ℕ) → tables_in more f ≡ times_in taken f)
    (holds : after.holds ≡ held_once before.holds taken)
    (bytes : length after.bytes ≡ length after.holds)
    (others : KeepsOthers (frames ++ more) before after) where
  taken_or_not : (f : ℕ) → (times_in taken f ≡ 0) ⊎ (times_in taken f ≡ 1)
  taken_or_not f = by_count (times_in taken f) (once f)
    where
      by_count : (n : ℕ) → n ≤ 1 → (n ≡ 0) ⊎ (n ≡ 1)
      by_count zero few = inl refl
      by_count (suc zero) few = inr refl
      by_count (suc (suc n)) few = absurd (omega (arith, few))

  sum : (f : ℕ) → tables_in (frames ++ more) f ≡ tables_in frames f + times_in taken f
  sum f = tables_append frames more f ∙ ap (λ (n : ℕ). tables_in frames f + n) (in_them f)

  -- a frame that somebody reaches has no table, before and after
  no_table : (f : ℕ) → 0 < reached memory f → tables_in (frames ++ more) f ≡ 0
  no_table f some = by_tables (tables_in frames f) refl (taken_or_not f)
    where
      by_tables : (n : ℕ) → tables_in frames f ≡ n → (times_in taken f ≡ 0) ⊎ (times_in taken f ≡ 1)
          → tables_in (frames ++ more) f ≡ 0
      by_tables (suc n) is either = absurd (let none = unreached f (omega (arith, is)) in omega (arith, none, some))
      by_tables zero is (inl none) = let all = sum f in omega (arith, all, is, none)
      by_tables zero is (inr one) = absurd (let is_free = (free f (omega (arith, one))).1 in let held = shown.holds f in
          omega (arith, is_free, held, some))

  holds_after : (f : ℕ) → slice_index after.holds f ≡ reached memory f + tables_in (frames ++ more) f
  holds_after f = by_list (taken_or_not f)
    where
      by_list : (times_in taken f ≡ 0) ⊎ (times_in taken f ≡ 1)
          → slice_index after.holds f ≡ reached memory f + tables_in (frames ++ more) f
      by_list (inl none) =
          let same = ap (λ (l : List ℕ). slice_index l f) holds ∙ held_else before.holds taken f none in
          let held = shown.holds f in
          let all = sum f in
          omega (arith, same, held, all, none)
      by_list (inr one) =
          let was = free f (omega (arith, one)) in
          let now = ap (λ (l : List ℕ). slice_index l f) holds ∙ held_here before.holds taken f one was.0 in
          let held = shown.holds f in
          let none = was.1 in
          let all = sum f in
          omega (arith, now, held, none, all, one)

  once_after : (f : ℕ) → tables_in (frames ++ more) f ≤ 1
  once_after f = by_list (taken_or_not f)
    where
      by_list : (times_in taken f ≡ 0) ⊎ (times_in taken f ≡ 1) → tables_in (frames ++ more) f ≤ 1
      by_list (inl none) = let all = sum f in let few = shown.once f in omega (arith, all, few, none)
      by_list (inr one) =
          let none = (free f (omega (arith, one))).1 in
          let held = shown.holds f in
          let all = sum f in
          omega (arith, none, held, all, one)

  size_after : length after.holds ≡ pool
  size_after = ap (λ (l : List ℕ). length l) holds ∙ length_held before.holds taken ∙ shown.size

  pub taken_shown : FramesShown pool writes (frames ++ more) memory after
  taken_shown = record {
    size = size_after;
    count = bytes ∙ size_after;
    full = λ f within some. ap (λ (l : List ℕ). length l) (others f (no_table f some)) ∙ shown.full f within some;
    holds = holds_after;
    once = once_after;
    written = λ f offset within below some.
        ap (λ (l : List ℕ). slice_index l offset) (others f (no_table f some))
        ∙ shown.written f offset within below some;
  }
