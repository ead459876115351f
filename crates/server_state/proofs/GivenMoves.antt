-- A step after which page tables are gone gives their frames back, and moves no others.
use Rattle.std.proofs.Common.{◌≡◌, ℕ, ◌<◌, ◌≤◌, Bool, true, false, ◌&&◌, ◌||◌, not, eqb, ltb, List, [], ◌∷◌, ◌++◌, refl}
use Rattle.std.proofs.Common.{ap, sym, ◌∙◌, inl, inr, arith}
use Rattle.std.specs.List.{filter, list_any}
use Rattle.std.specs.List.Sorted.{IsNonDecreasingBy}
use Rattle.std.proofs.lemmas.Bool.Decides.{nat_tests}
use Rattle.std.proofs.lemmas.List.{append-nil}
use Rattle.iofd_rows.proofs.Bools.{and_true, both_true}
use Rattle.iofd_rows.proofs.Each.{IsIn, of_all}
use Rattle.iofd_rows.proofs.ListTests.{any-filter, any_weaker, or_left}
use Rattle.iofd_rows.specs.Ids.{have_own_ids}
use Rattle.iofd_runs.proofs.StillTabled.{moves_given}
use Rattle.iofd_words.specs.Tables.{MissingTable, MovesTables, in_frames, is_among, is_orphan, kept_tables, may_go}
use Rattle.iofd_words.specs.Tables.{missing_tables, tables_after}
use Rattle.iofd_words.specs.World.{World}
use Rattle.iofd_words.specs.declared.event.Event.{Event}
use Rattle.iofd_words.specs.declared.numbers.FrameNo.{FrameNo}
use Rattle.iofd_words.specs.declared.reply.Reply.{Reply}
use Rattle.iofd_words.specs.declared.rows.TableFrame.{TableFrame}
use Rattle.user_memory_rows.proofs.CountBy.{any_count}
use Rattle.user_memory_rows.specs.Shown.{tables_in}
use Rattle.server_state.proofs.Still.{none_go}
use Rattle.server_state.proofs.GivenBack.{among_is, kept_are, rising, given_once, some_time, times_in}
use Rattle.server_state.specs.Choice.{AreFramesChosen}

no_frames : (missing : List MissingTable) → in_frames missing [] ≡ []
no_frames [] = refl
no_frames (m ∷ missing) = refl

any_same_in : {X : Type 0} (p q : X → Bool) (xs : List X) → ((x : X) → IsIn xs x → p x ≡ q x)
    → list_any p xs ≡ list_any q xs
any_same_in p q [] same = refl
any_same_in p q (x ∷ xs) same = rw (same x (inl refl), any_same_in p q xs (λ y later. same y (inr later))) refl

module _ {A : Type 0} (w left : World) (e : Event A) (answer : Reply) (goes : TableFrame → Bool) (given : List FrameNo)
    (once : (frame : ℕ) → tables_in w.table_frames frame ≤ 1)
    (same : (frame : ℕ) → times_in given frame ≡ tables_in (filter goes w.table_frames) frame)
    (sorted : IsNonDecreasingBy (λ (f : FrameNo). f.0) given)
    (orphan : (t : TableFrame) → IsIn w.table_frames t → is_orphan left.objects t ≡ goes t)
    (stay : left.table_frames ≡ w.table_frames) where
  -- the others are left
  pub tables_left : tables_after [] given left ≡ filter (λ table. not (goes table)) w.table_frames
  tables_left =
      ap (λ (l : List TableFrame). kept_tables given left.table_frames ++ l)
      (no_frames (missing_tables left.objects left.areas (kept_tables given left.table_frames)))
      ∙ append-nil (kept_tables given left.table_frames)
      ∙ ap (kept_tables given) stay
      ∙ kept_are goes w.table_frames given once same

  -- each frame is that of a table that goes
  due : (frame : FrameNo) → IsIn given frame
      → list_any (λ (t : TableFrame). eqb t.frame.0 frame.0 && is_orphan left.objects t) w.table_frames ≡ true
  due frame within =
      let some : 0 < tables_in (filter goes w.table_frames) frame.0 =
      let is = same frame.0 in let more = some_time given frame within in omega (arith, is, more) in
      let counted : ltb 0 (tables_in (filter goes w.table_frames) frame.0) ≡ true = search (some, arith, nat_tests) in
      any_same_in (λ (t : TableFrame). eqb t.frame.0 frame.0 && is_orphan left.objects t) (λ (t : TableFrame). goes t
      && eqb t.frame.0 frame.0) w.table_frames
      (λ t here. ap (λ (b : Bool). eqb t.frame.0 frame.0 && b) (orphan t here)
      ∙ swapped (eqb t.frame.0 frame.0) (goes t))
      ∙ sym (any-filter (λ (t : TableFrame). eqb t.frame.0 frame.0) goes w.table_frames)
      ∙ any_count (λ (t : TableFrame). eqb t.frame.0 frame.0) (filter goes w.table_frames)
      ∙ counted
    where
      swapped : (a b : Bool) → (a && b) ≡ (b && a)
      swapped true true = refl
      swapped true false = refl
      swapped false true = refl
      swapped false false = refl

  pub gives : have_own_ids left.objects ≡ true → missing_tables left.objects left.areas left.table_frames ≡ []
      → ((t : TableFrame) → may_go left e answer t ≡ false)
      → MovesTables w left e answer [] given × AreFramesChosen w left e answer [] given
  gives own none never = (
    moves_given w left e answer given own none stay
        (of_all (λ (t : TableFrame). not (is_orphan left.objects t) || is_among given t.frame) w.table_frames
        (λ t within. rw (orphan t within, among_is goes w.table_frames given once same t within)
        (either (goes t))))
        (of_all (λ (t : TableFrame). is_orphan left.objects t || not (is_among given t.frame)) w.table_frames
        (λ t within. rw (orphan t within, among_is goes w.table_frames given once same t within)
        (other (goes t))))
        (of_all (λ (frame : FrameNo). list_any (λ (t : TableFrame). eqb t.frame.0 frame.0
        && (is_orphan left.objects t || may_go left e answer t)) w.table_frames) given
        (λ frame within. more frame (due frame within)))
        (rising given sorted (given_once goes w.table_frames given once same)),
    record {
      taken = refl;
      given = none_go _ given w.table_frames never;
    },
  )
    where
      either : (b : Bool) → (not b || b) ≡ true
      either true = refl
      either false = refl

      other : (b : Bool) → (b || not b) ≡ true
      other true = refl
      other false = refl

      more : (frame : FrameNo) → list_any (λ (t : TableFrame). eqb t.frame.0 frame.0
          && is_orphan left.objects t) w.table_frames ≡ true
          → list_any (λ (t : TableFrame). eqb t.frame.0 frame.0
          && (is_orphan left.objects t || may_go left e answer t)) w.table_frames ≡ true
      more frame some = any_weaker (λ (t : TableFrame). eqb t.frame.0 frame.0 && is_orphan left.objects t)
          (λ (t : TableFrame). eqb t.frame.0 frame.0
          && (is_orphan left.objects t || may_go left e answer t)) w.table_frames
          (λ t both. let here = and_true (eqb t.frame.0 frame.0) (is_orphan left.objects t) both in both_true _ _ here.0
          (or_left _ _ here.1)) some
