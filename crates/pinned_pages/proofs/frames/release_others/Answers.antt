use Rattle.std.proofs.Common.{◌≡◌, ◌∙◌, ◌++◌, ◌<◌, ℕ, List, Option, None, Some, [], ◌∷◌, sym, ap, arith, get_or, length}
use Rattle.std.proofs.Common.{refl, subst, true, zero, suc}
use Rattle.std.specs.Prelude.{is_some}
use Rattle.std.specs.List.{cons_option, filter_map, range_with_len, slice_get}
use Rattle.std.proofs.lemmas.List.{append-nil}
use Rattle.iofd_words.specs.declared.numbers.FrameNo.{FrameNo}
use Rattle.pinned_pages.specs.Access.{frame_in, row_at}
use Rattle.pinned_pages.specs.Holds.{HasMoreHolds}
use Rattle.pinned_pages.specs.Pages.{unless}
use Rattle.pinned_pages.proofs.HoldsMove.{next_held, one_released}
use Rattle.pinned_pages.proofs.Runs.{mapped_more, none_is}
use Rattle.pinned_pages.proofs.frames.release_others.Goals as goal
use Rattle.pinned_pages.proofs.frames.release_others.Goals.{then-is_none, else-is_none}

at : (frames : List FrameNo) (i : ℕ) (d : FrameNo) → i < length frames → slice_get frames i ≡ Some (get_or frames i d)
at [] i d low = absurd (omega (arith, low))
at (f ∷ frames) zero d low = refl
at (f ∷ frames) (suc i) d low = at frames i d (omega (arith, low))

its_frame : (a : Option FrameNo) (frames : List FrameNo) (i : ℕ) (d : FrameNo) → i < length frames → a ≡ None
    → unless a (slice_get frames i) ≡ Some (get_or frames i d)
its_frame a frames i d low none = rw none (at frames i d low)

no_frame : (a b : Option FrameNo) → is_some a ≡ true → unless a b ≡ None
no_frame (Some f) b some = refl
no_frame None b some = cc

pub release-requires : goal.release-requires
release-requires g c =
    let n = c.loop-index.index in
    let a = λ (i : ℕ). frame_in (row_at c.args.access.now.rows i) in
    let none = sym c.frame.ensures ∙ none_is c.frame.result c.if-is_none.ensures in
    next_held c.loop-index.pool c.args.pool.now (λ i. unless (a i) (slice_get c.args.frames.now i)) 0
    (length c.args.frames.now) n n (get_or c.args.frames.now n (record { 0 = 0 })) (omega arith) c.loop-index-test.true
    c.loop-index.invariant c.requires
    (its_frame (a n) c.args.frames.now n (record { 0 = 0 }) c.loop-index-test.true none)

pub loop-index-preserved : goal.loop-index-preserved
loop-index-preserved g c =
    let n = c.loop-index.index in
    let frames = c.args.frames.now in
    let a = λ (i : ℕ). frame_in (row_at c.args.access.now.rows i) in
    let h = λ (i : ℕ). unless (a i) (slice_get frames i) in
    let f = get_or frames n (record { 0 = 0 }) in
    let now = c.loop-index.pool in
    let next = mapped_more h 0 n n (omega arith) in
    elim c.if-is_none.branch [
      | then-is_none w ↦
          let none = sym c.frame.ensures ∙ none_is c.frame.result w.if-is_none.ensures in
          let is = its_frame (a n) frames n (record { 0 = 0 }) c.loop-index-test.true none in
          let some = next_held now c.args.pool.now h 0 (length frames) n n f (omega arith) c.loop-index-test.true
          c.loop-index.invariant c.requires is in
          let H : List FrameNo → Type 0 = HasMoreHolds w.release.new.self c.args.pool.now in
          rw w.pool-is (subst H (sym (next ∙ ap (λ o. filter_map h (range_with_len 0 n) ++ cons_option o []) is))
          (rw w.release.ensures (one_released now c.args.pool.now (filter_map h (range_with_len 0 n)) f some
          c.loop-index.invariant)))
      | else-is_none w ↦
          let H : List FrameNo → Type 0 = HasMoreHolds now c.args.pool.now in
          let none = no_frame (a n) (slice_get frames n) (ap is_some (sym c.frame.ensures) ∙ w.if-is_none.ensures) in
          rw w.pool-is (subst H (sym (next ∙ ap (λ o. filter_map h (range_with_len 0 n) ++ cons_option o []) none
          ∙ append-nil (filter_map h (range_with_len 0 n)))) c.loop-index.invariant)
    ]
