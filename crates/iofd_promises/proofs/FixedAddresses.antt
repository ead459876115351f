-- An address at which a MAP was placed is one that it could have named: with that address fixed nothing refuses it.
use Rattle.std.proofs.Common.{◌≡◌, ℕ, zero, suc, Bool, true, false, cond, ◌&&◌, ◌||◌, not, Option, Some, None, List, []}
use Rattle.std.proofs.Common.{◌∷◌, drop, refl, ap, sym, ◌∙◌, subst}
use Rattle.iofd_steps.specs.After.{changed, copy_changes, map_changes, settle}
use Rattle.iofd_steps.specs.Answers.{Answers}
use Rattle.iofd_refusals.specs.Checks.{copy_checks, has_choice, is_source_writable, lacks_mapped_frames, map_checks}
use Rattle.iofd_refusals.specs.Checks.{refusal}
use Rattle.iofd_words.specs.Files.{user_of}
use Rattle.iofd_words.specs.FirstTrue.{first_true}
use Rattle.iofd_words.specs.Rights.{is_fixed, is_readable, is_writeable}
use Rattle.iofd_words.specs.Tables.{MovesTables}
use Rattle.iofd_words.specs.View.{view}
use Rattle.iofd_words.specs.World.{World}
use Rattle.iofd_words.specs.declared.event.Event.TheVariants as event
use Rattle.iofd_words.specs.declared.event.MapRequest.{MapRequest}
use Rattle.iofd_words.specs.declared.flags.MapFlags.{MapFlags}
use Rattle.iofd_words.specs.declared.numbers.FileNo.{FileNo}
use Rattle.iofd_words.specs.declared.numbers.FrameNo.{FrameNo}
use Rattle.iofd_words.specs.declared.numbers.Iova.{Iova}
use Rattle.iofd_words.specs.declared.numbers.UserNo.{UserNo}
use Rattle.iofd_words.specs.declared.refusal.Cause.TheVariants as cause
use Rattle.iofd_words.specs.declared.reply.Reply.TheVariants as reply
use Rattle.iofd_laws.proofs.DueFrames.{due}
use Rattle.iofd_rows.proofs.Bools.{both_false, both_true}
use Rattle.iofd_runs.proofs.KeepsTabled.{HasTables}
use Rattle.iofd_runs.proofs.MappedAt.{copy_lies_at, lies_at}
use Rattle.iofd_runs.proofs.NotRefused.{copy_passed, map_passed}
use Rattle.iofd_words.specs.Copies.{placed_as}
use Rattle.iofd_words.specs.declared.event.CopyRequest.{CopyRequest}
use Rattle.iofd_words.specs.declared.rows.Area.{Area}
use Rattle.iofd_runs.proofs.CopySource.{source_area}

-- the first so many tests of a table are false
abbrev FalseUpTo : {C : Type 0} → ℕ → List (C × Bool) → Type 0
FalseUpTo zero rows = Unit {0}
FalseUpTo (suc n) [] = Unit {0}
FalseUpTo (suc n) (row ∷ rows) = (row.1 ≡ false) × FalseUpTo n rows

-- so those after them decide
later_rows : {C : Type 0} (n : ℕ) (rows : List (C × Bool)) → FalseUpTo n rows
    → first_true rows ≡ first_true (drop n rows)
later_rows zero rows none = refl
later_rows (suc n) [] none = refl
later_rows (suc n) (row ∷ rows) none =
    ap (λ (b : Bool). cond b (Some row.0) (first_true rows)) none.0 ∙ later_rows n rows none.1

-- the request with this address, fixed, and flags that give the same rights
abbrev pub at_address : MapRequest → MapFlags → Iova → MapRequest
at_address request flags iova = record request { flags = flags; iova = iova }

and_false : (a b : Bool) → b ≡ false → (a && b) ≡ false
and_false true b is = is
and_false false b is = refl

module _ (w : World) (file : FileNo) (request : MapRequest) (flags : MapFlags) (iova : Iova)
    (fixed : is_fixed flags ≡ true) (reads : is_readable flags ≡ is_readable request.flags)
    (writes : is_writeable flags ≡ is_writeable request.flags) where
  only_frames : (A : Type 0) → refusal {A = A} w (event.Map file request) ≡ None
      → Answers {A = A} w (event.Map file request) (reply.Iova iova)
      → refusal {A = A} w (event.Map file (at_address request flags iova)) ≡ cond
      (lacks_mapped_frames (view w) file (at_address request flags iova)) (Some cause.Frames) None
  unfolding map_checks Answers
  only_frames A none answers =
      let passed = map_passed (view w) file request none in
      let lies = lies_at w file request iova none answers in
      later_rows 12 (map_checks (view w) file (at_address request flags iova)) (
        ap not passed.opened,
        (
          ap (λ (b : Bool). not (b || is_writeable flags)) reads
              ∙ ap (λ (b : Bool). not (is_readable request.flags || b)) writes ∙ passed.right,
          (
            both_false _ _ passed.user_sum (and_false (is_fixed flags) _ lies.sum),
            (
              both_false _ _ passed.some (ap not (both_true _ _ passed.whole passed.whole_user)),
              (
                and_false (is_fixed flags) _ (ap not lies.whole),
                (
                  passed.in_user,
                  (
                    ap not passed.space,
                    (
                      and_false (is_fixed flags) _ lies.usable,
                      (
                        and_false (is_fixed flags) _ lies.apart,
                        (
                          both_false _ _ passed.roomy (ap (λ (b : Bool). not b
                              && not (has_choice (view w) file (at_address request flags iova))) fixed),
                          (
                            passed.present,
                            (passed.within_limit, tt),
                          ),
                        ),
                      ),
                    ),
                  ),
                ),
              ),
            ),
          ),
        ),
      )

  -- it leaves the same world
  same_left : (A : Type 0) (at : ℕ) → changed {A = A} at w (event.Map file (at_address request flags iova))
      (reply.Iova iova) ≡ changed {A = A} at w (event.Map file request) (reply.Iova iova)
  unfolding changed settle
  same_left A at = by_user (user_of w.settings file)
    where
      by_user : (user : Option UserNo) → map_changes at w file (at_address request flags iova) iova user ≡ map_changes
          at w file request iova user
      by_user None = refl
      by_user (Some user) = rw (reads, writes) refl

  pub could_be_fixed : (A : Type 0) (at : ℕ) → HasTables w → (taken given : List FrameNo)
      → refusal {A = A} w (event.Map file request) ≡ None → Answers {A = A} w (event.Map file request) (reply.Iova iova)
      → MovesTables {A = A} w (changed {A = A} at w (event.Map file request) (reply.Iova iova)) (event.Map file request)
      (reply.Iova iova) taken given → refusal {A = A} w (event.Map file (at_address request flags iova)) ≡ None
  unfolding Answers
  could_be_fixed A at has taken given none answers moves =
      by_frames (lacks_mapped_frames (view w) file (at_address request flags iova)) (only_frames A none answers)
    where
      as_fixed : Answers {A = A} w (event.Map file (at_address request flags iova)) (reply.Iova iova)
      as_fixed = rw fixed refl

      moves_fixed : MovesTables {A = A} w (changed {A = A} at w (event.Map file (at_address request flags iova))
          (reply.Iova iova)) (event.Map file (at_address request flags iova)) (reply.Iova iova) taken given
      moves_fixed =
          let left : MovesTables {A = A} w (changed {A = A} at w (event.Map file request) (reply.Iova iova))
          (event.Map file (at_address request flags iova)) (reply.Iova iova) taken given =
          record {
            enough = moves.enough;
            free = moves.free;
            different = moves.different;
            gone = moves.gone;
            may = moves.may;
            rising = moves.rising;
          } in
          subst (λ (new : World). MovesTables {A = A} w new (event.Map file (at_address request flags iova))
          (reply.Iova iova) taken given) (sym (same_left A at)) left

      by_frames : (b : Bool) → refusal {A = A} w (event.Map file (at_address request flags iova)) ≡ cond b
          (Some cause.Frames) None → refusal {A = A} w (event.Map file (at_address request flags iova)) ≡ None
      by_frames false is = is
      by_frames true is = absurd (due at w has taken given (event.Map file (at_address request flags iova))
          (reply.Iova iova) is (ap not fixed) as_fixed moves_fixed)

-- ---- a COPY

abbrev pub copied_to : CopyRequest → MapFlags → Iova → CopyRequest
copied_to request flags iova = record request { flags = flags; dst_iova = iova }

module _ (w : World) (file : FileNo) (request : CopyRequest) (flags : MapFlags) (iova : Iova)
    (fixed : is_fixed flags ≡ true) (reads : is_readable flags ≡ is_readable request.flags)
    (writes : is_writeable flags ≡ is_writeable request.flags) where
  only_copy_frames : (A : Type 0) → refusal {A = A} w (event.Copy file request) ≡ None
      → Answers {A = A} w (event.Copy file request) (reply.Iova iova)
      → refusal {A = A} w (event.Copy file (copied_to request flags iova)) ≡ cond
      (lacks_mapped_frames (view w) file (placed_as (copied_to request flags iova))) (Some cause.Frames) None
  unfolding copy_checks Answers
  only_copy_frames A none answers =
      let passed = copy_passed (view w) file request none in
      let lies = copy_lies_at w file request iova none answers in
      later_rows 14 (copy_checks (view w) file (copied_to request flags iova)) (
        ap not passed.opened,
        (
          ap (λ (b : Bool). not (b || is_writeable flags)) reads
              ∙ ap (λ (b : Bool). not (is_readable request.flags || b)) writes ∙ passed.right,
          (
            both_false _ _ passed.source_sum (and_false (is_fixed flags) _ lies.sum),
            (
              both_false _ _ passed.some (ap not (both_true _ _ passed.whole passed.whole_source)),
              (
                and_false (is_fixed flags) _ (ap not lies.whole),
                (
                  ap not passed.space,
                  (
                    ap not passed.source_space,
                    (
                      passed.found,
                      (
                        ap (λ (b : Bool). b && not (is_source_writable (view w) file request)) writes ∙ passed.writable,
                        (
                          and_false (is_fixed flags) _ lies.usable,
                          (
                            and_false (is_fixed flags) _ lies.apart,
                            (
                              both_false _ _ passed.roomy (ap (λ (b : Bool). not b
                                  && not (has_choice (view w) file (placed_as (copied_to request flags iova))))
                                  fixed),
                              (
                                passed.present,
                                (passed.within_limit, tt),
                              ),
                            ),
                          ),
                        ),
                      ),
                    ),
                  ),
                ),
              ),
            ),
          ),
        ),
      )

  same_copy_left : (A : Type 0) (at : ℕ) → changed {A = A} at w (event.Copy file (copied_to request flags iova))
      (reply.Iova iova) ≡ changed {A = A} at w (event.Copy file request) (reply.Iova iova)
  unfolding changed settle
  same_copy_left A at = by_source (source_area w file request)
    where
      by_source : (source : Option Area) → copy_changes w file (copied_to request flags iova) iova source ≡ copy_changes
          w file request iova source
      by_source None = refl
      by_source (Some source) = rw (reads, writes) refl

  pub copy_could_be_fixed : (A : Type 0) (at : ℕ) → HasTables w → (taken given : List FrameNo)
      → refusal {A = A} w (event.Copy file request) ≡ None
      → Answers {A = A} w (event.Copy file request) (reply.Iova iova)
      → MovesTables {A = A} w (changed {A = A} at w (event.Copy file request) (reply.Iova iova))
      (event.Copy file request) (reply.Iova iova) taken given
      → refusal {A = A} w (event.Copy file (copied_to request flags iova)) ≡ None
  unfolding Answers
  copy_could_be_fixed A at has taken given none answers moves =
      by_frames (lacks_mapped_frames (view w) file (placed_as (copied_to request flags iova)))
      (only_copy_frames A none answers)
    where
      as_fixed : Answers {A = A} w (event.Copy file (copied_to request flags iova)) (reply.Iova iova)
      as_fixed = rw fixed refl

      moves_fixed : MovesTables {A = A} w (changed {A = A} at w (event.Copy file (copied_to request flags iova))
          (reply.Iova iova)) (event.Copy file (copied_to request flags iova)) (reply.Iova iova) taken given
      moves_fixed =
          let left : MovesTables {A = A} w (changed {A = A} at w (event.Copy file request) (reply.Iova iova))
          (event.Copy file (copied_to request flags iova)) (reply.Iova iova) taken given =
          record {
            enough = moves.enough;
            free = moves.free;
            different = moves.different;
            gone = moves.gone;
            may = moves.may;
            rising = moves.rising;
          } in
          subst (λ (new : World). MovesTables {A = A} w new (event.Copy file (copied_to request flags iova))
          (reply.Iova iova) taken given) (sym (same_copy_left A at)) left

      by_frames : (b : Bool) → refusal {A = A} w (event.Copy file (copied_to request flags iova)) ≡ cond b
          (Some cause.Frames) None → refusal {A = A} w (event.Copy file (copied_to request flags iova)) ≡ None
      by_frames false is = is
      by_frames true is = absurd (due at w has taken given (event.Copy file (copied_to request flags iova))
          (reply.Iova iova) is (ap not fixed) as_fixed moves_fixed)
