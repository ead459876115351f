-- Every access pin is of whole pages below 2^64, and an access object holds at most 65,535.
use Rattle.std.proofs.Common.{◌≡◌, ◌≤◌, ℕ, ◌+◌, Bool, true, false, cond, eqb, leb, None, List, [], ◌∷◌, ◌++◌}
use Rattle.std.proofs.Common.{refl, arith, ◌∙◌}
use Rattle.std.specs.List.{count_by}
use Rattle.std.proofs.lemmas.Bool.Decides.{nat_tests}
use Rattle.std.proofs.lemmas.List.Folds.{list_all-append}
use Rattle.iofd_rows.proofs.Bools.{and_true, both_true}
use Rattle.iofd_rows.proofs.Each.{of_all, of_each}
use Rattle.iofd_rows.proofs.Named.{file_is, id_is}
use Rattle.iofd_rows.proofs.PageCounts.{count-cons}
use Rattle.iofd_runs.proofs.AccessPins.{in_without}
use Rattle.iofd_runs.proofs.Moves.{AccessPinsMove, LessAccessPin, OneAccessPin, SameAccessPins, changed_moves}
use Rattle.iofd_runs.specs.PinsFit.{AccessPinsFit, is_fitting_pin}
use Rattle.iofd_steps.specs.After.{changed}
use Rattle.iofd_steps.specs.Answers.{Answers}
use Rattle.iofd_refusals.specs.Checks.{refusal}
use Rattle.iofd_words.specs.Pins.{has_most_pins, is_equal, is_of_access, most_pins, without_pin}
use Rattle.iofd_words.specs.Settings.{Settings}
use Rattle.iofd_words.specs.Tables.{with_tables}
use Rattle.iofd_words.specs.World.{World, opening}
use Rattle.iofd_words.specs.declared.event.Event.{Event}
use Rattle.iofd_words.specs.declared.numbers.FileNo.{FileNo}
use Rattle.iofd_words.specs.declared.numbers.FrameNo.{FrameNo}
use Rattle.iofd_words.specs.declared.numbers.ObjId.{ObjId}
use Rattle.iofd_words.specs.declared.reply.Reply.{Reply}
use Rattle.iofd_words.specs.declared.rows.AccessPin.{AccessPin}

pub opening_pins_fit : (settings : Settings) → AccessPinsFit (opening settings)
opening_pins_fit settings = record { spans = refl; few = λ file access. omega arith }

-- with one more at the end
count_last : (p : AccessPin → Bool) (pins : List AccessPin) (pin : AccessPin)
    → count_by p (pins ++ pin ∷ []) ≡ count_by p pins + cond (p pin) 1 0
count_last p [] pin = count-cons p pin [] ∙ omega arith
count_last p (q ∷ pins) pin =
    let rest = count_last p pins pin in
    let here = count-cons p q (pins ++ pin ∷ []) in
    let before = count-cons p q pins in
    omega (arith, rest, here, before)

-- with one less no more are counted
count_without : (p : AccessPin → Bool) (pin : AccessPin) (pins : List AccessPin)
    → count_by p (without_pin pin pins) ≤ count_by p pins
count_without p pin [] = omega arith
count_without p pin (q ∷ pins) =
    rw (count-cons p q pins) (by_test (is_equal pin q) (count_without p pin pins))
  where
    by_test : (b : Bool) → count_by p (without_pin pin pins) ≤ count_by p pins
        → count_by p (cond b pins (q ∷ without_pin pin pins)) ≤ cond (p q) 1 0 + count_by p pins
    by_test true rest = omega arith
    by_test false rest = rw (count-cons p q (without_pin pin pins)) (omega (arith, rest))

pub keeps_pins_fit : {A : Type 0} → (at : ℕ) (w : World) (e : Event A) (answer : Reply) → refusal w e ≡ None
    → Answers w e answer → AccessPinsFit w → AccessPinsFit (changed at w e answer)
keeps_pins_fit at w e answer none answers fit =
    by_move (changed at w e answer) (changed_moves at w e answer).accesses
  where
    by_move : (new : World) → AccessPinsMove w e new → AccessPinsFit new
    by_move new (SameAccessPins is) =
        record { spans = rw is fit.spans; few = λ file access. rw is (fit.few file access) }
    by_move new (OneAccessPin pin makes same admitted is) =
        record {
          spans = rw is (list_all-append is_fitting_pin w.access_pins (pin ∷ [])
              ∙ both_true _ _ fit.spans (both_true _ _ (admitted none).fits refl));
          few = λ file access.
              rw (is, count_last (is_of_access file access) w.access_pins pin)
              (by_owner file access (is_of_access file access pin) refl (fit.few file access));
        }
      where
        below : (n : ℕ) → leb most_pins n ≡ false → n + 1 ≤ most_pins
        below n is = search (is, arith, nat_tests)

        by_owner : (file : FileNo) (access : ObjId) (b : Bool) → is_of_access file access pin ≡ b
            → count_by (is_of_access file access) w.access_pins ≤ most_pins
            → count_by (is_of_access file access) w.access_pins + cond b 1 0 ≤ most_pins
        by_owner file access false other few = omega (arith, few)
        by_owner file access true own few =
            let names = and_true (eqb pin.file.0 file.0) (eqb pin.access.0 access.0) own in
            let roomy : has_most_pins w.access_pins file access ≡ false =
            rw (← file_is pin.file file names.0, ← id_is pin.access access names.1) (admitted none).roomy in
            below (count_by (is_of_access file access) w.access_pins) roomy
    by_move new (LessAccessPin pin takes same held is) =
        record {
          spans = rw is (of_all is_fitting_pin (without_pin pin w.access_pins) (λ p among.
              of_each is_fitting_pin w.access_pins p fit.spans (in_without pin w.access_pins p among)));
          few = λ file access.
              let before = fit.few file access in
              let fewer = count_without (is_of_access file access) pin w.access_pins in
              rw is (omega (arith, before, fewer));
        }

-- the frames of tables are no part of it
pub tabled_pins_fit : (w : World) (taken given : List FrameNo) → AccessPinsFit w
    → AccessPinsFit (with_tables taken given w)
unfolding with_tables
tabled_pins_fit w taken given fit = record { spans = fit.spans; few = fit.few }
