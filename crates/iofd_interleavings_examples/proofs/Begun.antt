-- The beginning of all lists of steps here.
use Rattle.std.proofs.Common.{◌≡◌, true, false, refl, List, [], ◌++◌, eqb, arith, sym, subst, map}
use Rattle.std.proofs.lemmas.Bool.Decides.{nat_tests}
use Rattle.std.specs.declared.alloc.Global.{Global}
use Rattle.iofd_words.specs.declared.numbers.DeviceNo.{DeviceNo}
use Rattle.iofd_steps.specs.After.{changed, settle, without_areas, attached, detached, joined}
use Rattle.iofd_steps.specs.Answers.{Answers}
use Rattle.iofd_refusals.specs.Checks.{allow_iovas_checks, attach_checks, bind_checks, close_checks, copy_checks}
use Rattle.iofd_refusals.specs.Checks.{destroy_checks, detach_checks, device_write_checks, flush_checks}
use Rattle.iofd_refusals.specs.Checks.{hwpt_alloc_checks}
use Rattle.iofd_refusals.specs.Checks.{ioas_alloc_checks, map_checks, unbind_checks, unmap_checks, user_map_checks}
use Rattle.iofd_refusals.specs.Checks.{user_unmap_checks, user_write_checks}
use Rattle.iofd_words.specs.Levels.{number_at}
use Rattle.iofd_words.specs.Policy.{access_outcomes, outcomes}
use Rattle.iofd_steps.specs.Run.{IsRun, Lawful, after}
use Rattle.iofd_words.specs.Tables.{with_tables}
use Rattle.iofd_words.specs.Frames.{FrameWrite}
use Rattle.iofd_words.specs.declared.rows.Phase.TheVariants.{Live}
use Rattle.iofd_examples.specs.Words.{area_row, attachment_row, device, id}
use Rattle.iofd_interleavings.specs.Steps.{AreSteps, AreStepsFrom, IsFill, Made, State, Step, opened}
use Rattle.iofd_interleavings.proofs.RunsAreSteps.{made_from, no_caches, steps_append}
use Rattle.iofd_interleavings_examples.specs.Worked.{beginning, entry, settings, shared}

begins : IsRun settings beginning
unfolding IsRun Lawful after with_tables Answers allow_iovas_checks attach_checks bind_checks close_checks
    copy_checks destroy_checks detach_checks device_write_checks flush_checks hwpt_alloc_checks ioas_alloc_checks
    map_checks unbind_checks unmap_checks user_map_checks user_unmap_checks user_write_checks changed settle
    without_areas attached detached joined outcomes access_outcomes number_at
begins = (
  (refl, record { enough = refl; free = refl; different = refl; gone = refl; may = refl; rising = refl }),
  (
    (refl, record { enough = refl; free = refl; different = refl; gone = refl; may = refl; rising = refl }),
    (
      (refl, record { enough = refl; free = refl; different = refl; gone = refl; may = refl; rising = refl }),
      (
        (refl, record { enough = refl; free = refl; different = refl; gone = refl; may = refl; rising = refl }),
        (
          (refl, record { enough = refl; free = refl; different = refl; gone = refl; may = refl; rising = refl }),
          (
            (refl, record { enough = refl; free = refl; different = refl; gone = refl; may = refl; rising = refl }),
            (
              (refl, record { enough = refl; free = refl; different = refl; gone = refl; may = refl; rising = refl }),
              tt,
            ),
          ),
        ),
      ),
    ),
  ),
)

-- steps that may be made then may be made after it
pub begun : (later : List (Step Global)) → AreStepsFrom settings (no_caches beginning) later
    → AreSteps settings (map Made beginning ++ later)
unfolding AreSteps
begun later are = steps_append settings opened (map Made beginning) later (made_from settings beginning [] begins).0
    (subst (λ (s : State Global). AreStepsFrom settings s later) (sym (made_from settings beginning [] begins).1) are)

-- ---- fills while the page is mapped, whatever was written

pub first_fills : (writes : List FrameWrite) → IsFill (record (shared Live) { writes = writes }) (device 1) entry
first_fills writes = record {
  backed = record {
    attachment = attachment_row 1 1 4;
    attached = refl;
    ioas = id 1;
    space = refl;
    area = area_row 1 1 0x1000 0x1fff 2 3 Live;
    there = (0, omega arith, refl);
    own = refl;
    covers = refl;
    rights = refl;
    phase = refl;
    pinned = refl;
  };
  live = refl;
}

pub second_fills : (writes : List FrameWrite) → IsFill (record (shared Live) { writes = writes }) (device 2) entry
second_fills writes = record {
  backed = record {
    attachment = attachment_row 2 1 4;
    attached = refl;
    ioas = id 1;
    space = refl;
    area = area_row 1 1 0x1000 0x1fff 2 3 Live;
    there = (0, omega arith, refl);
    own = refl;
    covers = refl;
    rights = refl;
    phase = refl;
    pinned = refl;
  };
  live = refl;
}

-- ---- whose cache it is

pub is_first : (d : DeviceNo) → eqb 1 d.0 ≡ true → eqb d.0 1 ≡ true
is_first d is = search (is, arith, nat_tests)

pub is_other : (d : DeviceNo) → eqb 2 d.0 ≡ true → eqb d.0 1 ≡ false
is_other d is = search (is, arith, nat_tests)

pub is_second : (d : DeviceNo) → eqb 2 d.0 ≡ true → eqb d.0 2 ≡ true
is_second d is = search (is, arith, nat_tests)
