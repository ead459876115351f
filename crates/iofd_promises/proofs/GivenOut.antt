-- Frames that a step gives out are nobody's.
use Rattle.std.proofs.Common.{◌≡◌, ◌≢◌, ◌<◌, ℕ, Bool, true, false, ◌&&◌, ◌||◌, not, eqb, ltb, List, [], ◌∷◌, Some, refl}
use Rattle.std.proofs.Common.{arith}
use Rattle.std.specs.List.{list_any, slice_get}
use Rattle.std.proofs.lemmas.Bool.Decides.{nat_tests}
use Rattle.iofd_steps.specs.Answers.{Answers}
use Rattle.iofd_words.specs.Frames.{is_free}
use Rattle.iofd_words.specs.Policy.{outcomes}
use Rattle.iofd_words.specs.Tables.{are_different, is_among}
use Rattle.iofd_words.specs.World.{World}
use Rattle.iofd_words.specs.declared.event.Event.{Event}
use Rattle.iofd_words.specs.declared.event.Event.TheVariants as event
use Rattle.iofd_words.specs.declared.fault.AccessKind.TheVariants.{Write}
use Rattle.iofd_words.specs.declared.numbers.FrameNo.{FrameNo}
use Rattle.iofd_words.specs.declared.reply.Reply.TheVariants as reply
use Rattle.iofd_words.specs.declared.rows.Pin.{Pin}
use Rattle.iofd_words.specs.declared.rows.TableFrame.{TableFrame}
use Rattle.iofd_words.specs.declared.rows.UserPage.{UserPage}
use Rattle.iofd_rows.proofs.Bools.{and_true, not_true, or_false}
use Rattle.iofd_rows.proofs.Unusable.{each_not}
use Rattle.iofd_promises.specs.Owners.{IsNobodys}
use Rattle.iofd_laws.proofs.OwnFrames.{never_written}
use Rattle.iofd_promises.proofs.Lists.{all_apart, one_place}
use Rattle.iofd_promises.proofs.Rows.{within}

other_number : (m n : ℕ) → eqb m n ≡ false → m ≢ n
other_number m n is same = search (is, same, arith, nat_tests)

nobody_has : (b c d : Bool) (frame pool : ℕ) → (ltb frame pool && not ((b || c) || d)) ≡ true
    → (frame < pool) × (b ≡ false) × (c ≡ false) × (d ≡ false)
nobody_has b c d frame pool free =
    let parts = and_true (ltb frame pool) (not ((b || c) || d)) free in
    let rest = or_false (b || c) d (not_true _ parts.1) in
    let firsts = or_false b c rest.0 in
    (search (parts.0, arith, nat_tests), firsts.0, firsts.1, rest.1)

pub nobodys : (w : World) (frame : FrameNo) → is_free w.settings.pool w.user_pages w.pins w.table_frames frame.0 ≡ true
    → IsNobodys w frame
nobodys w frame free =
    let (pool, users, pins, tables) = nobody_has (list_any (λ (p : UserPage). eqb p.frame.0 frame.0) w.user_pages)
    (list_any (λ (p : Pin). eqb p.frame.0 frame.0) w.pins)
    (list_any (λ (t : TableFrame). eqb t.frame.0 frame.0) w.table_frames) frame.0 w.settings.pool free in
    record {
      pool = pool;
      users = λ page has. other_number page.frame.0 frame.0
          (each_not (λ (p : UserPage). eqb p.frame.0 frame.0) w.user_pages page users (within w.user_pages page has));
      pins = λ pin has. other_number pin.frame.0 frame.0
          (each_not (λ (p : Pin). eqb p.frame.0 frame.0) w.pins pin pins (within w.pins pin has));
      tables = λ table has. other_number table.frame.0 frame.0
          (each_not (λ (t : TableFrame). eqb t.frame.0 frame.0) w.table_frames table tables
          (within w.table_frames table has));
    }

pub given_nobodys : {A : Type 0} → (w : World) (e : Event A) (frame : FrameNo) → Answers w e (reply.Frame frame)
    → IsNobodys w frame
unfolding Answers
given_nobodys w (event.UserMap user va) frame answers = nobodys w frame answers
given_nobodys w (event.DeviceWrite device iova bytes) frame answers =
    absurd (never_written w device iova.0 (outcomes w device iova.0 Write) frame answers)
given_nobodys w e frame answers = absurd answers

-- ---- each once

pub taken_once : (frames : List FrameNo) (frame : FrameNo) (i j : ℕ) → are_different frames ≡ true
    → slice_get frames i ≡ Some frame → slice_get frames j ≡ Some frame → i ≡ j
taken_once frames frame i j different first second =
    let same : eqb frame.0 frame.0 ≡ true = search (arith, nat_tests) in
    one_place (λ (f : FrameNo) (g : FrameNo). eqb g.0 f.0) frames i j frame frame
    (as_apart frames different) first second same same
  where
    as_apart : (frames : List FrameNo) → are_different frames ≡ true
        → all_apart (λ (f : FrameNo) (g : FrameNo). eqb g.0 f.0) frames ≡ true
    as_apart [] is = refl
    as_apart (f ∷ frames) is =
        let parts = and_true (not (is_among frames f)) (are_different frames) is in rw parts.0 (as_apart frames parts.1)
