-- The page that a user reads and writes.
use Rattle.std.proofs.Common.{◌≡◌, ℕ, ◌/◌, ◌%◌, true, false, ◌&&◌, eqb, Option, Some, None, is_none, List, [], ◌∷◌}
use Rattle.std.proofs.Common.{Contains, refl, ap, arith}
use Rattle.std.specs.List.{find}
use Rattle.std.proofs.lemmas.Bool.{eqb-true}
use Rattle.iofd_steps.specs.After.{changed}
use Rattle.iofd_refusals.specs.Checks.{refusal, user_access_checks}
use Rattle.iofd_words.specs.FirstTrue.{first_true}
use Rattle.iofd_words.specs.Frames.{bytes_at, frame_at}
use Rattle.iofd_steps.specs.Look.{answers_in, lawful_answers, page_bytes}
use Rattle.iofd_words.specs.Record.{Record}
use Rattle.iofd_words.specs.View.{view}
use Rattle.iofd_words.specs.World.{World}
use Rattle.iofd_words.specs.declared.event.Event.TheVariants as event
use Rattle.iofd_words.specs.declared.numbers.FrameNo.{FrameNo}
use Rattle.iofd_words.specs.declared.numbers.UserNo.{UserNo}
use Rattle.iofd_words.specs.declared.query.Answer.TheVariants as answer
use Rattle.iofd_words.specs.declared.query.Query.TheVariants.{UserRead}
use Rattle.iofd_words.specs.declared.refusal.Cause.{Cause}
use Rattle.iofd_words.specs.declared.reply.Reply.TheVariants as reply
use Rattle.iofd_words.specs.declared.rows.UserPage.{UserPage}
use Rattle.iofd_rows.proofs.Bools.{and_true}
use Rattle.iofd_rows.proofs.Contained.{contained_in_one}
use Rattle.iofd_rows.proofs.Each.{in_found}
use Rattle.iofd_runs.proofs.NotRefused.{user_write_passed}
use Rattle.iofd_promises.specs.Bytes.{AreBytesOf, ChangesJust}
use Rattle.iofd_promises.proofs.Bytes.{are_bytes, reads_others, reads_written}
use Rattle.iofd_promises.proofs.Rows.{contains}

-- the row of a user's page, by the frame that it has
pub record IsPage (w : World) (user : UserNo) (number : ℕ) (frame : FrameNo) : Type 0 where
  pub page : UserPage
  pub there : Contains w.user_pages page
  pub of_user : page.user ≡ user
  pub of_page : page.page ≡ number
  pub at_frame : page.frame ≡ frame

user_is : (a b : UserNo) → eqb a.0 b.0 ≡ true → a ≡ b
user_is a b is = let same = eqb-true a.0 b.0 is in ap (λ (n : ℕ). record { 0 = n }) same

pub page_at : (w : World) (user : UserNo) (number : ℕ) (frame : FrameNo)
    → frame_at w.user_pages user number ≡ Some frame → IsPage w user number frame
page_at w user number frame is =
    by_found (find (λ (p : UserPage). eqb p.user.0 user.0 && eqb p.page number) w.user_pages) refl is
  where
    by_found : (o : Option UserPage) → find (λ (p : UserPage). eqb p.user.0 user.0 && eqb p.page number)
        w.user_pages ≡ o → elim o [ Some p ↦ Some p.frame | None ↦ None ] ≡ Some frame → IsPage w user number frame
    by_found None found is = cc
    by_found (Some p) found is =
        let (within, passes) =
        in_found (λ (p : UserPage). eqb p.user.0 user.0 && eqb p.page number) w.user_pages p found in
        let parts = and_true (eqb p.user.0 user.0) (eqb p.page number) passes in
        record {
          page = p;
          there = contains w.user_pages p within;
          of_user = user_is p.user user parts.0;
          of_page = eqb-true p.page number parts.1;
          at_frame = cc;
        }

-- ---- a write

pub user_changes : (A : Type 0) (at : ℕ) (w : World) (user : UserNo) (va : ℕ) (bytes : List ℕ)
    → refusal {A = A} w (event.UserWrite user va bytes) ≡ None
    → (page : UserPage) × Contains w.user_pages page × (page.user ≡ user) × (page.page ≡ va / 4096)
    × ChangesJust w (changed {A = A} at w (event.UserWrite user va bytes) reply.Done) page.frame.0 (va % 4096) bytes
unfolding changed
user_changes A at w user va bytes none =
    by_frame (frame_at w.user_pages user (va / 4096)) refl (user_write_passed (view w) user va bytes none).mapped
  where
    by_frame : (o : Option FrameNo) → frame_at w.user_pages user (va / 4096) ≡ o → is_none o ≡ false
        → (page : UserPage) × Contains w.user_pages page × (page.user ≡ user) × (page.page ≡ va / 4096)
        × ChangesJust w (changed {A = A} at w (event.UserWrite user va bytes) reply.Done)
        page.frame.0 (va % 4096) bytes
    by_frame None is some = cc
    by_frame (Some frame) is some =
        let page = page_at w user (va / 4096) frame is in (
          page.page,
          page.there,
          page.of_user,
          page.of_page,
          rw (page.at_frame, is) (record {
            written = reads_written w.writes frame.0 (va % 4096) bytes;
            others = reads_others w.writes frame.0 (va % 4096) bytes;
          }),
        )

-- ---- a read

pub user_reads : {A : Type 0} → (w : World) (records : List (Record A)) (user : UserNo) (va len : ℕ) (bytes : List ℕ)
    → Contains (answers_in w records (UserRead user va len)) (answer.Read bytes)
    → (page : UserPage) × Contains w.user_pages page × (page.user ≡ user) × (page.page ≡ va / 4096)
    × AreBytesOf w page.frame.0 (va % 4096) len bytes
unfolding answers_in
user_reads w records user va len bytes has = by_refusal (first_true (user_access_checks (view w) user va len)) has
  where
    Reads : Type 0
    Reads = (page : UserPage) × Contains w.user_pages page × (page.user ≡ user) × (page.page ≡ va / 4096)
        × AreBytesOf w page.frame.0 (va % 4096) len bytes

    by_frame : (o : Option FrameNo) → frame_at w.user_pages user (va / 4096) ≡ o
        → Contains (page_bytes w va len o) (answer.Read bytes) → Reads
    by_frame None is (k, within, same) = absurd (omega (arith, within))
    by_frame (Some frame) is has =
        let page = page_at w user (va / 4096) frame is in
        let same = contained_in_one (answer.Read (bytes_at w.writes frame.0 (va % 4096) len)) (answer.Read bytes) has in
        let bytes_are : bytes_at w.writes frame.0 (va % 4096) len ≡ bytes = cc in (
          page.page,
          page.there,
          page.of_user,
          page.of_page,
          rw (page.at_frame, ← bytes_are) (are_bytes w frame.0 (va % 4096) len),
        )

    refused : (cause : Cause) → answer.Refused (record { cause = cause }) ≡ answer.Read bytes → ⊥
    refused cause is = cc

    by_refusal : (o : Option Cause) → Contains
        (elim o [
          | Some cause ↦ answer.Refused (record { cause = cause }) ∷ []
          | None ↦ lawful_answers w records (UserRead user va len)
        ]) (answer.Read bytes) → Reads
    by_refusal (Some cause) has = absurd (refused cause (contained_in_one _ _ has))
    by_refusal None has = by_frame (frame_at w.user_pages user (va / 4096)) refl has
