-- A user's access to its own memory: where the page is, and that the bytes lie in it.
use Rattle.std.proofs.Common.{◌≡◌, ℕ, ◌+◌, ◌<◌, ◌≤◌, ◌%◌, true, false, ◌&&◌, eqb, ltb, Option, Some, None, refl, arith}
use Rattle.std.specs.List.{find, list_all}
use Rattle.std.proofs.lemmas.Bool.Decides.{nat_tests}
use Rattle.iofd_rows.proofs.Found.{found_passes}
use Rattle.iofd_words.specs.Frames.{frame_at}
use Rattle.iofd_words.specs.Pages.{crosses}
use Rattle.iofd_words.specs.World.{World}
use Rattle.iofd_words.specs.declared.numbers.FrameNo.{FrameNo}
use Rattle.iofd_words.specs.declared.numbers.UserNo.{UserNo}
use Rattle.iofd_words.specs.declared.rows.UserPage.{UserPage}

-- an access that crosses no page has some bytes, at most 64, and ends in its page
pub record IsShort (address len : ℕ) : Type 0 where
  pub some : 0 < len
  pub few : len ≤ 64
  pub within : address % 4096 + len ≤ 4096

pub short : (address len : ℕ) → crosses address len ≡ false → IsShort address len
short address len is = record {
  some = search (is, arith, nat_tests);
  few = search (is, arith, nat_tests);
  within = search (is, arith, nat_tests);
}

-- the frame of a user's page is one of the pool
module _ (w : World) (user_frames : list_all (λ (p : UserPage). ltb p.frame.0 w.settings.pool) w.user_pages ≡ true)
  where
    pub page_in_pool : (user : UserNo) (page : ℕ) (frame : FrameNo) → frame_at w.user_pages user page ≡ Some frame
        → frame.0 < w.settings.pool
    page_in_pool user page frame found =
        by_row (find (λ (p : UserPage). eqb p.user.0 user.0 && eqb p.page page) w.user_pages) refl
      where
        none : None ≡ Some frame → ⊥
        none is = cc

        by_row : (o : Option UserPage) → find (λ (p : UserPage). eqb p.user.0 user.0
            && eqb p.page page) w.user_pages ≡ o
            → frame.0 < w.settings.pool
        by_row None is = absurd (none (rw (is, frame_at) at found))
        by_row (Some p) is =
            let same : Some p.frame ≡ Some frame = rw (is, frame_at) at found in
            let here : p.frame ≡ frame = cc in
            let below = (found_passes (λ (q : UserPage). ltb q.frame.0 w.settings.pool)
            (λ (q : UserPage). eqb q.user.0 user.0 && eqb q.page page) w.user_pages p user_frames is).0 in
            rw (← here) (search (below, arith, nat_tests))
