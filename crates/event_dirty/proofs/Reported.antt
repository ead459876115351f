-- A report of what is kept is that of the world, and its span has no page that it doesn't tell.
use Rattle.std.proofs.Common.{◌≡◌, Option, Some, None, ℕ, ◌+◌, ◌<◌, ◌≤◌, ◌^◌, ◌/◌, Bool, true, false, ◌&&◌, ltb, leb, refl, sym, ap, arith}
use Rattle.std.proofs.Math.Path.{fun_ext}
use Rattle.std.specs.Option.{IsSome}
use Rattle.std.proofs.lemmas.Bool.Decides.{nat_tests}
use Rattle.iofd_rows.proofs.Bools.{and_true}
use Rattle.dirty_bitmap.specs.Tracking.{is_dirty}
use Rattle.iofd_runs.proofs.NotRefused.{DirtyPassed}
use Rattle.iofd_words.specs.Dirty.{reported_span, reported_words}
use Rattle.iofd_words.specs.DirtyWords.{dirty_words, is_page_of, is_told}
use Rattle.iofd_words.specs.Pages.{is_whole}
use Rattle.iofd_words.specs.View.{View}
use Rattle.iofd_words.specs.World.{World}
use Rattle.iofd_words.specs.declared.event.DirtyRequest.{DirtyRequest}
use Rattle.iofd_words.specs.declared.numbers.FileNo.{FileNo}
use Rattle.server_state.specs.Shows.{Shows}
use Rattle.server_state.specs.declared.state.State.{State}

pub same_words : {A : Type 0} (w : World) (s : State A) → Shows w s → (file : FileNo) (request : DirtyRequest)
    → dirty_words (is_dirty s.dirty file request.hwpt) (reported_span request) ≡ reported_words w.tracked file request
same_words w s shows file request =
    ap (λ (marked : ℕ → Bool). dirty_words marked (reported_span request))
    (fun_ext (λ page. sym (shows.dirty.marks file request.hwpt page)))

-- what must be there is
pub never_none : {X P : Type 0} (o : Option X) → (P → IsSome o) → P → o ≡ None → ⊥
never_none None some may is = differ (some may)
  where
    differ : false ≡ true → ⊥
    differ is = cc
never_none (Some x) some may is = cc

module _ (v : View) (file : FileNo) (request : DirtyRequest) (passed : DirtyPassed v file request) where
  -- the span has pages, and doesn't end above 2^64
  pub fits : (0 < request.length) × (request.iova.0 + request.length ≤ 2 ^ 64)
  fits =
      let some = passed.some in
      let sum = passed.sum in
      (search (some, arith, nat_tests), search (sum, arith, nat_tests))

  -- it has at most 256 pages
  few_pages : (first len last page : ℕ) → is_whole len ≡ true → is_whole first ≡ true → ltb 256 (len / 4096) ≡ false
      → 0 < len → last + 1 ≡ first + len → page ≤ last / 4096 → page < first / 4096 + 256
  few_pages first len last page whole from few some ends within = search (whole, from, few, some, ends, within, arith, nat_tests)

  pub all_told : (page : ℕ) → is_told (reported_span request) page ≡ is_page_of (reported_span request) page
  all_told page = by_page (is_page_of (reported_span request) page) refl
    where
      by_page : (b : Bool) → is_page_of (reported_span request) page ≡ b
          → (b && ltb page (request.iova.0 / 4096 + 256)) ≡ b
      by_page false is = refl
      by_page true is =
          let whole = and_true (is_whole request.length) (is_whole request.iova.0) passed.whole in
          let span = reported_span request in
          let within = (and_true (leb (span.first / 4096) page) (leb page (span.last / 4096)) is).1 in
          let some = fits.0 in
          let below : page < request.iova.0 / 4096 + 256 =
          few_pages request.iova.0 request.length span.last page whole.0 whole.1 passed.few fits.0 (omega (arith, some))
          (search (within, arith, nat_tests)) in
          search (below, arith, nat_tests)
