-- What is found of the pages of a span, one page after another.
use Rattle.std.proofs.Common.{◌≡◌, ◌≢◌, ℕ, ◌+◌, ◌-◌, ◌<◌, ◌≤◌, ◌⊎◌, inl, inr, ⊎_elim, eqb, Some, None, List, [], ◌∷◌}
use Rattle.std.proofs.Common.{◌++◌, length, get_or, refl, sym, ◌∙◌, ap, arith}
use Rattle.std.proofs.lemmas.Bool.{cases_eq, cases_lt, cond-false, cond-true, eq-eqb, ne_eqb}
use Rattle.std.proofs.lemmas.List.{get_or_append_left, get_or_push, length-append}
use Rattle.iofd_words.specs.declared.flags.Rights.{Rights}
use Rattle.iofd_words.specs.declared.numbers.FrameNo.{FrameNo}
use Rattle.page_table_words.specs.Rows.{MappedPage, page_at, with_page, without_page}
use Rattle.page_table_words.proofs.Lookups.{page_at-with, page_at-without}
use Rattle.page_table_spans.specs.Spans.{ClearsSpan, MapsSpan}

-- ---- mapped

abbrev pub to_frame : ℕ → FrameNo → Rights → MappedPage
to_frame page frame rights = record { page = page; frame = frame; rights = rights }

pub maps_none : (pages : List MappedPage) (first : ℕ) (rights : Rights) → MapsSpan pages pages first [] rights
maps_none pages first rights =
    record { inside = λ k d within. absurd (omega (arith, within)); others = λ page outside. refl }

module _ (pages mapped : List MappedPage) (first : ℕ) (frames : List FrameNo) (rights : Rights)
    (maps : MapsSpan pages mapped first frames rights) where
  -- one page more
  pub maps_more : (frame : FrameNo) → MapsSpan pages (with_page mapped (first + length frames) frame rights) first
      (frames ++ frame ∷ []) rights
  maps_more frame = record {
    inside = λ k d within. ⊎_elim (λ (before : k < length frames). earlier k d before)
        (λ (past : length frames ≤ k). last k d (omega (arith, past, within, longer))) (cases_lt k (length frames));
    others = λ page outside.
        let apart : page ≢ first + length frames =
        ⊎_elim (λ (below : page < first). λ same. absurd (omega (arith, below, same)))
        (λ (past : first + length (frames ++ frame ∷ []) ≤ page). λ same. absurd
        (omega (arith, past, same, longer))) outside in
        let still : (page < first) ⊎ (first + length frames ≤ page) =
        ⊎_elim (λ (below : page < first). inl below)
        (λ (past : first + length (frames ++ frame ∷ []) ≤ page). inr (omega (arith, past, longer))) outside in
        page_at-with mapped (first + length frames) frame rights page
        ∙ cond-false (eqb page (first + length frames)) (Some (to_frame (first + length frames) frame rights))
        (page_at mapped page) (ne_eqb page (first + length frames) apart) ∙ maps.others page still;
  }
    where
      longer : length (frames ++ frame ∷ []) ≡ length frames + 1
      longer = length-append frames (frame ∷ [])

      earlier : (k : ℕ) (d : FrameNo) → k < length frames
          → page_at (with_page mapped (first + length frames) frame rights) (first + k) ≡ Some
          (to_frame (first + k) (get_or (frames ++ frame ∷ []) k d) rights)
      earlier k d before =
          page_at-with mapped (first + length frames) frame rights (first + k)
          ∙ cond-false (eqb (first + k) (first + length frames)) (Some (to_frame (first + length frames) frame rights))
          (page_at mapped (first + k)) (ne_eqb (first + k) (first + length frames)
          (λ same. absurd (omega (arith, same, before))))
          ∙ maps.inside k d before ∙ ap (λ (f : FrameNo). Some (to_frame (first + k) f rights))
          (sym (get_or_append_left frames (frame ∷ []) d k before))

      last : (k : ℕ) (d : FrameNo) → k ≡ length frames
          → page_at (with_page mapped (first + length frames) frame rights) (first + k) ≡ Some
          (to_frame (first + k) (get_or (frames ++ frame ∷ []) k d) rights)
      last k d is =
          let here : first + k ≡ first + length frames = omega (arith, is) in
          page_at-with mapped (first + length frames) frame rights (first + k)
          ∙ cond-true (eqb (first + k) (first + length frames)) (Some (to_frame (first + length frames) frame rights))
          (page_at mapped (first + k)) (eq-eqb (first + k) (first + length frames) here)
          ∙ ap (λ (n : ℕ). Some (to_frame n frame rights)) (sym here)
          ∙ ap (λ (f : FrameNo). Some (to_frame (first + k) f rights)) (sym (get_or_push frames frame d k (sym is)))

-- any two lists of pages of which this is found are found alike
pub maps_alike : (pages mapped others : List MappedPage) (first : ℕ) (frames : List FrameNo) (rights : Rights)
    → MapsSpan pages mapped first frames rights → MapsSpan pages others first frames rights → (page : ℕ)
    → page_at others page ≡ page_at mapped page
maps_alike pages mapped others first frames rights one other page =
    ⊎_elim (λ (below : page < first). other.others page (inl below) ∙ sym (one.others page (inl below)))
    (λ (from : first ≤ page).
    ⊎_elim
    (λ (within : page < first + length frames).
    let k = page - first in
    let small : k < length frames = omega (arith, from, within) in
    let same : first + k ≡ page = omega (arith, from) in
    ap (page_at others) (sym same) ∙ other.inside k (record { 0 = 0 }) small
    ∙ sym (one.inside k (record { 0 = 0 }) small) ∙ ap (page_at mapped) same)
    (λ (past : first + length frames ≤ page). other.others page (inr past) ∙ sym (one.others page (inr past)))
    (cases_lt page (first + length frames)))
    (cases_lt page first)

-- ---- cleared

pub clears_none : (pages : List MappedPage) (first count : ℕ) → count ≡ 0 → ClearsSpan pages pages first count
clears_none pages first count none =
    record { inside = λ page from within. absurd (omega (arith, from, within, none)); others = λ page outside. refl }

pub clears_more : (pages cleared : List MappedPage) (first count next more : ℕ) → ClearsSpan pages cleared first count
    → next ≡ first + count → more ≡ count + 1 → ClearsSpan pages (without_page cleared next) first more
clears_more pages cleared first count next more clears next_is more_is = record {
  inside = λ page from within.
      page_at-without cleared next page
      ∙ ⊎_elim (λ (here : page ≡ next). cond-true (eqb page next) None (page_at cleared page) (eq-eqb page next here))
      (λ (earlier : page ≢ next). cond-false (eqb page next) None (page_at cleared page) (ne_eqb page next earlier)
      ∙ clears.inside page from (omega (arith, within, earlier, next_is, more_is)))
      (cases_eq page next);
  others = λ page outside.
      let apart : page ≢ next = ⊎_elim (λ (below : page < first). λ same. absurd (omega (arith, below, same, next_is)))
      (λ (past : first + more ≤ page). λ same. absurd (omega (arith, past, same, next_is, more_is))) outside in
      let still : (page < first) ⊎ (first + count ≤ page) =
      ⊎_elim (λ (below : page < first). inl below)
      (λ (past : first + more ≤ page). inr (omega (arith, past, more_is))) outside in
      page_at-without cleared next page ∙ cond-false (eqb page next) None (page_at cleared page)
      (ne_eqb page next apart) ∙ clears.others page still;
}

pub clears_alike : (pages cleared others : List MappedPage) (first count : ℕ) → ClearsSpan pages cleared first count
    → ClearsSpan pages others first count → (page : ℕ) → page_at others page ≡ page_at cleared page
clears_alike pages cleared others first count one other page =
    ⊎_elim (λ (below : page < first). other.others page (inl below) ∙ sym (one.others page (inl below)))
    (λ (from : first ≤ page).
    ⊎_elim (λ (within : page < first + count). other.inside page from within ∙ sym (one.inside page from within))
    (λ (past : first + count ≤ page). other.others page (inr past) ∙ sym (one.others page (inr past)))
    (cases_lt page (first + count)))
    (cases_lt page first)
