-- Spans of pages cleared in page tables one after the other.
use Rattle.std.proofs.Common.{◌≡◌, ◌⊎◌, ℕ, zero, suc, ◌+◌, ◌<◌, ◌≤◌, Bool, true, false, cond, ◌&&◌, ltb, leb, None}
use Rattle.std.proofs.Common.{List, [], ◌++◌, append-nil, get_or, length, set, take, refl, ap, subst, sym, ◌∙◌, inl}
use Rattle.std.proofs.Common.{inr, ⊎_elim, arith}
use Rattle.std.proofs.lemmas.Bool.Decides.{nat_tests}
use Rattle.std.proofs.lemmas.List.{set-get_or}
use Rattle.iofd_words.specs.declared.numbers.FileNo.{FileNo}
use Rattle.iofd_words.specs.declared.numbers.ObjId.{ObjId}
use Rattle.iofd_words.specs.declared.rows.TableFrame.{TableFrame}
use Rattle.frame_memory.specs.Pool.{FramePool}
use Rattle.page_table_spans.proofs.SpanPages.{clears_more, clears_none}
use Rattle.page_table_spans.specs.Spans.{ClearsSpan}
use Rattle.page_table_words.specs.Mapped.{Becomes, IsTable}
use Rattle.page_table_words.specs.Rows.{MappedPage, TableRow, page_at}
use Rattle.page_table_words.specs.Stands.{IfStands, TableRoot, TableStands}
use Rattle.page_table_set.proofs.Changed.{changed_stand, retold}
use Rattle.page_table_set.proofs.OthersKept.{none_more_kept}
use Rattle.page_table_set.proofs.Partly.{Leads, at_in, not_before, partly, told_then}
use Rattle.page_table_set.specs.OverSpans.{LeadsCleared, is_over}
use Rattle.page_table_set.specs.PageTables.{AllStand, Hwpt, KeepsOthers, rows_of}

-- there are pages of which that is found
clears_some : (pages : List MappedPage) (first count : ℕ) → (l : List MappedPage) × ClearsSpan pages l first count
clears_some pages first zero = (pages, clears_none pages first 0 refl)
clears_some pages first (suc count) =
    let rest = clears_some pages first count in
    (_, clears_more pages rest.0 first count (first + count) (suc count) rest.1 refl (omega arith))

pub in_span_or_not : (page first count : ℕ) → ((page < first) ⊎ (first + count ≤ page))
    ⊎ ((first ≤ page) × (page < first + count))
in_span_or_not page first count = by_tests (ltb page first) (ltb page (first + count)) refl refl
  where
    by_tests : (a b : Bool) → ltb page first ≡ a → ltb page (first + count) ≡ b
        → ((page < first) ⊎ (first + count ≤ page)) ⊎ ((first ≤ page) × (page < first + count))
    by_tests true b before after = let is : page < first = grind (arith, nat_tests) in inl (inl is)
    by_tests false false before after = let is : first + count ≤ page = grind (arith, nat_tests) in inl (inr is)
    by_tests false true before after =
        let low : first ≤ page = grind (arith, nat_tests) in
        let high : page < first + count = grind (arith, nat_tests) in
        inr (low, high)

-- one way in which they are told then
pub cleared_leads : FileNo → ObjId → ℕ → ℕ → Leads → Leads
cleared_leads file ioas first count leads object page =
    cond (is_over file ioas object && (leb first page && ltb page (first + count))) None (leads object page)

pub leads_cleared : (file : FileNo) (ioas : ObjId) (first count : ℕ) (leads : Leads)
    → LeadsCleared file ioas first count leads (cleared_leads file ioas first count leads)
unfolding cleared_leads
leads_cleared file ioas first count leads = record {
  inside = λ object page over low high.
      let a : leb first page ≡ true = grind (arith, nat_tests) in
      let b : ltb page (first + count) ≡ true = grind (arith, nat_tests) in
      rw (over, a, b) refl;
  outside = λ object page over beside.
      let out : (leb first page && ltb page (first + count)) ≡ false = outside page beside in
      rw (over, out) refl;
  others = λ object page over. rw over refl;
}
  where
    outside : (page : ℕ) → (page < first) ⊎ (first + count ≤ page)
        → (leb first page && ltb page (first + count)) ≡ false
    outside page (inl before) = grind (arith, nat_tests)
    outside page (inr after) = grind (arith, nat_tests)

module _ (mid : FramePool) (frames : List TableFrame) (leads others : Leads) (tables : List Hwpt) (n : ℕ) (d : Hwpt)
    (within : n < length tables)
    (stand : AllStand mid frames (partly (take n tables) leads others) tables) where
  abbrev one : Hwpt
  one = get_or tables n d

  pub one_ready : IsTable mid one.table
  one_ready = let stands =
      stand.each one (at_in tables n d within) in record { rows = _; pages = stands.pages; stands = stands.stands }

  pub leads_still : (page : ℕ) → partly (take n tables) leads others one.object page ≡ leads one.object page
  leads_still page =
      ap (λ (b : Bool). cond b (others one.object) (leads one.object) page) (not_before tables n d stand.own within)

  pub cleared_then : (new : FramePool) (file : FileNo) (ioas : ObjId) (first count : ℕ)
      → LeadsCleared file ioas first count leads others → is_over file ioas one.object ≡ true
      → IfStands mid one.table (λ rows pages. (l : List MappedPage) → ClearsSpan pages l first count
      → Becomes mid new one.table rows l)
      → AllStand new frames (partly (take (n + 1) tables) leads others) tables
  cleared_then new file ioas first count cleared over becomes =
      let stands = stand.each one (at_in tables n d within) in
      let some = clears_some stands.pages first count in
      let rows : rows_of frames one.object ++ [] ≡ rows_of frames one.object = append-nil (rows_of frames one.object) in
      told_then new frames leads others tables n d within
      (subst (λ (l : List TableFrame). AllStand new l
      (retold one.object (others one.object) (partly (take n tables) leads others))
      tables) (append-nil frames)
      (changed_stand mid new tables one frames [] (partly (take n tables) leads others) (others one.object) some.0 stand
      (at_in tables n d within) refl
      (λ frame named. cc) (λ page. told stands.pages some.0 some.1 stands.found page)
      (subst (λ (r : List TableRow). Becomes mid new one.table r some.0) (sym rows)
      (becomes _ stands.pages stands.stands some.0 some.1))))
    where
      told : (pages l : List MappedPage) → ClearsSpan pages l first count
          → ((page : ℕ) → page_at pages page ≡ partly (take n tables) leads others one.object page)
          → (page : ℕ) → page_at l page ≡ others one.object page
      told pages l clears found page =
          ⊎_elim (λ beside. clears.others page beside ∙ found page ∙ leads_still page
          ∙ sym (cleared.outside one.object page over beside))
          (λ span. clears.inside page span.0 span.1 ∙ sym (cleared.inside one.object page over span.0 span.1))
          (in_span_or_not page first count)

  pub others_then : (new : FramePool) (first count : ℕ) (inside : Hwpt) (after : TableRoot) → inside ≡ one
      → IfStands mid inside.table (λ rows pages. (l : List MappedPage) → ClearsSpan pages l first count
      → Becomes mid new after rows l)
      → KeepsOthers frames mid new
  others_then new first count inside after is becomes =
      let stands = stand.each one (at_in tables n d within) in
      let some = clears_some stands.pages first count in
      none_more_kept mid new after frames one.object some.0
      (becomes (rows_of frames one.object) stands.pages
      (subst (λ (h : Hwpt). TableStands mid h.table (rows_of frames one.object) stands.pages) (sym is)
      stands.stands) some.0 some.1)

  -- as a call has it, of the page table that it got
  pub cleared_next : (new : FramePool) (file : FileNo) (ioas : ObjId) (first count : ℕ)
      (inside : Hwpt) (after : TableRoot)
      → LeadsCleared file ioas first count leads others → is_over file ioas one.object ≡ true → inside ≡ one
      → after ≡ inside.table
      → IfStands mid inside.table (λ rows pages. (l : List MappedPage) → ClearsSpan pages l first count
      → Becomes mid new after rows l)
      → AllStand new frames (partly (take (n + 1) tables) leads others) tables
  cleared_next new file ioas first count inside after cleared over is same becomes =
      cleared_then new file ioas first count cleared over
      (λ rows pages stands l clears.
      subst (λ (t : TableRoot). Becomes mid new t rows l) (same ∙ ap (λ (h : Hwpt). h.table) is)
      (becomes rows pages (subst (λ (h : Hwpt). TableStands mid h.table rows pages) (sym is) stands) l clears))

-- an element that is written again
pub written_again : (items tables : List Hwpt) (n : ℕ) (d x : Hwpt) → items ≡ tables → n < length items
    → x ≡ get_or items n d → set items n x ≡ tables
written_again items tables n d x same within is = ap (λ (h : Hwpt). set items n h) is ∙ set-get_or items n d ∙ same
