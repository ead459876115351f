-- Spans of pages mapped in page tables one after the other.
use Rattle.std.proofs.Common.{◌≡◌, ◌⊎◌, ℕ, zero, suc, ◌+◌, ◌-◌, ◌*◌, ◌/◌, ◌^◌, ◌<◌, ◌≤◌, Bool, true, false, cond, ◌&&◌}
use Rattle.std.proofs.Common.{ltb, leb, Option, Some, List, [], ◌∷◌, ◌++◌, get_or, length, map, take, refl, ap, subst}
use Rattle.std.proofs.Common.{sym, ◌∙◌, inl, inr, ⊎_elim, arith}
use Rattle.std.specs.List.{range_with_len}
use Rattle.std.proofs.lemmas.Bool.Decides.{nat_tests}
use Rattle.std.proofs.lemmas.List.{get_or_default, length-map, take_all, take_more}
use Rattle.iofd_rows.proofs.Each.{IsIn}
use Rattle.iofd_words.specs.Bounds.{Bounds}
use Rattle.iofd_words.specs.Levels.{levels_of}
use Rattle.iofd_words.specs.Pages.{page_of}
use Rattle.iofd_words.specs.Span.{size_of}
use Rattle.iofd_words.specs.TablePlaces.{TablePlace, pages_in}
use Rattle.iofd_words.specs.Tables.{in_frames}
use Rattle.iofd_words.specs.Width.{bits_of}
use Rattle.iofd_words.specs.declared.flags.Rights.{Rights}
use Rattle.iofd_words.specs.declared.numbers.FrameNo.{FrameNo}
use Rattle.iofd_words.specs.declared.rows.Object.{Object}
use Rattle.iofd_words.specs.declared.rows.TableFrame.{TableFrame}
use Rattle.iofd_words.specs.declared.width.Width.{Width}
use Rattle.frame_memory.specs.Pool.{FramePool, free_count}
use Rattle.page_table_spans.proofs.LeastFrames.{length_least, names_in}
use Rattle.page_table_spans.proofs.SpanPages.{maps_more, maps_none}
use Rattle.page_table_spans.specs.Spans.{HasFrames, IsOfPages, MapsSpan, held_once, lacked, rows_in, with_lacked}
use Rattle.page_table_spans.specs.Spans as spans
use Rattle.page_table_words.specs.Mapped.{Becomes}
use Rattle.page_table_words.specs.Rows.{MappedPage, TableRow, page_at, with_page}
use Rattle.page_table_words.specs.Stands.{IfStands, TableRoot}
use Rattle.page_table_words.specs.Taken.{least_frames, names}
use Rattle.page_table_set.proofs.Changed.{changed_stand, retold}
use Rattle.page_table_set.proofs.ClearedOver.{in_span_or_not}
use Rattle.page_table_set.proofs.Missing.{frames_own, least_are_free, missing_at, rows_of_missing}
use Rattle.page_table_set.proofs.Needed.{lacked_places}
use Rattle.page_table_set.proofs.OthersKept.{one_kept}
use Rattle.page_table_set.proofs.Partly.{Leads}
use Rattle.page_table_set.specs.OverSpans.{LeadsMapped, frames_for, missing_in, places_lacked, with_missing}
use Rattle.page_table_set.specs.PageTables.{AllStand, Hwpt, HwptStands, KeepsOthers, row_of, rows_of}

-- there are pages of which that is found
maps_some : (pages : List MappedPage) (first : ℕ) (frames : List FrameNo) (rights : Rights)
    → (l : List MappedPage) × MapsSpan pages l first frames rights
maps_some pages first frames rights =
    let all = first_ones (length frames) (omega arith) in (
      all.0,
      subst (λ (fs : List FrameNo). MapsSpan pages all.0 first fs rights)
          (take_all (length frames) frames (omega arith)) all.1,
    )
  where
    first_ones : (n : ℕ) → n ≤ length frames → (l : List MappedPage) × MapsSpan pages l first (take n frames) rights
    first_ones zero few = (pages, maps_none pages first rights)
    first_ones (suc n) few =
        let rest = first_ones n (omega (arith, few)) in
        let next : n + 1 ≡ suc n = omega arith in
        let more : take (suc n) frames ≡ take n frames ++ get_or frames n (record { 0 = 0 }) ∷ [] =
        ap (λ (k : ℕ). take k frames) (sym next) ∙ take_more frames n (record { 0 = 0 }) (omega (arith, few)) in
        let d : FrameNo = record { 0 = 0 } in
        let l : List MappedPage = with_page rest.0 (first + length (take n frames)) (get_or frames n d) rights in (
          l,
          subst (λ (fs : List FrameNo). MapsSpan pages l first fs rights) (sym more)
              (maps_more pages rest.0 first (take n frames) rights rest.1 (get_or frames n d)),
        )

-- one way in which they are told then
pub mapped_leads : (Object → Bool) → ℕ → List FrameNo → Rights → Leads → Leads
mapped_leads is_one first frames rights leads object page =
    cond (is_one object && (leb first page && ltb page (first + length frames)))
    (Some (record { page = page; frame = get_or frames (page - first) (record { 0 = 0 }); rights = rights }))
    (leads object page)

pub leads_mapped : (is_one : Object → Bool) (first : ℕ) (frames : List FrameNo) (rights : Rights) (leads : Leads)
    → LeadsMapped is_one first frames rights leads (mapped_leads is_one first frames rights leads)
unfolding mapped_leads
leads_mapped is_one first frames rights leads = record {
  inside = λ object k d one within.
      let a : leb first (first + k) ≡ true = grind (arith, nat_tests) in
      let b : ltb (first + k) (first + length frames) ≡ true = grind (arith, nat_tests) in
      let same : first + k - first ≡ k = omega arith in
      rw (one, a, b, same) (ap (λ (f : FrameNo). Some (record { page = first + k; frame = f; rights = rights }))
      (get_or_default frames k (record { 0 = 0 }) d within));
  outside = λ object page one beside.
      let out : (leb first page && ltb page (first + length frames)) ≡ false = outside page beside in
      rw (one, out) refl;
  others = λ object page other. rw other refl;
}
  where
    outside : (page : ℕ) → (page < first) ⊎ (first + length frames ≤ page)
        → (leb first page && ltb page (first + length frames)) ≡ false
    outside page (inl before) = grind (arith, nat_tests)
    outside page (inr after) = grind (arith, nat_tests)

-- pages that are mapped are found where they are said to lead
pub told_mapped : (is_one : Object → Bool) (object : Object) (first : ℕ) (frames : List FrameNo) (rights : Rights)
    (leads others : Leads) (now : ℕ → Option MappedPage) (pages l : List MappedPage)
    → LeadsMapped is_one first frames rights leads others → is_one object ≡ true
    → ((page : ℕ) → now page ≡ leads object page)
    → ((page : ℕ) → page_at pages page ≡ now page) → MapsSpan pages l first frames rights → (page : ℕ)
    → page_at l page ≡ others object page
told_mapped is_one object first frames rights leads others now pages l mapped one still found maps page =
    ⊎_elim (λ beside. maps.others page beside ∙ found page ∙ still page ∙ sym (mapped.outside object page one beside))
    (λ span.
    let k = page - first in
    let low = span.0 in
    let high = span.1 in
    let small : k < length frames = omega (arith, low, high) in
    let same : first + k ≡ page = omega (arith, low) in
    ap (page_at l) (sym same) ∙ maps.inside k (record { 0 = 0 }) small
    ∙ sym (mapped.inside object k (record { 0 = 0 }) one small) ∙ ap (others object) same)
    (in_span_or_not page first (length frames))

-- ---- one page table

-- what a call made of one page table, in which it mapped these pages
pub record SpanMapped (old new : FramePool) (table : TableRoot) (first : ℕ) (pages : List ℕ) (to : List FrameNo)
    (rights : Rights) (before after : List FrameNo) : Type 0 where
  pub becomes : IfStands old table (λ rows mapped. (l : List MappedPage) → MapsSpan mapped l first to rights
      → Becomes old new table (with_lacked rows (levels_of table.width) pages old.holds) l)
  pub holds : IfStands old table (λ rows mapped. new.holds ≡ held_once old.holds
      (spans.frames_for (lacked rows (levels_of table.width) pages) old.holds))
  pub free : IfStands old table (λ rows mapped. free_count new.holds
      + length (lacked rows (levels_of table.width) pages) ≡ free_count old.holds)
  pub out : IfStands old table (λ rows mapped. after ≡ before
      ++ spans.frames_for (lacked rows (levels_of table.width) pages) old.holds)

-- as the call has it
pub as_span : (old new : FramePool) (inside after table : TableRoot) (first : ℕ) (span : Bounds) (to : List FrameNo)
    (rights : Rights) (before later : List FrameNo)
    → inside ≡ table → after ≡ inside → first ≡ page_of span.first → length to ≡ size_of span / 4096
    → IfStands old inside (λ rows mapped. (l : List MappedPage) → MapsSpan mapped l first to rights
    → Becomes old new after (with_lacked rows (levels_of inside.width)
    (range_with_len first (length to)) old.holds) l)
    → IfStands old inside (λ rows mapped. new.holds ≡ held_once old.holds
    (spans.frames_for (lacked rows (levels_of inside.width) (range_with_len first (length to))) old.holds))
    → IfStands old inside (λ rows mapped. free_count new.holds
    + length (lacked rows (levels_of inside.width) (range_with_len first (length to))) ≡ free_count old.holds)
    → IfStands old inside (λ rows mapped. later ≡ before
    ++ spans.frames_for (lacked rows (levels_of inside.width) (range_with_len first (length to))) old.holds)
    → SpanMapped old new table (page_of span.first) (pages_in span) to rights before later
as_span old new inside after table first span to rights before later is same first_is long becomes holds free out =
    subst (λ (n : ℕ). SpanMapped old new table (page_of span.first) (range_with_len (page_of span.first) n) to
    rights before later) long
    (subst (λ (f : ℕ). SpanMapped old new table f (range_with_len f (length to)) to rights before later) first_is
    (subst (λ (t : TableRoot). SpanMapped old new t first (range_with_len first (length to)) to rights before later) is
    raw))
  where
    raw : SpanMapped old new inside first (range_with_len first (length to)) to rights before later
    raw = record {
      becomes = λ rows mapped stands l maps.
          subst (λ (t : TableRoot). Becomes old new t
          (with_lacked rows (levels_of inside.width) (range_with_len first (length to)) old.holds) l) same
          (becomes rows mapped stands l maps);
      holds = holds;
      free = free;
      out = out;
    }

module _ (pool : FramePool) (frames : List TableFrame) (leads : Leads) (tables : List Hwpt) (h : Hwpt) (span : Bounds)
    (stand : AllStand pool frames leads tables) (there : IsIn tables h) where
  abbrev rows : List TableRow
  rows = rows_of frames h.object

  lacks : places_lacked frames span h ≡ lacked (rows_of frames h.object) (levels_of h.table.width) (pages_in span)
  lacks = lacked_places pool frames (leads h.object) h span (stand.each h there)

  pub missing_long : length (missing_in frames span h) ≡ length
      (lacked (rows_of frames h.object) (levels_of h.table.width) (pages_in span))
  missing_long =
      length-map (places_lacked frames span h) (missing_at h.object) ∙ ap (λ (l : List TablePlace). length l) lacks

  pub frames_are : frames_for (missing_in frames span h) pool.holds ≡ spans.frames_for
      (lacked (rows_of frames h.object) (levels_of h.table.width) (pages_in span)) pool.holds
  frames_are = ap (least_frames pool.holds) missing_long

  abbrev more : List TableFrame
  more = in_frames (missing_in frames span h) (frames_for (missing_in frames span h) pool.holds)

  rows_are : map row_of more ≡ rows_in (lacked (rows_of frames h.object) (levels_of h.table.width) (pages_in span))
      (spans.frames_for (lacked (rows_of frames h.object) (levels_of h.table.width) (pages_in span)) pool.holds)
  rows_are =
      rows_of_missing h.object (places_lacked frames span h) (frames_for (missing_in frames span h) pool.holds)
      ∙ ap (λ (l : List TablePlace). rows_in l (frames_for (missing_in frames span h) pool.holds)) lacks
      ∙ ap (rows_in (lacked (rows_of frames h.object) (levels_of h.table.width) (pages_in span))) frames_are

  -- it has its tables, and all stand
  pub one_mapped : (new : FramePool) (told : ℕ → Option MappedPage) (pages : List MappedPage)
      → length (missing_in frames span h) ≤ free_count pool.holds
      → ((page : ℕ) → page_at pages page ≡ told page)
      → Becomes pool new h.table (with_lacked (rows_of frames h.object) (levels_of h.table.width)
      (pages_in span) pool.holds) pages
      → AllStand new (with_missing frames (missing_in frames span h) pool.holds) (retold h.object told leads) tables
  one_mapped new told pages few found becomes =
      changed_stand pool new tables h frames more leads told pages stand there
      (frames_own h.object (places_lacked frames span h) (frames_for (missing_in frames span h) pool.holds))
      free found
      (subst (λ (l : List TableRow). Becomes pool new h.table (rows_of frames h.object ++ l) pages) (sym rows_are)
      becomes)
    where
      free : (frame : ℕ) → names (map row_of more) frame ≡ true → get_or pool.holds frame 0 ≡ 0
      free frame named =
          let places = lacked (rows_of frames h.object) (levels_of h.table.width) (pages_in span) in
          let enough : length places ≤ free_count pool.holds = let same = missing_long in omega (arith, same, few) in
          least_are_free pool.holds (length places) frame
          (sym (names_in places (spans.frames_for places pool.holds) frame
          (sym (length_least pool.holds (length places) enough)))
          ∙ ap (λ (l : List TableRow). names l frame) (sym rows_are) ∙ named)

  -- as a call left it
  module _ (new : FramePool) (to : List FrameNo) (rights : Rights) (before after : List FrameNo)
      (call : SpanMapped pool new h.table (page_of span.first) (pages_in span) to rights before after) where
    its : HwptStands pool frames (leads h.object) h
    its = stand.each h there

    pub call_stand : (is_one : Object → Bool) (first_leads others : Leads)
        → LeadsMapped is_one (page_of span.first) to rights first_leads others → is_one h.object ≡ true
        → ((page : ℕ) → leads h.object page ≡ first_leads h.object page)
        → length (missing_in frames span h) ≤ free_count pool.holds
        → AllStand new (with_missing frames (missing_in frames span h) pool.holds)
        (retold h.object (others h.object) leads) tables
    call_stand is_one first_leads others mapped one still few =
        let some = maps_some its.pages (page_of span.first) to rights in
        one_mapped new (others h.object) some.0 few
        (told_mapped is_one h.object (page_of span.first) to rights first_leads others (leads h.object) its.pages some.0
        mapped one still its.found some.1)
        (call.becomes (rows_of frames h.object) its.pages its.stands some.0 some.1)

    pub call_others : KeepsOthers (with_missing frames (missing_in frames span h) pool.holds) pool new
    call_others =
        let some = maps_some its.pages (page_of span.first) to rights in
        one_kept pool new h.table frames more h.object some.0
        (frames_own h.object (places_lacked frames span h) (frames_for (missing_in frames span h) pool.holds))
        (subst (λ (l : List TableRow). Becomes pool new h.table (rows_of frames h.object ++ l) some.0) (sym rows_are)
        (call.becomes (rows_of frames h.object) its.pages its.stands some.0 some.1))

    pub call_holds : new.holds ≡ held_once pool.holds (frames_for (missing_in frames span h) pool.holds)
    call_holds = call.holds (rows_of frames h.object) its.pages its.stands ∙ ap (held_once pool.holds) (sym frames_are)

    pub call_free : free_count new.holds + length (missing_in frames span h) ≡ free_count pool.holds
    call_free = let free =
        call.free (rows_of frames h.object) its.pages its.stands in let long = missing_long in omega (arith, free, long)

    pub call_out : after ≡ before ++ frames_for (missing_in frames span h) pool.holds
    call_out = call.out (rows_of frames h.object) its.pages its.stands
        ∙ ap (λ (fs : List FrameNo). before ++ fs) (sym frames_are)

  -- as a call asks it
  pub has_frames : (room : ℕ) → length (missing_in frames span h) ≤ free_count pool.holds
      → length (missing_in frames span h) ≤ room → HasFrames pool h.table (pages_in span) room
  has_frames room few enough =
      let stands = stand.each h there in
      let long = missing_long in
      record {
        rows = rows_of frames h.object;
        mapped = stands.pages;
        stands = stands.stands;
        free = omega (arith, few, long);
        enough = omega (arith, enough, long);
      }

-- the pages of a span lie below where it does
pub end_below : (width : Width) (span : Bounds) (first count : ℕ) → first ≡ span.first → first ≤ span.last
    → count ≡ size_of span / 4096 → IsOfPages width span → (first / 4096 + count) * 4096 ≤ 2 ^ bits_of width
end_below width span first count first_is ordered count_is of_pages =
    let below = of_pages.below in omega (arith, first_is, ordered, count_is, below)
