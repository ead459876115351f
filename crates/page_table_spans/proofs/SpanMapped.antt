-- A page table after a part of a span.
use Rattle.std.proofs.Common.{◌≡◌, ℕ, ◌+◌, ◌-◌, ◌*◌, ◌^◌, ◌<◌, ◌≤◌, false, eqb, List, [], ◌∷◌, ◌++◌, length, get_or}
use Rattle.std.proofs.Common.{take, refl, sym, ◌∙◌, ap, subst, arith}
use Rattle.std.specs.List.{range_with_len}
use Rattle.std.proofs.lemmas.Bool.{or_parts}
use Rattle.std.proofs.lemmas.List.{append_assoc, append-nil, length-append, length-take-le, take_more}
use Rattle.std.proofs.lemmas.List.Folds.{list_any-append}
use Rattle.iofd_words.specs.declared.flags.Rights.{Rights}
use Rattle.iofd_words.specs.declared.numbers.FrameNo.{FrameNo}
use Rattle.iofd_words.specs.Levels.{levels_of}
use Rattle.iofd_words.specs.TablePlaces.{TablePlace}
use Rattle.iofd_words.specs.Width.{bits_of}
use Rattle.frame_memory.specs.Pool.{FramePool, free_count}
use Rattle.page_table_words.specs.Mapped.{Becomes, HasRoom, IsBelow}
use Rattle.page_table_words.specs.Rows.{MappedPage, TableRow, with_page, without_page}
use Rattle.page_table_words.specs.Stands.{IfStands, TableRoot, TableStands}
use Rattle.page_table_words.specs.Taken.{LeavesOthers, least_frames, missing, names, rows_below, with_tables}
use Rattle.page_table_words.proofs.Frames.{no_frames}
use Rattle.page_table_words.proofs.FramesUnder.{range_more}
use Rattle.page_table_words.proofs.Tables.{stands_alike}
use Rattle.page_table_spans.specs.Spans.{ClearsSpan, HasFrames, MapsSpan, frames_for, held_once, lacked, rows_in}
use Rattle.page_table_spans.specs.Spans.{with_lacked}
use Rattle.page_table_spans.proofs.LeastFrames.{held_after, length_least}
use Rattle.page_table_spans.proofs.SpanPages.{clears_alike, clears_more, maps_alike, maps_more, maps_none}
use Rattle.page_table_spans.proofs.SpanTables.{frames_of_all, lacked_fewer, lacked_then, length_one, range_parts}
use Rattle.page_table_spans.proofs.SpanTables.{rows_of_all, rows_of_one}

-- ---- what other frames keep

pub others_stay : (rows : List TableRow) (pool : FramePool) → LeavesOthers rows pool pool
others_stay rows pool = record { holds = λ frame other. refl; bytes = λ frame other. refl; count = refl }

pub others_then : (rows more : List TableRow) (old mid new : FramePool) → LeavesOthers rows old mid
    → LeavesOthers (rows ++ more) mid new → LeavesOthers (rows ++ more) old new
others_then rows more old mid new first later = record {
  holds = λ frame other. later.holds frame other ∙ first.holds frame (fewer frame other);
  bytes = λ frame other. later.bytes frame other ∙ first.bytes frame (fewer frame other);
  count = later.count ∙ first.count;
}
  where
    fewer : (frame : ℕ) → names (rows ++ more) frame ≡ false → names rows frame ≡ false
    fewer frame other =
        (or_parts _ _ (sym (list_any-append (λ (row : TableRow). eqb row.frame.0 frame) rows more) ∙ other)).0

-- ---- mapped

-- the first pages of a span are mapped, to these frames
pub record IsMapped (old new : FramePool) (table : TableRoot) (rows : List TableRow) (pages : List MappedPage)
    (first : ℕ) (frames : List FrameNo) (rights : Rights) (before after : List FrameNo) : Type 0 where
  pub mapped : List MappedPage
  pub maps : MapsSpan pages mapped first frames rights
  pub becomes : Becomes old new table (with_lacked rows (levels_of table.width)
      (range_with_len first (length frames)) old.holds) mapped
  pub out : after ≡ before ++ frames_for (lacked rows (levels_of table.width) (range_with_len first (length frames)))
      old.holds
  pub free : free_count new.holds + length
      (lacked rows (levels_of table.width) (range_with_len first (length frames))) ≡ free_count old.holds

pub none_mapped : (pool : FramePool) (table : TableRoot) (rows : List TableRow) (pages : List MappedPage) (first : ℕ)
    (rights : Rights) (out : List FrameNo) → TableStands pool table rows pages
    → IsMapped pool pool table rows pages first [] rights out out
none_mapped pool table rows pages first rights out stands =
    let none = no_frames pool.holds 0 refl in
    let same : rows ++ rows_in [] (least_frames pool.holds 0) ≡ rows = append-nil rows in
    record {
      mapped = pages;
      maps = maps_none pages first rights;
      becomes = record {
        stands = rw same stands;
        others = others_stay (rows ++ rows_in [] (least_frames pool.holds 0)) pool;
      };
      out = sym (append-nil out) ∙ ap (λ (fs : List FrameNo). out ++ fs) (sym none);
      free = omega arith;
    }

module _ (old mid : FramePool) (table : TableRoot) (rows : List TableRow) (pages : List MappedPage) (first : ℕ)
    (frames : List FrameNo) (rights : Rights) (before between : List FrameNo)
    (stands : TableStands old table rows pages)
    (is : IsMapped old mid table rows pages first frames rights before between) where
  abbrev pub rows_now : List TableRow
  rows_now = with_lacked rows (levels_of table.width) (range_with_len first (length frames)) old.holds

  free_first : length (lacked rows (levels_of table.width) (range_with_len first (length frames))) ≤ free_count
      old.holds
  free_first = let counted = is.free in omega (arith, counted)

  pub holds_now : mid.holds ≡ held_once old.holds
      (frames_for (lacked rows (levels_of table.width) (range_with_len first (length frames))) old.holds)
  holds_now =
      let places = lacked rows (levels_of table.width) (range_with_len first (length frames)) in
      held_after old mid table rows pages is.mapped places (frames_for places old.holds) stands
      (sym (length_least old.holds (length places) free_first)) is.becomes

  -- what one page more lacks
  pub lacks_more : IsBelow table.width (first + length frames)
      → length (lacked rows (levels_of table.width) (range_with_len first (length frames + 1))) ≡ length
      (lacked rows (levels_of table.width) (range_with_len first (length frames)))
      + missing rows_now (levels_of table.width) (first + length frames)
  lacks_more below =
      ap (λ (ps : List ℕ). length (lacked rows (levels_of table.width) ps)) (range_more first (length frames))
      ∙ ap (λ (ps : List TablePlace). length ps)
      (lacked_then rows (levels_of table.width) (range_with_len first (length frames)) old.holds free_first
      ((first + length frames) ∷ []))
      ∙ length-append (lacked rows (levels_of table.width) (range_with_len first (length frames)))
      (lacked rows_now (levels_of table.width) ((first + length frames) ∷ []))
      ∙ ap (λ (n : ℕ). length (lacked rows (levels_of table.width) (range_with_len first (length frames))) + n)
      (length_one mid table rows_now is.mapped (first + length frames) is.becomes.stands below)

  -- one page more
  pub mapped_more : (new : FramePool) (after : List FrameNo) (frame : FrameNo)
      → IsBelow table.width (first + length frames)
      → Becomes mid new table (with_tables rows_now (levels_of table.width) (first + length frames) mid.holds)
      (with_page is.mapped (first + length frames) frame rights)
      → after ≡ between ++ least_frames mid.holds (missing rows_now (levels_of table.width) (first + length frames))
      → free_count new.holds + missing rows_now (levels_of table.width) (first + length frames) ≡ free_count mid.holds
      → IsMapped old new table rows pages first (frames ++ frame ∷ []) rights before after
  mapped_more new after frame below becomes out free =
      let n = levels_of table.width in
      let page = first + length frames in
      let lacks = missing rows_now n page in
      let earlier = lacked rows n (range_with_len first (length frames)) in
      let longer : length (frames ++ frame ∷ []) ≡ length frames + 1 = length-append frames (frame ∷ []) in
      let all : range_with_len first (length (frames ++ frame ∷ [])) ≡ range_with_len first (length frames) ++ page
      ∷ [] = ap (range_with_len first) longer ∙ range_more first (length frames) in
      let enough : lacks ≤ free_count mid.holds = omega (arith, free) in
      let one = length_one mid table rows_now is.mapped page is.becomes.stands below in
      let same_rows : with_tables rows_now n page mid.holds ≡ with_lacked rows n
      (range_with_len first (length (frames ++ frame ∷ []))) old.holds =
      rows_of_one mid table rows_now is.mapped page is.becomes.stands below enough
      ∙ ap (with_lacked rows_now n (page ∷ [])) holds_now
      ∙ sym (rows_of_all rows n (range_with_len first (length frames)) old.holds free_first (page ∷ []))
      ∙ ap (λ (ps : List ℕ). with_lacked rows n ps old.holds) (sym all) in
      let same_frames : least_frames mid.holds lacks ≡ frames_for (lacked rows_now n (page ∷ []))
      (held_once old.holds (frames_for earlier old.holds)) =
      ap (least_frames mid.holds) (sym one) ∙ ap (frames_for (lacked rows_now n (page ∷ []))) holds_now in
      record {
        mapped = with_page is.mapped page frame rights;
        maps = maps_more pages is.mapped first frames rights is.maps frame;
        becomes =
            subst (λ (rs : List TableRow). Becomes old new table rs (with_page is.mapped page frame rights)) same_rows
            (record {
              stands = becomes.stands;
              others = others_then rows_now
                  (rows_below (lacks + 1) page (least_frames mid.holds lacks)) old mid new
                  is.becomes.others becomes.others;
            });
        out = out ∙ ap (λ (fs : List FrameNo). fs ++ least_frames mid.holds lacks) is.out
            ∙ append_assoc before (frames_for earlier old.holds) (least_frames mid.holds lacks)
            ∙ ap (λ (fs : List FrameNo). before ++ (frames_for earlier old.holds ++ fs)) same_frames
            ∙ ap (λ (fs : List FrameNo). before ++ fs)
            (sym (frames_of_all rows n (range_with_len first (length frames)) old.holds free_first (page ∷ [])))
            ∙ ap (λ (ps : List ℕ). before ++ frames_for (lacked rows n ps) old.holds) (sym all);
        free = let more = lacks_more below in let counted = is.free in let same =
            ap (λ (k : ℕ). length (lacked rows n (range_with_len first k))) longer in
            omega (arith, more, counted, same, free);
      }

  -- any pages of which the same is found
  pub mapped_alike : (others : List MappedPage) → MapsSpan pages others first frames rights
      → Becomes old mid table (with_lacked rows (levels_of table.width)
      (range_with_len first (length frames)) old.holds) others
  mapped_alike others maps = record {
    stands = stands_alike mid (levels_of table.width) table.root rows_now is.mapped others is.becomes.stands
        (maps_alike pages is.mapped others first frames rights is.maps maps);
    others = is.becomes.others;
  }

-- the next page of a span
module _ (old mid : FramePool) (table now : TableRoot) (first page n : ℕ) (all : List FrameNo) (rights : Rights)
    (before between : List FrameNo) (now_is : now ≡ table) (page_is : page ≡ first + n) (within : n < length all)
    (end : (first + length all) * 4096 ≤ 2 ^ bits_of table.width)
    (mapped : (rows : List TableRow) (pages : List MappedPage) → TableStands old table rows pages
    → IsMapped old mid table rows pages first (take n all) rights before between) where
  long : length (take n all) ≡ n
  long = length-take-le n all (omega (arith, within))

  pub page_below : IsBelow now.width page
  page_below = rw now_is (omega (arith, page_is, within, end))

  here : page ≡ first + length (take n all)
  here = page_is ∙ ap (λ (k : ℕ). first + k) (sym long)

  here_below : IsBelow table.width (first + length (take n all))
  here_below = omega (arith, long, within, end)

  -- what this page lacks is no more than all of them do
  few_lacked : (rows : List TableRow) (pages : List MappedPage) (stands : TableStands old table rows pages)
      → length (lacked rows (levels_of table.width) (range_with_len first n))
      + missing (rows_now old mid table rows pages first (take n all) rights before between stands
      (mapped rows pages stands)) (levels_of table.width) page
      ≤ length (lacked rows (levels_of table.width) (range_with_len first (length all)))
  few_lacked rows pages stands =
      let more = lacks_more old mid table rows pages first (take n all) rights before between stands
      (mapped rows pages stands) here_below in
      let parts : n + 1 + (length all - (n + 1)) ≡ length all = omega (arith, within) in
      let range = sym (range_parts first (n + 1) (length all - (n + 1))) ∙ ap (range_with_len first) parts in
      let fewer = lacked_fewer rows (levels_of table.width) (range_with_len first (n + 1))
      (range_with_len (first + (n + 1)) (length all - (n + 1))) in
      let whole = ap (λ (ps : List ℕ). length (lacked rows (levels_of table.width) ps)) range in
      let next = ap (λ (k : ℕ). length (lacked rows (levels_of table.width) (range_with_len first (k + 1)))) long in
      let sum = ap (λ (k : ℕ). length (lacked rows (levels_of table.width) (range_with_len first k))) long in
      let lacks = ap (missing (rows_now old mid table rows pages first (take n all) rights before between stands
      (mapped rows pages stands)) (levels_of table.width)) here in
      omega (arith, more, fewer, whole, next, sum, lacks)

  pub room_left : (room left : ℕ) (has : HasFrames old table (range_with_len first (length all)) room)
      → left + length between ≡ room + length before → HasRoom mid now page left
  room_left room left has lens =
      let is = mapped has.rows has.mapped has.stands in
      let few = few_lacked has.rows has.mapped has.stands in
      let out = ap (λ (fs : List FrameNo). length fs) is.out
      ∙ length-append before (frames_for (lacked has.rows (levels_of table.width)
      (range_with_len first (length (take n all)))) old.holds) in
      let taken = length_least old.holds (length
      (lacked has.rows (levels_of table.width) (range_with_len first (length (take n all))))) (free_first old
      mid table has.rows has.mapped first (take n all) rights before between has.stands is) in
      let sum = ap (λ (k : ℕ). length (lacked has.rows (levels_of table.width) (range_with_len first k))) long in
      let enough = has.enough in
      rw now_is
      (record {
        rows = rows_now old mid table has.rows has.mapped first (take n all) rights before between has.stands is;
        pages = is.mapped;
        stands = is.becomes.stands;
        enough = omega (arith, few, out, taken, sum, enough, lens);
      })

  pub still_free : (room : ℕ) (has : HasFrames old table (range_with_len first (length all)) room)
      → missing (rows_now old mid table has.rows has.mapped first (take n all) rights before between has.stands
      (mapped has.rows has.mapped has.stands)) (levels_of now.width) page ≤ free_count mid.holds
  still_free room has =
      let is = mapped has.rows has.mapped has.stands in
      let few = few_lacked has.rows has.mapped has.stands in
      let sum = ap (λ (k : ℕ). length (lacked has.rows (levels_of table.width) (range_with_len first k))) long in
      let counted = is.free in
      let free = has.free in
      rw now_is (omega (arith, few, sum, counted, free))

  pub mapped_next : (new : FramePool) (next : TableRoot) (after : List FrameNo) (d frame : FrameNo)
      → get_or all n d ≡ frame → next ≡ now
      → IfStands mid now (λ rows pages. Becomes mid new next (with_tables rows (levels_of now.width) page mid.holds)
      (with_page pages page frame rights))
      → IfStands mid now (λ rows pages. after ≡ between
      ++ least_frames mid.holds (missing rows (levels_of now.width) page))
      → IfStands mid now (λ rows pages. free_count new.holds
      + missing rows (levels_of now.width) page ≡ free_count mid.holds)
      → (rows : List TableRow) (pages : List MappedPage) → TableStands old table rows pages
      → IsMapped old new table rows pages first (take (n + 1) all) rights before after
  mapped_next new next after d frame frame_is next_is becomes out free rows pages stands =
      let is = mapped rows pages stands in
      let one_more : take (n + 1) all ≡ take n all ++ frame ∷ [] =
      take_more all n d within ∙ ap (λ (f : FrameNo). take n all ++ f ∷ []) frame_is in
      rw one_more
      (mapped_more old mid table rows pages first (take n all) rights before between stands is
      new after frame here_below
      ((rw (next_is, now_is, here) at becomes) _ is.mapped is.becomes.stands)
      ((rw (now_is, here) at out) _ is.mapped is.becomes.stands)
      ((rw (now_is, here) at free) _ is.mapped is.becomes.stands))

-- ---- cleared

-- the first pages of a span are cleared
pub record IsCleared (old new : FramePool) (table : TableRoot) (rows : List TableRow) (pages : List MappedPage)
    (first count : ℕ) : Type 0 where
  pub cleared : List MappedPage
  pub clears : ClearsSpan pages cleared first count
  pub becomes : Becomes old new table rows cleared

pub cleared_more : (old mid new : FramePool) (table : TableRoot) (rows : List TableRow) (pages : List MappedPage)
    (first count page more : ℕ) (is : IsCleared old mid table rows pages first count) → page ≡ first + count
    → more ≡ count + 1
    → Becomes mid new table rows (without_page is.cleared page) → IsCleared old new table rows pages first more
cleared_more old mid new table rows pages first count page more is page_is more_is becomes = record {
  cleared = without_page is.cleared page;
  clears = clears_more pages is.cleared first count page more is.clears page_is more_is;
  becomes = record {
    stands = becomes.stands;
    others = record {
      holds = λ frame other. becomes.others.holds frame other ∙ is.becomes.others.holds frame other;
      bytes = λ frame other. becomes.others.bytes frame other ∙ is.becomes.others.bytes frame other;
      count = becomes.others.count ∙ is.becomes.others.count;
    };
  };
}

pub cleared_alike : (old new : FramePool) (table : TableRoot) (rows : List TableRow) (pages others : List MappedPage)
    (first count : ℕ) → IsCleared old new table rows pages first count → ClearsSpan pages others first count
    → Becomes old new table rows others
cleared_alike old new table rows pages others first count is clears = record {
  stands = stands_alike new (levels_of table.width) table.root rows is.cleared others is.becomes.stands
      (clears_alike pages is.cleared others first count is.clears clears);
  others = is.becomes.others;
}
