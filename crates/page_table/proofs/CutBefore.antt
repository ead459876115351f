-- The tables below one that go, cut off entry after entry.
use Rattle.std.proofs.Common.{◌≡◌, ℕ, ◌+◌, ◌-◌, ◌<◌, ◌≤◌, Bool, true, false, cond, ltb, not, ◌&&◌, ◌||◌, Some, None}
use Rattle.std.proofs.Common.{List, [], ◌∷◌, ◌++◌, length, map, refl, sym, ◌∙◌, ap, subst, arith}
use Rattle.std.specs.List.{AllByRecursion, count_by, filter}
use Rattle.std.specs.List.Sorted.{IsPermutation}
use Rattle.std.proofs.lemmas.Bool.{and_left, and_right, false≢true, le-ltb, or_parts}
use Rattle.std.proofs.lemmas.List.{append-nil, append_assoc, length-append, length-map, map-append}
use Rattle.std.proofs.lemmas.List.Sorted.{IsPermutation-append, IsPermutation-map, IsPermutation-refl}
use Rattle.std.proofs.lemmas.List.Sorted.{IsPermutation-sym, IsPermutation-trans, length_permutation}
use Rattle.std.proofs.lemmas.List.Sums.{length-filter}
use Rattle.iofd_words.specs.Bounds.{Bounds}
use Rattle.iofd_words.specs.Pages.{page_of}
use Rattle.iofd_words.specs.declared.numbers.FrameNo.{FrameNo}
use Rattle.frame_memory.specs.Pool.{FramePool, bytes_of}
use Rattle.page_table_words.specs.Cut.{CanCut, Cuts, goes_below, is_below}
use Rattle.page_table_words.specs.Entries.{WritesEntry}
use Rattle.iofd_words.specs.Levels.{index_at, number_at}
use Rattle.page_table_words.specs.Pruned.{goes, is_kept, is_used, is_wanted, left}
use Rattle.page_table_words.specs.Rows.{MappedPage, TableRow, is_table, table_at}
use Rattle.page_table_words.specs.Stands.{Stands}
use Rattle.page_table_words.specs.Taken.{names}
use Rattle.page_table_words.specs.Under.{HoldsTable, frames_under}
use Rattle.page_table.proofs.Cutting.{cut_stands, passed_at, row_number}
use Rattle.page_table_words.proofs.FramesUnder.{rows_permute}
use Rattle.page_table_words.proofs.Lookups.{named_table, table_at-same}
use Rattle.page_table_words.proofs.Members.{filter_all, filter_none, filter_split}
use Rattle.page_table.proofs.Parting.{count_less, count_next, cut_all, cut_at, cut_before, cut_next, cut_none}
use Rattle.page_table.proofs.Parting.{filter_same, idle_at, last_none, wanted_at}
use Rattle.page_table_words.proofs.RowsUnder.{child_above, child_page, is_under, none_are_under}

-- ---- lists

module _ {X : Type 0} where
  filter_twice : (p q : X → Bool) (xs : List X) → filter p (filter q xs) ≡ filter (λ x. q x && p x) xs
  filter_twice p q [] = refl
  filter_twice p q (x ∷ xs) = by_test (q x) (filter_twice p q xs)
    where
      by_test : (b : Bool) → filter p (filter q xs) ≡ filter (λ y. q y && p y) xs
          → filter p (cond b (x ∷ filter q xs) (filter q xs)) ≡ cond (b && p x) (x ∷ filter (λ y. q y && p y) xs)
          (filter (λ y. q y && p y) xs)
      by_test true rest = ap (λ (ys : List X). cond (p x) (x ∷ ys) ys) rest
      by_test false rest = rest

  none_each : (p : X → Bool) (xs : List X) → filter p xs ≡ [] → AllByRecursion (λ x. p x ≡ false) xs
  none_each p [] none = tt
  none_each p (x ∷ xs) none = by_test (p x) refl none (none_each p xs)
    where
      by_test : (b : Bool) → p x ≡ b → cond b (x ∷ filter p xs) (filter p xs) ≡ []
          → (filter p xs ≡ [] → AllByRecursion (λ y. p y ≡ false) xs) → AllByRecursion (λ y. p y ≡ false) (x ∷ xs)
      by_test true is some rest = absurd (let long = ap (λ (ys : List X). length ys) some in omega (arith, long))
      by_test false is empty rest = (is, rest empty)

-- ---- rows that are left

-- those that aren't cut off before an entry
abbrev pub uncut : ℕ → List MappedPage → List Bounds → ℕ → ℕ → ℕ → List TableRow → List TableRow
uncut levels pages kept level page i rows = filter (λ row. not (cut_before levels pages kept level page i row)) rows

module _ (levels : ℕ) (pages : List MappedPage) (kept : List Bounds) (level page i : ℕ) (rows : List TableRow) where
  module _ (low : 1 < level) (small : i < 512) where
    uncut_next : filter (λ row. not (cut_at levels pages kept level page i row))
        (uncut levels pages kept level page i rows) ≡ uncut levels pages kept level page (i + 1) rows
    uncut_next =
        filter_twice (λ row. not (cut_at levels pages kept level page i row))
        (λ row. not (cut_before levels pages kept level page i row)) rows
        ∙ filter_same _ (λ row. not (cut_before levels pages kept level page (i + 1) row)) rows
        (λ row. neither (cut_before levels pages kept level page i row) (cut_at levels pages kept level page i row)
        ∙ ap not (sym (cut_next levels pages kept level page i low small row).0))
      where
        neither : (a b : Bool) → (not a && not b) ≡ not (a || b)
        neither true b = refl
        neither false b = refl

    cut_there : filter (cut_at levels pages kept level page i) (uncut levels pages kept level page i rows) ≡ filter
        (cut_at levels pages kept level page i) rows
    cut_there =
        filter_twice (cut_at levels pages kept level page i)
        (λ row. not (cut_before levels pages kept level page i row)) rows
        ∙ filter_same _ (cut_at levels pages kept level page i) rows
        (λ row. apart (cut_before levels pages kept level page i row) (cut_at levels pages kept level page i row)
        (cut_next levels pages kept level page i low small row).1)
      where
        apart : (a b : Bool) → (a && b) ≡ false → (not a && b) ≡ b
        apart true b none = sym none
        apart false b none = refl

  left_same : left levels pages kept (uncut levels pages kept level page i rows) ≡ left levels pages kept rows
  left_same =
      filter_twice (λ row. not (goes levels pages kept row))
      (λ row. not (cut_before levels pages kept level page i row)) rows
      ∙ filter_same _ (λ row. not (goes levels pages kept row)) rows
      (λ row. stays (goes levels pages kept row) (is_below level page row
      && ltb (index_at level (page_of row.first)) i))
    where
      stays : (g x : Bool) → (not (g && x) && not g) ≡ not g
      stays true true = refl
      stays true false = refl
      stays false x = refl

  -- the table itself is
  pub still_at : (table : FrameNo) → table_at rows level page ≡ Some table
      → table_at (uncut levels pages kept level page i rows) level page ≡ Some table
  still_at table at =
      passed_at (λ row. not (cut_before levels pages kept level page i row)) true rows level page
      (λ row is. ap not (and_right (goes levels pages kept row) _
      (and_left _ _ (and_left _ _ (le-ltb row.level level
      (let same = (row_number level level page row (omega arith) is).0 in omega (arith, same))))))) ∙ at

-- ---- so far

pub record CutsBefore (old new : FramePool) (levels : ℕ) (root : FrameNo) (rows : List TableRow)
    (pages : List MappedPage) (kept : List Bounds) (level page i : ℕ) (table : FrameNo)
    (listed listing : List FrameNo) : Type 0 where
  pub frames : List FrameNo
  pub is : listing ≡ listed ++ frames
  pub same : IsPermutation (map (λ (row : TableRow). row.frame)
      (filter (cut_before levels pages kept level page i) rows)) frames
  pub stands : Stands new levels root (uncut levels pages kept level page i rows) pages
  pub bytes : names (left levels pages kept rows) table.0 ≡ true → (frame : ℕ)
      → names (left levels pages kept rows) frame ≡ false → bytes_of new frame ≡ bytes_of old frame

-- what the next entry adds
record CutsNext (now new : FramePool) (levels : ℕ) (root : FrameNo) (rows : List TableRow) (pages : List MappedPage)
    (kept : List Bounds) (level page i : ℕ) (table : FrameNo) (listed listing : List FrameNo) : Type 0 where
  frames : List FrameNo
  is : listing ≡ listed ++ frames
  same : IsPermutation (map (λ (row : TableRow). row.frame) (filter (cut_at levels pages kept level page i) rows))
      frames
  stands : Stands new levels root (filter (λ row. not (cut_at levels pages kept level page i row)) rows) pages
  bytes : names (left levels pages kept rows) table.0 ≡ true → (frame : ℕ)
      → names (left levels pages kept rows) frame ≡ false → bytes_of new frame ≡ bytes_of now frame

abbrev frames_of : List TableRow → List FrameNo
frames_of rows = map (λ (row : TableRow). row.frame) rows

module _ (old : FramePool) (levels : ℕ) (root : FrameNo) (rows : List TableRow) (pages : List MappedPage)
    (kept : List Bounds) (level page : ℕ) (table : FrameNo) (listed : List FrameNo) where
  pub cuts_none : Stands old levels root rows pages
      → CutsBefore old old levels root rows pages kept level page 0 table listed listed
  cuts_none stands =
      let none = no_rows rows in
      record {
        frames = [];
        is = sym (append-nil listed);
        same = rw (filter_same (cut_before levels pages kept level page 0) (λ row. false) rows
            (cut_none levels pages kept level page)) none;
        stands = subst (λ (left : List TableRow). Stands old levels root left pages)
            (sym (filter_same (λ row. not (cut_before levels pages kept level page 0 row)) (λ row. true) rows
            (λ row. ap not (cut_none levels pages kept level page row)) ∙ every rows)) stands;
        bytes = λ named frame other. refl;
      }
    where
      no_rows : (xs : List TableRow) → IsPermutation (frames_of (filter (λ row. false) xs)) []
      no_rows [] = IsPermutation-refl []
      no_rows (x ∷ xs) = no_rows xs

      every : (xs : List TableRow) → filter (λ row. true) xs ≡ xs
      every [] = refl
      every (x ∷ xs) = ap (λ (ys : List TableRow). x ∷ ys) (every xs)

  module _ (now : FramePool) (i : ℕ) (listing : List FrameNo) (low : 1 < level) (small : i < 512)
      (before : CutsBefore old now levels root rows pages kept level page i table listed listing) where
    rest : List TableRow
    rest = uncut levels pages kept level page i rows

    joined : (new : FramePool) (longer : List FrameNo)
        → CutsNext now new levels root (uncut levels pages kept level page i rows) pages kept level page i table listing
        longer → CutsBefore old new levels root rows pages kept level page (i + 1) table listed longer
    joined new longer next = record {
      frames = before.frames ++ next.frames;
      is = next.is ∙ ap (λ (fs : List FrameNo). fs ++ next.frames) before.is
          ∙ append_assoc listed before.frames next.frames;
      same =
          let cut = filter (cut_before levels pages kept level page i) rows in
          let here = filter (cut_at levels pages kept level page i) rows in
          let both = filter (cut_before levels pages kept level page (i + 1)) rows in
          let next_same : IsPermutation (frames_of here) next.frames =
          subst (λ (rs : List TableRow). IsPermutation (frames_of rs) next.frames)
          (cut_there levels pages kept level page i rows low small) next.same in
          let parts =
          IsPermutation-append (frames_of cut) before.frames (frames_of here) next.frames before.same next_same in
          let moved = IsPermutation-map (λ (row : TableRow). row.frame) (cut ++ here) both
          (filter_split (cut_before levels pages kept level page (i + 1))
          (cut_before levels pages kept level page i) (cut_at levels pages kept level page i) rows
          (cut_next levels pages kept level page i low small)) in
          let mapped = subst (λ (fs : List FrameNo). IsPermutation fs (frames_of both))
          (map-append (λ (row : TableRow). row.frame) cut here) moved in
          IsPermutation-trans (frames_of both) (frames_of cut ++ frames_of here) (before.frames ++ next.frames)
          (IsPermutation-sym (frames_of cut ++ frames_of here) (frames_of both) mapped) parts;
      stands = subst (λ (rs : List TableRow). Stands new levels root rs pages)
          (uncut_next levels pages kept level page i rows low small) next.stands;
      bytes = λ named frame other.
          let same = left_same levels pages kept level page i rows in
          next.bytes (ap (λ (rs : List TableRow). names rs table.0) same ∙ named) frame
          (ap (λ (rs : List TableRow). names rs frame) same ∙ other) ∙ before.bytes named frame other;
    }

    module _ (at : table_at rows level page ≡ Some table) where
      at_now : table_at (uncut levels pages kept level page i rows) level page ≡ Some table
      at_now = still_at levels pages kept level page i rows table at

      few : level ≤ levels
      few = (before.stands.level level page table at_now).1

      -- the entry names no table
      pub cuts_absent : table_at (uncut levels pages kept level page i rows) (level - 1) (child_page level page i)
          ≡ None → CutsBefore old now levels root rows pages kept level page (i + 1) table listed listing
      cuts_absent none =
          let here = uncut levels pages kept level page i rows in
          let empty = none_are_under now levels root here pages before.stands (level - 1) (child_page level page i)
          (omega (arith, few)) none in
          let each = both_false here (none_each (is_under (level - 1) (child_page level page i)) here empty) in
          joined now listing (record {
            frames = [];
            is = sym (append-nil listing);
            same = rw (filter_none (cut_at levels pages kept level page i) here each) (IsPermutation-refl []);
            stands = subst (λ (rs : List TableRow). Stands now levels root rs pages)
                (sym (filter_all (λ row. not (cut_at levels pages kept level page i row)) here (all_not here each)))
                before.stands;
            bytes = λ named frame other. refl;
          })
        where
          both_false : (xs : List TableRow) → AllByRecursion
              (λ row. is_under (level - 1) (child_page level page i) row ≡ false) xs
              → AllByRecursion (λ row. cut_at levels pages kept level page i row ≡ false) xs
          both_false [] all = tt
          both_false (x ∷ xs) all = (and_right (goes levels pages kept x) _ all.0, both_false xs all.1)

          all_not : (xs : List TableRow) → AllByRecursion (λ row. cut_at levels pages kept level page i row ≡ false) xs
              → AllByRecursion (λ row. not (cut_at levels pages kept level page i row) ≡ true) xs
          all_not [] all = tt
          all_not (x ∷ xs) all = (ap not all.0, all_not xs all.1)

      -- it names one through which no page goes
      module _ (next : FrameNo) (found : table_at (uncut levels pages kept level page i rows) (level - 1)
          (child_page level page i) ≡ Some next) where
        module _ (idle : is_wanted pages kept (level - 1) (number_at (level - 1) (child_page level page i)) ≡ false)
          where
            under_same : filter (is_under (level - 1) (child_page level page i))
                (uncut levels pages kept level page i rows) ≡ filter (cut_at levels pages kept level page i)
                (uncut levels pages kept level page i rows)
            under_same = sym (filter_same (cut_at levels pages kept level page i)
                (is_under (level - 1) (child_page level page i)) (uncut levels pages kept level page i rows)
                (idle_at levels pages kept level page i low few idle))

            listed_same : IsPermutation (frames_under now (level - 1 - 1) next)
                (frames_of (filter (cut_at levels pages kept level page i) (uncut levels pages kept level page i rows)))
            listed_same =
                subst (λ (rs : List TableRow). IsPermutation (frames_under now (level - 1 - 1) next) (frames_of rs))
                under_same
                (rows_permute now levels root (uncut levels pages kept level page i rows) pages before.stands
                (level - 1 - 1) (level - 1) (child_page level page i) next (omega (arith, low))
                (omega (arith, few)) found)

            -- so many frames
            pub idle_length : length (frames_under now (level - 1 - 1) next) ≡ count_by
                (cut_at levels pages kept level page i) (uncut levels pages kept level page i rows)
            idle_length =
                let cut = filter (cut_at levels pages kept level page i) (uncut levels pages kept level page i rows) in
                omega (
                  arith,
                  length_permutation (frames_under now (level - 1 - 1) next) (frames_of cut) listed_same,
                  length-map cut (λ (row : TableRow). row.frame),
                  length-filter (cut_at levels pages kept level page i) (uncut levels pages kept level page i rows),
                )

            pub cuts_idle : (new : FramePool) (longer : List FrameNo)
                → WritesEntry now new table.0 level (child_page level page i) 0
                → longer ≡ listing ++ frames_under now (level - 1 - 1) next
                → CutsBefore old new levels root rows pages kept level page (i + 1) table listed longer
            cuts_idle new longer writes is =
                let here = uncut levels pages kept level page i rows in
                let unused = (or_parts (is_used pages (level - 1) (number_at (level - 1) (child_page level page i)))
                (is_kept kept (level - 1) (number_at (level - 1) (child_page level page i))) idle).0 in
                joined new longer (record {
                  frames = frames_under now (level - 1 - 1) next;
                  is = is;
                  same = IsPermutation-sym (frames_under now (level - 1 - 1) next)
                      (frames_of (filter (cut_at levels pages kept level page i) here)) listed_same;
                  stands = subst (λ (rs : List TableRow). Stands new levels root rs pages)
                      (filter_same (λ row. not (is_under (level - 1) (child_page level page i) row))
                      (λ row. not (cut_at levels pages kept level page i row)) here
                      (λ row. ap not (sym (idle_at levels pages kept level page i low few idle row))))
                      (cut_stands now new levels root here pages before.stands level (child_page level page i) table low
                      at_child unused writes);
                  bytes = λ named frame other. writes.bytes frame
                      (λ same. false≢true (sym other ∙ ap (names (left levels pages kept here)) same ∙ named));
                })
              where
                at_child : table_at (uncut levels pages kept level page i rows) level
                    (child_page level page i) ≡ Some table
                at_child =
                    table_at-same (uncut levels pages kept level page i rows) level (child_page level page i) page
                    (child_above level page i low small) ∙ at_now

        -- it names one that stays
        module _ (needed : is_wanted pages kept (level - 1) (number_at (level - 1) (child_page level page i)) ≡ true)
          where
            pub child_stays : names (left levels pages kept (uncut levels pages kept level page i rows)) next.0 ≡ true
            child_stays =
                named_table (left levels pages kept (uncut levels pages kept level page i rows)) (level - 1)
                (child_page level page i) next
                (passed_at (λ row. not (goes levels pages kept row)) true (uncut levels pages kept level page i rows)
                (level - 1) (child_page level page i) stays ∙ found)
              where
                stays : (row : TableRow) → is_table (level - 1) (child_page level page i) row ≡ true
                    → not (goes levels pages kept row) ≡ true
                stays row is =
                    let place = row_number (level - 1) (level - 1) (child_page level page i) row (omega arith) is in
                    let wanted : is_wanted pages kept row.level (number_at row.level (page_of row.first)) ≡ true =
                    ap (λ (k : ℕ). is_wanted pages kept k (number_at k (page_of row.first))) place.0
                    ∙ ap (is_wanted pages kept (level - 1)) place.1 ∙ needed in
                    ap not (and_right (ltb row.level levels) _ (ap not wanted))

            pub cuts_wanted : (new : FramePool) (longer : List FrameNo)
                → Cuts now new levels root (uncut levels pages kept level page i rows) pages kept (level - 1)
                (child_page level page i) listing longer
                → CutsBefore old new levels root rows pages kept level page (i + 1) table listed longer
            cuts_wanted new longer cuts =
                let here = uncut levels pages kept level page i rows in
                let same = wanted_at levels pages kept level page i needed in
                joined new longer (record {
                  frames = cuts.frames;
                  is = cuts.is;
                  same = subst (λ (rs : List TableRow). IsPermutation (frames_of rs) cuts.frames)
                      (sym (filter_same (cut_at levels pages kept level page i)
                      (goes_below levels pages kept (level - 1) (child_page level page i)) here same)) cuts.same;
                  stands = subst (λ (rs : List TableRow). Stands new levels root rs pages)
                      (sym (filter_same (λ row. not (cut_at levels pages kept level page i row))
                      (λ row. not (goes_below levels pages kept (level - 1) (child_page level page i) row))
                      here (λ row. ap not (same row)))) cuts.stands;
                  bytes = λ named frame other. cuts.bytes frame other;
                })

    -- there is room for those below this entry
    pub room_left : length listing + count_by (cut_at levels pages kept level page i)
        (uncut levels pages kept level page i rows) ≤ length listed
        + count_by (goes_below levels pages kept level page) rows
    room_left =
        let cut = filter (cut_before levels pages kept level page i) rows in
        let long = ap (λ (fs : List FrameNo). length fs) before.is in
        let there = ap (λ (rs : List TableRow). length rs) (cut_there levels pages kept level page i rows low small) in
        omega (
          arith,
          long,
          there,
          length-append listed before.frames,
          length_permutation (frames_of cut) before.frames before.same,
          length-map cut (λ (row : TableRow). row.frame),
          length-filter (cut_before levels pages kept level page i) rows,
          length-filter (cut_at levels pages kept level page i) (uncut levels pages kept level page i rows),
          length-filter (cut_at levels pages kept level page i) rows,
          count_next levels pages kept level page i low small rows,
          count_less (cut_before levels pages kept level page (i + 1))
              (goes_below levels pages kept level page) rows below,
        )
      where
        inner : (g b x : Bool) → (g && (b && x)) ≡ true → (g && b) ≡ true
        inner true true x is = refl
        inner true false x is = is
        inner false b x is = is

        below : (row : TableRow) → cut_before levels pages kept level page (i + 1) row ≡ true
            → goes_below levels pages kept level page row ≡ true
        below row cut = inner (goes levels pages kept row) (is_below level page row)
            (ltb (index_at level (page_of row.first)) (i + 1)) cut

  -- all entries
  pub cuts_all : (new : FramePool) (i : ℕ) (listing : List FrameNo) → i ≡ 512
      → CutsBefore old new levels root rows pages kept level page i table listed listing
      → names (left levels pages kept rows) table.0 ≡ true
      → Cuts old new levels root rows pages kept level page listed listing
  cuts_all new i listing end before named =
      let all = λ (row : TableRow). ap (λ (k : ℕ). cut_before levels pages kept level page k row) end
      ∙ cut_all levels pages kept level page row in
      record {
        frames = before.frames;
        is = before.is;
        same = subst (λ (rs : List TableRow). IsPermutation (frames_of rs) before.frames)
            (filter_same (cut_before levels pages kept level page i) (goes_below levels pages kept level page) rows all)
            before.same;
        stands = subst (λ (rs : List TableRow). Stands new levels root rs pages)
            (filter_same (λ row. not (cut_before levels pages kept level page i row))
            (λ row. not (goes_below levels pages kept level page row)) rows
            (λ row. ap not (all row))) before.stands;
        bytes = before.bytes named;
      }

  -- a table of the last level has no others below it
  pub cuts_last : level ≡ 1 → Stands old levels root rows pages
      → Cuts old old levels root rows pages kept level page listed listed
  cuts_last one stands =
      let each = last_none old levels root rows pages stands kept level page one in
      record {
        frames = [];
        is = sym (append-nil listed);
        same = rw (filter_none (goes_below levels pages kept level page) rows each) (IsPermutation-refl []);
        stands = subst (λ (rs : List TableRow). Stands old levels root rs pages)
            (sym (filter_all (λ row. not (goes_below levels pages kept level page row)) rows (all_not rows each)))
            stands;
        bytes = λ frame other. refl;
      }
    where
      all_not : (xs : List TableRow) → AllByRecursion (λ row. goes_below levels pages kept level page row ≡ false) xs
          → AllByRecursion (λ row. not (goes_below levels pages kept level page row) ≡ true) xs
      all_not [] all = tt
      all_not (x ∷ xs) all = (ap not all.0, all_not xs all.1)

-- the table is there
pub holds_cut : (old now : FramePool) (level number : ℕ) (table : FrameNo) (kept : List Bounds) (room i : ℕ)
    (listed listing : List FrameNo) (can : CanCut old level number table kept room)
    → CutsBefore old now can.levels can.root can.rows can.pages kept level can.page i table listed listing
    → HoldsTable now level table
holds_cut old now level number table kept room i listed listing can before = record {
  page = can.page;
  through = record {
    levels = can.levels;
    root = can.root;
    rows = uncut can.levels can.pages kept level can.page i can.rows;
    pages = can.pages;
    stands = before.stands;
    at = still_at can.levels can.pages kept level can.page i can.rows table can.at;
  };
}
