-- Idle tables of page tables that are given back, one page table after the other.
use Rattle.std.proofs.Common.{◌≡◌, ℕ, zero, suc, ◌+◌, ◌-◌, ◌*◌, ◌<◌, ◌≤◌, Bool, true, false, cond, not, ◌&&◌, ◌||◌, eqb}
use Rattle.std.proofs.Common.{Option, List, [], ◌∷◌, ◌++◌, append_assoc, append-nil, drop, get_or, length, take, refl}
use Rattle.std.proofs.Common.{ap, subst, sym, ◌∙◌, arith}
use Rattle.std.specs.List.{AllByRecursion, count_by, filter, list_any}
use Rattle.std.specs.Int.{from_le_bytes, w64}
use Rattle.std.specs.Prelude.{slice_range}
use Rattle.std.proofs.Math.Seq.{take-suc}
use Rattle.std.proofs.lemmas.Bool.{and_left, and_right, false≢true}
use Rattle.std.proofs.lemmas.List.Folds.{list_any-append}
use Rattle.std.proofs.lemmas.List.Sorted.{sum_by-IsPermutation}
use Rattle.std.proofs.lemmas.List.Sums.{sum_by-cons}
use Rattle.std.specs.List.Sorted.{IsNonDecreasingBy, IsPermutation}
use Rattle.iofd_rows.proofs.Bools.{both_false, both_true, not_true, or_false, or_none}
use Rattle.iofd_rows.proofs.Each.{IsIn, of_any}
use Rattle.iofd_rows.proofs.ListTests.{false_else, none_stronger}
use Rattle.iofd_words.specs.Bounds.{Bounds}
use Rattle.iofd_words.specs.Levels.{levels_of}
use Rattle.iofd_words.specs.Objects.{is_object}
use Rattle.iofd_words.specs.TablePlaces.{is_table_of}
use Rattle.iofd_words.specs.declared.numbers.FileNo.{FileNo}
use Rattle.iofd_words.specs.declared.numbers.FrameNo.{FrameNo}
use Rattle.iofd_words.specs.declared.numbers.ObjId.{ObjId}
use Rattle.iofd_words.specs.declared.rows.Area.{Area}
use Rattle.iofd_words.specs.declared.rows.Object.{Object}
use Rattle.iofd_words.specs.declared.rows.TableFrame.{TableFrame}
use Rattle.area_map_rows.specs.Areas.{areas_outside}
use Rattle.frame_memory.specs.Pool.{FramePool}
use Rattle.page_table.proofs.Parting.{count_less, count_same, count_split, filter_same}
use Rattle.page_table_spans.proofs.IdleTables.{is_idle_below, none_lowest}
use Rattle.page_table_spans.proofs.ShedSteps.{every}
use Rattle.page_table_spans.proofs.Shedding.{any_fewer, count_then, filter_then, times_append}
use Rattle.page_table_spans.specs.Idle.{is_idle, span_of_page}
use Rattle.page_table_spans.specs.Idle as one
use Rattle.page_table_words.specs.Emptied as words
use Rattle.page_table_words.specs.Released.{times}
use Rattle.page_table_words.specs.Rows.{MappedPage, TableRow, page_at}
use Rattle.page_table_words.specs.Stands.{TableStands}
use Rattle.page_table_words.specs.Taken.{names}
use Rattle.page_table_words.proofs.Releasing.{named_counted, unnamed_counted}
use Rattle.page_table_words.proofs.Tables.{stands_still}
use Rattle.page_table_set.proofs.Counted.{counted, fewer_tables, rows_filtered, rows_few, table_of_one}
use Rattle.page_table_set.proofs.Gone.{no_common}
use Rattle.page_table_set.proofs.OwnIds.{is_object-sym, the_only}
use Rattle.page_table_set.proofs.Partly.{at_in, is_among, not_before}
use Rattle.page_table_set.specs.Idle.{GivesUp, MayShed, Shedding, Sheds, is_idle_in, is_idle_of}
use Rattle.page_table_set.specs.OverSpans.{is_over}
use Rattle.page_table_set.specs.PageTables.{AllStand, Hwpt, HwptStands, row_of, rows_of, tables_in}
use Rattle.page_table_set.specs.Removed.{without_tables}

-- ---- rows of one page table

-- those left of its rows are the rows left of it
rows_left : (h : Hwpt) (areas : List Area) (frames : List TableFrame)
    → rows_of (filter (λ t. not (is_idle_of h areas t)) frames) h.object
    ≡ filter (λ row. not (is_idle (levels_of h.table.width) areas row)) (rows_of frames h.object)
rows_left h areas [] = refl
rows_left h areas (t ∷ frames) =
    by_tests (is_table_of h.object.file h.object.id t) (is_idle (levels_of h.table.width) areas (row_of t)) refl refl
    (rows_left h areas frames)
  where
    idle : TableRow → Bool
    idle row = is_idle (levels_of h.table.width) areas row

    by_tests : (a b : Bool) → is_table_of h.object.file h.object.id t ≡ a
        → is_idle (levels_of h.table.width) areas (row_of t) ≡ b
        → rows_of (filter (λ x. not (is_idle_of h areas x)) frames) h.object
        ≡ filter (λ row. not (is_idle (levels_of h.table.width) areas row)) (rows_of frames h.object)
        → rows_of (filter (λ x. not (is_idle_of h areas x)) (t ∷ frames)) h.object
        ≡ filter (λ row. not (is_idle (levels_of h.table.width) areas row)) (rows_of (t ∷ frames) h.object)
    by_tests true true own is rest = rw (own, is) rest
    by_tests true false own is rest = rw (own, is, own) (ap (λ (l : List TableRow). row_of t ∷ l) rest)
    by_tests false b own is rest = rw (own, own) rest

idle_counted : (h : Hwpt) (areas : List Area) (frames : List TableFrame)
    → count_by (is_idle_of h areas) frames ≡ count_by (is_idle (levels_of h.table.width) areas) (rows_of frames h.object)
idle_counted h areas [] = refl
idle_counted h areas (t ∷ frames) =
    by_test (is_table_of h.object.file h.object.id t) refl (idle_counted h areas frames)
  where
    by_test : (a : Bool) → is_table_of h.object.file h.object.id t ≡ a
        → count_by (is_idle_of h areas) frames
        ≡ count_by (is_idle (levels_of h.table.width) areas) (rows_of frames h.object)
        → count_by (is_idle_of h areas) (t ∷ frames)
        ≡ count_by (is_idle (levels_of h.table.width) areas) (rows_of (t ∷ frames) h.object)
    by_test true own rest =
        let all = sum_by-cons (λ (x : TableFrame). cond (is_idle_of h areas x) 1 0) t frames in
        let rows : rows_of (t ∷ frames) h.object ≡ row_of t ∷ rows_of frames h.object = rw own refl in
        let first = sum_by-cons (λ (x : TableRow). cond (is_idle (levels_of h.table.width) areas x) 1 0) (row_of t)
        (rows_of frames h.object) in
        let here : ◌≡◌ {A = ℕ} (cond (is_idle_of h areas t) 1 0) (cond (is_idle (levels_of h.table.width) areas (row_of t)) 1 0) =
        rw own refl in
        rw rows (omega (arith, all, first, here, rest))
    by_test false own rest =
        let all = sum_by-cons (λ (x : TableFrame). cond (is_idle_of h areas x) 1 0) t frames in
        let rows : rows_of (t ∷ frames) h.object ≡ rows_of frames h.object = rw own refl in
        let here : ◌≡◌ {A = ℕ} (cond (is_idle_of h areas t) 1 0) 0 = rw own refl in
        rw rows (omega (arith, all, here, rest))

-- those of others stay
others_left : (h : Hwpt) (areas : List Area) (frames : List TableFrame)
    → without_tables h.object.file h.object.id (filter (λ t. not (is_idle_of h areas t)) frames)
    ≡ without_tables h.object.file h.object.id frames
others_left h areas [] = refl
others_left h areas (t ∷ frames) =
    by_tests (is_table_of h.object.file h.object.id t) (is_idle (levels_of h.table.width) areas (row_of t)) refl refl
    (others_left h areas frames)
  where
    by_tests : (a b : Bool) → is_table_of h.object.file h.object.id t ≡ a
        → is_idle (levels_of h.table.width) areas (row_of t) ≡ b
        → without_tables h.object.file h.object.id (filter (λ x. not (is_idle_of h areas x)) frames)
        ≡ without_tables h.object.file h.object.id frames
        → without_tables h.object.file h.object.id (filter (λ x. not (is_idle_of h areas x)) (t ∷ frames))
        ≡ without_tables h.object.file h.object.id (t ∷ frames)
    by_tests true true own is rest = rw (own, is) rest
    by_tests true false own is rest = rw (own, is, own) rest
    by_tests false b own is rest = rw (own, own) (ap (λ (l : List TableFrame). t ∷ l) rest)

-- ---- one page table

module _ (old new : FramePool) (tables : List Hwpt) (frames : List TableFrame) (leads : Object → ℕ → Option MappedPage)
    (stand : AllStand old frames leads tables) (h : Hwpt) (there : IsIn tables h) (areas : List Area)
    (pages : List MappedPage) (found : (page : ℕ) → page_at pages page ≡ leads h.object page)
    (stands : TableStands new h.table
    (filter (λ row. not (is_idle (levels_of h.table.width) areas row)) (rows_of frames h.object)) pages)
    (l m : List FrameNo)
    (up : words.GivesUp old new (rows_of frames h.object)
    (filter (λ row. not (is_idle (levels_of h.table.width) areas row)) (rows_of frames h.object)) l m) where
  abbrev left : List TableFrame
  left = filter (λ t. not (is_idle_of h areas t)) frames

  went : (f : ℕ) → times f up.given + tables_in left f ≡ tables_in frames f
  went f =
      let all = counted frames h.object.file h.object.id f in
      let now = counted left h.object.file h.object.id f in
      let rows = ap (λ (rows : List TableRow). words.rows_in rows f) (rows_left h areas frames) in
      let others = ap (λ (ts : List TableFrame). tables_in ts f) (others_left h areas frames) in
      let gone = up.went f in
      omega (arith, all, now, rows, others, gone)

  one_stands : HwptStands new left (leads h.object) h
  one_stands = record { pages = pages; found = found; stands = rw (rows_left h areas frames) stands }

  unnamed : (f : ℕ) → names (rows_of frames h.object) f ≡ false → times f up.given ≡ 0
  unnamed f none =
      let zero_rows = unnamed_counted (λ (row : TableRow). eqb row.frame.0 f) (rows_of frames h.object) none in
      let gone = up.went f in
      omega (arith, zero_rows, gone)

  other_stands : (x : Hwpt) → IsIn tables x → is_object h.object.file h.object.id x.object ≡ false
      → HwptStands new left (leads x.object) x
  other_stands x within apart =
      let was = stand.each x within in
      let back : is_object x.object.file x.object.id h.object ≡ false = is_object-sym x.object h.object ∙ apart in
      let rows : rows_of left x.object ≡ rows_of frames x.object =
      rows_filtered (λ t. not (is_idle_of h areas t)) frames x.object (λ t own. stays t own) in
      record {
        pages = was.pages;
        found = was.found;
        stands = rw rows (stands_still old new (levels_of x.table.width) x.table.root (rows_of frames x.object)
            was.pages was.stands
            (record {
              words = λ f i named below. ap (λ (bytes : List ℕ). from_le_bytes w64 (slice_range bytes (8 * i) (8 * i + 8)))
                  (up.bytes f (no_common old frames leads tables stand x h within back f named));
              holds = λ f named.
                  let none = unnamed f (no_common old frames leads tables stand x h within back f named) in
                  let held = up.holds f in
                  omega (arith, none, held);
            }));
      }
    where
      stays : (t : TableFrame) → is_table_of x.object.file x.object.id t ≡ true → not (is_idle_of h areas t) ≡ true
      stays t own = first_false (is_table_of h.object.file h.object.id t) (is_idle (levels_of h.table.width) areas (row_of t))
          (table_of_one h.object x.object t apart own)
        where
          first_false : (a b : Bool) → not a ≡ true → not (a && b) ≡ true
          first_false false b is = refl
          first_false true b is = absurd (false≢true is)

  pub one_stand : AllStand new left leads tables
  one_stand = record {
    own = stand.own;
    each = λ x within. by_id x within (is_object h.object.file h.object.id x.object) refl;
    held = λ f. let all = stand.held f in let gone = went f in let held = up.holds f in omega (arith, all, gone, held);
  }
    where
      by_id : (x : Hwpt) → IsIn tables x → (b : Bool) → is_object h.object.file h.object.id x.object ≡ b
          → HwptStands new left (leads x.object) x
      by_id x within true is = subst (λ (y : Hwpt). HwptStands new left (leads y.object) y)
          (the_only tables stand.own h x there within is) one_stands
      by_id x within false is = other_stands x within is

  pub one_gives : GivesUp old new frames left up.given
  one_gives = record {
    went = went;
    holds = up.holds;
    others = λ f none. up.bytes f (false_else (names (rows_of frames h.object) f) (λ named.
        let some = named_counted (λ (row : TableRow). eqb row.frame.0 f) (rows_of frames h.object) named in
        let few = rows_few frames h.object f in
        omega (arith, some, few, none)));
    count = up.count;
  }

-- ---- one after the other

gives_then : (old mid new : FramePool) (frames some left : List TableFrame) (one other : List FrameNo)
    → GivesUp old mid frames some one → GivesUp mid new some left other
    → ((f : ℕ) → tables_in some f ≤ tables_in frames f) → GivesUp old new frames left (one ++ other)
gives_then old mid new frames some left one other first second fewer = record {
  went = λ f. let all = times_append f one other in omega (arith, all, first.went f, second.went f);
  holds = λ f. let all = times_append f one other in omega (arith, all, first.holds f, second.holds f);
  others = λ f none. second.others f (let few = fewer f in omega (arith, few, none)) ∙ first.others f none;
  count = second.count ∙ first.count;
}

-- none of the tables so far
pub shed_none : (pool : FramePool) (frames : List TableFrame) (leads : Object → ℕ → Option MappedPage)
    (tables : List Hwpt) (file : FileNo) (ioas : ObjId) (areas : List Area) (l : List FrameNo) (a : ℕ)
    → AllStand pool frames leads tables
    → Shedding pool pool frames leads tables (is_idle_in file ioas areas []) l l a a
shed_none pool frames leads tables file ioas areas l a stand =
    let all = kept frames in
    let none = count_none frames in
    record {
      stand = rw all stand;
      given = [];
      is = sym (append-nil l);
      gives = rw all (record {
        went = λ f. omega arith;
        holds = λ f. omega arith;
        others = λ f other. refl;
        count = refl;
      });
      many = omega (arith, none);
    }
  where
    kept : (ts : List TableFrame) → filter (λ t. not (is_idle_in file ioas areas [] t)) ts ≡ ts
    kept [] = refl
    kept (t ∷ ts) = ap (λ (l : List TableFrame). t ∷ l) (kept ts)

    count_none : (ts : List TableFrame) → count_by (is_idle_in file ioas areas []) ts ≡ 0
    count_none [] = refl
    count_none (t ∷ ts) =
        let all = sum_by-cons (λ (x : TableFrame). cond {A = ℕ} (is_idle_in file ioas areas [] x) 1 0) t ts in
        let rest = count_none ts in
        omega (arith, all, rest)

-- one page table more
module _ (tables : List Hwpt) (n : ℕ) (d : Hwpt) (within : n < length tables) (file : FileNo) (ioas : ObjId)
    (areas : List Area) where
  abbrev here : Hwpt
  here = get_or tables n d

  pub in_more : (t : TableFrame) → is_idle_in file ioas areas (take (n + 1) tables) t
      ≡ (is_idle_in file ioas areas (take n tables) t || (is_over file ioas here.object && is_idle_of here areas t))
  in_more t =
      ap (λ (k : ℕ). is_idle_in file ioas areas (take k tables) t) next
      ∙ ap (λ (l : List Hwpt). is_idle_in file ioas areas l t) (take-suc tables n d within)
      ∙ list_any-append (λ (h : Hwpt). is_over file ioas h.object && is_idle_of h areas t) (take n tables) (here ∷ [])
      ∙ ap (λ (b : Bool). is_idle_in file ioas areas (take n tables) t || b)
      (or_none (is_over file ioas here.object && is_idle_of here areas t))
    where
      next : n + 1 ≡ suc n
      next = omega arith

  pub in_more_over : is_over file ioas here.object ≡ true → (t : TableFrame)
      → is_idle_in file ioas areas (take (n + 1) tables) t
      ≡ (is_idle_in file ioas areas (take n tables) t || is_idle_of here areas t)
  in_more_over over t = in_more t
      ∙ ap (λ (b : Bool). is_idle_in file ioas areas (take n tables) t || (b && is_idle_of here areas t)) over

  pub in_same : is_over file ioas here.object ≡ false → (t : TableFrame)
      → is_idle_in file ioas areas (take (n + 1) tables) t ≡ is_idle_in file ioas areas (take n tables) t
  in_same over t = in_more t
      ∙ ap (λ (b : Bool). is_idle_in file ioas areas (take n tables) t || (b && is_idle_of here areas t)) over
      ∙ or_none (is_idle_in file ioas areas (take n tables) t)

-- ---- what is known of one of them

any_rows : (h : Hwpt) (areas : List Area) (frames : List TableFrame) → list_any (is_idle_of h areas) frames ≡ false
    → list_any (is_idle (levels_of h.table.width) areas) (rows_of frames h.object) ≡ false
any_rows h areas [] none = refl
any_rows h areas (t ∷ frames) none =
    by_test (is_table_of h.object.file h.object.id t) refl (or_false (is_idle_of h areas t)
    (list_any (is_idle_of h areas) frames) none) (any_rows h areas frames)
  where
    by_test : (a : Bool) → is_table_of h.object.file h.object.id t ≡ a
        → (is_idle_of h areas t ≡ false) × (list_any (is_idle_of h areas) frames ≡ false)
        → (list_any (is_idle_of h areas) frames ≡ false
        → list_any (is_idle (levels_of h.table.width) areas) (rows_of frames h.object) ≡ false)
        → list_any (is_idle (levels_of h.table.width) areas) (rows_of (t ∷ frames) h.object) ≡ false
    by_test true own parts rest =
        let here : is_idle (levels_of h.table.width) areas (row_of t) ≡ false = rw own at parts.0 in
        let rows : rows_of (t ∷ frames) h.object ≡ row_of t ∷ rows_of frames h.object = rw own refl in
        rw rows (both_false _ _ here (rest parts.1))
    by_test false own parts rest =
        let rows : rows_of (t ∷ frames) h.object ≡ rows_of frames h.object = rw own refl in
        rw rows (rest parts.1)

none_by_each : {X : Type 0} (p : X → Bool) (xs : List X) → AllByRecursion (λ x. p x ≡ false) xs → list_any p xs ≡ false
none_by_each p [] all = refl
none_by_each p (x ∷ xs) all = both_false _ _ all.0 (none_by_each p xs all.1)

any_taken : {X : Type 0} (p : X → Bool) (k : ℕ) (xs : List X) → list_any p (take k xs) ≡ true → list_any p xs ≡ true
any_taken p zero xs any = absurd (false≢true any)
any_taken p (suc k) [] any = any
any_taken p (suc k) (x ∷ xs) any = by_test (p x) any (any_taken p k xs)
  where
    by_test : (b : Bool) → (b || list_any p (take k xs)) ≡ true
        → (list_any p (take k xs) ≡ true → list_any p xs ≡ true) → (b || list_any p xs) ≡ true
    by_test true is rest = refl
    by_test false is rest = rest is

module _ (old now : FramePool) (frames : List TableFrame) (leads : Object → ℕ → Option MappedPage) (tables : List Hwpt)
    (file : FileNo) (ioas : ObjId) (own : List Area) (span : Bounds)
    (may : MayShed file ioas own span frames leads tables) (n : ℕ) (d : Hwpt) (within : n < length tables)
    (over : is_over file ioas (get_or tables n d).object ≡ true) (l m : List FrameNo) (a b : ℕ)
    (sheds : Shedding old now frames leads tables (is_idle_in file ioas (areas_outside span own) (take n tables)) l m a b)
  where
    abbrev h : Hwpt
    h = get_or tables n d

    abbrev out : List Area
    out = areas_outside span own

    abbrev rest : List TableFrame
    rest = filter (λ t. not (is_idle_in file ioas out (take n tables) t)) frames

    its : HwptStands now rest (leads h.object) h
    its = sheds.stand.each h (at_in tables n d within)

    idle_here : (t : TableFrame) → is_idle_of h own t ≡ true → is_idle_in file ioas own tables t ≡ true
    idle_here t idle =
        of_any (λ (x : Hwpt). is_over file ioas x.object && is_idle_of x own t) tables h (at_in tables n d within)
        (both_true _ _ over idle)

    may_one : one.MayShed (levels_of h.table.width) own span 1 (rows_of rest h.object) its.pages
    may_one = record {
      needed = any_rows h own rest (any_fewer (is_idle_of h own) _ frames
          (none_stronger (is_idle_of h own) (is_idle_in file ioas own tables) frames idle_here may.needed));
      mapped = λ page to is. may.mapped h page to (at_in tables n d within) over (sym (its.found page) ∙ is);
      lower = none_by_each (is_idle_below (levels_of h.table.width) out 1) (rows_of rest h.object)
          (none_lowest now (levels_of h.table.width) h.table.root (rows_of rest h.object) its.pages its.stands out);
    }

    more : AllByRecursion (λ t. is_idle_in file ioas out (take (n + 1) tables) t
        ≡ (is_idle_in file ioas out (take n tables) t || is_idle_of h out t)) frames
    more = every _ frames (in_more_over tables n d within file ioas out over)

    pub can_one : (capacity : ℕ) → count_by (is_idle_in file ioas out tables) frames ≤ capacity - a
        → one.CanShed now h.table own span 1 (is_idle (levels_of h.table.width) out) (capacity - b)
    can_one capacity enough =
        let sum = count_then (is_idle_in file ioas out (take n tables)) (is_idle_of h out)
        (is_idle_in file ioas out (take (n + 1) tables)) frames more in
        let fewer = count_less (is_idle_in file ioas out (take (n + 1) tables)) (is_idle_in file ioas out tables) frames
        (λ t. any_taken (λ (x : Hwpt). is_over file ioas x.object && is_idle_of x out t) (n + 1) tables) in
        let same = idle_counted h out rest in
        record {
          rows = rows_of rest h.object;
          pages = its.pages;
          stands = its.stands;
          may = may_one;
          enough = omega (arith, sum, fewer, same, enough, sheds.many);
        }

    more_sheds : (new : FramePool) (k : List FrameNo) (c : ℕ)
        → one.Sheds now new h.table (rows_of rest h.object) its.pages (is_idle (levels_of h.table.width) out) m k b c
        → Shedding old new frames leads tables (is_idle_in file ioas out (take (n + 1) tables)) l k a c
    more_sheds new k c shed =
        let left = filter_then (is_idle_in file ioas out (take n tables)) (is_idle_of h out)
        (is_idle_in file ioas out (take (n + 1) tables)) frames more in
        let sum = count_then (is_idle_in file ioas out (take n tables)) (is_idle_of h out)
        (is_idle_in file ioas out (take (n + 1) tables)) frames more in
        let same = idle_counted h out rest in
        record {
          stand = subst (λ (ts : List TableFrame). AllStand new ts leads tables) left
              (one_stand now new tables rest leads sheds.stand h (at_in tables n d within) out its.pages its.found
              shed.stands m k shed.gives);
          given = sheds.given ++ shed.gives.given;
          is = shed.gives.is ∙ ap (λ (fs : List FrameNo). fs ++ shed.gives.given) sheds.is
              ∙ append_assoc l sheds.given shed.gives.given;
          gives = subst (λ (ts : List TableFrame). GivesUp old new frames ts (sheds.given ++ shed.gives.given)) left
              (gives_then old now new frames rest _ sheds.given shed.gives.given sheds.gives
              (one_gives now new tables rest leads sheds.stand h (at_in tables n d within) out its.pages its.found
              shed.stands m k shed.gives)
              (fewer_tables (λ t. not (is_idle_in file ioas out (take n tables) t)) frames));
          many = omega (arith, sum, same, sheds.many, shed.many);
        }

    -- as the loop has it
    pub next_sheds : (inside : Hwpt) (after : _) → inside ≡ h → after ≡ inside.table → (new : FramePool)
        (k : List FrameNo) (c : ℕ)
        → ((rows : List TableRow) (pages : List MappedPage) → TableStands now inside.table rows pages
        → one.MayShed (levels_of inside.table.width) own span 1 rows pages
        → one.Sheds now new after rows pages (is_idle (levels_of inside.table.width) out) m k b c)
        → Shedding old new frames leads tables (is_idle_in file ioas out (take (n + 1) tables)) l k a c
    next_sheds inside after is same new k c shed =
        let told = rw same at shed in
        more_sheds new k c
        (subst (λ (x : Hwpt). TableStands now x.table (rows_of rest h.object) its.pages
        → one.MayShed (levels_of x.table.width) own span 1 (rows_of rest h.object) its.pages
        → one.Sheds now new x.table (rows_of rest h.object) its.pages (is_idle (levels_of x.table.width) out) m k b c)
        is (told (rows_of rest h.object) its.pages) its.stands may_one)

pub same_sheds : (old now : FramePool) (frames : List TableFrame) (leads : Object → ℕ → Option MappedPage)
    (tables : List Hwpt) (p q : TableFrame → Bool) (l m : List FrameNo) (a b : ℕ)
    → Shedding old now frames leads tables p l m a b → ((t : TableFrame) → q t ≡ p t)
    → Shedding old now frames leads tables q l m a b
same_sheds old now frames leads tables p q l m a b sheds same =
    let kept = filter_same (λ t. not (p t)) (λ t. not (q t)) frames (λ t. ap not (sym (same t))) in
    let count = count_same q p frames same in
    record {
      stand = subst (λ (ts : List TableFrame). AllStand now ts leads tables) kept sheds.stand;
      given = sheds.given;
      is = sheds.is;
      gives = subst (λ (ts : List TableFrame). GivesUp old now frames ts sheds.given) kept sheds.gives;
      many = omega (arith, sheds.many, count);
    }

-- ---- counted

module _ (tables : List Hwpt) (n : ℕ) (d : Hwpt) (within : n < length tables) (file : FileNo) (ioas : ObjId)
    (own out : List Area) (frames : List TableFrame) (leads : Object → ℕ → Option MappedPage) (pool : FramePool)
    (stand : AllStand pool frames leads tables) where
  not_twice : (t : TableFrame)
      → (is_idle_in file ioas out (take n tables) t && is_idle_of (get_or tables n d) out t) ≡ false
  not_twice t = by_test (is_table_of (get_or tables n d).object.file (get_or tables n d).object.id t) refl
    where
      first : (xs : List Hwpt) → is_among xs (get_or tables n d).object ≡ false
          → is_table_of (get_or tables n d).object.file (get_or tables n d).object.id t ≡ true
          → list_any (λ h. is_over file ioas h.object && is_idle_of h out t) xs ≡ false
      first [] none own_table = refl
      first (x ∷ xs) none own_table =
          let parts = or_false (is_object x.object.file x.object.id (get_or tables n d).object)
          (is_among xs (get_or tables n d).object) none in
          let other = not_true _ (table_of_one x.object (get_or tables n d).object t parts.0 own_table) in
          both_false _ _ (and_right (is_over file ioas x.object) _ (and_left _ _ other)) (first xs parts.1 own_table)

      by_test : (b : Bool) → is_table_of (get_or tables n d).object.file (get_or tables n d).object.id t ≡ b
          → (is_idle_in file ioas out (take n tables) t && (b && is_idle (levels_of (get_or tables n d).table.width) out
          (row_of t))) ≡ false
      by_test false is = and_right (is_idle_in file ioas out (take n tables) t) _ refl
      by_test true is =
          and_left _ _ (first (take n tables) (not_before tables n d stand.own within) is)

  pub counted_more : is_over file ioas (get_or tables n d).object ≡ true → (total more : ℕ)
      → total ≡ count_by (is_idle_in file ioas out (take n tables)) frames
      → more ≡ count_by (is_idle (levels_of (get_or tables n d).table.width) out) (rows_of frames (get_or tables n d).object)
      → total + more ≡ count_by (is_idle_in file ioas out (take (n + 1) tables)) frames
  counted_more over total more is more_is =
      let sum = count_split (is_idle_in file ioas out (take (n + 1) tables)) (is_idle_in file ioas out (take n tables))
      (is_idle_of (get_or tables n d) out) frames
      (λ t. (in_more_over tables n d within file ioas out over t, not_twice t)) in
      let same = idle_counted (get_or tables n d) out frames in
      omega (arith, sum, same, is, more_is)

  pub needed_here : is_over file ioas (get_or tables n d).object ≡ true
      → list_any (is_idle_in file ioas own tables) frames ≡ false
      → list_any (is_idle (levels_of (get_or tables n d).table.width) own) (rows_of frames (get_or tables n d).object) ≡ false
  needed_here over needed =
      any_rows (get_or tables n d) own frames
      (none_stronger (is_idle_of (get_or tables n d) own) (is_idle_in file ioas own tables) frames
      (λ t idle. of_any (λ (x : Hwpt). is_over file ioas x.object && is_idle_of x own t) tables (get_or tables n d)
      (at_in tables n d within) (both_true _ _ over idle)) needed)

-- ---- the list in order

pub sorted_sheds : (old now : FramePool) (frames : List TableFrame) (leads : Object → ℕ → Option MappedPage)
    (tables : List Hwpt) (goes : TableFrame → Bool) (l m sorted : List FrameNo) (a b : ℕ) → l ≡ []
    → Shedding old now frames leads tables goes l m a b → IsPermutation (drop 0 m) (drop 0 sorted)
    → IsNonDecreasingBy (λ (f : FrameNo). f.0) (drop 0 sorted) → Sheds old now frames leads tables goes sorted
sorted_sheds old now frames leads tables goes l m sorted a b none sheds same rising =
    let is : m ≡ sheds.given = sheds.is ∙ ap (λ (fs : List FrameNo). fs ++ sheds.given) none in
    let times_same : (f : ℕ) → times f sorted ≡ times f sheds.given =
    λ f. sum_by-IsPermutation (λ (g : FrameNo). cond (eqb g.0 f) 1 0) m sorted same ∙ ap (times f) is in
    record {
      stand = sheds.stand;
      gives = record {
        went = λ f. let all = times_same f in omega (arith, all, sheds.gives.went f);
        holds = λ f. let all = times_same f in omega (arith, all, sheds.gives.holds f);
        others = sheds.gives.others;
        count = sheds.gives.count;
      };
      rising = rising;
    }
