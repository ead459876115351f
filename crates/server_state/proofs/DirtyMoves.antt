-- How tracked page tables and their marks are shown after each change: the rows of the world, and what is kept.
use Rattle.std.proofs.Common.{◌≡◌, ℕ, ◌∷◌, Bool, true, false, cond, ◌&&◌, ◌||◌, not, eqb, List, [], map, refl, sym, ap}
use Rattle.std.proofs.Common.{◌∙◌, arith}
use Rattle.std.specs.List.{filter, list_any}
use Rattle.std.proofs.lemmas.Bool.{eqb-true}
use Rattle.std.proofs.lemmas.Bool.Decides.{nat_tests}
use Rattle.dirty_bitmap.specs.Tracking.{Tables, is_dirty, is_file, is_table, is_tracked}
use Rattle.iofd_words.specs.Bounds.{Bounds}
use Rattle.iofd_words.specs.Dirty.{TrackedTable, has_mark, is_tracked_as, tracks, with_mark, with_tracking}
use Rattle.iofd_words.specs.Dirty.{without_marks, without_tracked}
use Rattle.iofd_words.specs.DirtyWords.{is_page_of}
use Rattle.iofd_words.specs.declared.numbers.FileNo.{FileNo}
use Rattle.iofd_words.specs.declared.numbers.ObjId.{ObjId}
use Rattle.server_state.specs.Shows.{DirtyShown}

-- ---- tests of lists

and_none : (b : Bool) → (b && false) ≡ false
and_none true = refl
and_none false = refl

-- a test of what is left, where the rows that pass it stay or go together
any_left : {X : Type 0} (p q : X → Bool) (b : Bool) (xs : List X) → ((x : X) → p x ≡ true → q x ≡ b)
    → list_any p (filter q xs) ≡ (list_any p xs && b)
any_left p q b [] one = refl
any_left p q b (x ∷ xs) one = by_tests (p x) (q x) refl refl (one x) (any_left p q b xs one)
  where
    by_tests : (t k : Bool) → p x ≡ t → q x ≡ k → (p x ≡ true → q x ≡ b)
        → list_any p (filter q xs) ≡ (list_any p xs && b)
        → list_any p (cond k (x ∷ filter q xs) (filter q xs)) ≡ ((t || list_any p xs) && b)
    by_tests true true is stays same rest = rw is (sym stays ∙ same is)
    by_tests true false is goes same rest =
        rest ∙ ap (λ c. list_any p xs && c) (sym (same is) ∙ goes) ∙ and_none (list_any p xs) ∙ sym goes ∙ same is
    by_tests false true is stays same rest = rw is rest
    by_tests false false is goes same rest = rest

any_alike : {X : Type 0} (p q : X → Bool) (xs : List X) → ((x : X) → p x ≡ q x) → list_any p xs ≡ list_any q xs
any_alike p q [] one = refl
any_alike p q (x ∷ xs) one = ap (λ b. b || list_any p xs) (one x) ∙ ap (λ b. q x || b) (any_alike p q xs one)

any_mapped : {X : Type 0} (p : X → Bool) (f : X → X) (xs : List X) → list_any p (map f xs) ≡ list_any (λ x. p (f x)) xs
any_mapped p f [] = refl
any_mapped p f (x ∷ xs) = ap (λ b. p (f x) || b) (any_mapped p f xs)

any_with : {X : Type 0} (p q : X → Bool) (c : Bool) (xs : List X)
    → list_any (λ x. p x || (q x && c)) xs ≡ (list_any p xs || (list_any q xs && c))
any_with p q c [] = refl
any_with p q c (x ∷ xs) =
    ap (λ b. (p x || (q x && c)) || b) (any_with p q c xs) ∙ mixed (p x) (q x) (list_any p xs) (list_any q xs) c
  where
    mixed : (a b d e c : Bool) → ((a || (b && c)) || (d || (e && c))) ≡ ((a || d) || ((b || e) && c))
    mixed true b d e c = refl
    mixed false true true e true = refl
    mixed false true false e true = refl
    mixed false true true e false = refl
    mixed false true false true false = refl
    mixed false true false false false = refl
    mixed false false d e c = refl

any_but : {X : Type 0} (p : X → Bool) (c : Bool) (xs : List X) → list_any (λ x. p x && c) xs ≡ (list_any p xs && c)
any_but p c [] = refl
any_but p c (x ∷ xs) = ap (λ b. (p x && c) || b) (any_but p c xs) ∙ mixed (p x) (list_any p xs) c
  where
    mixed : (a b c : Bool) → ((a && c) || (b && c)) ≡ ((a || b) && c)
    mixed true true true = refl
    mixed true false true = refl
    mixed true true false = refl
    mixed true false false = refl
    mixed false b c = refl

-- ---- one row

same_names : (a b f h file hwpt : ℕ) → (eqb a f && eqb b h) ≡ true
    → (eqb a file && eqb b hwpt) ≡ (eqb file f && eqb hwpt h)
same_names a b f h file hwpt is = grind (arith, nat_tests)

same_file : (a b f h file : ℕ) → (eqb a f && eqb b h) ≡ true → eqb a file ≡ eqb file f
same_file a b f h file is = grind (arith, nat_tests)

module _ (file : FileNo) (hwpt : ObjId) (f : FileNo) (h : ObjId) where
  named_so : (t : TrackedTable) → is_tracked_as f h t ≡ true → is_tracked_as file hwpt t ≡ is_table file hwpt f h
  named_so t is = same_names t.file.0 t.hwpt.0 f.0 h.0 file.0 hwpt.0 is

  left : (tables : List TrackedTable) (p : TrackedTable → Bool) → ((t : TrackedTable) → p t ≡ true → is_tracked_as f h t ≡ true)
      → list_any p (without_tracked file hwpt tables) ≡ (list_any p tables && not (is_table file hwpt f h))
  left tables p names =
      any_left p (λ t. not (is_tracked_as file hwpt t)) (not (is_table file hwpt f h)) tables
      (λ t is. ap not (named_so t (names t is)))

  names_too : (page : ℕ) (t : TrackedTable) → has_mark f h page t ≡ true → is_tracked_as f h t ≡ true
  names_too page t = first (is_tracked_as f h t) (list_any (λ marked. eqb marked page) t.pages)
    where
      first : (a b : Bool) → (a && b) ≡ true → a ≡ true
      first true b is = refl
      first false b is = is

-- ---- what is kept

module _ (tables : List TrackedTable) (old new : Tables) (shown : DirtyShown tables old) where
  pub dirty_stopped : (file : FileNo) (hwpt : ObjId)
      → ((f : FileNo) (h : ObjId) → is_tracked new f h ≡ (is_tracked old f h && not (is_table file hwpt f h)))
      → ((f : FileNo) (h : ObjId) (page : ℕ)
      → is_dirty new f h page ≡ (is_dirty old f h page && not (is_table file hwpt f h)))
      → DirtyShown (without_tracked file hwpt tables) new
  dirty_stopped file hwpt told marked = record {
    tracks = λ f h. left file hwpt f h tables (is_tracked_as f h) (λ t is. is)
        ∙ ap (λ b. b && not (is_table file hwpt f h)) (shown.tracks f h) ∙ sym (told f h);
    marks = λ f h page. left file hwpt f h tables (has_mark f h page) (names_too file hwpt f h page)
        ∙ ap (λ b. b && not (is_table file hwpt f h)) (shown.marks f h page) ∙ sym (marked f h page);
  }

  pub dirty_started : (file : FileNo) (hwpt : ObjId)
      → ((f : FileNo) (h : ObjId) → is_tracked new f h ≡ (is_tracked old f h || is_table file hwpt f h))
      → ((f : FileNo) (h : ObjId) (page : ℕ)
      → is_dirty new f h page ≡ (is_dirty old f h page && not (is_table file hwpt f h)))
      → DirtyShown (with_tracking file hwpt true tables) new
  dirty_started file hwpt told marked = record {
    tracks = λ f h. ap (λ b. is_table file hwpt f h || b) (left file hwpt f h tables (is_tracked_as f h) (λ t is. is)
        ∙ ap (λ b. b && not (is_table file hwpt f h)) (shown.tracks f h))
        ∙ restored (is_table file hwpt f h) (is_tracked old f h) ∙ sym (told f h);
    marks = λ f h page. ap (λ b. b || list_any (has_mark f h page) (without_tracked file hwpt tables))
        (and_none (is_table file hwpt f h))
        ∙ left file hwpt f h tables (has_mark f h page) (names_too file hwpt f h page)
        ∙ ap (λ b. b && not (is_table file hwpt f h)) (shown.marks f h page) ∙ sym (marked f h page);
  }
    where
      restored : (t k : Bool) → (t || (k && not t)) ≡ (k || t)
      restored true true = refl
      restored true false = refl
      restored false true = refl
      restored false false = refl

  pub dirty_closed : (file : FileNo)
      → ((f : FileNo) (h : ObjId) → is_tracked new f h ≡ (is_tracked old f h && not (is_file file f)))
      → ((f : FileNo) (h : ObjId) (page : ℕ) → is_dirty new f h page ≡ (is_dirty old f h page && not (is_file file f)))
      → DirtyShown (filter (λ (t : TrackedTable). not (eqb t.file.0 file.0)) tables) new
  dirty_closed file told marked = record {
    tracks = λ f h. of_other f h (is_tracked_as f h) (λ t is. is)
        ∙ ap (λ b. b && not (is_file file f)) (shown.tracks f h) ∙ sym (told f h);
    marks = λ f h page. of_other f h (has_mark f h page) (names_too file h f h page)
        ∙ ap (λ b. b && not (is_file file f)) (shown.marks f h page) ∙ sym (marked f h page);
  }
    where
      of_other : (f : FileNo) (h : ObjId) (p : TrackedTable → Bool)
          → ((t : TrackedTable) → p t ≡ true → is_tracked_as f h t ≡ true)
          → list_any p (filter (λ (t : TrackedTable). not (eqb t.file.0 file.0)) tables)
          ≡ (list_any p tables && not (is_file file f))
      of_other f h p names =
          any_left p (λ (t : TrackedTable). not (eqb t.file.0 file.0)) (not (is_file file f)) tables
          (λ t is. ap not (same_file t.file.0 t.hwpt.0 f.0 h.0 file.0 (names t is)))

  -- the rows keep their names
  named_still : (file : FileNo) (hwpt : ObjId) (f : FileNo) (h : ObjId) (pages : TrackedTable → List ℕ) (t : TrackedTable)
      → is_tracked_as f h (cond (is_tracked_as file hwpt t) (record t { pages = pages t }) t) ≡ is_tracked_as f h t
  named_still file hwpt f h pages t = by_name (is_tracked_as file hwpt t)
    where
      by_name : (b : Bool) → is_tracked_as f h (cond b (record t { pages = pages t }) t) ≡ is_tracked_as f h t
      by_name true = refl
      by_name false = refl

  same_tracked : (file : FileNo) (hwpt : ObjId) (f : FileNo) (h : ObjId) (pages : TrackedTable → List ℕ)
      → tracks (map (λ (t : TrackedTable). cond (is_tracked_as file hwpt t) (record t { pages = pages t }) t) tables) f h
      ≡ tracks tables f h
  same_tracked file hwpt f h pages =
      any_mapped (is_tracked_as f h)
      (λ (t : TrackedTable). cond (is_tracked_as file hwpt t) (record t { pages = pages t }) t) tables
      ∙ any_alike _ (is_tracked_as f h) tables (named_still file hwpt f h pages)

  pub dirty_marked : (file : FileNo) (hwpt : ObjId) (page : ℕ)
      → ((f : FileNo) (h : ObjId) → is_tracked new f h ≡ is_tracked old f h)
      → ((f : FileNo) (h : ObjId) (other : ℕ) → is_dirty new f h other
      ≡ (is_dirty old f h other || (is_tracked old f h && (is_table file hwpt f h && eqb page other))))
      → DirtyShown (with_mark file hwpt page tables) new
  dirty_marked file hwpt page told marked = record {
    tracks = λ f h. same_tracked file hwpt f h (λ t. page ∷ t.pages) ∙ shown.tracks f h ∙ sym (told f h);
    marks = λ f h other.
        any_mapped (has_mark f h other)
        (λ (t : TrackedTable). cond (is_tracked_as file hwpt t) (record t { pages = page ∷ t.pages }) t) tables
        ∙ any_alike _ (λ (t : TrackedTable). has_mark f h other t
        || (is_tracked_as f h t && (is_table file hwpt f h && eqb page other))) tables (one f h other)
        ∙ any_with (has_mark f h other) (is_tracked_as f h) (is_table file hwpt f h && eqb page other) tables
        ∙ ap (λ b. b || (tracks tables f h && (is_table file hwpt f h && eqb page other))) (shown.marks f h other)
        ∙ ap (λ b. is_dirty old f h other || (b && (is_table file hwpt f h && eqb page other))) (shown.tracks f h)
        ∙ sym (marked f h other);
  }
    where
      one : (f : FileNo) (h : ObjId) (other : ℕ) (t : TrackedTable)
          → has_mark f h other (cond (is_tracked_as file hwpt t) (record t { pages = page ∷ t.pages }) t)
          ≡ (has_mark f h other t || (is_tracked_as f h t && (is_table file hwpt f h && eqb page other)))
      one f h other t = pushed (is_tracked_as file hwpt t)
          ∙ mixed (is_tracked_as f h t) (is_tracked_as file hwpt t) (is_table file hwpt f h) (eqb page other)
          (list_any (λ marked. eqb marked other) t.pages) (named_so file hwpt f h t)
        where
          pushed : (k : Bool) → has_mark f h other (cond k (record t { pages = page ∷ t.pages }) t)
              ≡ cond k (is_tracked_as f h t && (eqb page other || list_any (λ marked. eqb marked other) t.pages))
              (is_tracked_as f h t && list_any (λ marked. eqb marked other) t.pages)
          pushed true = refl
          pushed false = refl

          by_table : (T E L : Bool) → cond T (E || L) L ≡ (L || (T && E))
          by_table true true true = refl
          by_table true true false = refl
          by_table true false true = refl
          by_table true false false = refl
          by_table false E true = refl
          by_table false E false = refl

          mixed : (n k T E L : Bool) → (n ≡ true → k ≡ T)
              → cond k (n && (E || L)) (n && L) ≡ ((n && L) || (n && (T && E)))
          mixed true k T E L so = ap (λ b. cond b (E || L) L) (so refl) ∙ by_table T E L
          mixed false true T E L so = refl
          mixed false false T E L so = refl

  pub dirty_cleared : (file : FileNo) (hwpt : ObjId) (span : Bounds)
      → ((f : FileNo) (h : ObjId) → is_tracked new f h ≡ is_tracked old f h)
      → ((f : FileNo) (h : ObjId) (page : ℕ) → is_dirty new f h page
      ≡ (is_dirty old f h page && not (is_table file hwpt f h && is_page_of span page)))
      → DirtyShown (without_marks file hwpt span tables) new
  dirty_cleared file hwpt span told marked = record {
    tracks = λ f h.
        same_tracked file hwpt f h (λ t. filter (λ page. not (is_page_of span page)) t.pages) ∙ shown.tracks f h
        ∙ sym (told f h);
    marks = λ f h page.
        any_mapped (has_mark f h page)
        (λ (t : TrackedTable). cond (is_tracked_as file hwpt t)
        (record t { pages = filter (λ page. not (is_page_of span page)) t.pages }) t) tables
        ∙ any_alike _ (λ (t : TrackedTable). has_mark f h page t
        && not (is_table file hwpt f h && is_page_of span page)) tables (one f h page)
        ∙ any_but (has_mark f h page) (not (is_table file hwpt f h && is_page_of span page)) tables
        ∙ ap (λ b. b && not (is_table file hwpt f h && is_page_of span page)) (shown.marks f h page)
        ∙ sym (marked f h page);
  }
    where
      left_pages : (page : ℕ) (pages : List ℕ)
          → list_any (λ marked. eqb marked page) (filter (λ p. not (is_page_of span p)) pages)
          ≡ (list_any (λ marked. eqb marked page) pages && not (is_page_of span page))
      left_pages page pages =
          any_left (λ marked. eqb marked page) (λ p. not (is_page_of span p)) (not (is_page_of span page)) pages
          (λ p is. ap (λ n. not (is_page_of span n)) (eqb-true p page is))

      one : (f : FileNo) (h : ObjId) (page : ℕ) (t : TrackedTable)
          → has_mark f h page (cond (is_tracked_as file hwpt t)
          (record t { pages = filter (λ page. not (is_page_of span page)) t.pages }) t)
          ≡ (has_mark f h page t && not (is_table file hwpt f h && is_page_of span page))
      one f h page t = pushed (is_tracked_as file hwpt t)
          ∙ mixed (is_tracked_as f h t) (is_tracked_as file hwpt t) (is_table file hwpt f h) (is_page_of span page)
          (list_any (λ marked. eqb marked page) t.pages) (named_so file hwpt f h t)
        where
          pushed : (k : Bool) → has_mark f h page (cond k
              (record t { pages = filter (λ page. not (is_page_of span page)) t.pages }) t)
              ≡ cond k (is_tracked_as f h t
              && (list_any (λ marked. eqb marked page) t.pages && not (is_page_of span page)))
              (is_tracked_as f h t && list_any (λ marked. eqb marked page) t.pages)
          pushed true = ap (λ b. is_tracked_as f h t && b) (left_pages page t.pages)
          pushed false = refl

          by_table : (T S L : Bool) → cond T (L && not S) L ≡ (L && not (T && S))
          by_table true S L = refl
          by_table false S true = refl
          by_table false S false = refl

          mixed : (n k T S L : Bool) → (n ≡ true → k ≡ T)
              → cond k (n && (L && not S)) (n && L) ≡ ((n && L) && not (T && S))
          mixed true k T S L so = ap (λ b. cond b (L && not S) L) (so refl) ∙ by_table T S L
          mixed false true T S L so = refl
          mixed false false T S L so = refl
