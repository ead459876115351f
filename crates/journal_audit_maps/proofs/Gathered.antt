-- Pages that are to be pinned anew, one after the other.
use Rattle.std.proofs.Common.{◌≡◌, ℕ, zero, suc, ◌+◌, ◌-◌, ◌≤◌, ◌<◌, Bool, true, false, cond, ◌&&◌, ◌||◌, eqb, leb, is_none}
use Rattle.std.proofs.Common.{Option, Some, None, List, [], ◌∷◌, ◌++◌, length, take, drop, get_or, min, append_assoc}
use Rattle.std.proofs.Common.{append-nil, refl, sym, ap, subst, ◌∙◌, arith}
use Rattle.std.specs.List.{filter, filter_map, flat_map, list_any}
use Rattle.std.proofs.lemmas.Bool.Decides.{nat_tests}
use Rattle.std.proofs.lemmas.List.{drop_more, take_more}
use Rattle.std.proofs.lemmas.List.Elements.{filter-append, filter_map-append}
use Rattle.std.proofs.lemmas.List.Folds.{list_any-append}
use Rattle.iofd_rows.proofs.Bools.{both_false, or_none}
use Rattle.iofd_rows.proofs.ListTests.{any-filter, or_left, or_right}
use Rattle.iofd_words.specs.Accesses.{is_spanned}
use Rattle.iofd_words.specs.Areas.{areas_of, is_of}
use Rattle.iofd_words.specs.Bounds.{Bounds}
use Rattle.iofd_words.specs.Pins.{ObjectPage, frame_now, pages_of, pin_now, pinned_frame, span_of_page}
use Rattle.iofd_words.specs.Span.{lies_in}
use Rattle.iofd_words.specs.declared.numbers.FileNo.{FileNo}
use Rattle.iofd_words.specs.declared.numbers.ObjId.{ObjId}
use Rattle.iofd_words.specs.declared.rows.Area.{Area}
use Rattle.iofd_words.specs.declared.rows.MemoryObject.{MemoryObject}
use Rattle.iofd_words.specs.declared.rows.Pin.{Pin}
use Rattle.iofd_words.specs.declared.rows.UserPage.{UserPage}
use Rattle.journal_audit_maps.specs.Newly.{Gathers, IsNext, lesser, newly_spanned, pages_at, unpinned_of}

-- ---- the next number that passes

next_or : (p q : ℕ → Bool) (from : ℕ) (a b : Option ℕ) → IsNext p from a → IsNext q from b
    → IsNext (λ i. p i || q i) from (lesser a b)
next_or p q from None None f g = λ n low. both_false _ _ (f n low) (g n low)
next_or p q from None (Some b) f g =
    (g.0, or_right _ _ g.1, λ n low less. both_false _ _ (f n low) (g.2 n low less))
next_or p q from (Some a) None f g =
    (f.0, or_left _ _ f.1, λ n low less. both_false _ _ (f.2 n low less) (g n low))
next_or p q from (Some a) (Some b) f g = by_order (leb a b) refl
  where
    by_order : (t : Bool) → leb a b ≡ t → IsNext (λ i. p i || q i) from (Some (min a b))
    by_order true is =
        let low : a ≤ b = search (is, arith, nat_tests) in
        let same : min a b ≡ a = omega (arith, low) in
        subst (λ (m : ℕ). IsNext (λ i. p i || q i) from (Some m)) (sym same)
        (f.0, or_left _ _ f.1, λ n begin less. both_false _ _ (f.2 n begin less) (g.2 n begin (omega (arith, less, low))))
    by_order false is =
        let low : b < a = search (is, arith, nat_tests) in
        let same : min a b ≡ b = omega (arith, low) in
        subst (λ (m : ℕ). IsNext (λ i. p i || q i) from (Some m)) (sym same)
        (g.0, or_right _ _ g.1, λ n begin less. both_false _ _ (f.2 n begin (omega (arith, less, low))) (g.2 n begin less))

pub next_from : (p : ℕ → Bool) (from : ℕ) (o : Option ℕ) (least : ℕ) → o ≡ Some least → IsNext p from o → from ≤ least
next_from p from o least is next = (subst (IsNext p from) is next).0

next_same : (p q : ℕ → Bool) (from : ℕ) (o : Option ℕ) → ((n : ℕ) → q n ≡ p n) → IsNext p from o → IsNext q from o
next_same p q from None same f = λ n low. same n ∙ f n low
next_same p q from (Some least) same f =
    (f.0, same least ∙ f.1, λ n low less. same n ∙ f.2 n low less)

take_all : {X : Type 0} (xs : List X) (n : ℕ) → length xs ≤ n → take n xs ≡ xs
take_all [] zero over = refl
take_all [] (suc n) over = refl
take_all (x ∷ xs) zero over = absurd (omega (arith, over))
take_all (x ∷ xs) (suc n) over =
    ap (λ (rest : List _). x ∷ rest) (take_all xs n (omega (arith, over)))

module _ (file : FileNo) (ioas : ObjId) (span : Bounds) (number : ℕ) where
  abbrev lies_at : ℕ → Area → Bool
  lies_at i area = is_of file ioas area && (eqb area.memory number && lies_in (span_of_page area i) span)

  pub next_step : (areas : List Area) (k from : ℕ) (area : Area) (least here : Option ℕ) → k < length areas
      → area ≡ get_or areas k area
      → IsNext (λ i. list_any (λ (a : Area). is_of file ioas a
      && (eqb a.memory number && lies_in (span_of_page a i) span)) (take k areas)) from least
      → IsNext (λ i. is_of file ioas area
      && (eqb area.memory number && lies_in (span_of_page area i) span)) from here
      → IsNext (λ i. list_any (λ (a : Area). is_of file ioas a
      && (eqb a.memory number && lies_in (span_of_page a i) span)) (take (k + 1) areas)) from (lesser least here)
  next_step areas k from area least here within is before one =
      next_same (λ i. list_any (lies_at i) (take k areas) || lies_at i area) _ from (lesser least here)
      (λ i. ap (λ (l : List Area). list_any (lies_at i) l)
      (take_more areas k area within ∙ ap (λ (a : Area). take k areas ++ a ∷ []) (sym is))
      ∙ list_any-append (lies_at i) (take k areas) (area ∷ [])
      ∙ ap (λ (b : Bool). list_any (lies_at i) (take k areas) || b) (or_none (lies_at i area)))
      (next_or (λ i. list_any (lies_at i) (take k areas)) (λ i. lies_at i area) from least here before one)

  pub next_done : (areas : List Area) (k from : ℕ) (least : Option ℕ) → length areas ≤ k
      → IsNext (λ i. list_any (λ (a : Area). is_of file ioas a
      && (eqb a.memory number && lies_in (span_of_page a i) span)) (take k areas)) from least
      → IsNext (λ i. is_spanned span (areas_of areas file ioas) (record { memory = number; index = i })) from least
  next_done areas k from least over before =
      next_same (λ i. list_any (lies_at i) (take k areas)) _ from least
      (λ i. any-filter (λ (a : Area). eqb a.memory number && lies_in (span_of_page a i) span) (is_of file ioas) areas
      ∙ ap (λ (l : List Area). list_any (lies_at i) l) (sym (take_all areas k over))) before

-- ---- pins of several pages

module _ (memory : List MemoryObject) (user_pages : List UserPage) where
  abbrev lacks : ObjectPage → Bool
  lacks page = is_none (frame_now memory user_pages page)

  pub gathers_more : (first rest : List ObjectPage) (old mid new : List Pin) (b : Bool)
      → Gathers true memory user_pages first old mid → Gathers b memory user_pages rest mid new
      → Gathers b memory user_pages (first ++ rest) old new
  gathers_more first rest old mid new true f g = (
    list_any-append lacks first rest ∙ both_false _ _ f.0 g.0,
    g.1 ∙ ap (λ (pins : List Pin). pins ++ filter_map (pin_now memory user_pages) rest) f.1
        ∙ append_assoc old _ _
        ∙ ap (λ (pins : List Pin). old ++ pins) (sym (filter_map-append (pin_now memory user_pages) first rest)),
  )
  gathers_more first rest old mid new false f g = list_any-append lacks first rest ∙ or_right _ _ g

  pub gathers_fails : (first rest : List ObjectPage) (old mid new : List Pin)
      → Gathers false memory user_pages first old mid → Gathers false memory user_pages (first ++ rest) old new
  gathers_fails first rest old mid new f = list_any-append lacks first rest ∙ or_left _ _ f

  pub gathers_none : (pages : List ObjectPage) (old : List Pin) → pages ≡ []
      → Gathers true memory user_pages pages old old
  gathers_none pages old none =
      subst (λ (l : List ObjectPage). Gathers true memory user_pages l old old) (sym none) (refl, sym (append-nil old))

-- ---- those in a span

module _ (pins : List Pin) (areas : List Area) (file : FileNo) (ioas : ObjId) (span : Bounds) where
  abbrev newly : List ObjectPage → List ObjectPage
  newly pages = newly_spanned pins areas file ioas span pages

  abbrev spanned : ObjectPage → Bool
  spanned page = is_spanned span (areas_of areas file ioas) page

  pub newly-append : (xs ys : List ObjectPage) → newly (xs ++ ys) ≡ newly xs ++ newly ys
  newly-append xs ys =
      ap (filter spanned) (filter-append (λ (page : ObjectPage). is_none (pinned_frame pins page)) xs ys)
      ∙ filter-append spanned (unpinned_of pins xs) (unpinned_of pins ys)

  head_in : (page : ObjectPage) (rest : List ObjectPage) → spanned page ≡ true
      → newly (page ∷ rest) ≡ unpinned_of pins (page ∷ []) ++ newly rest
  head_in page rest is = by_test (is_none (pinned_frame pins page))
    where
      by_test : (b : Bool) → filter spanned (cond b (page ∷ unpinned_of pins rest) (unpinned_of pins rest))
          ≡ cond b (page ∷ []) [] ++ newly rest
      by_test true = rw is refl
      by_test false = refl

  head_out : (page : ObjectPage) (rest : List ObjectPage) → spanned page ≡ false → newly (page ∷ rest) ≡ newly rest
  head_out page rest fails = by_test (is_none (pinned_frame pins page))
    where
      by_test : (b : Bool) → filter spanned (cond b (page ∷ unpinned_of pins rest) (unpinned_of pins rest))
          ≡ newly rest
      by_test true = rw fails refl
      by_test false = refl

  module _ (number count : ℕ) where
    abbrev page_at : ℕ → ObjectPage
    page_at i = record { memory = number; index = i }

    none_by : (c from : ℕ) → ((n : ℕ) → from ≤ n → n < from + c → spanned (page_at n) ≡ false)
        → newly (pages_at number from c) ≡ []
    none_by zero from fails = refl
    none_by (suc c) from fails =
        head_out (page_at from) (pages_at number (from + 1) c) (fails from (omega arith) (omega arith))
        ∙ none_by c (from + 1) (λ n low high. fails n (omega (arith, low)) (omega (arith, high)))

    -- no page from here on lies in the span
    pub none_left : (from : ℕ) → ((n : ℕ) → from ≤ n → n < count → spanned (page_at n) ≡ false)
        → newly (pages_at number from (count - from)) ≡ []
    none_left from fails =
        none_by (count - from) from (λ n low high. fails n low (omega (arith, low, high)))

    skip_by : (k from index : ℕ) → from + k ≡ index → index < count → spanned (page_at index) ≡ true
        → ((n : ℕ) → from ≤ n → n < index → spanned (page_at n) ≡ false)
        → newly (pages_at number from (count - from))
        ≡ unpinned_of pins (page_at index ∷ []) ++ newly (pages_at number (index + 1) (count - (index + 1)))
    skip_by zero from index is within here before =
        let same : from ≡ index = omega (arith, is) in
        let size : count - from ≡ suc (count - (index + 1)) = omega (arith, same, within) in
        ap (λ (c : ℕ). newly (pages_at number from c)) size
        ∙ ap (λ (f : ℕ). newly (page_at f ∷ pages_at number (f + 1) (count - (index + 1)))) same
        ∙ head_in (page_at index) (pages_at number (index + 1) (count - (index + 1))) here
    skip_by (suc k) from index is within here before =
        let size : count - from ≡ suc (count - (from + 1)) = omega (arith, is, within) in
        ap (λ (c : ℕ). newly (pages_at number from c)) size
        ∙ head_out (page_at from) (pages_at number (from + 1) (count - (from + 1)))
        (before from (omega arith) (omega (arith, is)))
        ∙ skip_by k (from + 1) index (omega (arith, is)) within here
        (λ n low less. before n (omega (arith, low)) less)

    -- the next one, and those behind it
    pub skipped : (from index : ℕ) → IsNext (λ i. spanned (page_at i)) from (Some index) → index < count
        → newly (pages_at number from (count - from))
        ≡ unpinned_of pins (page_at index ∷ []) ++ newly (pages_at number (index + 1) (count - (index + 1)))
    skipped from index next within =
        let low = next.0 in skip_by (index - from) from index (omega (arith, low)) within next.1 next.2

-- ---- page after page

module _ (memory : List MemoryObject) (user_pages : List UserPage) (pins : List Pin) (areas : List Area) (file : FileNo)
    (ioas : ObjId) (span : Bounds) where
  -- what comes of all pages, where it is known what comes of those that are left
  abbrev Goes : List ObjectPage → List Pin → List ObjectPage → List Pin → Type 0
  Goes left found all old = (b : Bool) (new : List Pin)
      → Gathers b memory user_pages (newly_spanned pins areas file ioas span left) found new
      → Gathers b memory user_pages (newly_spanned pins areas file ioas span all) old new

  -- nothing is left
  pub goes_ends : (left all : List ObjectPage) (found old : List Pin) → Goes left found all old
      → newly_spanned pins areas file ioas span left ≡ []
      → Gathers true memory user_pages (newly_spanned pins areas file ioas span all) old found
  goes_ends left all found old rest none =
      rest true found (gathers_none memory user_pages (newly_spanned pins areas file ioas span left) found none)

  -- the first of those that are left are done
  goes_on : (left all later : List ObjectPage) (first : List ObjectPage) (found mid old : List Pin)
      → Goes left found all old
      → newly_spanned pins areas file ioas span left ≡ first ++ newly_spanned pins areas file ioas span later
      → Gathers true memory user_pages first found mid → Goes later mid all old
  goes_on left all later first found mid old rest is here b new more =
      rest b new (subst (λ (l : List ObjectPage). Gathers b memory user_pages l found new) (sym is)
      (gathers_more memory user_pages first _ found mid new b here more))

  -- one of the first isn't there
  goes_fails : (left all later : List ObjectPage) (first : List ObjectPage) (found mid old : List Pin)
      → Goes left found all old
      → newly_spanned pins areas file ioas span left ≡ first ++ newly_spanned pins areas file ioas span later
      → Gathers false memory user_pages first found mid
      → Gathers false memory user_pages (newly_spanned pins areas file ioas span all) old old
  goes_fails left all later first found mid old rest is here =
      rest false old (subst (λ (l : List ObjectPage). Gathers false memory user_pages l found old) (sym is)
      (gathers_fails memory user_pages first _ found mid old here))

  as_told : (b c : Bool) (pages : List ObjectPage) (old new : List Pin) → b ≡ c → Gathers b memory user_pages pages old new
      → Gathers c memory user_pages pages old new
  as_told b c pages old new is g = subst (λ (x : Bool). Gathers x memory user_pages pages old new) is g

  pub object_begins : (number count : ℕ) (old : List Pin)
      → Goes (pages_at number 0 (count - 0)) old (pages_at number 0 count) old
  object_begins number count old b new all =
      let same : count - 0 ≡ count = omega arith in
      subst (λ (n : ℕ). Gathers b memory user_pages (newly_spanned pins areas file ioas span (pages_at number 0 n)) old
      new) same all

  module _ (number count : ℕ) (found old : List Pin) (from : ℕ)
      (rest : Goes (pages_at number from (count - from)) found (pages_at number 0 count) old) where
    abbrev IsNextHere : Option ℕ → Type 0
    IsNextHere next =
        IsNext (λ i. is_spanned span (areas_of areas file ioas) (record { memory = number; index = i })) from next

    pub object_none : (next : Option ℕ) → next ≡ None → IsNextHere next
        → Gathers true memory user_pages (newly_spanned pins areas file ioas span (pages_at number 0 count)) old found
    object_none next is here =
        let none = subst IsNextHere is here in
        goes_ends (pages_at number from (count - from)) (pages_at number 0 count) found old rest
        (none_left pins areas file ioas span number count from (λ n low high. none n low))

    pub object_beyond : (next : Option ℕ) (index : ℕ) → next ≡ Some index → count ≤ index → IsNextHere next
        → Gathers true memory user_pages (newly_spanned pins areas file ioas span (pages_at number 0 count)) old found
    object_beyond next index is beyond here =
        let least = subst IsNextHere is here in
        goes_ends (pages_at number from (count - from)) (pages_at number 0 count) found old rest
        (none_left pins areas file ioas span number count from
        (λ n low high. least.2 n low (omega (arith, high, beyond))))

    pub object_over : count ≤ from
        → Gathers true memory user_pages (newly_spanned pins areas file ioas span (pages_at number 0 count)) old found
    object_over over =
        goes_ends (pages_at number from (count - from)) (pages_at number 0 count) found old rest
        (none_left pins areas file ioas span number count from (λ n low high. absurd (omega (arith, low, high, over))))

    pub object_fails : (next : Option ℕ) (index : ℕ) (mid : List Pin) (b : Bool) → next ≡ Some index → index < count
        → IsNextHere next → b ≡ false
        → Gathers b memory user_pages (unpinned_of pins (record { memory = number; index = index } ∷ [])) found mid
        → Gathers false memory user_pages (newly_spanned pins areas file ioas span (pages_at number 0 count)) old old
    object_fails next index mid b is within here fails g =
        goes_fails (pages_at number from (count - from)) (pages_at number 0 count)
        (pages_at number (index + 1) (count - (index + 1))) _ found mid old rest
        (skipped pins areas file ioas span number count from index (subst IsNextHere is here) within)
        (as_told b false _ found mid fails g)

    pub object_step : (next : Option ℕ) (index : ℕ) (mid : List Pin) (b : Bool) → next ≡ Some index → index < count
        → IsNextHere next → b ≡ true
        → Gathers b memory user_pages (unpinned_of pins (record { memory = number; index = index } ∷ [])) found mid
        → Goes (pages_at number (index + 1) (count - (index + 1))) mid (pages_at number 0 count) old
    object_step next index mid b is within here passes g =
        goes_on (pages_at number from (count - from)) (pages_at number 0 count)
        (pages_at number (index + 1) (count - (index + 1))) _ found mid old rest
        (skipped pins areas file ioas span number count from index (subst IsNextHere is here) within)
        (as_told b true _ found mid passes g)

  -- ---- object after object

  drop_all : {X : Type 0} (xs : List X) (n : ℕ) → length xs ≤ n → drop n xs ≡ []
  drop_all [] zero over = refl
  drop_all [] (suc n) over = refl
  drop_all (x ∷ xs) zero over = absurd (omega (arith, over))
  drop_all (x ∷ xs) (suc n) over = drop_all xs n (omega (arith, over))

  module _ (k : ℕ) (d : MemoryObject) (found : List Pin)
      (rest : Goes (flat_map pages_of (drop k memory)) found (flat_map pages_of memory) []) where
    pub all_over : length memory ≤ k
        → Gathers true memory user_pages (newly_spanned pins areas file ioas span (flat_map pages_of memory)) [] found
    all_over over =
        goes_ends (flat_map pages_of (drop k memory)) (flat_map pages_of memory) found [] rest
        (ap (λ (l : List MemoryObject). newly_spanned pins areas file ioas span (flat_map pages_of l))
        (drop_all memory k over))

    parts : k < length memory → newly_spanned pins areas file ioas span (flat_map pages_of (drop k memory))
        ≡ newly_spanned pins areas file ioas span (pages_of (get_or memory k d))
        ++ newly_spanned pins areas file ioas span (flat_map pages_of (drop (k + 1) memory))
    parts within =
        ap (λ (l : List MemoryObject). newly_spanned pins areas file ioas span (flat_map pages_of l))
        (drop_more memory k d within)
        ∙ newly-append pins areas file ioas span (pages_of (get_or memory k d)) (flat_map pages_of (drop (k + 1) memory))

    pub all_fails : (mid : List Pin) (b : Bool) → k < length memory → b ≡ false
        → Gathers b memory user_pages (newly_spanned pins areas file ioas span (pages_of (get_or memory k d))) found mid
        → Gathers false memory user_pages (newly_spanned pins areas file ioas span (flat_map pages_of memory)) [] []
    all_fails mid b within fails g =
        goes_fails (flat_map pages_of (drop k memory)) (flat_map pages_of memory) (flat_map pages_of (drop (k + 1) memory))
        _ found mid [] rest (parts within) (as_told b false _ found mid fails g)

    pub all_step : (mid : List Pin) (b : Bool) → k < length memory → b ≡ true
        → Gathers b memory user_pages (newly_spanned pins areas file ioas span (pages_of (get_or memory k d))) found mid
        → Goes (flat_map pages_of (drop (k + 1) memory)) mid (flat_map pages_of memory) []
    all_step mid b within passes g =
        goes_on (flat_map pages_of (drop k memory)) (flat_map pages_of memory) (flat_map pages_of (drop (k + 1) memory))
        _ found mid [] rest (parts within) (as_told b true _ found mid passes g)
