-- Which row, and which page, is found.
use Rattle.std.proofs.Common.{◌≡◌, ℕ, ◌+◌, ◌*◌, ◌^◌, Bool, true, false, cond, eqb, ◌&&◌, Option, Some, None, List, []}
use Rattle.std.proofs.Common.{◌∷◌, ◌++◌, refl, sym, ◌∙◌, ap, inl, inr, ◌⊎◌, ⊎_elim, arith}
use Rattle.std.specs.Prelude.{is_some}
use Rattle.std.specs.List.{count_by, find, fold}
use Rattle.std.specs.Option.{option_map, option_or}
use Rattle.std.proofs.lemmas.Bool.{and_from, and_parts, cases_Bool, cond-false, cond-true, eq-eqb, eqb-true, false≢true}
use Rattle.std.proofs.lemmas.Bool.{or_left, or_right}
use Rattle.std.proofs.lemmas.Bool.Decides.{nat_tests}
use Rattle.std.proofs.lemmas.List.Folds.{find-append}
use Rattle.iofd_words.specs.declared.flags.Rights.{Rights}
use Rattle.iofd_words.specs.declared.numbers.FrameNo.{FrameNo}
use Rattle.iofd_words.specs.Levels.{first_address, number_at}
use Rattle.page_table_words.specs.Rows.{MappedPage, TableRow, is_table, page_at, table_at, with_page, without_page}
use Rattle.page_table_words.specs.Taken.{names}
use Rattle.page_table_words.proofs.Numbers.{same_first}

-- ---- options

pub cases_Option : {X : Type 0} (o : Option X) → (o ≡ None) ⊎ ((x : X) × (o ≡ Some x))
cases_Option None = inl refl
cases_Option (Some x) = inr (x, refl)

pub some_is : {X : Type 0} (o : Option X) (x : X) → o ≡ Some x → is_some o ≡ true
some_is o x is = ap is_some is

pub the_some : {X : Type 0} (o : Option X) → is_some o ≡ true → (x : X) × (o ≡ Some x)
the_some None is = absurd (false≢true is)
the_some (Some x) is = (x, refl)

pub none_or_some : {X P : Type 0} (o : Option X) (x : X) → o ≡ None → o ≡ Some x → P
none_or_some o x none some = absurd (false≢true (sym (ap is_some none) ∙ ap is_some some))

pub both_some : {X : Type 0} (o : Option X) (x y : X) → o ≡ Some x → o ≡ Some y → x ≡ y
both_some o x y one other = let same : Some x ≡ Some y = sym one ∙ other in cc

pub same_frame : (f g : FrameNo) → f.0 ≡ g.0 → f ≡ g
same_frame f g same = ap (λ (n : ℕ). let frame : FrameNo = record { 0 = n } in frame) same

-- ---- rows

pub table_at-same : (rows : List TableRow) (level p q : ℕ) → number_at level p ≡ number_at level q
    → table_at rows level p ≡ table_at rows level q
unfolding table_at
table_at-same rows level p q same =
    ap (λ (n : ℕ). option_map (λ (row : TableRow). row.frame)
    (find (λ (row : TableRow). eqb row.level level && eqb row.first (n * 2 ^ (9 * level + 12))) rows)) same

map-or : {X Y : Type 0} (f : X → Y) (a b : Option X)
    → option_map f (option_or a b) ≡ option_or (option_map f a) (option_map f b)
map-or f None b = refl
map-or f (Some x) b = refl

pub table_at-append : (rows more : List TableRow) (level page : ℕ)
    → table_at (rows ++ more) level page ≡ option_or (table_at rows level page) (table_at more level page)
unfolding table_at
table_at-append rows more level page =
    ap (option_map (λ (row : TableRow). row.frame)) (find-append (is_table level page) rows more)
    ∙ map-or (λ (row : TableRow). row.frame) (find (is_table level page) rows) (find (is_table level page) more)

pub count_none : {X : Type 0} (p : X → Bool) (xs : List X) → find p xs ≡ None → count_by p xs ≡ 0
count_none p [] none = refl
count_none {X = X} p (x ∷ xs) none = by_test (p x) none (count_none p xs)
  where
    by_test : (b : Bool) → cond b (Some x) (find p xs) ≡ None → (find p xs ≡ None → count_by p xs ≡ 0)
        → fold (λ n y. n + cond (p y) 1 0) (0 + cond b 1 0) xs ≡ 0
    by_test true is rest = none_or_some (Some x) x is refl
    by_test false is rest = rest is

-- a table that isn't found is in no row
pub no_row : (rows : List TableRow) (level page : ℕ) → table_at rows level page ≡ None
    → count_by (is_table level page) rows ≡ 0
unfolding table_at
no_row rows level page none = count_none (is_table level page) rows (found (find (is_table level page) rows) none)
  where
    found : (o : Option TableRow) → option_map (λ (row : TableRow). row.frame) o ≡ None → o ≡ None
    found None is = refl
    found (Some row) is = none_or_some (Some row.frame) row.frame is refl

-- a table that is found is named
pub named_table : (rows : List TableRow) (level page : ℕ) (frame : FrameNo) → table_at rows level page ≡ Some frame
    → names rows frame.0 ≡ true
unfolding table_at
named_table [] level page frame is = none_or_some None frame refl is
named_table (row ∷ rows) level page frame is = by_test (is_table level page row) is (named_table rows level page frame)
  where
    by_test : (b : Bool) → option_map (λ (r : TableRow). r.frame) (cond b (Some row) (find (is_table level page) rows))
        ≡ Some frame → (table_at rows level page ≡ Some frame → names rows frame.0 ≡ true)
        → names (row ∷ rows) frame.0 ≡ true
    by_test true here later = or_left _ _ (eq-eqb row.frame.0 frame.0
        (ap (λ (f : FrameNo). f.0) (both_some (Some row.frame) row.frame frame refl here)))
    by_test false here later = or_right _ _ (later here)

-- a table of this level, through which this page goes
abbrev pub row_for : ℕ → ℕ → FrameNo → TableRow
row_for level page frame = record { level = level; first = first_address level page; frame = frame }

-- one more row
module _ (rows : List TableRow) (level page : ℕ) (frame : FrameNo) where
  pub one_is : (other at : ℕ) → table_at (row_for level page frame ∷ []) other at ≡ cond (eqb level other
      && eqb (first_address level page) (first_address other at)) (Some frame) None
  unfolding table_at
  one_is other at = by_test (eqb level other && eqb (first_address level page) (first_address other at))
    where
      by_test : (b : Bool) → option_map (λ (row : TableRow). row.frame) (cond b (Some (row_for level page frame)) None)
          ≡ cond b (Some frame) None
      by_test true = refl
      by_test false = refl

  pub more_keeps : (other at : ℕ) (f : FrameNo) → table_at rows other at ≡ Some f
      → table_at (rows ++ row_for level page frame ∷ []) other at ≡ Some f
  more_keeps other at f is = table_at-append rows (row_for level page frame ∷ []) other at
      ∙ ap (λ (o : Option FrameNo). option_or o (table_at (row_for level page frame ∷ []) other at)) is

  pub more_is : (other at : ℕ) → table_at rows other at ≡ None
      → table_at (rows ++ row_for level page frame ∷ []) other at ≡ cond (eqb level other
      && eqb (first_address level page) (first_address other at)) (Some frame) None
  more_is other at none =
      table_at-append rows (row_for level page frame ∷ []) other at
      ∙ ap (λ (o : Option FrameNo). option_or o (table_at (row_for level page frame ∷ []) other at)) none
      ∙ one_is other at

  pub more_has : (at : ℕ) → table_at rows level page ≡ None → number_at level at ≡ number_at level page
      → table_at (rows ++ row_for level page frame ∷ []) level at ≡ Some frame
  more_has at none same =
      let first : first_address level page ≡ first_address level at =
      ap (λ (n : ℕ). n * 2 ^ (9 * level + 12)) (sym same) in
      more_is level at (table_at-same rows level at page same ∙ none)
      ∙ cond-true (eqb level level && eqb (first_address level page) (first_address level at)) (Some frame) None
      (and_from _ _ (eq-eqb level level refl) (eq-eqb _ _ first))

  pub more_hasn't : (other at : ℕ) → table_at rows other at ≡ None
      → ((level ≡ other) → number_at level page ≡ number_at level at → ⊥)
      → table_at (rows ++ row_for level page frame ∷ []) other at ≡ None
  more_hasn't other at none not_it =
      more_is other at none
      ∙ ⊎_elim
      (λ (yes : (eqb level other && eqb (first_address level page) (first_address other at)) ≡ true).
      let parts = and_parts (eqb level other) (eqb (first_address level page) (first_address other at)) yes in
      let same = eqb-true level other parts.0 in
      let first : first_address level page ≡ first_address level at =
      eqb-true _ _ parts.1 ∙ ap (λ (k : ℕ). first_address k at) (sym same) in
      absurd (not_it same (same_first level page at first)))
      (λ (no : (eqb level other && eqb (first_address level page) (first_address other at)) ≡ false).
      cond-false _ (Some frame) None no)
      (cases_Bool (eqb level other && eqb (first_address level page) (first_address other at)))

  -- the row is the new one
  pub record IsNew (other at : ℕ) (f : FrameNo) : Type 0 where
    pub level_is : other ≡ level
    pub number_is : number_at level at ≡ number_at level page
    pub frame_is : f ≡ frame

  pub more_cases : (other at : ℕ) (f : FrameNo) → table_at (rows ++ row_for level page frame ∷ []) other at ≡ Some f
      → (table_at rows other at ≡ Some f) ⊎ IsNew other at f
  more_cases other at f is =
      ⊎_elim
      (λ (none : table_at rows other at ≡ None). inr (new none))
      (λ (some : (x : FrameNo) × (table_at rows other at ≡ Some x)). inl (some.1
      ∙ ap (λ (x : FrameNo). Some x) (both_some _ some.0 f (more_keeps other at some.0 some.1) is)))
      (cases_Option (table_at rows other at))
    where
      new : table_at rows other at ≡ None → IsNew other at f
      new none =
          let tested : cond (eqb level other && eqb (first_address level page) (first_address other at)) (Some frame)
          None ≡ Some f = sym (more_is other at none) ∙ is in
          ⊎_elim
          (λ (yes : (eqb level other && eqb (first_address level page) (first_address other at)) ≡ true).
          let parts = and_parts (eqb level other) (eqb (first_address level page) (first_address other at)) yes in
          let same = eqb-true level other parts.0 in
          let first : first_address level page ≡ first_address level at =
          eqb-true _ _ parts.1 ∙ ap (λ (k : ℕ). first_address k at) (sym same) in
          let frames : Some frame ≡ Some f = sym (cond-true _ (Some frame) None yes) ∙ tested in
          record { level_is = sym same; number_is = sym (same_first level page at first); frame_is = cc })
          (λ (no : (eqb level other && eqb (first_address level page) (first_address other at)) ≡ false). none_or_some _
          f (cond-false _ (Some frame) None no) tested)
          (cases_Bool (eqb level other && eqb (first_address level page) (first_address other at)))

-- ---- pages

pub page_at-without : (pages : List MappedPage) (page at : ℕ)
    → page_at (without_page pages page) at ≡ cond (eqb at page) None (page_at pages at)
unfolding page_at
page_at-without [] page at = by_test (eqb at page)
  where
    by_test : (b : Bool) → ◌≡◌ {A = Option MappedPage} None (cond b None None)
    by_test true = refl
    by_test false = refl
page_at-without (mapped ∷ pages) page at = let rest = page_at-without pages page at in grind (arith, nat_tests)

page_at-append : (pages more : List MappedPage) (at : ℕ)
    → page_at (pages ++ more) at ≡ option_or (page_at pages at) (page_at more at)
unfolding page_at
page_at-append pages more at = find-append (λ (mapped : MappedPage). eqb mapped.page at) pages more

page_at-one : (page : ℕ) (frame : FrameNo) (rights : Rights) (at : ℕ)
    → page_at (record { page = page; frame = frame; rights = rights } ∷ []) at ≡ cond (eqb at page)
    (Some (record { page = page; frame = frame; rights = rights })) None
unfolding page_at
page_at-one page frame rights at =
    let turned : eqb page at ≡ eqb at page = grind (arith, nat_tests) in
    ap (λ (b : Bool). cond b (Some (record { page = page; frame = frame; rights = rights })) None) turned

or_none : {X : Type 0} (o : Option X) → option_or o None ≡ o
or_none None = refl
or_none (Some x) = refl

pub page_at-with : (pages : List MappedPage) (page : ℕ) (frame : FrameNo) (rights : Rights) (at : ℕ)
    → page_at (with_page pages page frame rights) at ≡ cond (eqb at page)
    (Some (record { page = page; frame = frame; rights = rights })) (page_at pages at)
page_at-with pages page frame rights at =
    page_at-append (without_page pages page) (record { page = page; frame = frame; rights = rights } ∷ []) at
    ∙ ap (λ (o : Option MappedPage). option_or o
    (page_at (record { page = page; frame = frame; rights = rights } ∷ []) at)) (page_at-without pages page at)
    ∙ ap (option_or (cond (eqb at page) None (page_at pages at))) (page_at-one page frame rights at)
    ∙ by_test (record { page = page; frame = frame; rights = rights }) (eqb at page)
  where
    by_test : (last : MappedPage) (b : Bool)
        → option_or (cond b None (page_at pages at)) (cond b (Some last) None) ≡ cond b (Some last) (page_at pages at)
    by_test last true = refl
    by_test last false = or_none (page_at pages at)
