-- The marks of page tables by file and id.
use Rattle.std.proofs.Common.{◌≡◌, ℕ, Bool, true, false, cond, not, ◌&&◌, ◌||◌, eqb, ltb, is_some, Option, Some, None}
use Rattle.std.proofs.Common.{Less, Equal, Greater, refl, sym, ap, ◌∙◌, arith, filter}
use Rattle.std.specs.BTreeMap.{is_at}
use Rattle.std.specs.Map.{lookup}
use Rattle.std.specs.Ordering.{is_eq, nat_cmp, ordering_then}
use Rattle.std.proofs.lemmas.Bool.{and_parts, eqb-true}
use Rattle.std.proofs.lemmas.Bool.Decides.{nat_tests}
use Rattle.std.proofs.lemmas.Map.Entries.{lookup-filter-keys}
use Rattle.iofd_words.specs.declared.numbers.FileNo.{FileNo}
use Rattle.iofd_words.specs.declared.numbers.ObjId.{ObjId}
use Rattle.dirty_bitmap.specs.Marks.{Words, is_marked}
use Rattle.dirty_bitmap.specs.Tracking.{Tables, is_file, is_marked_in, is_table, marks_of}
use Rattle.dirty_bitmap.proofs.Kept.{and_true, or_false}

-- ---- keys

apart : (m n : ℕ) → ltb m n ≡ true → eqb m n ≡ false
apart m n is = grind (arith, nat_tests)

same_key : (a b : ℕ) (key : ℕ × ℕ)
    → is_at (λ (x : ℕ × ℕ). ordering_then (nat_cmp a x.0) (nat_cmp b x.1)) key ≡ (eqb a key.0 && eqb b key.1)
same_key a b key = by_tests (ltb a key.0) (eqb a key.0) (ltb b key.1) (eqb b key.1) (apart a key.0) (apart b key.1)
  where
    by_tests : (p q r s : Bool) → (p ≡ true → q ≡ false) → (r ≡ true → s ≡ false)
        → is_eq (ordering_then (cond p Less (cond q Equal Greater)) (cond r Less (cond s Equal Greater))) ≡ (q && s)
    by_tests true true r s x y = let never = x refl in cc
    by_tests true false r s x y = refl
    by_tests false true true true x y = let never = y refl in cc
    by_tests false true true false x y = refl
    by_tests false true false true x y = refl
    by_tests false true false false x y = refl
    by_tests false false r s x y = refl

-- what the first tables have, but for this page table, which has these marks in the second or none
abbrev pub Puts : Tables → Tables → FileNo → ObjId → Option Words → Type 0
Puts old new file hwpt marks =
    (f : FileNo) (h : ObjId) → marks_of new f h ≡ cond (is_table file hwpt f h) marks (marks_of old f h)

pub puts : (old new : Tables) (file : FileNo) (hwpt : ObjId) (marks : Option Words)
    → ((q : ℕ × ℕ) → lookup (is_at (λ (x : ℕ × ℕ). ordering_then (nat_cmp q.0 x.0) (nat_cmp q.1 x.1))) new
    ≡ cond (is_at (λ (x : ℕ × ℕ). ordering_then (nat_cmp file.0 x.0) (nat_cmp hwpt.0 x.1)) q) marks
    (lookup (is_at (λ (x : ℕ × ℕ). ordering_then (nat_cmp q.0 x.0) (nat_cmp q.1 x.1))) old))
    → Puts old new file hwpt marks
puts old new file hwpt marks updates f h =
    updates (f.0, h.0) ∙ ap (λ b. cond b marks (marks_of old f h)) (same_key file.0 hwpt.0 (f.0, h.0))

-- a page table has one entry
same_table : (tables : Tables) (file f : FileNo) (hwpt h : ObjId) → is_table file hwpt f h ≡ true
    → marks_of tables f h ≡ marks_of tables file hwpt
same_table tables file f hwpt h is =
    let parts = and_parts (eqb file.0 f.0) (eqb hwpt.0 h.0) is in
    ap (λ (n : ℕ). marks_of tables (record { 0 = n }) h) (sym (eqb-true file.0 f.0 parts.0))
    ∙ ap (λ (n : ℕ). marks_of tables file (record { 0 = n })) (sym (eqb-true hwpt.0 h.0 parts.1))

-- ---- it comes, and it goes

module _ (old new : Tables) (file : FileNo) (hwpt : ObjId) where
  module _ (words : Words) (put : Puts old new file hwpt (Some words)) where
    pub started_tracks : (f : FileNo) (h : ObjId)
        → is_some (marks_of new f h) ≡ (is_some (marks_of old f h) || is_table file hwpt f h)
    started_tracks f h = ap (λ o. is_some o) (put f h) ∙ by_test (is_table file hwpt f h) (marks_of old f h)
      where
        by_test : (b : Bool) (o : Option Words) → is_some (cond b (Some words) o) ≡ (is_some o || b)
        by_test true None = refl
        by_test true (Some m) = refl
        by_test false None = refl
        by_test false (Some m) = refl

    pub started_marks : ((page : ℕ) → is_marked words page ≡ false) → (f : FileNo) (h : ObjId) (page : ℕ)
        → is_marked_in (marks_of new f h) page
        ≡ (is_marked_in (marks_of old f h) page && not (is_table file hwpt f h))
    started_marks none f h page =
        ap (λ o. is_marked_in o page) (put f h)
        ∙ by_test (is_table file hwpt f h) (is_marked_in (marks_of old f h) page) refl
      where
        and_false : (x : Bool) → false ≡ (x && false)
        and_false true = refl
        and_false false = refl

        by_test : (b x : Bool) → is_marked_in (marks_of old f h) page ≡ x
            → is_marked_in (cond b (Some words) (marks_of old f h)) page ≡ (x && not b)
        by_test true x is = none page ∙ and_false x
        by_test false x is = is ∙ sym (and_true x)

  module _ (gone : Puts old new file hwpt None) where
    pub stopped_tracks : (f : FileNo) (h : ObjId)
        → is_some (marks_of new f h) ≡ (is_some (marks_of old f h) && not (is_table file hwpt f h))
    stopped_tracks f h = ap (λ o. is_some o) (gone f h) ∙ by_test (is_table file hwpt f h) (marks_of old f h)
      where
        by_test : (b : Bool) (o : Option Words) → is_some (cond b None o) ≡ (is_some o && not b)
        by_test true None = refl
        by_test true (Some m) = refl
        by_test false None = refl
        by_test false (Some m) = refl

    pub stopped_marks : (f : FileNo) (h : ObjId) (page : ℕ) → is_marked_in (marks_of new f h) page
        ≡ (is_marked_in (marks_of old f h) page && not (is_table file hwpt f h))
    stopped_marks f h page =
        ap (λ o. is_marked_in o page) (gone f h)
        ∙ by_test (is_table file hwpt f h) (is_marked_in (marks_of old f h) page) refl
      where
        and_false : (x : Bool) → false ≡ (x && false)
        and_false true = refl
        and_false false = refl

        by_test : (b x : Bool) → is_marked_in (marks_of old f h) page ≡ x
            → is_marked_in (cond b None (marks_of old f h)) page ≡ (x && not b)
        by_test true x is = and_false x
        by_test false x is = is ∙ sym (and_true x)

  -- ---- its marks change

  module _ (before after : Words) (found : marks_of old file hwpt ≡ Some before)
      (put : Puts old new file hwpt (Some after)) where
    here : (f : FileNo) (h : ObjId) → is_table file hwpt f h ≡ true → marks_of old f h ≡ Some before
    here f h is = same_table old file f hwpt h is ∙ found

    pub changed_tracks : (f : FileNo) (h : ObjId) → is_some (marks_of new f h) ≡ is_some (marks_of old f h)
    changed_tracks f h = ap (λ o. is_some o) (put f h) ∙ by_test (is_table file hwpt f h) refl
      where
        by_test : (b : Bool) → is_table file hwpt f h ≡ b
            → is_some (cond b (Some after) (marks_of old f h)) ≡ is_some (marks_of old f h)
        by_test true is = sym (ap (λ o. is_some o) (here f h is))
        by_test false is = refl

    pub marked_tables : (page : ℕ) → ((other : ℕ) → is_marked after other ≡ (is_marked before other || eqb page other))
        → (f : FileNo) (h : ObjId) (other : ℕ) → is_marked_in (marks_of new f h) other
        ≡ (is_marked_in (marks_of old f h) other
        || (is_some (marks_of old f h) && (is_table file hwpt f h && eqb page other)))
    marked_tables page more f h other =
        ap (λ o. is_marked_in o other) (put f h) ∙ by_test (is_table file hwpt f h) refl
      where
        elsewhere : (o : Option Words) → is_marked_in o other ≡ (is_marked_in o other || (is_some o && false))
        elsewhere None = refl
        elsewhere (Some m) = sym (or_false (is_marked m other))

        by_test : (b : Bool) → is_table file hwpt f h ≡ b
            → is_marked_in (cond b (Some after) (marks_of old f h)) other
            ≡ (is_marked_in (marks_of old f h) other || (is_some (marks_of old f h) && (b && eqb page other)))
        by_test true is = more other
            ∙ sym (ap (λ o. is_marked_in o other || (is_some o && eqb page other)) (here f h is))
        by_test false is = elsewhere (marks_of old f h)

    pub cleared_tables : (test : ℕ → Bool)
        → ((page : ℕ) → is_marked after page ≡ (is_marked before page && not (test page)))
        → (f : FileNo) (h : ObjId) (page : ℕ) → is_marked_in (marks_of new f h) page
        ≡ (is_marked_in (marks_of old f h) page && not (is_table file hwpt f h && test page))
    cleared_tables test less f h page =
        ap (λ o. is_marked_in o page) (put f h) ∙ by_test (is_table file hwpt f h) refl
      where
        by_test : (b : Bool) → is_table file hwpt f h ≡ b
            → is_marked_in (cond b (Some after) (marks_of old f h)) page
            ≡ (is_marked_in (marks_of old f h) page && not (b && test page))
        by_test true is = less page ∙ sym (ap (λ o. is_marked_in o page && not (test page)) (here f h is))
        by_test false is = sym (and_true (is_marked_in (marks_of old f h) page))

-- ---- it isn't tracked

module _ (tables : Tables) (file : FileNo) (hwpt : ObjId) (none : marks_of tables file hwpt ≡ None) where
  nothing : (f : FileNo) (h : ObjId) → is_table file hwpt f h ≡ true → marks_of tables f h ≡ None
  nothing f h is = same_table tables file f hwpt h is ∙ none

  pub unmarked_tables : (t : Bool) (f : FileNo) (h : ObjId) (page : ℕ) → is_marked_in (marks_of tables f h) page
      ≡ (is_marked_in (marks_of tables f h) page || (is_some (marks_of tables f h) && (is_table file hwpt f h && t)))
  unmarked_tables t f h page = by_test (is_table file hwpt f h) refl
    where
      elsewhere : (o : Option Words) → is_marked_in o page ≡ (is_marked_in o page || (is_some o && false))
      elsewhere None = refl
      elsewhere (Some m) = sym (or_false (is_marked m page))

      by_test : (b : Bool) → is_table file hwpt f h ≡ b → is_marked_in (marks_of tables f h) page
          ≡ (is_marked_in (marks_of tables f h) page || (is_some (marks_of tables f h) && (b && t)))
      by_test true is = rw (nothing f h is) refl
      by_test false is = elsewhere (marks_of tables f h)

  pub uncleared_tables : (t : Bool) (f : FileNo) (h : ObjId) (page : ℕ) → is_marked_in (marks_of tables f h) page
      ≡ (is_marked_in (marks_of tables f h) page && not (is_table file hwpt f h && t))
  uncleared_tables t f h page = by_test (is_table file hwpt f h) refl
    where
      by_test : (b : Bool) → is_table file hwpt f h ≡ b
          → is_marked_in (marks_of tables f h) page ≡ (is_marked_in (marks_of tables f h) page && not (b && t))
      by_test true is = rw (nothing f h is) refl
      by_test false is = sym (and_true (is_marked_in (marks_of tables f h) page))

-- ---- all of a file go

module _ (old new : Tables) (file : FileNo)
    (left : new ≡ filter (λ (entry : (ℕ × ℕ) × Words). not (eqb entry.0.0 file.0)) old) where
  of_others : (f : FileNo) (h : ObjId) → marks_of new f h ≡ cond (not (is_file file f)) (marks_of old f h) None
  of_others f h =
      ap (λ (tables : Tables). marks_of tables f h) left
      ∙ lookup-filter-keys (is_at (λ (x : ℕ × ℕ). ordering_then (nat_cmp f.0 x.0) (nat_cmp h.0 x.1)))
      (λ (key : ℕ × ℕ). not (eqb key.0 file.0)) (not (is_file file f)) alike old
    where
      turned : (m n : ℕ) → eqb m n ≡ eqb n m
      turned m n = grind (arith, nat_tests)

      alike : (key : ℕ × ℕ) → is_at (λ (x : ℕ × ℕ). ordering_then (nat_cmp f.0 x.0) (nat_cmp h.0 x.1)) key ≡ true
          → not (eqb key.0 file.0) ≡ not (is_file file f)
      alike key is =
          let parts = and_parts (eqb f.0 key.0) (eqb h.0 key.1) (sym (same_key f.0 h.0 key) ∙ is) in
          ap (λ n. not (eqb n file.0)) (sym (eqb-true f.0 key.0 parts.0)) ∙ ap not (turned f.0 file.0)

  pub file_stopped_tracks : (f : FileNo) (h : ObjId)
      → is_some (marks_of new f h) ≡ (is_some (marks_of old f h) && not (is_file file f))
  file_stopped_tracks f h = ap (λ o. is_some o) (of_others f h) ∙ by_test (not (is_file file f)) (marks_of old f h)
    where
      by_test : (b : Bool) (o : Option Words) → is_some (cond b o None) ≡ (is_some o && b)
      by_test true None = refl
      by_test true (Some m) = refl
      by_test false None = refl
      by_test false (Some m) = refl

  pub file_stopped_marks : (f : FileNo) (h : ObjId) (page : ℕ) → is_marked_in (marks_of new f h) page
      ≡ (is_marked_in (marks_of old f h) page && not (is_file file f))
  file_stopped_marks f h page =
      ap (λ o. is_marked_in o page) (of_others f h)
      ∙ by_test (not (is_file file f)) (is_marked_in (marks_of old f h) page) refl
    where
      and_false : (x : Bool) → false ≡ (x && false)
      and_false true = refl
      and_false false = refl

      by_test : (b x : Bool) → is_marked_in (marks_of old f h) page ≡ x
          → is_marked_in (cond b (marks_of old f h) None) page ≡ (x && b)
      by_test true x is = is ∙ sym (and_true x)
      by_test false x is = and_false x
