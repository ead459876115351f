-- The first bad line is where a text stops being the beginning of a good script.
use Rattle.std.proofs.Common.{◌≡◌, ℕ, zero, suc, ◌+◌, ◌-◌, ◌<◌, ◌≤◌, Bool, true, false, ◌&&◌, not, cond, eqb, ltb, leb}
use Rattle.std.proofs.Common.{List, [], ◌∷◌, ◌++◌, length, take, codes, Option, Some, None, refl, ap, subst, ◌∙◌, arith}
use Rattle.std.proofs.lemmas.Bool.{lt-ltb, ltb-true, le-leb}
use Rattle.std.specs.List.{fold}
use Rattle.iofd_words.specs.Settings.{DeviceSettings, is_device_in_limits}
use Rattle.iommufd_script.specs.Digits.{number_of}
use Rattle.iommufd_script.specs.Fields.{next}
use Rattle.iommufd_script.specs.Grammar.{head_of}
use Rattle.iommufd_script.specs.Lines.{lines, line_of}
use Rattle.iommufd_script.specs.Script.{start, allows, behind, after, bad_or, first_bad, first_bad_line, steps_in}
use Rattle.iommufd_script.specs.Opening.{set_by, nothing_set, headings}
use Rattle.iommufd_script.specs.Shape.{IsBeginning, IsFirstBad}
use Rattle.iommufd_script.specs.declared.line.HeadLine.{HeadLine}
use Rattle.iommufd_script.specs.declared.line.HeadLine.TheVariants as heading
use Rattle.iommufd_script.specs.declared.line.Line.{Line}
use Rattle.iommufd_script.specs.declared.line.Line.TheVariants as line
use Rattle.iommufd_script.specs.declared.place.Place.{Place}
use Rattle.iommufd_script.proofs.Orders.{shape_good}
use Rattle.iommufd_script.proofs.Within.{good_shape}
use Rattle.iommufd_script.proofs.Bools.{and-parts}

-- ---- lines that end any head

is_pool : line_of (codes "pool 1") ≡ Some (line.Head (heading.Pool 1))
unfolding line_of head_of next number_of
is_pool = refl

is_user : line_of (codes "user 1") ≡ Some (line.Head (heading.User 1))
unfolding line_of head_of next number_of
is_user = refl

is_file : line_of (codes "file 1") ≡ Some (line.Head (heading.File (record { 0 = 1 })))
unfolding line_of head_of next number_of
is_file = refl

is_begin : line_of (codes "begin") ≡ Some (line.Head heading.Begin)
unfolding line_of head_of next
is_begin = refl

-- ---- each place goes on to a good end

abbrev GoesOn : ℕ → Place → Type 0
GoesOn k p = (more : List (List ℕ)) × (first_bad k p more ≡ None)

step_on : (k : ℕ) (p q : Place) (text : List ℕ) (texts : List (List ℕ)) (end : Option ℕ)
    → after p (line_of text) ≡ Some q → first_bad (k + 1) q texts ≡ end → first_bad k p (text ∷ texts) ≡ end
step_on k p q text texts end e h =
    ap (λ (o : Option Place). bad_or (k + 1) o (λ next. first_bad (k + 1) next texts)) e ∙ h

may : (p : Place) (h : HeadLine) → p.begun ≡ false → allows p h ≡ true
    → after p (Some (line.Head h)) ≡ Some (behind p h)
may p h head ok = rw (head, ok) refl

on : (k : ℕ) (p : Place) (h : HeadLine) (text : List ℕ) (texts : List (List ℕ)) → line_of text ≡ Some (line.Head h)
    → p.begun ≡ false → allows p h ≡ true
    → first_bad (k + 1) (behind p h) texts ≡ None → first_bad k p (text ∷ texts) ≡ None
on k p h text texts is head ok rest = step_on k p (behind p h) text texts None (ap (after p) is ∙ may p h head ok) rest

with_files : (k : ℕ) (p : Place) → p.begun ≡ false → 0 < p.files → first_bad k p (codes "begin" ∷ []) ≡ None
with_files k p head some = on k p heading.Begin (codes "begin") [] is_begin head (lt-ltb 0 p.files some) refl

and-all : (a b c : Bool) → a ≡ true → b ≡ true → c ≡ true → ((a && b) && c) ≡ true
and-all true true c e f g = g
and-all true false c e f g = absurd cc
and-all false b c e f g = absurd cc

with_users : (k : ℕ) (p : Place) → p.begun ≡ false → p.files ≡ 0 → p.devices ≡ 0 → 0 < p.users
    → first_bad k p (codes "file 1" ∷ codes "begin" ∷ []) ≡ None
with_users k p head files devices some =
    on k p (heading.File (record { 0 = 1 })) (codes "file 1") (codes "begin" ∷ []) is_file head
    (and-all (leb 1 p.users) (eqb p.devices 0) (ltb p.files 1024) (le-leb 1 p.users some)
    (ap (λ (n : ℕ). eqb n 0) devices) (lt-ltb p.files 1024 (omega arith)))
    (with_files (k + 1) (behind p (heading.File (record { 0 = 1 }))) head (omega arith))

with_pool : (k : ℕ) (p : Place) → p.begun ≡ false → p.pool ≡ true → p.users ≡ 0 → p.files ≡ 0 → p.devices ≡ 0
    → first_bad k p (codes "user 1" ∷ codes "file 1" ∷ codes "begin" ∷ []) ≡ None
with_pool k p head pool users files devices =
    on k p (heading.User 1) (codes "user 1") (codes "file 1" ∷ codes "begin" ∷ []) is_user head
    (and-all p.pool (eqb p.files 0) (ltb p.users 255) pool (ap (λ (n : ℕ). eqb n 0) files)
    (lt-ltb p.users 255 (omega arith)))
    (with_users (k + 1) (behind p (heading.User 1)) head files devices (omega arith))

with_nothing : (k : ℕ) (p : Place) → p.begun ≡ false → p.pool ≡ false → p.users ≡ 0 → p.files ≡ 0 → p.devices ≡ 0
    → first_bad k p (codes "pool 1" ∷ codes "user 1" ∷ codes "file 1" ∷ codes "begin" ∷ []) ≡ None
with_nothing k p head pool users files devices =
    on k p (heading.Pool 1) (codes "pool 1") (codes "user 1" ∷ codes "file 1" ∷ codes "begin" ∷ []) is_pool head
    (ap (λ (b : Bool). not b && true) pool)
    (with_pool (k + 1) (behind p (heading.Pool 1)) head refl users files devices)

abbrev IsPlaced : Place → Type 0
IsPlaced p = 0 < p.devices → 0 < p.files

no_devices : (d f : ℕ) → (0 < d → 0 < f) → f ≡ 0 → d ≡ 0
no_devices zero f h e = refl
no_devices (suc d) f h e = let some : 0 < f = h (omega arith) in absurd (omega arith)

by_pool : (k : ℕ) (p : Place) (b : Bool) → p.pool ≡ b → p.begun ≡ false → p.users ≡ 0 → p.files ≡ 0 → p.devices ≡ 0
    → GoesOn k p
by_pool k p true pool head users files devices =
    (codes "user 1" ∷ codes "file 1" ∷ codes "begin" ∷ [], with_pool k p head pool users files devices)
by_pool k p false pool head users files devices = (
  codes "pool 1" ∷ codes "user 1" ∷ codes "file 1" ∷ codes "begin" ∷ [],
  with_nothing k p head pool users files devices,
)

by_users : (k : ℕ) (p : Place) (u : ℕ) → p.users ≡ u → p.begun ≡ false → p.files ≡ 0 → p.devices ≡ 0 → GoesOn k p
by_users k p zero users head files devices = by_pool k p p.pool refl head users files devices
by_users k p (suc u) users head files devices =
    (codes "file 1" ∷ codes "begin" ∷ [], with_users k p head files devices (omega arith))

by_files : (k : ℕ) (p : Place) (f : ℕ) → p.files ≡ f → p.begun ≡ false → IsPlaced p → GoesOn k p
by_files k p zero files head placed = by_users k p p.users refl head files (no_devices p.devices p.files placed files)
by_files k p (suc f) files head placed = (codes "begin" ∷ [], with_files k p head (omega arith))

by_begun : (k : ℕ) (p : Place) (b : Bool) → p.begun ≡ b → IsPlaced p → GoesOn k p
by_begun k p true begun placed = ([], rw begun refl)
by_begun k p false head placed = by_files k p p.files refl head placed

goes_on : (k : ℕ) (p : Place) → IsPlaced p → GoesOn k p
goes_on k p placed = by_begun k p p.begun refl placed

-- ---- a device comes behind a file

chosen : (b : Bool) (x q : Place) → cond b (Some x) None ≡ Some q → (b ≡ true) × (x ≡ q)
chosen true x q e = (refl, cc)
chosen false x q e = absurd cc

placed_behind : (p : Place) (h : HeadLine) → IsPlaced p → allows p h ≡ true → IsPlaced (behind p h)
placed_behind p (heading.Pool frames) placed ok = placed
placed_behind p (heading.User limit) placed ok = placed
placed_behind p (heading.File user) placed ok = λ some. omega arith
placed_behind p (heading.Device source width x86 reserved) placed ok = λ some.
    let device : DeviceSettings = record { source = source; width = width; x86 = x86; reserved = reserved } in
    let limits = and-parts (ltb 0 p.files && ltb p.devices 256) (is_device_in_limits device) ok in
    let parts = and-parts (ltb 0 p.files) (ltb p.devices 256) limits.0 in
    ltb-true 0 p.files parts.0
placed_behind p heading.Begin placed ok = placed

placed_after : (p q : Place) (l : Option Line) → IsPlaced p → after p l ≡ Some q → IsPlaced q
placed_after p q None placed e = absurd cc
placed_after p q (Some line.Skipped) placed e = let same : p ≡ q = cc in subst IsPlaced same placed
placed_after p q (Some (line.Head h)) placed e =
    let came = chosen (not p.begun && allows p h) (behind p h) q e in
    let ok = and-parts (not p.begun) (allows p h) came.0 in
    subst IsPlaced came.1 (placed_behind p h placed ok.1)
placed_after p q (Some (line.Step step)) placed e = let came = chosen p.begun p q e in subst IsPlaced came.1 placed

-- ---- where the first bad line is

record IsFound (k : ℕ) (p : Place) (texts : List (List ℕ)) (n : ℕ) : Type 0 where
  place : ℕ
  n_is : n ≡ k + (place + 1)
  most : place ≤ length texts
  before : (more : List (List ℕ)) × (first_bad k p (take place texts ++ more) ≡ None)
  here : place < length texts → (more : List (List ℕ)) → first_bad k p (take (suc place) texts ++ more) ≡ Some n

abbrev Finds : ℕ → List (List ℕ) → Type 0
Finds k texts = (p : Place) (n : ℕ) → IsPlaced p → first_bad k p texts ≡ Some n → IsFound k p texts n

found_line : (k : ℕ) (text : List ℕ) (texts : List (List ℕ)) → Finds (k + 1) texts
    → (p : Place) (n : ℕ) (o : Option Place) → IsPlaced p → after p (line_of text) ≡ o
    → bad_or (k + 1) o (λ next. first_bad (k + 1) next texts) ≡ Some n → IsFound k p (text ∷ texts) n
found_line k text texts others p n None placed is e =
    let n_is : k + 1 ≡ n = cc in
    record {
      place = 0;
      n_is = omega (arith, n_is);
      most = omega arith;
      before = goes_on k p placed;
      here = λ within more. ap (λ (o : Option Place). bad_or (k + 1) o (λ next. first_bad (k + 1) next more)) is
          ∙ ap Some n_is;
    }
found_line k text texts others p n (Some q) placed is e =
    let found = others q n (placed_after p q (line_of text) placed is) e in
    record {
      place = suc found.place;
      n_is = omega (arith, found.n_is);
      most = omega (arith, found.most);
      before = (found.before.0, step_on k p q text (take found.place texts ++ found.before.0) None is found.before.1);
      here = λ within more. step_on k p q text (take (suc found.place) texts ++ more) (Some n) is
          (found.here (omega arith) more);
    }

end_found : (k : ℕ) (b : Bool) (n : ℕ) → cond b None (Some (k + 1)) ≡ Some n → n ≡ k + 1
end_found k true n e = absurd cc
end_found k false n e = cc

finds : (k : ℕ) (texts : List (List ℕ)) → Finds k texts
finds k [] p n placed e =
    record {
      place = 0;
      n_is = omega (arith, end_found k p.begun n e);
      most = omega arith;
      before = goes_on k p placed;
      here = λ within more. absurd (omega arith);
    }
finds k (text ∷ texts) p n placed e =
    found_line k text texts (finds (k + 1) texts) p n (after p (line_of text)) placed refl e

pub bad_is_first : (text : List ℕ) (n : ℕ) → first_bad_line text ≡ Some n → IsFirstBad (lines text) n
unfolding first_bad_line
bad_is_first text n e =
    let texts = lines text in
    let found = finds 0 texts start n (λ some. absurd (omega arith)) e in
    let front : found.place ≡ n - 1 = omega (arith, found.n_is) in
    let behind_ : suc found.place ≡ n = omega (arith, found.n_is) in
    let whole = take found.place texts ++ found.before.0 in
    record {
      from_one = omega (arith, found.n_is);
      within_one = omega (arith, found.n_is, found.most);
      before = subst (λ (k : ℕ). IsBeginning (take k texts)) front (
        found.before.0,
        fold set_by nothing_set (headings whole),
        steps_in whole,
        good_shape whole found.before.1,
      );
      at = λ within goes.
          let bad : first_bad 0 start (take n texts ++ goes.0) ≡ Some n =
          subst (λ (k : ℕ). first_bad 0 start (take k texts ++ goes.0) ≡ Some n) behind_
          (found.here (omega (arith, found.n_is, within)) goes.0) in
          let good : first_bad 0 start (take n texts ++ goes.0) ≡ None =
          shape_good (take n texts ++ goes.0) goes.1 goes.2 goes.3 in
          cc;
    }
