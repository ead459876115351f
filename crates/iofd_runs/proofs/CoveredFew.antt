-- A page is covered at most 65,535 * 65,535 * 65,535 times: by pins of the access objects of one file, of which there
-- are so many at most, each with so many pins, each of which covers it in areas of one address space.
use Rattle.std.proofs.Common.{◌≡◌, ◌≤◌, ℕ, ◌+◌, ◌*◌, Bool, true, false, cond, ◌&&◌, ◌||◌, not, eqb, Option, Some, None}
use Rattle.std.proofs.Common.{List, []}
use Rattle.std.proofs.Common.{◌∷◌}
use Rattle.std.proofs.Common.{length, refl, ap, sym, ◌∙◌, arith, inl, inr}
use Rattle.std.specs.List.{count_by, list_any, sum_by}
use Rattle.std.proofs.lemmas.Bool.Decides.{nat_tests}
use Rattle.std.proofs.lemmas.List.Sums.{length-filter, sum_by-cons}
use Rattle.iofd_rows.proofs.Bools.{and_true, both_true, clash}
use Rattle.iofd_rows.proofs.Each.{IsIn, in_kept, of_any, of_each}
use Rattle.iofd_rows.proofs.ListTests.{false_else}
use Rattle.iofd_rows.proofs.Named.{object_of_kind}
use Rattle.iofd_rows.proofs.OwnMemory.{all_of_file}
use Rattle.iofd_rows.proofs.PageCounts.{count-cons, count_none, count_weaker}
use Rattle.iofd_rows.proofs.Unusable.{each_not}
use Rattle.iofd_rows.specs.Pinned.{share_in_files}
use Rattle.iofd_runs.proofs.Accessed.{EachHeld, some_in}
use Rattle.iofd_runs.proofs.KeepsFew.{of_file}
use Rattle.iofd_runs.specs.Few.{RowsFew, times_covered}
use Rattle.iofd_runs.specs.PinsFit.{AccessPinsFit}
use Rattle.iofd_words.specs.Areas.{is_of}
use Rattle.iofd_words.specs.Objects.{is_access_to, kind_of, objects_of}
use Rattle.iofd_words.specs.Pins.{ObjectPage, covers_page, is_of_access, is_pin_in}
use Rattle.iofd_words.specs.World.{World}
use Rattle.iofd_words.specs.declared.numbers.FileNo.{FileNo}
use Rattle.iofd_words.specs.declared.numbers.ObjId.{ObjId}
use Rattle.iofd_words.specs.declared.rows.AccessPin.{AccessPin}
use Rattle.iofd_words.specs.declared.rows.Area.{Area}
use Rattle.iofd_words.specs.declared.rows.Object.{Object}
use Rattle.iofd_words.specs.declared.rows.ObjectKind.{ObjectKind}
use Rattle.iofd_words.specs.declared.rows.ObjectKind.TheVariants as kind

-- ---- sums

-- each term is at most so much where a test is true, and else nothing
sum_bound : {X : Type 0} (f : X → ℕ) (p : X → Bool) (most : ℕ) (xs : List X)
    → ((x : X) → IsIn xs x → f x ≤ cond (p x) most 0) → sum_by f xs ≤ count_by p xs * most
sum_bound f p most [] bound = omega arith
sum_bound f p most (x ∷ xs) bound =
    let rest = sum_bound f p most xs (λ y later. bound y (inr later)) in
    rw (sum_by-cons f x xs, count-cons p x xs) (by_test (p x) (bound x (inl refl)) rest)
  where
    by_test : (b : Bool) → f x ≤ cond b most 0 → sum_by f xs ≤ count_by p xs * most
        → f x + sum_by f xs ≤ (cond b 1 0 + count_by p xs) * most
    by_test true here rest = grind (arith, here, rest)
    by_test false here rest = grind (arith, here, rest)

-- where each row that passes is counted with some row of another list
count_by_parts : {X Y : Type 0} (p : X → Bool) (q : Y → X → Bool) (xs : List X) (ys : List Y)
    → ((x : X) → IsIn xs x → p x ≡ true → list_any (λ y. q y x) ys ≡ true)
    → count_by p xs ≤ sum_by (λ y. count_by (q y) xs) ys
count_by_parts p q [] ys parts = omega arith
count_by_parts p q (x ∷ xs) ys parts =
    let rest = count_by_parts p q xs ys (λ z later. parts z (inr later)) in
    rw (count-cons p x xs) (by_test (p x) (parts x (inl refl)) rest)
  where
    split : (zs : List _) → sum_by (λ y. count_by (q y) (x ∷ xs)) zs
        ≡ count_by (λ y. q y x) zs + sum_by (λ y. count_by (q y) xs) zs
    split [] = refl
    split (z ∷ zs) =
        let rest = split zs in
        let whole = sum_by-cons (λ y. count_by (q y) (x ∷ xs)) z zs in
        let first = count-cons (q z) x xs in
        let here = count-cons (λ y. q y x) z zs in
        let later = sum_by-cons (λ y. count_by (q y) xs) z zs in
        omega (arith, rest, whole, first, here, later)

    some_count : (zs : List _) → list_any (λ y. q y x) zs ≡ true → 1 ≤ count_by (λ y. q y x) zs
    some_count [] some = cc
    some_count (z ∷ zs) some = rw (count-cons (λ y. q y x) z zs) (by_first (q z x) some (some_count zs))
      where
        by_first : (b : Bool) → (b || list_any (λ y. q y x) zs) ≡ true
            → (list_any (λ y. q y x) zs ≡ true → 1 ≤ count_by (λ y. q y x) zs)
            → 1 ≤ cond b 1 0 + count_by (λ y. q y x) zs
        by_first true some later = omega arith
        by_first false some later = let rest = later some in omega (arith, rest)

    by_test : (b : Bool) → (b ≡ true → list_any (λ y. q y x) ys ≡ true)
        → count_by p xs ≤ sum_by (λ y. count_by (q y) xs) ys
        → cond b 1 0 + count_by p xs ≤ sum_by (λ y. count_by (q y) (x ∷ xs)) ys
    by_test true some rest =
        let one = some_count ys (some refl) in let both = split ys in omega (arith, one, both, rest)
    by_test false some rest = let both = split ys in omega (arith, both, rest)

-- rows that are each of some object of one file, with so many to an object at most
pub spread_few : {X : Type 0} (objects : List Object) (file : FileNo) (p : X → Bool) (q : ObjId → X → Bool)
    (rows : List X) → count_by (of_file file) objects ≤ 65535 → ((id : ObjId) → count_by (q id) rows ≤ 65535)
    → ((x : X) → IsIn rows x → p x ≡ true → list_any (λ (o : Object). q o.id x) (objects_of objects file) ≡ true)
    → count_by p rows ≤ 65535 * 65535
spread_few objects file p q rows few each of_some =
    let own = objects_of objects file in
    let parts = count_by_parts p (λ (o : Object) x. q o.id x) rows own of_some in
    let bound = sum_bound (λ (o : Object). count_by (q o.id) rows) (λ o. true) 65535 own (λ o among. each o.id) in
    let many : length own ≡ count_by (of_file file) objects = length-filter (of_file file) objects in
    let all = count_all own in
    grind (arith, parts, bound, few, many, all)
  where
    count_all : (xs : List Object) → count_by (λ (o : Object). true) xs ≡ length xs
    count_all [] = refl
    count_all (x ∷ xs) =
        let rest = count_all xs in
        let here = count-cons (λ (o : Object). true) x xs in
        omega (arith, rest, here)

-- ---- how often

module _ (w : World) (few : RowsFew w) (pins : AccessPinsFit w) (held : EachHeld w.objects w.areas w.access_pins)
    (own : share_in_files w.areas ≡ true) where
  -- a pin covers a page in areas of one address space
  one_pin : (page : ObjectPage) (pin : AccessPin) → IsIn w.access_pins pin
      → count_by (λ (area : Area). eqb area.memory page.memory && covers_page w.objects page.index pin area) w.areas
      ≤ 65535
  one_pin page pin among =
      let is = held pin among in
      let most = few.areas pin.file is.ioas in
      let fewer = count_weaker (λ (area : Area). eqb area.memory page.memory
      && covers_page w.objects page.index pin area) (is_of pin.file is.ioas) w.areas
      (λ area there both. of_space is.ioas is.attached area
      (and_true (is_pin_in w.objects pin area) _ (and_true (eqb area.memory page.memory) _ both).1).0) in
      omega (arith, most, fewer)
    where
      flipped : (m n : ℕ) → eqb m n ≡ true → eqb n m ≡ true
      flipped m n is = grind (arith, nat_tests)

      of_space : (ioas : ObjId) → kind_of w.objects pin.file pin.access ≡ Some (kind.Access (Some ioas)) → (area : Area)
          → is_pin_in w.objects pin area ≡ true → is_of pin.file ioas area ≡ true
      of_space ioas attached area in_it =
          let parts = and_true (eqb area.file.0 pin.file.0) _ in_it in
          both_true _ _ parts.0 (flipped ioas.0 area.ioas.0
          (ap (λ (o : Option ObjectKind). elim o [ Some k ↦ is_access_to area.ioas k | None ↦ false ]) (sym attached)
          ∙ parts.1))

  -- a file's access objects hold so many
  of_one_file : (file : FileNo)
      → count_by (λ (pin : AccessPin). eqb pin.file.0 file.0) w.access_pins ≤ 65535 * 65535
  of_one_file file = spread_few w.objects file (λ (pin : AccessPin). eqb pin.file.0 file.0) (is_of_access file)
      w.access_pins (few.objects file) (pins.few file) holder
    where
      itself : (n : ℕ) → eqb n n ≡ true
      itself n = grind (arith, nat_tests)

      holder : (pin : AccessPin) → IsIn w.access_pins pin → eqb pin.file.0 file.0 ≡ true
          → list_any (λ (o : Object). is_of_access file o.id pin) (objects_of w.objects file) ≡ true
      holder pin among own_pin =
          let is = held pin among in
          let (x, first, there, of, of_id, of_kind) = object_of_kind w.objects pin.file pin.access _ is.attached in
          of_any (λ (o : Object). is_of_access file o.id pin) (objects_of w.objects file) x
          (in_kept (of_file file) w.objects x there (ap (λ (f : FileNo). eqb f.0 file.0) of ∙ own_pin))
          (both_true _ _ own_pin (ap (λ (i : ObjId). eqb pin.access.0 i.0) of_id ∙ itself pin.access.0))

  -- no pin of another file than that of some area over it covers the page
  none_of_other : (page : ObjectPage) (file : FileNo) (pin : AccessPin)
      → list_any (λ (a : Area). eqb a.file.0 file.0 && eqb a.memory page.memory) w.areas ≡ true
      → eqb pin.file.0 file.0 ≡ false
      → count_by (λ (area : Area). eqb area.memory page.memory && covers_page w.objects page.index pin area) w.areas ≡ 0
  none_of_other page file pin has other =
      count_none (λ (area : Area). eqb area.memory page.memory && covers_page w.objects page.index pin area) w.areas
      (λ area among. false_else _ (λ both.
      let parts = and_true (eqb area.memory page.memory) _ both in
      let of = of_each (λ (a : Area). not (eqb a.memory page.memory) || eqb a.file.0 file.0) w.areas area
      (all_of_file w.areas file page.memory own has) among in
      let pinned = and_true (eqb area.file.0 pin.file.0) _ (and_true (is_pin_in w.objects pin area) _ parts.1).0 in
      clash _ other (same pin.file.0 area.file.0 file.0 _ parts.0 of pinned.0)))
    where
      same : (a b c : ℕ) (here : Bool) → here ≡ true → (not here || eqb b c) ≡ true → eqb b a ≡ true
          → eqb a c ≡ true
      same a b c true is over of = grind (arith, nat_tests)
      same a b c false is over of = cc

  pub covered_few : (page : ObjectPage)
      → times_covered w.objects w.areas w.access_pins page ≤ 65535 * 65535 * 65535
  covered_few page = by_area (list_any (λ (a : Area). eqb a.memory page.memory) w.areas) refl
    where
      times : AccessPin → ℕ
      times pin = count_by (λ (area : Area). eqb area.memory page.memory
          && covers_page w.objects page.index pin area) w.areas

      of_its_file : (file : FileNo)
          → list_any (λ (a : Area). eqb a.file.0 file.0 && eqb a.memory page.memory) w.areas ≡ true
          → (pin : AccessPin) → IsIn w.access_pins pin → (b : Bool) → eqb pin.file.0 file.0 ≡ b
          → times pin ≤ cond b 65535 0
      of_its_file file has pin among true is = one_pin page pin among
      of_its_file file has pin among false is =
          let none = none_of_other page file pin has is in omega (arith, none)

      itself : (n : ℕ) → eqb n n ≡ true
      itself n = grind (arith, nat_tests)

      by_area : (b : Bool) → list_any (λ (a : Area). eqb a.memory page.memory) w.areas ≡ b
          → times_covered w.objects w.areas w.access_pins page ≤ 65535 * 65535 * 65535
      by_area true is =
          let (area, among, over) = some_in (λ (a : Area). eqb a.memory page.memory) w.areas is in
          let has = of_any (λ (a : Area). eqb a.file.0 area.file.0 && eqb a.memory page.memory) w.areas area among
          (both_true _ _ (itself area.file.0) over) in
          let bound = sum_bound times (λ (pin : AccessPin). eqb pin.file.0 area.file.0) 65535 w.access_pins
          (λ pin there. of_its_file area.file has pin there (eqb pin.file.0 area.file.0) refl) in
          let most = of_one_file area.file in
          omega (arith, bound, most)
      by_area false is =
          let bound = sum_bound times (λ (pin : AccessPin). false) 65535 w.access_pins
          (λ pin there.
          let none = count_none (λ (area : Area). eqb area.memory page.memory
          && covers_page w.objects page.index pin area) w.areas
          (λ area among. ap (λ b. b && covers_page w.objects page.index pin area)
          (each_not (λ (a : Area). eqb a.memory page.memory) w.areas area is among)) in
          omega (arith, none)) in
          let nothing = count_none (λ (pin : AccessPin). false) w.access_pins (λ pin among. refl) in
          omega (arith, bound, nothing)
