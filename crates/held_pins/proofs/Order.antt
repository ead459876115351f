-- Pages of one object stand side by side, by number.
use Rattle.std.proofs.Common.{◌≡◌, ℕ, ◌/◌, ◌≤◌, ◌<◌, Bool, true, false, ◌&&◌, ◌==◌, refl, sym, ◌∙◌, arith}
use Rattle.std.specs.BTreeMap.Range.{IsLeBy}
use Rattle.std.specs.Ordering.{bool_cmp, is_gt, nat_cmp, ordering_then}
use Rattle.std.specs.Prelude.{nat_le, nat_lt}
use Rattle.std.specs.declared.cmp.Ordering.{Ordering}
use Rattle.std.specs.declared.cmp.Ordering.TheVariants.{Less, Equal, Greater}
use Rattle.std.proofs.lemmas.Bool.{and_parts}
use Rattle.std.proofs.lemmas.Bool.Decides.{nat_tests}
use Rattle.iofd_words.specs.Bounds.{Bounds}
use Rattle.iofd_words.specs.declared.numbers.FileNo.{FileNo}
use Rattle.iofd_words.specs.declared.numbers.ObjId.{ObjId}
use Rattle.held_pins.specs.Counts.{IsFirstFrom}
use Rattle.held_pins.specs.Held.{is_reached, page_cmp, page_in}
use Rattle.held_pins.specs.declared.keys.PageKey.{PageKey}

-- ---- what is compared by a number first

cmp_less : (x y : ℕ) → nat_cmp x y ≡ Less → x < y
cmp_less x y is = grind (arith, nat_tests)

cmp_equal : (x y : ℕ) → nat_cmp x y ≡ Equal → x ≡ y
cmp_equal x y is = grind (arith, nat_tests)

cmp_same : (x y : ℕ) → x ≡ y → nat_cmp x y ≡ Equal
cmp_same x y is = grind (arith, nat_tests)

not_gt : (x y : ℕ) → x ≤ y → is_gt (nat_cmp x y) ≡ false
not_gt x y below = grind (arith, nat_tests)

-- it is no greater, and where it is no less, what is compared later isn't greater
record Later (x y : ℕ) (o : Ordering) : Type 0 where
  below : x ≤ y
  later : x ≡ y → is_gt o ≡ false

parted : (x y : ℕ) (o : Ordering) → is_gt (ordering_then (nat_cmp x y) o) ≡ false → Later x y o
parted x y o below = by_order (nat_cmp x y) refl below
  where
    by_order : (p : Ordering) → nat_cmp x y ≡ p → is_gt (ordering_then p o) ≡ false → Later x y o
    by_order Less is rest =
        let less = cmp_less x y is in
        record { below = omega (arith, less); later = λ same. absurd (omega (arith, less, same)) }
    by_order Equal is rest =
        let same = cmp_equal x y is in
        record { below = omega (arith, same); later = λ _. rest }
    by_order Greater is rest = cc

joined_same : (x y : ℕ) (o : Ordering) → x ≡ y → is_gt o ≡ false → is_gt (ordering_then (nat_cmp x y) o) ≡ false
joined_same x y o same rest = rw (cmp_same x y same) rest

joined_less : (x y : ℕ) (o : Ordering) → x ≤ y → is_gt o ≡ false → is_gt (ordering_then (nat_cmp x y) o) ≡ false
joined_less x y o below rest = by_order (nat_cmp x y) (not_gt x y below)
  where
    by_order : (p : Ordering) → is_gt p ≡ false → is_gt (ordering_then p o) ≡ false
    by_order Less is = refl
    by_order Equal is = rest
    by_order Greater is = cc

-- ---- pages that a span reaches

pub record Reached (file : FileNo) (object : ObjId) (span : Bounds) (key : PageKey) : Type 0 where
  pub same_file : key.file ≡ file.0
  pub same_object : key.object ≡ object.0
  pub from : span.first / 4096 ≤ key.page
  pub to : key.page ≤ span.last / 4096

pub reached_test : (file : FileNo) (object : ObjId) (span : Bounds) (key : PageKey)
    → is_reached file object span key ≡ true → Reached file object span key
reached_test file object span key is =
    let outer = and_parts (key.file == file.0 && key.object == object.0 && nat_le (span.first / 4096) key.page)
    (nat_le key.page (span.last / 4096)) is in
    let inner = and_parts (key.file == file.0 && key.object == object.0) (nat_le (span.first / 4096) key.page)
    outer.0 in
    let object_is = and_parts (key.file == file.0) (key.object == object.0) inner.0 in
    record {
      same_file = search (object_is.0, arith, nat_tests);
      same_object = search (object_is.1, arith, nat_tests);
      from = search (inner.1, arith, nat_tests);
      to = search (outer.1, arith, nat_tests);
    }

same_number : (x y : ℕ) → x ≡ y → (x == y) ≡ true
same_number x y same = grind (arith, nat_tests)

at_most : (x y : ℕ) → x ≤ y → nat_le x y ≡ true
at_most x y below = grind (arith, nat_tests)

pub to_reached : (file : FileNo) (object : ObjId) (span : Bounds) (key : PageKey) → key.file ≡ file.0
    → key.object ≡ object.0 → span.first / 4096 ≤ key.page → key.page ≤ span.last / 4096
    → is_reached file object span key ≡ true
to_reached file object span key same_file same_object from to =
    rw (
      same_number key.file file.0 same_file,
      same_number key.object object.0 same_object,
      at_most (span.first / 4096) key.page from,
      at_most key.page (span.last / 4096) to,
    ) refl

-- where some page of the object is counted that the span reaches, it reaches the first that is counted from its own
-- first page on
module _ (file : FileNo) (object : ObjId) (span : Bounds) where
  abbrev start : PageKey
  start = page_in file object span.first (record { 0 = 0 }) false

  from_start : (key : PageKey) → Reached file object span key → IsLeBy page_cmp start key
  from_start key is =
      joined_same file.0 key.file _ (sym is.same_file)
      (joined_same object.0 key.object _ (sym is.same_object)
      (joined_less (span.first / 4096) key.page _ is.from
      (joined_less 0 key.access (bool_cmp false key.write) (omega arith) (reads_first key.write))))
    where
      reads_first : (write : Bool) → is_gt (bool_cmp false write) ≡ false
      reads_first true = refl
      reads_first false = refl

  between : (least key : PageKey) → IsLeBy page_cmp start least → IsLeBy page_cmp least key
      → Reached file object span key → is_reached file object span least ≡ true
  between least key from to is =
      let file_from = parted file.0 least.file _ from in
      let file_to = parted least.file key.file _ to in
      let same_file : least.file ≡ file.0 = omega (arith, file_from.below, file_to.below, is.same_file) in
      let object_from = parted object.0 least.object _ (file_from.later (sym same_file)) in
      let object_to = parted least.object key.object _ (file_to.later (same_file ∙ sym is.same_file)) in
      let same_object : least.object ≡ object.0 =
      omega (arith, object_from.below, object_to.below, is.same_object) in
      let page_from = parted (span.first / 4096) least.page _ (object_from.later (sym same_object)) in
      let page_to = parted least.page key.page _ (object_to.later (same_object ∙ sym is.same_object)) in
      to_reached file object span least same_file same_object page_from.below
      (omega (arith, page_to.below, is.to))

  pub none_reached : (count : PageKey → ℕ) (least key : PageKey) → IsFirstFrom page_cmp count start least
      → is_reached file object span least ≡ false → is_reached file object span key ≡ true → count key ≡ 0
  none_reached count least key found misses is = by_count (count key) refl
    where
      by_count : (n : ℕ) → count key ≡ n → n ≡ 0
      by_count n counted = by_test (nat_lt 0 n) refl
        where
          by_test : (b : Bool) → nat_lt 0 n ≡ b → n ≡ 0
          by_test true some =
              let more : 0 < n = grind (arith, nat_tests) in
              let many : 0 < count key = omega (arith, more, counted) in
              let there = reached_test file object span key is in
              let at_least = found.least key (from_start key there) many in
              absurd (different (sym (between least key found.reached at_least there) ∙ misses))
            where
              different : true ≡ false → ⊥
              different same = cc
          by_test false none = grind (arith, nat_tests)

  pub none_from : (count : PageKey → ℕ) (key : PageKey)
      → ((other : PageKey) → IsLeBy page_cmp start other → count other ≡ 0)
      → is_reached file object span key ≡ true → count key ≡ 0
  none_from count key none is = none key (from_start key (reached_test file object span key is))
