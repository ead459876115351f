-- Frames for the tables that page tables lack to map an area: as many tables are listed as the definitions count.
use Rattle.std.proofs.Common.{◌≡◌, ◌<◌, ◌≤◌, ℕ, ◌+◌, ◌/◌, ◌^◌, Bool, true, false, cond, ◌&&◌, not, eqb, ltb}
use Rattle.std.proofs.Common.{Option, Some, None, List, [], ◌∷◌, length, refl, sym, ap, subst, ◌∙◌, arith}
use Rattle.std.proofs.Common.{length-append}
use Rattle.std.specs.List.{filter, list_all, range_with_len, sum_by}
use Rattle.std.proofs.lemmas.Bool.Decides.{nat_tests}
use Rattle.std.proofs.lemmas.List.{length-map}
use Rattle.std.proofs.lemmas.List.Sums.{sum_by-cons}
use Rattle.iofd_rows.proofs.Bools.{and_true, not_true}
use Rattle.iofd_rows.proofs.ListTests.{all_pass}
use Rattle.iofd_refusals.specs.Checks.{choices, lacks_mapped_frames, least, mapped_start, may_choose, tables_lacked}
use Rattle.iofd_refusals.specs.Checks.{tables_to_map, taken_spans}
use Rattle.iofd_words.specs.Objects.{is_hwpt_over}
use Rattle.iofd_words.specs.Pages.{is_above_sum}
use Rattle.iofd_words.specs.Rights.{is_fixed}
use Rattle.iofd_words.specs.Room.{starts_to_try}
use Rattle.iofd_words.specs.Span.{size_of, span_from}
use Rattle.iofd_words.specs.TablePlaces.{has_table, lacking, pages_in, places_of}
use Rattle.iofd_words.specs.Tables.{MissingTable}
use Rattle.iofd_words.specs.View.{View, view}
use Rattle.iofd_words.specs.World.{World}
use Rattle.iofd_words.specs.declared.event.MapRequest.{MapRequest}
use Rattle.iofd_words.specs.declared.numbers.FileNo.{FileNo}
use Rattle.iofd_words.specs.declared.numbers.ObjId.{ObjId}
use Rattle.iofd_words.specs.declared.rows.Object.{Object}
use Rattle.iofd_words.specs.declared.rows.ObjectKind.{ObjectKind}
use Rattle.iofd_words.specs.declared.rows.ObjectKind.TheVariants as kind
use Rattle.iofd_words.specs.declared.rows.TableFrame.{TableFrame}
use Rattle.journal_audit_tables.specs.Missing.{missing_at, missing_by, missing_of_object, missing_over, width_in}

-- ---- how many there are

module _ (w : World) (file : FileNo) (ioas : ObjId) (pages : List ℕ) where
  abbrev lacked : Object → ℕ
  lacked object = tables_lacked (view w) file object.id pages object.kind

  -- of one object, if it is a page table over the address space
  one_long : (object : Object) (b : Bool) (k : ObjectKind) (rest : ℕ)
      → length (missing_by w.table_frames file object.id pages (cond b (width_in ioas k) None)) + rest
      ≡ cond (b && is_hwpt_over ioas k) (tables_lacked (view w) file object.id pages k + rest) rest
  one_long object false k rest = omega arith
  one_long object true kind.Ioas rest = omega arith
  one_long object true (kind.Hwpt over width automatic) rest = by_space (eqb over.0 ioas.0)
    where
      by_space : (c : Bool)
          → length (missing_by w.table_frames file object.id pages (cond c (Some width) None)) + rest
          ≡ cond c (length (lacking (has_table w.table_frames file object.id) (places_of width pages)) + rest) rest
      by_space true = ap (λ (n : ℕ). n + rest) (length-map (lacking (has_table w.table_frames file object.id)
          (places_of width pages)) (missing_at file object.id))
      by_space false = omega arith
  one_long object true (kind.Device device) rest = omega arith
  one_long object true (kind.Access attached) rest = omega arith

  tables_long : (objects : List Object) → length (missing_over w.table_frames file ioas pages objects)
      ≡ sum_by lacked (filter (λ object. eqb object.file.0 file.0 && is_hwpt_over ioas object.kind) objects)
  tables_long [] = refl
  tables_long (object ∷ objects) =
      length-append (missing_of_object w.table_frames file ioas pages object)
      (missing_over w.table_frames file ioas pages objects)
      ∙ ap (λ (n : ℕ). length (missing_of_object w.table_frames file ioas pages object) + n) (tables_long objects)
      ∙ one_long object (eqb object.file.0 file.0) object.kind
      (sum_by lacked (filter (λ object. eqb object.file.0 file.0 && is_hwpt_over ioas object.kind) objects))
      ∙ summed (eqb object.file.0 file.0 && is_hwpt_over ioas object.kind)
      (filter (λ object. eqb object.file.0 file.0 && is_hwpt_over ioas object.kind) objects)
    where
      summed : (c : Bool) (rest : List Object) → cond c (lacked object + sum_by lacked rest) (sum_by lacked rest)
          ≡ sum_by lacked (cond c (object ∷ rest) rest)
      summed true rest = sym (sum_by-cons lacked object rest)
      summed false rest = refl

-- ---- where the area comes to lie

-- the least of numbers that pass a test passes it
least_passes : (p : ℕ → Bool) (numbers : List ℕ) (n : ℕ) → list_all p numbers ≡ true → least numbers ≡ Some n
    → p n ≡ true
least_passes p [] n all is = cc
least_passes p (x ∷ numbers) n all is =
    let parts = and_true (p x) (list_all p numbers) all in
    by_rest (least numbers) is parts.0 (λ other rest. least_passes p numbers other parts.1 rest)
  where
    by_rest : (o : Option ℕ) → elim o as (λ _. Option ℕ)
        [ Some other ↦ Some (cond (ltb other x) other x) | None ↦ Some x ] ≡ Some n
        → p x ≡ true → ((other : ℕ) → o ≡ Some other → p other ≡ true) → p n ≡ true
    by_rest None here first rest = let same : x ≡ n = cc in subst (λ (k : ℕ). p k ≡ true) same first
    by_rest (Some other) here first rest = by_less (ltb other x) here
      where
        by_less : (b : Bool) → ◌≡◌ {A = Option ℕ} (Some (cond b other x)) (Some n) → p n ≡ true
        by_less true here = let same : other ≡ n = cc in subst (λ (k : ℕ). p k ≡ true) same (rest other refl)
        by_less false here = let same : x ≡ n = cc in subst (λ (k : ℕ). p k ≡ true) same first

-- it ends by 2^64
pub placed_within : (v : View) (file : FileNo) (request : MapRequest) (found : Option ℕ) (start : ℕ)
    → (is_fixed request.flags && is_above_sum request.iova.0 request.length) ≡ false
    → found ≡ mapped_start v file request → found ≡ Some start → start + request.length ≤ 2 ^ 64
placed_within v file request found start sum is some =
    let not_above : is_above_sum start request.length ≡ false = by_flag (is_fixed request.flags) sum (sym is ∙ some) in
    search (not_above, arith, nat_tests)
  where
    by_flag : (b : Bool) → (b && is_above_sum request.iova.0 request.length) ≡ false
        → cond b (Some request.iova.0) (least (filter (may_choose v file request)
        (starts_to_try (choices v file request) (taken_spans v file request)))) ≡ Some start
        → is_above_sum start request.length ≡ false
    by_flag true sum here = let same : request.iova.0 ≡ start = cc in
        ap (λ (n : ℕ). is_above_sum n request.length) (sym same) ∙ sum
    by_flag false sum here =
        not_true _ (and_true (not (is_above_sum start request.length)) _
        (least_passes (may_choose v file request) (filter (may_choose v file request)
        (starts_to_try (choices v file request) (taken_spans v file request))) start
        (all_pass (may_choose v file request)
        (starts_to_try (choices v file request) (taken_spans v file request))) here)).0

-- ---- whether frames are lacking

size_is : (start bytes : ℕ) → eqb bytes 0 ≡ false → size_of (span_from start bytes) ≡ bytes
size_is start bytes some = let above : 0 < bytes = search (some, arith, nat_tests) in omega (arith, above)

module _ (v w : World) (file : FileNo) (request : MapRequest) (found : Option ℕ) (same : v ≡ w)
    (is : found ≡ mapped_start (view w) file request) where
  module _ (start first count : ℕ) (tables : List TableFrame) (objects : List Object) (missing : List MissingTable)
      (some : eqb request.length 0 ≡ false) (told : found ≡ Some start)
      (listed : missing ≡ missing_over tables file request.ioas (range_with_len first count) objects)
      (t : tables ≡ v.table_frames) (o : objects ≡ v.objects) (begins : first ≡ start / 4096)
      (long : count ≡ request.length / 4096) where
    counted : length missing ≡ tables_to_map (view w) file request.ioas (span_from start request.length)
    counted =
        ap (λ (l : List MissingTable). length l) (listed
        ∙ ap (λ (rows : List TableFrame). missing_over rows file request.ioas (range_with_len first count) objects) t
        ∙ ap (λ (rows : List Object). missing_over v.table_frames file request.ioas (range_with_len first count) rows) o
        ∙ ap (λ (x : World). missing_over x.table_frames file request.ioas (range_with_len first count) x.objects) same
        ∙ ap (λ (n : ℕ). missing_over w.table_frames file request.ioas (range_with_len n count) w.objects) begins
        ∙ ap (λ (n : ℕ). missing_over w.table_frames file request.ioas (range_with_len (start / 4096) n) w.objects)
        (long ∙ ap (λ (n : ℕ). n / 4096) (sym (size_is start request.length some))))
        ∙ tables_long w file request.ioas (pages_in (span_from start request.length)) w.objects

    pub frames_lacked : (free : ℕ) (b : Bool) → free ≡ (view w).free_count → b ≡ ltb free (length missing)
        → b ≡ lacks_mapped_frames (view w) file request
    frames_lacked free b free_is answers =
        answers
        ∙ ap (λ (n : ℕ). ltb n (length missing)) free_is
        ∙ ap (λ (n : ℕ). ltb (view w).free_count n) counted
        ∙ ap (λ (o : Option ℕ). elim o as (λ _. Bool) [
          | Some at ↦ ltb (view w).free_count (tables_to_map (view w) file request.ioas (span_from at request.length))
          | None ↦ false
        ]) (sym told ∙ is)

    pub none_lacked : length missing ≡ 0 → false ≡ lacks_mapped_frames (view w) file request
    none_lacked none =
        frames_lacked (view w).free_count false refl
        (never (view w).free_count ∙ ap (λ (n : ℕ). ltb (view w).free_count n) (sym none))
      where
        never : (n : ℕ) → false ≡ ltb n 0
        never n = grind (arith, nat_tests)
