-- How many pinned pages a user has with one access pin more, and with one less.
use Rattle.std.proofs.Common.{◌≡◌, ℕ, ◌+◌, ◌≤◌, Bool, true, false, cond, ◌&&◌, eqb, is_none, List, [], ◌∷◌, ◌++◌}
use Rattle.std.proofs.Common.{length, refl, ap, sym, subst, Some, ◌∙◌, arith}
use Rattle.std.specs.List.{count_by, filter, flat_map, list_all, list_any}
use Rattle.std.proofs.lemmas.List.Sums.{length-filter}
use Rattle.iofd_words.specs.Accesses.{is_spanned, newly_accessed, pin_of, pinned_span}
use Rattle.iofd_steps.specs.After.{settle}
use Rattle.iofd_words.specs.Areas.{areas_of}
use Rattle.iofd_words.specs.Files.{limit_of}
use Rattle.iofd_words.specs.Pins.{ObjectPage, is_page, pages_of, pinned_frame, span_of_page, unpinned_pages}
use Rattle.iofd_words.specs.Pins.{without_pin}
use Rattle.iofd_words.specs.Span.{lies_in}
use Rattle.iofd_words.specs.View.{view}
use Rattle.iofd_words.specs.World.{World}
use Rattle.iofd_words.specs.declared.event.PinRequest.{PinRequest}
use Rattle.iofd_words.specs.declared.numbers.FileNo.{FileNo}
use Rattle.iofd_words.specs.declared.numbers.ObjId.{ObjId}
use Rattle.iofd_words.specs.declared.numbers.UserNo.{UserNo}
use Rattle.iofd_words.specs.declared.rows.AccessPin.{AccessPin}
use Rattle.iofd_words.specs.declared.rows.Area.{Area}
use Rattle.iofd_words.specs.declared.rows.MemoryObject.{MemoryObject}
use Rattle.iofd_laws.proofs.PagesHeld.{comes, held_settle, none_comes, number_of_page, of_user, few_held}
use Rattle.iofd_laws.specs.Laws.{held_in}
use Rattle.iofd_rows.proofs.Bools.{and_true, both_true, clash, not_true}
use Rattle.iofd_rows.proofs.Each.{IsIn}
use Rattle.iofd_rows.proofs.ListTests.{any_weaker, filter_all}
use Rattle.iofd_rows.proofs.PageCounts.{count-cons, count_weaker, page_count, page_count_bound}
use Rattle.iofd_runs.proofs.AccessPins.{comes_by_pin, none_by_unpin, spanned}
use Rattle.iofd_runs.proofs.AccessesPassed.{AccessPinPassed}
use Rattle.iofd_runs.proofs.AttachedPages.{never_pinned}
use Rattle.iofd_runs.proofs.KeepsOwned.{OwnedPins, owner}
use Rattle.iofd_runs.proofs.PagesToPin.{pages_in}
use Rattle.iofd_runs.specs.Owned.{is_of_files_user}

abbrev pub pinned_world : World → AccessPin → World
pinned_world w pin = record w { access_pins = w.access_pins ++ pin ∷ [] }

abbrev pub unpinned_world : World → AccessPin → World
unpinned_world w pin = record w { access_pins = without_pin pin w.access_pins }

-- with one less none comes
pub unpinned_held : (w : World) (pin : AccessPin) (user : UserNo)
    → held_in (settle w (unpinned_world w pin)) user ≤ held_in w user
unpinned_held w pin user =
    rw (held_settle w (unpinned_world w pin) user)
    (none_comes w (unpinned_world w pin) (of_user user) w.memory
    (λ page is.
    let parts = and_true (list_any (is_page page) (pages_in (unpinned_world w pin))) _ is in
    clash _ (not_true _ parts.1) (none_by_unpin w pin page parts.0)))

-- ---- one more

-- the pages of all memory objects
pub all_objects : (memory : List MemoryObject) → filter (λ (m : MemoryObject). true) memory ≡ memory
all_objects memory = filter_all (λ (m : MemoryObject). true) memory (each memory)
  where
    each : (memory : List MemoryObject) → list_all (λ (m : MemoryObject). true) memory ≡ true
    each [] = refl
    each (m ∷ memory) = each memory

count_filter : {X : Type 0} (p q : X → Bool) (xs : List X) → count_by q (filter p xs) ≡ count_by (λ x. p x && q x) xs
count_filter p q [] = refl
count_filter p q (x ∷ xs) =
    by_test (p x) (count_filter p q xs) ∙ sym (count-cons (λ y. p y && q y) x xs)
  where
    by_test : (b : Bool) → count_by q (filter p xs) ≡ count_by (λ y. p y && q y) xs
        → count_by q (cond b (x ∷ filter p xs) (filter p xs))
        ≡ cond (b && q x) 1 0 + count_by (λ y. p y && q y) xs
    by_test true rest = count-cons q x (filter p xs) ∙ ap (λ n. cond (q x) 1 0 + n) rest
    by_test false rest = rw rest (omega arith)

-- the page isn't pinned, and lies in the span
abbrev pub is_added : World → PinRequest → FileNo → ObjId → ObjectPage → Bool
is_added w request file ioas page =
    is_none (pinned_frame w.pins page) && is_spanned (pinned_span request) (areas_of w.areas file ioas) page

-- so many pages a pin adds
pub added_count : (w : World) (request : PinRequest) (file : FileNo) (ioas : ObjId)
    → length (newly_accessed (view w) file ioas (pinned_span request))
    ≡ page_count (is_added w request file ioas) (λ m. true) w.memory
added_count w request file ioas =
    length-filter (is_spanned (pinned_span request) (areas_of w.areas file ioas))
    (unpinned_pages (pinned_frame w.pins) w.memory)
    ∙ counted (flat_map pages_of w.memory)
    ∙ ap (λ (memory : List MemoryObject). count_by (is_added w request file ioas) (flat_map pages_of memory))
    (sym (all_objects w.memory))
  where
    counted : (pages : List ObjectPage) → count_by (is_spanned (pinned_span request) (areas_of w.areas file ioas))
        (filter (λ page. is_none (pinned_frame w.pins page)) pages) ≡ count_by (is_added w request file ioas) pages
    counted pages = count_filter (λ page. is_none (pinned_frame w.pins page))
        (is_spanned (pinned_span request) (areas_of w.areas file ioas)) pages

module _ (at : ℕ) (w : World) (file : FileNo) (id ioas : ObjId) (request : PinRequest) (p : OwnedPins at w)
    (passed : AccessPinPassed (view w) file id ioas request) where
  abbrev pub pinned_more : World
  pinned_more = pinned_world w (pin_of file id request)

  -- what comes is added by the pin
  is_new : (page : ObjectPage) → comes w pinned_more page ≡ true
      → is_added w request file ioas page ≡ true
  is_new page is =
      let parts = and_true (list_any (is_page page) (pages_in pinned_more)) _ is in
      let (listed, covers, before) = comes_by_pin w (pin_of file id request) page parts.0 (not_true _ parts.1) in
      both_true _ _ (never_pinned at w page p.pins before)
      (sym (spanned w file id ioas request page passed.attached) ∙ covers)

  few : (user : UserNo) → page_count (comes w pinned_more) (of_user user) w.memory
      ≤ length (newly_accessed (view w) file ioas (pinned_span request))
  few user =
      let bound = page_count_bound (comes w pinned_more) (is_added w request file ioas) (of_user user) (λ m. true)
      w.memory
      (λ m among. by_test m (of_user user m) (count_weaker (comes w pinned_more) (is_added w request file ioas)
      (pages_of m) (λ page within now. is_new page now))) in
      let counted = added_count w request file ioas in
      omega (arith, bound, counted)
    where
      by_test : (m : MemoryObject) (b : Bool)
          → count_by (comes w pinned_more) (pages_of m)
          ≤ count_by (is_added w request file ioas) (pages_of m)
          → cond b (count_by (comes w pinned_more) (pages_of m)) 0
          ≤ count_by (is_added w request file ioas) (pages_of m)
      by_test m true fewer = fewer
      by_test m false fewer = omega arith

  -- a page that lies in the span is of the file's user
  pub spanned_owned : (m : MemoryObject) (page : ObjectPage) → IsIn w.memory m → IsIn (pages_of m) page
      → is_spanned (pinned_span request) (areas_of w.areas file ioas) page ≡ true
      → is_of_files_user w.settings file m ≡ true
  spanned_owned m page among within lies =
      owner w file ioas m p.areas among
      (subst (λ (n : ℕ). list_any (λ (a : Area). eqb a.memory n) (areas_of w.areas file ioas) ≡ true)
      (number_of_page m page within)
      (any_weaker (λ (a : Area). eqb a.memory page.memory && lies_in (span_of_page a page.index) (pinned_span request))
      (λ (a : Area). eqb a.memory page.memory) (areas_of w.areas file ioas)
      (λ a both. (and_true (eqb a.memory page.memory) _ both).0) lies))

  pub accessed_held : (user : UserNo) (limit : ℕ) → limit_of w.settings user ≡ Some limit → held_in w user ≤ limit
      → held_in (settle w pinned_more) user ≤ limit
  accessed_held user limit has before =
      few_held w pinned_more refl file user limit
      (length (newly_accessed (view w) file ioas (pinned_span request))) (few user)
      (λ m page among within now. spanned_owned m page among within (and_true _ _ (is_new page now)).1)
      has passed.within_limit before
