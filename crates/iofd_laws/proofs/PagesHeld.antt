-- How many pinned pages a user has where pins follow: a page that has a pin had one before, or comes.
use Rattle.std.proofs.Common.{◌≡◌, ℕ, ◌+◌, ◌≤◌, Bool, true, false, cond, ◌&&◌, not, eqb, ltb, is_none}
use Rattle.std.proofs.Common.{is_some, Option, Some, None, List, length, refl, ap, sym, subst, ◌∙◌}
use Rattle.std.proofs.Common.{arith}
use Rattle.std.specs.List.{count_by, filter, flat_map, list_any}
use Rattle.std.proofs.lemmas.Bool.Decides.{nat_tests}
use Rattle.std.proofs.lemmas.Bool.{eqb-true}
use Rattle.std.proofs.lemmas.List.Sums.{length-filter}
use Rattle.iofd_steps.specs.After.{settle, without_areas}
use Rattle.iofd_words.specs.Allowed.{AllowedRanges}
use Rattle.iofd_refusals.specs.Checks.{passes_limit}
use Rattle.iofd_words.specs.Files.{limit_of, user_of}
use Rattle.iofd_words.specs.Objects.{has_hwpt}
use Rattle.iofd_words.specs.Pins.{ObjectPage, is_page, pages_of, pinned_frame, unpinned_pages}
use Rattle.iofd_words.specs.View.{View, view}
use Rattle.iofd_words.specs.World.{World}
use Rattle.iofd_words.specs.declared.numbers.FileNo.{FileNo}
use Rattle.iofd_words.specs.declared.numbers.FrameNo.{FrameNo}
use Rattle.iofd_words.specs.declared.numbers.ObjId.{ObjId}
use Rattle.iofd_words.specs.declared.numbers.UserNo.{UserNo}
use Rattle.iofd_words.specs.declared.rows.Area.{Area}
use Rattle.iofd_words.specs.declared.rows.Attachment.{Attachment}
use Rattle.iofd_words.specs.declared.rows.MemoryObject.{MemoryObject}
use Rattle.iofd_words.specs.declared.rows.Object.{Object}
use Rattle.iofd_laws.specs.Laws.{held_in}
use Rattle.iofd_rows.proofs.Bools.{and_true, clash, not_true}
use Rattle.iofd_rows.proofs.Each.{IsIn, of_any}
use Rattle.iofd_rows.proofs.ListTests.{false_else}
use Rattle.iofd_rows.proofs.ObjectPages.{has_page, is_listed, listed_is}
use Rattle.iofd_rows.proofs.PageCounts.{count_either, count_none, count_weaker, page_count, page_count_bound}
use Rattle.iofd_rows.proofs.PageCounts.{page_count_filter, page_count_none}
use Rattle.iofd_rows.proofs.PageLists.{in_pages, page_itself}
use Rattle.iofd_rows.proofs.PinsFollow.{settled_at, settled_frame}
use Rattle.iofd_runs.specs.Owned.{is_of_files_user}
use Rattle.iofd_runs.proofs.PagesToPin.{gone_within, pages_in}
use Rattle.iofd_runs.proofs.PagesToPin.{CoveredAs}

-- a memory object of the user
abbrev pub of_user : UserNo → MemoryObject → Bool
of_user user m = eqb m.user.0 user.0

pub same_user : (a b : UserNo) → eqb a.0 b.0 ≡ true → a ≡ b
same_user a b is = ap (λ n. let user : UserNo = record { 0 = n } in user) (eqb-true a.0 b.0 is)

pub flipped : (a b : ℕ) → eqb a b ≡ true → eqb b a ≡ true
flipped a b is = grind (arith, nat_tests)

-- ---- what the refusals rule out

limit_stays : (limit held count : ℕ) → ltb limit (held + count) ≡ false → held + count ≤ limit
limit_stays limit held count is = search (is, arith, nat_tests)

pub within_limit : (v : View) (o : Option UserNo) (user : UserNo) (count limit : ℕ) → o ≡ Some user
    → limit_of v.settings user ≡ Some limit → passes_limit v o count ≡ false → v.held_by user + count ≤ limit
within_limit v None user count limit is has passed = cc
within_limit v (Some other) user count limit is has passed =
    let same : other ≡ user = cc in
    let here : elim (limit_of v.settings user) [
      | Some limit ↦ ltb limit (v.held_by user + count)
      | None ↦ false
    ] ≡ false = rw same at passed in
    limit_stays limit (v.held_by user) count (rw has at here)

-- ---- the pages of a memory object

pub page_of_object : (m : MemoryObject) (page : ObjectPage) → IsIn (pages_of m) page → has_page page m ≡ true
page_of_object m page within =
    sym (in_pages page m.number m.count) ∙ of_any (is_page page) (pages_of m) page within (page_itself page)

pub number_of_page : (m : MemoryObject) (page : ObjectPage) → IsIn (pages_of m) page → page.memory ≡ m.number
number_of_page m page within = eqb-true page.memory m.number
    (and_true (eqb page.memory m.number) (ltb page.index m.count) (page_of_object m page within)).0

pub listed_page : (memory : List MemoryObject) (m : MemoryObject) (page : ObjectPage) → IsIn memory m
    → IsIn (pages_of m) page → is_listed memory page ≡ true
listed_page memory m page among within =
    listed_is memory page ∙ of_any (has_page page) memory m among (page_of_object m page within)

-- ---- where pins follow

-- the page has a pin
abbrev pub has_pin : World → ObjectPage → Bool
has_pin w page = is_some (pinned_frame w.pins page)

-- the page is to be pinned, and wasn't
abbrev pub comes : World → World → ObjectPage → Bool
comes old new page = list_any (is_page page) (pages_in new) && not (list_any (is_page page) (pages_in old))

-- a page that has a pin had one before, or comes
pub settle_pin : (w new : World) (page : ObjectPage) → has_pin (settle w new) page ≡ true → has_pin w page ≡ false
    → comes w new page ≡ true
unfolding settle
settle_pin w new page some none =
    by_tests (list_any (is_page page) (pages_in w)) (list_any (is_page page) (pages_in new))
    (pinned_frame w.pins page) _
    (ap (λ (o : Option FrameNo). is_some o) (sym
    (settled_frame (pages_in w) (pages_in new) new.memory new.user_pages w.pins page)) ∙ some) none
  where
    by_tests : (was is : Bool) (old now : Option FrameNo) → is_some (settled_at was is old now) ≡ true
        → is_some old ≡ false → (is && not was) ≡ true
    by_tests was false old now some none = cc
    by_tests true true None now some none = cc
    by_tests false true None now some none = refl
    by_tests was true (Some old) now some none = cc

pub held_settle : (w new : World) (user : UserNo)
    → held_in (settle w new) user ≡ page_count (has_pin (settle w new)) (of_user user) new.memory
unfolding settle
held_settle w new user = refl

settle_held : (w new : World) (t : MemoryObject → Bool) (memory : List MemoryObject)
    → page_count (has_pin (settle w new)) t memory ≤ page_count (has_pin w) t memory + page_count (comes w new) t memory
settle_held w new t memory = count_either (has_pin (settle w new)) (has_pin w) (comes w new)
    (flat_map pages_of (filter t memory)) (λ page within some none. settle_pin w new page some none)

-- no page comes
pub none_comes : (w new : World) (t : MemoryObject → Bool) (memory : List MemoryObject)
    → ((page : ObjectPage) → comes w new page ≡ true → ⊥)
    → page_count (has_pin (settle w new)) t memory ≤ page_count (has_pin w) t memory
none_comes w new t memory never =
    let held = settle_held w new t memory in
    let none =
    page_count_none (comes w new) t memory (λ m among is page within. false_else (comes w new page) (never page)) in
    omega (arith, held, none)

-- access pins cover the same pages of these memory objects, with these objects and areas
abbrev pub AllCoveredAs : World → List Object → List Area → List MemoryObject → Type 0
AllCoveredAs w left areas memory = (page : ObjectPage) → CoveredAs w left areas memory page

-- areas and objects go
pub gone_held : (w : World) (goes : Area → Bool) (left : List Object) (attachments : List Attachment)
    (allowed : List AllowedRanges) (closed : List FileNo) (user : UserNo)
    → ((file : FileNo) (ioas : ObjId) → has_hwpt left file ioas ≡ true → has_hwpt w.objects file ioas ≡ true)
    → AllCoveredAs w left (filter (λ (a : Area). not (goes a)) w.areas)
    (filter (λ m. list_any (λ (a : Area). eqb a.memory m.number && not (goes a)) w.areas) w.memory)
    → held_in (settle w (record (without_areas goes w) {
      objects = left;
      attachments = attachments;
      allowed = allowed;
      closed = closed;
    })) user ≤ held_in w user
unfolding without_areas
gone_held w goes left attachments allowed closed user fewer accessed =
    let stays : MemoryObject → Bool = λ m. list_any (λ (a : Area). eqb a.memory m.number && not (goes a)) w.areas in
    let new : World = record (without_areas goes w) {
      objects = left;
      attachments = attachments;
      allowed = allowed;
      closed = closed;
    } in
    let held = none_comes w new (of_user user) (filter stays w.memory)
    (λ page is. let parts = and_true _ _ is in clash _ (not_true _ parts.1)
    (gone_within w goes left stays page fewer (accessed page) parts.0)) in
    let fewer_objects = page_count_filter (has_pin w) (of_user user) stays w.memory in
    rw (held_settle w new user) (omega (arith, held, fewer_objects))

-- ---- pages come, of memory objects that stay: where they are those of the file's user, and so many at most

module _ (w new : World) (same : new.memory ≡ w.memory) (file : FileNo) (user : UserNo) (limit count : ℕ)
    (few : page_count (comes w new) (of_user user) w.memory ≤ count)
    (owned : (m : MemoryObject) (page : ObjectPage) → IsIn w.memory m → IsIn (pages_of m) page
    → comes w new page ≡ true → is_of_files_user w.settings file m ≡ true) where
  -- none comes where they aren't the user's
  none_of_others : ((m : MemoryObject) → of_user user m ≡ true → is_of_files_user w.settings file m ≡ true → ⊥)
      → page_count (comes w new) (of_user user) w.memory ≡ 0
  none_of_others others =
      page_count_none (comes w new) (of_user user) w.memory
      (λ m among its page within. false_else (comes w new page)
      (λ now. others m its (owned m page among within now)))

  pub few_held : limit_of w.settings user ≡ Some limit
      → passes_limit (view w) (user_of w.settings file) count ≡ false → held_in w user ≤ limit
      → held_in (settle w new) user ≤ limit
  few_held has passed before =
      rw (held_settle w new user) (subst (λ (memory : List MemoryObject). page_count (has_pin (settle w new))
      (of_user user) memory ≤ limit) (sym same) (by_owner (user_of w.settings file) refl))
    where
      held : page_count (has_pin (settle w new)) (of_user user) w.memory ≤ held_in w user
          + page_count (comes w new) (of_user user) w.memory
      held = settle_held w new (of_user user) w.memory

      by_owner : (o : Option UserNo) → user_of w.settings file ≡ o
          → page_count (has_pin (settle w new)) (of_user user) w.memory ≤ limit
      by_owner None is =
          let none = none_of_others (λ m its own. let never : false ≡ true = sym
          (ap (λ (o : Option UserNo). elim o as (λ _. Bool) [ Some u ↦ eqb u.0 m.user.0 | None ↦ false ]) is)
          ∙ own in cc) in
          omega (arith, held, none, before)
      by_owner (Some own) is = by_test (eqb own.0 user.0) refl
        where
          joined : (a b c : ℕ) → eqb a b ≡ true → eqb c b ≡ true → eqb c a ≡ true
          joined a b c first second = grind (arith, nat_tests)

          by_test : (b : Bool) → eqb own.0 user.0 ≡ b
              → page_count (has_pin (settle w new)) (of_user user) w.memory ≤ limit
          by_test true alike =
              let more = within_limit (view w) (user_of w.settings file) user count limit (is
              ∙ ap (λ (u : UserNo). Some u) (same_user own user alike)) has passed in
              omega (arith, held, few, more)
          by_test false other =
              let none = none_of_others (λ m its of_file. clash _ other
              (joined user.0 m.user.0 own.0 (flipped m.user.0 user.0 its)
              (sym (ap (λ (o : Option UserNo). elim o as (λ _. Bool) [
                | Some u ↦ eqb u.0 m.user.0
                | None ↦ false
              ]) is) ∙ of_file))) in
              omega (arith, held, none, before)

-- ---- pages come, of memory objects that stay and are those of the file's user

module _ (w new : World) (same : new.memory ≡ w.memory) (file : FileNo) (joins : MemoryObject
    → Bool) (user : UserNo) (limit : ℕ)
    (over : (m : MemoryObject) (page : ObjectPage) → IsIn (pages_of m) page → comes w new page ≡ true → joins m ≡ true)
    (free : (page : ObjectPage) → comes w new page ≡ true → is_none (pinned_frame w.pins page) ≡ true)
    (owned : (m : MemoryObject) → IsIn w.memory m → joins m ≡ true → is_of_files_user w.settings file m ≡ true) where
  abbrev is_unpinned : ObjectPage → Bool
  is_unpinned page = is_none (pinned_frame w.pins page)

  abbrev joining : List ObjectPage
  joining = unpinned_pages (pinned_frame w.pins) (filter joins w.memory)

  -- so many come as pages of those objects aren't pinned yet
  comes_count : page_count (comes w new) (of_user user) w.memory ≤ length joining
  comes_count =
      let bound = page_count_bound (comes w new) is_unpinned (of_user user) joins w.memory
      (λ m among. by_tests m (of_user user m) (joins m) refl) in
      let counted : length joining ≡ page_count is_unpinned joins w.memory =
      length-filter is_unpinned (flat_map pages_of (filter joins w.memory)) in
      omega (arith, bound, counted)
    where
      by_tests : (m : MemoryObject) (a b : Bool) → joins m ≡ b
          → cond a (count_by (comes w new) (pages_of m)) 0 ≤ cond b (count_by is_unpinned (pages_of m)) 0
      by_tests m false b is = omega arith
      by_tests m true true is = count_weaker (comes w new) is_unpinned (pages_of m) (λ page within now. free page now)
      by_tests m true false is = let none = count_none (comes w new) (pages_of m)
          (λ page within. false_else (comes w new page) (λ now. clash _ is (over m page within now))) in
          omega (arith, none)

  pub come_held : limit_of w.settings user ≡ Some limit
      → passes_limit (view w) (user_of w.settings file) (length joining) ≡ false → held_in w user ≤ limit
      → held_in (settle w new) user ≤ limit
  come_held =
      few_held w new same file user limit (length joining) comes_count
      (λ m page among within now. owned m among (over m page within now))
