-- Which row refused an event for the account, and how many pinned pages a user would have where pages come.
use Rattle.std.proofs.Common.{◌≡◌, ℕ, ◌+◌, ◌<◌, ◌≤◌, Bool, true, false, cond, ◌&&◌, eqb, ltb, is_none}
use Rattle.std.proofs.Common.{is_some, Option, Some, None, List, [], ◌∷◌, length, refl, ap, sym, subst, ◌∙◌}
use Rattle.std.proofs.Common.{arith, inl, inr}
use Rattle.std.specs.List.{count_by, filter, flat_map, list_any}
use Rattle.std.proofs.lemmas.Bool.Decides.{nat_tests}
use Rattle.std.proofs.lemmas.List.Sums.{length-filter}
use Rattle.iofd_steps.specs.After.{settle}
use Rattle.iofd_refusals.specs.Checks.{passes_limit}
use Rattle.iofd_words.specs.Files.{limit_of, user_of}
use Rattle.iofd_words.specs.FirstTrue.{first_true}
use Rattle.iofd_words.specs.Pins.{ObjectPage, frame_now, is_page, pages_of, pinned_frame}
use Rattle.iofd_words.specs.Pins.{unpinned_pages}
use Rattle.iofd_words.specs.View.{view}
use Rattle.iofd_words.specs.World.{World}
use Rattle.iofd_words.specs.declared.event.Event.{Event}
use Rattle.iofd_words.specs.declared.numbers.FileNo.{FileNo}
use Rattle.iofd_words.specs.declared.numbers.FrameNo.{FrameNo}
use Rattle.iofd_words.specs.declared.numbers.UserNo.{UserNo}
use Rattle.iofd_words.specs.declared.refusal.Cause.{Cause}
use Rattle.iofd_words.specs.declared.refusal.Cause.TheVariants as cause
use Rattle.iofd_words.specs.declared.rows.MemoryObject.{MemoryObject}
use Rattle.iofd_laws.specs.Laws.{PassesLimit, file_of, held_in}
use Rattle.iofd_rows.specs.Pinned.{ArePinned}
use Rattle.iofd_rows.proofs.Each.{IsIn}
use Rattle.iofd_rows.proofs.PageCounts.{count-cons, count_weaker, page_count, page_count-cons}
use Rattle.iofd_rows.proofs.PageLists.{at_page}
use Rattle.iofd_rows.proofs.PinsFollow.{pin_is_of, settled_at, settled_frame}
use Rattle.iofd_runs.specs.Owned.{is_of_files_user}
use Rattle.iofd_runs.proofs.PagesToPin.{pages_in}
use Rattle.iofd_laws.proofs.PagesHeld.{has_pin, held_settle, of_user}
use Rattle.iofd_laws.proofs.RefusingRow.{some_row}

pub never : false ≡ true → ⊥
never is = cc

pub flipped : (a b : ℕ) → eqb a b ≡ true → eqb b a ≡ true
flipped a b is = grind (arith, nat_tests)

-- ---- which row refused

abbrev pub is_account : Cause → Bool
is_account cause.Account = true
is_account c = false

pub account_row : (rows : List (Cause × Bool)) → first_true rows ≡ Some cause.Account
    → list_any (λ row. is_account row.0 && row.1) rows ≡ true
account_row rows is = some_row cause.Account is_account refl rows is

-- ---- the user and the limit that it passes

pub record IsOver (w : World) (file : FileNo) (count : ℕ) : Type 0 where
  pub user : UserNo
  pub limit : ℕ
  pub of_user : user_of w.settings file ≡ Some user
  pub allowed : limit_of w.settings user ≡ Some limit
  pub more : limit < held_in w user + count

pub is_over : (w : World) (file : FileNo) (count : ℕ) → passes_limit (view w) (user_of w.settings file) count ≡ true
    → IsOver w file count
is_over w file count over = by_user (user_of w.settings file) refl over
  where
    above : (a b : ℕ) → ltb a b ≡ true → a < b
    above a b is = search (is, arith, nat_tests)

    by_user : (o : Option UserNo) → user_of w.settings file ≡ o → passes_limit (view w) o count ≡ true
        → IsOver w file count
    by_user None is over = cc
    by_user (Some user) is over = by_limit (limit_of w.settings user) refl over
      where
        by_limit : (l : Option ℕ) → limit_of w.settings user ≡ l
            → elim l [ Some limit ↦ ltb limit (held_in w user + count) | None ↦ false ] ≡ true → IsOver w file count
        by_limit None has over = cc
        by_limit (Some limit) has over =
            record { user = user; limit = limit; of_user = is; allowed = has; more = above _ _ over }

-- a world in which the user has them all
pub passed : {A : Type 0} (w left : World) (e : Event A) (file : FileNo) (count : ℕ) → file_of w e ≡ Some file
    → (over : IsOver w file count) → held_in w over.user + count ≤ held_in left over.user → PassesLimit w left e
passed w left e file count of_file over held =
    let more = over.more in
    record {
      file = file;
      user = over.user;
      limit = over.limit;
      of_file = of_file;
      of_user = over.of_user;
      allowed = over.allowed;
      more = omega (arith, more, held);
    }

-- ---- counts

-- what passes one of two tests that no row passes both of passes a third
pub count_both : {X : Type 0} (p q r : X → Bool) (xs : List X) → ((x : X) → IsIn xs x → q x ≡ true → p x ≡ true)
    → ((x : X) → IsIn xs x → r x ≡ true → p x ≡ true) → ((x : X) → q x ≡ true → r x ≡ false)
    → count_by q xs + count_by r xs ≤ count_by p xs
count_both p q r [] first second apart = omega arith
count_both p q r (x ∷ xs) first second apart =
    let rest = count_both p q r xs (λ y later. first y (inr later)) (λ y later. second y (inr later)) apart in
    rw (count-cons p x xs, count-cons q x xs, count-cons r x xs)
    (by_tests (p x) (q x) (r x) (first x (inl refl)) (second x (inl refl)) (apart x) rest)
  where
    by_tests : (a b c : Bool) → (b ≡ true → a ≡ true) → (c ≡ true → a ≡ true) → (b ≡ true → c ≡ false)
        → count_by q xs + count_by r xs ≤ count_by p xs
        → (cond b 1 0 + count_by q xs) + (cond c 1 0 + count_by r xs) ≤ cond a 1 0 + count_by p xs
    by_tests a true true one two other rest = let is = other refl in cc
    by_tests true true false one two other rest = omega (arith, rest)
    by_tests true false true one two other rest = omega (arith, rest)
    by_tests true false false one two other rest = omega (arith, rest)
    by_tests false true false one two other rest = let is = one refl in cc
    by_tests false false true one two other rest = let is = two refl in cc
    by_tests false false false one two other rest = omega (arith, rest)

pub count_all : {X : Type 0} (p : X → Bool) (xs : List X) → ((x : X) → IsIn xs x → p x ≡ true)
    → length xs ≤ count_by p xs
count_all p [] each = omega arith
count_all p (x ∷ xs) each =
    let rest = count_all p xs (λ y later. each y (inr later)) in
    rw (count-cons p x xs, each x (inl refl)) (omega (arith, rest))

-- of each memory object
pub page_count_both : (p q r : ObjectPage → Bool) (t s : MemoryObject → Bool) (memory : List MemoryObject)
    → ((m : MemoryObject) → IsIn memory m → cond (t m) (count_by q (pages_of m)) 0
    + cond (s m) (count_by r (pages_of m)) 0 ≤ cond (t m) (count_by p (pages_of m)) 0)
    → page_count q t memory + page_count r s memory ≤ page_count p t memory
page_count_both p q r t s [] bound = omega arith
page_count_both p q r t s (m ∷ memory) bound =
    let rest = page_count_both p q r t s memory (λ o later. bound o (inr later)) in
    let here = bound m (inl refl) in
    rw (page_count-cons p t m memory, page_count-cons q t m memory, page_count-cons r s m memory)
    (omega (arith, rest, here))

-- ---- pins after a step

-- a page that is to be pinned then has a pin then, if it is in its user's memory or had one
pub gets_pin : (at : ℕ) (w new : World) (page : ObjectPage) → ArePinned at w
    → list_any (is_page page) (pages_in new) ≡ true
    → (is_none (pinned_frame w.pins page) ≡ true → is_some (frame_now new.memory new.user_pages page) ≡ true)
    → has_pin (settle w new) page ≡ true
unfolding settle
gets_pin at w new page p within present =
    ap (λ (o : Option FrameNo). is_some o)
    (settled_frame (pages_in w) (pages_in new) new.memory new.user_pages w.pins page)
    ∙ by_tests (list_any (is_page page) (pages_in w)) (list_any (is_page page) (pages_in new))
    (pinned_frame w.pins page) (frame_now new.memory new.user_pages page) within
    (at_page (λ q. is_some (pinned_frame w.pins q)) (pages_in w) page p.pinned) present
  where
    by_tests : (was is : Bool) (old now : Option FrameNo) → is ≡ true → (was ≡ true → is_some old ≡ true)
        → (is_none old ≡ true → is_some now ≡ true) → is_some (settled_at was is old now) ≡ true
    by_tests was false old now within had present = cc
    by_tests was true (Some frame) now within had present = refl
    by_tests true true None now within had present = let is = had refl in cc
    by_tests false true None now within had present = present refl

-- pages stay to be pinned
abbrev pub StayPinned : World → World → Type 0
StayPinned w new = (page : ObjectPage) → list_any (is_page page) (pages_in w) ≡ true
    → list_any (is_page page) (pages_in new) ≡ true

-- so those that have a pin keep one
pub keeps_pin : (at : ℕ) (w new : World) (page : ObjectPage) → ArePinned at w → StayPinned w new → has_pin w page ≡ true
    → has_pin (settle w new) page ≡ true
keeps_pin at w new page p still some =
    gets_pin at w new page p (still page (pin_is_of w.pins (pages_in w) page some p.only))
    (λ none. absurd (both (pinned_frame w.pins page) some none))
  where
    both : (o : Option FrameNo) → is_some o ≡ true → is_none o ≡ true → ⊥
    both (Some frame) some none = cc
    both None some none = cc

-- ---- pages come, of memory objects that stay and are the user's

module _ (at : ℕ) (w new : World) (p : ArePinned at w) (same : new.memory ≡ w.memory) (still : StayPinned w new)
    (joins : MemoryObject → Bool) (user : UserNo)
    (come : (m : MemoryObject) (page : ObjectPage) → IsIn w.memory m → IsIn (pages_of m) page → joins m ≡ true
    → list_any (is_page page) (pages_in new) ≡ true)
    (present : (m : MemoryObject) (page : ObjectPage) → IsIn w.memory m → IsIn (pages_of m) page → joins m ≡ true
    → is_none (pinned_frame w.pins page) ≡ true → is_some (frame_now new.memory new.user_pages page) ≡ true)
    (owned : (m : MemoryObject) → IsIn w.memory m → joins m ≡ true → of_user user m ≡ true) where
  abbrev is_unpinned : ObjectPage → Bool
  is_unpinned page = is_none (pinned_frame w.pins page)

  abbrev pinned : ObjectPage → Bool
  pinned page = has_pin (settle w new) page

  abbrev joining : List ObjectPage
  joining = unpinned_pages (pinned_frame w.pins) (filter joins w.memory)

  of_object : (m : MemoryObject) → IsIn w.memory m → cond (of_user user m) (count_by (has_pin w) (pages_of m)) 0
      + cond (joins m) (count_by is_unpinned (pages_of m)) 0 ≤ cond (of_user user m) (count_by pinned (pages_of m)) 0
  of_object m among = by_tests (of_user user m) (joins m) refl (owned m among)
    where
      apart : (o : Option FrameNo) → is_some o ≡ true → is_none o ≡ false
      apart (Some frame) some = refl
      apart None some = cc

      by_tests : (a b : Bool) → joins m ≡ b → (joins m ≡ true → a ≡ true)
          → cond a (count_by (has_pin w) (pages_of m)) 0 + cond b (count_by is_unpinned (pages_of m)) 0
          ≤ cond a (count_by pinned (pages_of m)) 0
      by_tests true true is own =
          count_both pinned (has_pin w) is_unpinned (pages_of m)
          (λ page within some. keeps_pin at w new page p still some)
          (λ page within none. gets_pin at w new page p (come m page among within is)
          (λ free. present m page among within is free))
          (λ page some. apart (pinned_frame w.pins page) some)
      by_tests true false is own =
          let fewer = count_weaker (has_pin w) pinned (pages_of m)
          (λ page within some. keeps_pin at w new page p still some) in
          omega (arith, fewer)
      by_tests false true is own = let its = own is in cc
      by_tests false false is own = omega arith

  pub all_held : held_in w user + length joining ≤ held_in (settle w new) user
  all_held =
      let counted : length joining ≡ page_count is_unpinned joins w.memory =
      length-filter is_unpinned (flat_map pages_of (filter joins w.memory)) in
      let most = page_count_both pinned (has_pin w) is_unpinned (of_user user) joins w.memory of_object in
      rw (held_settle w new user) (subst (λ (memory : List MemoryObject). held_in w user + length joining
      ≤ page_count pinned (of_user user) memory) (sym same) (omega (arith, counted, most)))

-- the user of a memory object under an area of the file's address space
pub of_owner : (w : World) (file : FileNo) (user : UserNo) (m : MemoryObject) → user_of w.settings file ≡ Some user
    → is_of_files_user w.settings file m ≡ true → of_user user m ≡ true
of_owner w file user m is own =
    flipped user.0 m.user.0 (sym (ap (λ (o : Option UserNo). elim o as (λ _. Bool) [
      | Some u ↦ eqb u.0 m.user.0
      | None ↦ false
    ]) is) ∙ own)
