-- A user's account counted by pins is that of the definitions, which count pages.
use Rattle.std.proofs.Common.{◌≡◌, ℕ, ◌+◌, Bool, true, false, cond, ◌&&◌, ◌||◌, not, eqb, ltb, is_some, Option, Some, None}
use Rattle.std.proofs.Common.{◌≤◌, ◌<◌, suc, List, [], ◌∷◌, length, get_or, map, find, refl, sym, ap, ◌∙◌, arith, inl, inr}
use Rattle.std.specs.List.{HoldsAt, count_by, filter, flat_map, list_any}
use Rattle.std.proofs.lemmas.List.{get_or_default}
use Rattle.std.proofs.lemmas.Bool.{eqb-true}
use Rattle.std.proofs.lemmas.Bool.Decides.{nat_tests}
use Rattle.iofd_rows.proofs.Bools.{and_true, both_true, clash, not_false, not_true}
use Rattle.iofd_rows.proofs.Each.{IsIn, of_all, of_any}
use Rattle.iofd_rows.proofs.ListTests.{any-filter, false_else, none_stronger}
use Rattle.iofd_rows.proofs.ObjectPages.{has_page, listed_is}
use Rattle.iofd_rows.proofs.OnePin.{differ-append, pages_differ}
use Rattle.iofd_rows.proofs.PageCounts.{count-cons, count_none}
use Rattle.iofd_rows.proofs.PageLists.{in_pages, page_itself, same_page}
use Rattle.iofd_rows.proofs.PinsFollow.{pin_is_of}
use Rattle.iofd_rows.specs.Pinned.{ArePinned, differ, have_own_numbers}
use Rattle.iofd_refusals.specs.Checks.{passes_limit}
use Rattle.iofd_words.specs.Files.{limit_of, user_of}
use Rattle.iofd_words.specs.Pins.{ObjectPage, held_by, is_page, page_of_pin, pages_of, pinned_frame}
use Rattle.iofd_words.specs.View.{view}
use Rattle.iofd_words.specs.World.{World}
use Rattle.iofd_words.specs.declared.numbers.FileNo.{FileNo}
use Rattle.iofd_words.specs.declared.numbers.UserNo.{UserNo}
use Rattle.iofd_words.specs.declared.rows.MemoryObject.{MemoryObject}
use Rattle.iofd_words.specs.declared.rows.Pin.{Pin}
use Rattle.journal_audit_maps.specs.Held.{is_of_user}
use Rattle.journal_audit_world.proofs.Places.{any_at}
use Rattle.journal_audit_world.specs.Kept.{numbers_rise}

-- ---- pages of several memory objects differ

numbers_left : (q : MemoryObject → Bool) (memory : List MemoryObject) → have_own_numbers memory ≡ true
    → have_own_numbers (filter q memory) ≡ true
numbers_left q [] own = refl
numbers_left q (m ∷ memory) own =
    let owns =
    and_true (not (list_any (λ (o : MemoryObject). eqb o.number m.number) memory)) (have_own_numbers memory) own in
    kept (q m)
    (any-filter (λ (o : MemoryObject). eqb o.number m.number) q memory
    ∙ none_stronger (λ (o : MemoryObject). q o && eqb o.number m.number)
    (λ (o : MemoryObject). eqb o.number m.number) memory
    (λ o both. (and_true (q o) (eqb o.number m.number) both).1) (not_true _ owns.0))
    (numbers_left q memory owns.1)
  where
    kept : (b : Bool) → list_any (λ (o : MemoryObject). eqb o.number m.number) (filter q memory) ≡ false
        → have_own_numbers (filter q memory) ≡ true
        → have_own_numbers (cond b (m ∷ filter q memory) (filter q memory)) ≡ true
    kept true none rest = both_true _ _ (not_false _ none) rest
    kept false none rest = rest

all_differ : (rows : List MemoryObject) → have_own_numbers rows ≡ true → differ (flat_map pages_of rows) ≡ true
all_differ [] own = refl
all_differ (m ∷ rows) own =
    let owns =
    and_true (not (list_any (λ (o : MemoryObject). eqb o.number m.number) rows)) (have_own_numbers rows) own in
    differ-append (pages_of m) (flat_map pages_of rows) (pages_differ m.number 0 m.count) (all_differ rows owns.1)
    (λ page within. other_number page (not_true _ owns.0) within)
  where
    other_number : (page : ObjectPage) → list_any (λ (o : MemoryObject). eqb o.number m.number) rows ≡ false
        → list_any (is_page page) (pages_of m) ≡ true → list_any (is_page page) (flat_map pages_of rows) ≡ false
    other_number page none within =
        let here = and_true (eqb page.memory m.number) (ltb page.index m.count) (sym (in_pages page m.number m.count)
        ∙ within) in
        let same : page.memory ≡ m.number = eqb-true page.memory m.number here.0 in
        listed_is rows page ∙ none_stronger (has_page page) (λ (o : MemoryObject). eqb o.number m.number) rows
        (λ o has. named o (and_true (eqb page.memory o.number) (ltb page.index o.count) has).0 same) none
      where
        named : (o : MemoryObject) → eqb page.memory o.number ≡ true → page.memory ≡ m.number
            → eqb o.number m.number ≡ true
        named o is same = grind (arith, nat_tests)

-- ---- counts

count_apart : (p q r : ObjectPage → Bool) (pages : List ObjectPage) → ((x : ObjectPage) → p x ≡ (q x || r x))
    → ((x : ObjectPage) → q x ≡ true → r x ≡ false) → count_by p pages ≡ count_by q pages + count_by r pages
count_apart p q r [] either apart = refl
count_apart p q r (x ∷ pages) either apart =
    let rest = count_apart p q r pages either apart in
    let all = count-cons p x pages in
    let left = count-cons q x pages in
    let right = count-cons r x pages in
    let here : cond (p x) 1 0 ≡ cond (q x) 1 0 + cond (r x) 1 0 =
    ap (λ (b : Bool). cond b 1 0) (either x) ∙ one (q x) (r x) (apart x) in
    omega (arith, rest, all, left, right, here)
  where
    one : (a b : Bool) → (a ≡ true → b ≡ false) → cond (a || b) 1 0 ≡ cond a 1 0 + cond b 1 0
    one true true apart = absurd (clash true (apart refl) refl)
    one true false apart = refl
    one false true apart = refl
    one false false apart = refl

count_one : (page : ObjectPage) (pages : List ObjectPage) → differ pages ≡ true
    → count_by (is_page page) pages ≡ cond (list_any (is_page page) pages) 1 0
count_one page [] once = refl
count_one page (x ∷ pages) once =
    let parts = and_true (not (list_any (is_page x) pages)) (differ pages) once in
    count-cons (is_page page) x pages
    ∙ by_test (is_page page x) refl (not_true _ parts.0) (count_one page pages parts.1)
  where
    by_test : (b : Bool) → is_page page x ≡ b → list_any (is_page x) pages ≡ false
        → count_by (is_page page) pages ≡ cond (list_any (is_page page) pages) 1 0
        → cond b 1 0 + count_by (is_page page) pages ≡ cond (b || list_any (is_page page) pages) 1 0
    by_test true is none rest =
        let gone : count_by (is_page page) pages ≡ 0 =
        rest ∙ ap (λ (b : Bool). cond b 1 0) (ap (λ (y : ObjectPage). list_any (is_page y) pages) (same_page page x is)
        ∙ none) in
        omega (arith, gone)
    by_test false is none rest = omega (arith, rest)

among_map : (pins : List Pin) (pin : Pin) → IsIn pins pin → IsIn (map page_of_pin pins) (page_of_pin pin)
among_map [] pin among = absurd among
among_map (x ∷ pins) pin (inl same) = inl (ap page_of_pin same)
among_map (x ∷ pins) pin (inr later) = inr (among_map pins pin later)

-- as many pages have a pin as pins have one of these pages
count_pins : (pins : List Pin) (pages : List ObjectPage) → differ (map page_of_pin pins) ≡ true → differ pages ≡ true
    → count_by (λ page. is_some (pinned_frame pins page)) pages
    ≡ count_by (λ pin. list_any (is_page (page_of_pin pin)) pages) pins
count_pins [] pages once apart = count_none (λ page. is_some (pinned_frame [] page)) pages (λ page within. refl)
count_pins (pin ∷ pins) pages once apart =
    let parts = and_true (not (list_any (is_page (page_of_pin pin)) (map page_of_pin pins)))
    (differ (map page_of_pin pins)) once in
    let rest = count_pins pins pages parts.1 apart in
    let one = count_one (page_of_pin pin) pages apart in
    let more = count-cons (λ (p : Pin). list_any (is_page (page_of_pin p)) pages) pin pins in
    let split = count_apart (λ page. is_some (pinned_frame (pin ∷ pins) page)) (is_page (page_of_pin pin))
    (λ page. is_some (pinned_frame pins page)) pages (λ page. first page (is_page (page_of_pin pin) page))
    (λ page is. false_else _ (λ has. clash _ (not_true _ parts.0) (named page is has))) in
    omega (arith, rest, one, more, split)
  where
    first : (page : ObjectPage) (b : Bool)
        → is_some (elim (cond b (Some pin) (find (λ (p : Pin). is_page (page_of_pin p) page) pins))
        [ Some p ↦ Some p.frame | None ↦ None ]) ≡ (b || is_some (pinned_frame pins page))
    first page true = refl
    first page false = refl

    named : (page : ObjectPage) → is_page (page_of_pin pin) page ≡ true → is_some (pinned_frame pins page) ≡ true
        → list_any (is_page (page_of_pin pin)) (map page_of_pin pins) ≡ true
    named page is has =
        ap (λ (y : ObjectPage). list_any (is_page y) (map page_of_pin pins)) (same_page (page_of_pin pin) page is)
        ∙ pin_is_of pins (map page_of_pin pins) page has (of_all
        (λ (p : Pin). list_any (is_page (page_of_pin p)) (map page_of_pin pins)) pins
        (λ p among. of_any (is_page (page_of_pin p)) (map page_of_pin pins) (page_of_pin p) (among_map pins p among)
        (page_itself (page_of_pin p))))

count_same : (p q : Pin → Bool) (pins : List Pin) → ((pin : Pin) → p pin ≡ q pin) → count_by p pins ≡ count_by q pins
count_same p q [] same = refl
count_same p q (pin ∷ pins) same =
    let rest = count_same p q pins same in
    count-cons p pin pins ∙ rw (same pin, rest) refl ∙ sym (count-cons q pin pins)

pub held_is : (at : ℕ) (w : World) (user : UserNo) → ArePinned at w
    → held_by (pinned_frame w.pins) w.memory user ≡ count_by (is_of_user w.memory user) w.pins
held_is at w user p =
    count_pins w.pins (flat_map pages_of (filter own w.memory)) p.once
    (all_differ (filter own w.memory) (numbers_left own w.memory p.numbers))
    ∙ count_same _ (is_of_user w.memory user) w.pins
    (λ pin. listed_is (filter own w.memory) (page_of_pin pin)
    ∙ any-filter (has_page (page_of_pin pin)) own w.memory)
  where
    own : MemoryObject → Bool
    own m = eqb m.user.0 user.0

-- ---- one pin

-- there is no memory object of its number
pub user_none : (memory : List MemoryObject) (user : UserNo) (pin : Pin)
    → list_any (λ (m : MemoryObject). eqb m.number pin.memory) memory ≡ false → false ≡ is_of_user memory user pin
user_none memory user pin none =
    sym (none_stronger (λ (m : MemoryObject). eqb m.user.0 user.0
    && (eqb pin.memory m.number && ltb pin.index m.count)) (λ (m : MemoryObject). eqb m.number pin.memory) memory
    (λ m is. flipped pin.memory m.number (and_true (eqb pin.memory m.number) (ltb pin.index m.count)
    (and_true (eqb m.user.0 user.0) _ is).1).0) none)
  where
    flipped : (a b : ℕ) → eqb a b ≡ true → eqb b a ≡ true
    flipped a b is = grind (arith, nat_tests)

-- or it stands there
pub user_at : (memory : List MemoryObject) (user : UserNo) (pin : Pin) (i : ℕ) (d : MemoryObject)
    → numbers_rise memory ≡ true → i < length memory → HoldsAt (λ (m : MemoryObject). m.number ≡ pin.memory) memory i
    → (eqb (get_or memory i d).user.0 user.0 && ltb pin.index (get_or memory i d).count) ≡ is_of_user memory user pin
user_at memory user pin i d rise within named =
    sym (any_at memory pin.memory i (get_or memory i d) (λ (m : MemoryObject). eqb m.user.0 user.0
    && (eqb pin.memory m.number && ltb pin.index m.count)) rise within (get_or_default memory i d _ within) (named d)
    (λ m is. flipped pin.memory m.number (and_true (eqb pin.memory m.number) (ltb pin.index m.count)
    (and_true (eqb m.user.0 user.0) _ is).1).0)
    ∙ ap (λ (b : Bool). eqb (get_or memory i d).user.0 user.0 && (b && ltb pin.index (get_or memory i d).count))
    (same pin.memory (get_or memory i d).number (named d)))
  where
    flipped : (a b : ℕ) → eqb a b ≡ true → eqb b a ≡ true
    flipped a b is = grind (arith, nat_tests)

    same : (a b : ℕ) → b ≡ a → eqb a b ≡ true
    same a b is = grind (arith, nat_tests)

-- no more than all
pub count_few : (p : Pin → Bool) (pins : List Pin) → count_by p pins ≤ length pins
count_few p [] = omega arith
count_few p (pin ∷ pins) =
    let one = count-cons p pin pins in let rest = count_few p pins in by_test (p pin) one rest
  where
    by_test : (b : Bool) → count_by p (pin ∷ pins) ≡ cond b 1 0 + count_by p pins → count_by p pins ≤ length pins
        → count_by p (pin ∷ pins) ≤ suc (length pins)
    by_test true one rest = omega (arith, one, rest)
    by_test false one rest = omega (arith, one, rest)

-- ---- the limit

-- the pins of all users aren't more than it
pub limit_kept : (at : ℕ) (v w : World) (file : FileNo) (count : ℕ) (user : UserNo) (limit all : ℕ) (pins : List Pin)
    → v ≡ w → ArePinned at w → user_of v.settings file ≡ Some user → limit_of v.settings user ≡ Some limit
    → all ≡ length pins → pins ≡ v.pins → all + count ≤ limit
    → false ≡ passes_limit (view w) (user_of w.settings file) count
limit_kept at v w file count user limit all pins same kept of_file of_user long p few =
    let fewer : count_by (is_of_user w.memory user) w.pins ≤ length w.pins = count_few (is_of_user w.memory user) w.pins
    in
    let held = held_is at w user kept in
    let whole : all ≡ length w.pins = long ∙ ap (λ (l : List Pin). length l) (p ∙ ap (λ (x : World). x.pins) same) in
    let kept_below : held_by (pinned_frame w.pins) w.memory user + count ≤ limit =
    omega (arith, fewer, held, whole, few) in
    limit_told (held_by (pinned_frame w.pins) w.memory user) kept_below
    ∙ sym (ap (λ (o : Option UserNo). passes_limit (view w) o count)
    (ap (λ (x : World). user_of x.settings file) (sym same) ∙ of_file)
    ∙ ap (λ (o : Option ℕ). elim o
    [ Some most ↦ ltb most (held_by (pinned_frame w.pins) w.memory user + count) | None ↦ false ])
    (ap (λ (x : World). limit_of x.settings user) (sym same) ∙ of_user))
  where
    limit_told : (held : ℕ) → held + count ≤ limit → false ≡ ltb limit (held + count)
    limit_told held few = grind (arith, nat_tests)

pub limit_passed : (at : ℕ) (v w : World) (file : FileNo) (count : ℕ) (user : UserNo) (limit held : ℕ) (pins : List Pin)
    (memory : List MemoryObject) (b : Bool) → v ≡ w → ArePinned at w → user_of v.settings file ≡ Some user
    → limit_of v.settings user ≡ Some limit → pins ≡ v.pins → memory ≡ v.memory
    → held ≡ count_by (is_of_user memory user) pins → b ≡ ltb limit (held + count)
    → b ≡ passes_limit (view w) (user_of w.settings file) count
limit_passed at v w file count user limit held pins memory b same kept of_file of_user p m counted is =
    let held_w : held ≡ held_by (pinned_frame w.pins) w.memory user =
    counted ∙ rw (p, m, same) (sym (held_is at w user kept)) in
    is ∙ ap (λ (n : ℕ). ltb limit (n + count)) held_w
    ∙ sym (ap (λ (o : Option UserNo). passes_limit (view w) o count)
    (ap (λ (x : World). user_of x.settings file) (sym same) ∙ of_file)
    ∙ ap (λ (o : Option ℕ). elim o
    [ Some most ↦ ltb most (held_by (pinned_frame w.pins) w.memory user + count) | None ↦ false ])
    (ap (λ (x : World). limit_of x.settings user) (sym same) ∙ of_user))
