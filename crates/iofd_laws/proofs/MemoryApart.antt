-- An event of one file leaves the memory objects under each other file's areas, and their pins, as they are.
use Rattle.std.proofs.Common.{◌≡◌, ℕ, ◌+◌, ◌*◌, Bool, true, false, cond, ◌&&◌, ◌||◌, not, eqb, ltb, is_some, Option}
use Rattle.std.proofs.Common.{Some, None, List, [], ◌∷◌, ◌++◌, refl, sym, ◌∙◌, ap, arith}
use Rattle.std.specs.List.{filter, find, list_all, list_any}
use Rattle.std.proofs.lemmas.Bool.{eqb-true}
use Rattle.std.proofs.lemmas.Bool.Decides.{nat_tests}
use Rattle.iofd_steps.specs.After.{changed}
use Rattle.iofd_refusals.specs.Checks.{refusal}
use Rattle.iofd_words.specs.Objects.{has_hwpt, is_hwpt_over, objects_of}
use Rattle.iofd_words.specs.Pins.{ObjectPage, is_page, is_translated, pinned_frame, pinned_pages}
use Rattle.iofd_words.specs.Pins.{is_accessed, is_pinned}
use Rattle.iofd_steps.specs.Run.{after, after_answer}
use Rattle.iofd_words.specs.Record.{Record}
use Rattle.iofd_words.specs.Span.{size_of}
use Rattle.iofd_words.specs.Tables.{with_tables}
use Rattle.iofd_words.specs.World.{World}
use Rattle.iofd_words.specs.declared.event.Event.{Event}
use Rattle.iofd_words.specs.declared.numbers.FileNo.{FileNo}
use Rattle.iofd_words.specs.declared.numbers.FrameNo.{FrameNo}
use Rattle.iofd_words.specs.declared.numbers.ObjId.{ObjId}
use Rattle.iofd_words.specs.declared.refusal.Cause.{Cause}
use Rattle.iofd_words.specs.declared.reply.Reply.{Reply}
use Rattle.iofd_words.specs.declared.rows.Area.{Area}
use Rattle.iofd_words.specs.declared.rows.MemoryObject.{MemoryObject}
use Rattle.iofd_words.specs.declared.rows.Object.{Object}
use Rattle.iofd_laws.specs.Laws.{FileRows, IsOfAnother, SameMemory, has_memory, object_numbered, rows_of}
use Rattle.iofd_laws.specs.Laws.{PinMoves}
use Rattle.iofd_rows.specs.Pinned.{ArePinned, has_object, have_own_numbers, share_in_file, share_in_files}
use Rattle.iofd_rows.proofs.Bools.{and_true, both_true, not_true}
use Rattle.iofd_laws.proofs.Bound.{AreBound}
use Rattle.iofd_laws.proofs.FilesApart.{after_keeps_others}
use Rattle.iofd_laws.proofs.FreeFrames.{some_in}
use Rattle.iofd_rows.proofs.Each.{of_each}
use Rattle.iofd_rows.proofs.Found.{all_weaker, find-filter}
use Rattle.iofd_laws.proofs.KeepsFrames.{after_moves}
use Rattle.iofd_runs.proofs.KeepsOwnMemory.{OwnPins}
use Rattle.iofd_rows.proofs.ListTests.{alike, any-filter, any_of_all, any_weaker, none_stronger}
use Rattle.iofd_rows.proofs.ObjectPages.{has_page, in_pinned, is_listed, listed_is}
use Rattle.iofd_rows.proofs.PageLists.{at_page}
use Rattle.iofd_rows.proofs.PinsFollow.{pin_is_of}
use Rattle.iofd_runs.proofs.Moves.{AreasMove, SameAreas, FewerAreas, OtherPhases, OneArea, NewMemory, SharedMemory}
use Rattle.iofd_runs.proofs.Moves.{changed_moves, MemoryUnder}
use Rattle.iofd_runs.proofs.PagesToPin.{AccessedAlike}
use Rattle.iofd_runs.proofs.PinsAfter.{after_access_pins}
use Rattle.iofd_laws.proofs.PinsApart.{others_accessed}

flipped : (a b : ℕ) → eqb a b ≡ true → eqb b a ≡ true
flipped a b is = grind (arith, nat_tests)

both_equal : (a b c : ℕ) → eqb a b ≡ true → eqb c b ≡ true → eqb a c ≡ true
both_equal a b c first second = grind (arith, nat_tests)

-- ---- no area of another file is over a memory object under one of the file's areas

-- an area over the memory object of this number is of the file
abbrev is_own_over : FileNo → ℕ → Area → Bool
is_own_over file number a = not (eqb a.memory number) || eqb a.file.0 file.0

of_one_file : (file : FileNo) (number : ℕ) (x a : Area) → eqb x.file.0 file.0 ≡ true → eqb x.memory number ≡ true
    → share_in_file x a ≡ true → is_own_over file number a ≡ true
of_one_file file number x a of over share = grind (arith, nat_tests)

all_own : (areas : List Area) (file : FileNo) (number : ℕ) → share_in_files areas ≡ true
    → list_any (λ (a : Area). eqb a.file.0 file.0 && eqb a.memory number) areas ≡ true
    → list_all (is_own_over file number) areas ≡ true
all_own areas file number own has =
    let (x, within, is) = some_in (λ (a : Area). eqb a.file.0 file.0 && eqb a.memory number) areas has in
    let parts = and_true (eqb x.file.0 file.0) (eqb x.memory number) is in
    all_weaker (share_in_file x) (is_own_over file number) areas
    (λ a share. of_one_file file number x a parts.0 parts.1 share)
    (of_each (λ (a : Area). list_all (share_in_file a) areas) areas x own within)

own_over : (file : FileNo) (number : ℕ) (a : Area) → is_own_over file number a ≡ true → eqb a.memory number ≡ true
    → eqb a.file.0 file.0 ≡ true
own_over file number a own over = grind (arith, nat_tests)

-- ---- whether a page table translates it is told by the file's own rows

abbrev is_translated_in : FileRows → ℕ → Bool
is_translated_in rows number =
    list_any (λ (a : Area). eqb a.memory number && list_any (λ (o : Object). is_hwpt_over a.ioas o.kind) rows.objects)
    rows.areas

own_hwpt : (objects : List Object) (file : FileNo) (ioas : ObjId)
    → list_any (λ (o : Object). is_hwpt_over ioas o.kind) (objects_of objects file) ≡ has_hwpt objects file ioas
own_hwpt objects file ioas =
    any-filter (λ (o : Object). is_hwpt_over ioas o.kind) (λ (o : Object). eqb o.file.0 file.0) objects

same_file : (objects : List Object) (a b : FileNo) (ioas : ObjId) → eqb a.0 b.0 ≡ true
    → has_hwpt objects a ioas ≡ has_hwpt objects b ioas
same_file objects a b ioas is = ap (λ (n : ℕ). has_hwpt objects (record { 0 = n }) ioas) (eqb-true a.0 b.0 is)

of_rows : (w : World) (file : FileNo) (number : ℕ)
    → has_memory file w number ≡ list_any (λ (a : Area). eqb a.memory number) (rows_of file w).areas
of_rows w file number = sym (any-filter (λ (a : Area). eqb a.memory number) (λ (a : Area). eqb a.file.0 file.0) w.areas)

translated_own : (w : World) (file : FileNo) (number : ℕ) → share_in_files w.areas ≡ true
    → has_memory file w number ≡ true → is_translated w.objects w.areas
    number ≡ is_translated_in (rows_of file w) number
translated_own w file number own has = alike _ _ there back
  where
    kept : is_translated_in (rows_of file w) number ≡ list_any (λ (a : Area). eqb a.file.0 file.0
        && (eqb a.memory number && list_any (λ (o : Object). is_hwpt_over a.ioas o.kind)
        (objects_of w.objects file))) w.areas
    kept = any-filter (λ (a : Area). eqb a.memory number
        && list_any (λ (o : Object). is_hwpt_over a.ioas o.kind) (objects_of w.objects file)) (λ (a : Area). eqb
        a.file.0 file.0) w.areas

    there : is_translated w.objects w.areas number ≡ true → is_translated_in (rows_of file w) number ≡ true
    there is =
        kept ∙ any_of_all (is_own_over file number) (λ (a : Area). eqb a.memory number
        && has_hwpt w.objects a.file a.ioas) (λ (a : Area). eqb a.file.0 file.0
        && (eqb a.memory number && list_any (λ (o : Object). is_hwpt_over a.ioas o.kind)
        (objects_of w.objects file))) w.areas
        (λ a owns over.
        let tabled = and_true (eqb a.memory number) (has_hwpt w.objects a.file a.ioas) over in
        let here = own_over file number a owns tabled.0 in
        both_true _ _ here (both_true _ _ tabled.0 (own_hwpt w.objects file a.ioas
        ∙ sym (same_file w.objects a.file file a.ioas here) ∙ tabled.1)))
        (all_own w.areas file number own has) is

    back : is_translated_in (rows_of file w) number ≡ true → is_translated w.objects w.areas number ≡ true
    back is =
        any_weaker (λ (a : Area). eqb a.file.0 file.0
        && (eqb a.memory number && list_any (λ (o : Object). is_hwpt_over a.ioas o.kind)
        (objects_of w.objects file))) (λ (a : Area). eqb a.memory number
        && has_hwpt w.objects a.file a.ioas) w.areas
        (λ a both.
        let here = and_true (eqb a.file.0 file.0) (eqb a.memory number
        && list_any (λ (o : Object). is_hwpt_over a.ioas o.kind) (objects_of w.objects file)) both in
        let tabled = and_true (eqb a.memory number)
        (list_any (λ (o : Object). is_hwpt_over a.ioas o.kind) (objects_of w.objects file)) here.1 in
        both_true _ _ tabled.0 (same_file w.objects a.file file a.ioas here.0 ∙ sym (own_hwpt w.objects file a.ioas)
        ∙ tabled.1))
        (sym kept ∙ is)

-- ---- which pages a memory object has is told by the object of that number

abbrev has_index : ℕ → Option MemoryObject → Bool
has_index index None = false
has_index index (Some m) = ltb index m.count

any_numbered : (memory : List MemoryObject) (page : ObjectPage) → have_own_numbers memory ≡ true
    → list_any (has_page page) memory ≡ has_index page.index (object_numbered memory page.memory)
any_numbered [] page own = refl
any_numbered (m ∷ memory) page own =
    let owns =
    and_true (not (list_any (λ (o : MemoryObject). eqb o.number m.number) memory)) (have_own_numbers memory) own in
    by_number (eqb m.number page.memory) refl (any_numbered memory page owns.1)
  where
    alone : list_any (λ (o : MemoryObject). eqb o.number m.number) memory ≡ false
    alone = not_true _ (and_true (not (list_any (λ (o : MemoryObject). eqb o.number m.number) memory))
        (have_own_numbers memory) own).0

    unlike : (a b : ℕ) → eqb a b ≡ false → eqb b a ≡ false
    unlike a b is = grind (arith, nat_tests)

    only_here : (b : Bool) → (b || false) ≡ b
    only_here true = refl
    only_here false = refl

    by_number : (b : Bool) → eqb m.number page.memory ≡ b
        → list_any (has_page page) memory ≡ has_index page.index (object_numbered memory page.memory)
        → (has_page page m || list_any (has_page page) memory) ≡ has_index page.index
        (cond b (Some m) (object_numbered memory page.memory))
    by_number true is rest =
        let none : list_any (has_page page) memory ≡ false =
        none_stronger (has_page page) (λ (o : MemoryObject). eqb o.number m.number) memory
        (λ o has. let parts = and_true (eqb page.memory o.number) (ltb page.index o.count) has in both_equal o.number
        page.memory m.number (flipped page.memory o.number parts.0) is) alone
        in
        rw (flipped m.number page.memory is, none) (only_here (ltb page.index m.count))
    by_number false is rest = rw (unlike m.number page.memory is) rest

listed_numbered : (memory : List MemoryObject) (page : ObjectPage) → have_own_numbers memory ≡ true
    → is_listed memory page ≡ has_index page.index (object_numbered memory page.memory)
listed_numbered memory page own = listed_is memory page ∙ any_numbered memory page own

-- ---- the memory object of a number stays

found_before : {X : Type 0} (p : X → Bool) (xs ys : List X) → is_some (find p xs) ≡ true → find p (xs ++ ys) ≡ find p xs
found_before p [] ys some = cc
found_before p (x ∷ xs) ys some = by_test (p x) some (found_before p xs ys)
  where
    by_test : (b : Bool) → is_some (cond b (Some x) (find p xs)) ≡ true
        → (is_some (find p xs) ≡ true → find p (xs ++ ys) ≡ find p xs)
        → cond b (Some x) (find p (xs ++ ys)) ≡ cond b (Some x) (find p xs)
    by_test true some rest = refl
    by_test false some rest = rest some

some_found : {X : Type 0} (p : X → Bool) (xs : List X) → list_any p xs ≡ true → is_some (find p xs) ≡ true
some_found p [] any = cc
some_found p (x ∷ xs) any = by_test (p x) any (some_found p xs)
  where
    by_test : (b : Bool) → (b || list_any p xs) ≡ true → (list_any p xs ≡ true → is_some (find p xs) ≡ true)
        → is_some (cond b (Some x) (find p xs)) ≡ true
    by_test true any rest = refl
    by_test false any rest = rest any

constant : {X : Type 0} (b : Bool) (xs : List X) → list_any (λ x. b) xs ≡ true → b ≡ true
constant true xs any = refl
constant false [] any = cc
constant false (x ∷ xs) any = constant false xs any

-- the areas that stay keep their memory objects
pub gone_object : (goes : Area → Bool) (areas : List Area) (memory : List MemoryObject) (number : ℕ)
    → list_any (λ (a : Area). eqb a.memory number) (filter (λ (a : Area). not (goes a)) areas) ≡ true
    → object_numbered (filter (λ m. list_any (λ (a : Area). eqb a.memory m.number && not (goes a)) areas) memory)
    number ≡ object_numbered memory number
gone_object goes areas memory number has =
    let left = sym (any-filter (λ (a : Area). eqb a.memory number) (λ (a : Area). not (goes a)) areas) ∙ has in
    find-filter (λ (m : MemoryObject). eqb m.number number)
    (λ (m : MemoryObject). list_any (λ (a : Area). eqb a.memory m.number && not (goes a)) areas) memory
    (none_goes (λ (m : MemoryObject). eqb m.number number)
    (λ (m : MemoryObject). list_any (λ (a : Area). eqb a.memory m.number && not (goes a)) areas) memory
    (λ m is.
    any_weaker (λ (a : Area). not (goes a) && eqb a.memory number)
    (λ (a : Area). eqb a.memory m.number && not (goes a)) areas
    (λ a both. let parts = and_true (not (goes a)) (eqb a.memory number) both in both_true _ _
    (both_equal a.memory number m.number parts.1 is) parts.0)
    left))
  where
    none_goes : (p q : MemoryObject → Bool) (xs : List MemoryObject) → ((m : MemoryObject) → p m ≡ true → q m ≡ true)
        → list_any (λ m. p m && not (q m)) xs ≡ false
    none_goes p q [] stays = refl
    none_goes p q (m ∷ xs) stays = by_test (p m) refl (none_goes p q xs stays)
      where
        by_test : (b : Bool) → p m ≡ b → list_any (λ x. p x && not (q x)) xs ≡ false
            → ((b && not (q m)) || list_any (λ x. p x && not (q x)) xs) ≡ false
        by_test true is rest = rw (stays m is) rest
        by_test false is rest = rest

keeps_object : {A : Type 0} → (at : ℕ) (w : World) (e : Event A) (answer : Reply) (number : ℕ)
    → is_some (object_numbered w.memory number) ≡ true
    → list_any (λ (a : Area). eqb a.memory number) (changed at w e answer).areas ≡ true
    → object_numbered (changed at w e answer).memory number ≡ object_numbered w.memory number
keeps_object at w e answer number some has =
    by_move (changed at w e answer) (changed_moves at w e answer).areas has
  where
    by_move : (new : World) → AreasMove at w e answer new
        → list_any (λ (a : Area). eqb a.memory number) new.areas ≡ true
        → object_numbered new.memory number ≡ object_numbered w.memory number
    by_move new (SameAreas is same) has = rw same refl
    by_move new (FewerAreas goes by is left free) has =
        rw left (gone_object goes w.areas w.memory number (rw is at has))
    by_move new (OtherPhases phase lives is same) has = rw same refl
    by_move new (OneArea own file request iova passed lies makes alike is under) has = by_memory under
      where
        by_memory : MemoryUnder at w e file request iova own new.memory
            → object_numbered new.memory number ≡ object_numbered w.memory number
        by_memory (NewMemory user known short at_end more) =
            rw more (found_before (λ (m : MemoryObject). eqb m.number number) w.memory _ some)
        by_memory (SharedMemory source within of_file size of same) = rw same refl

after_object : {A : Type 0} (at : ℕ) (w : World) (r : Record A) (number : ℕ)
    → is_some (object_numbered w.memory number) ≡ true
    → list_any (λ (a : Area). eqb a.memory number) (after at w r).areas ≡ true
    → object_numbered (after at w r).memory number ≡ object_numbered w.memory number
unfolding after with_tables
after_object at w r number some has = by_refusal (refusal w r.event) has
  where
    by_refusal : (o : Option Cause) → list_any (λ (a : Area). eqb a.memory number) (after_answer at w r o).areas ≡ true
        → object_numbered (after_answer at w r o).memory number ≡ object_numbered w.memory number
    by_refusal (Some cause) has = refl
    by_refusal None has = keeps_object at w r.event r.reply number some has

-- ---- the pins

same_pin : (old new now : Option FrameNo) → PinMoves old new now → is_some old ≡ is_some new → new ≡ old
same_pin None None now moves is = refl
same_pin None (Some frame) now moves is = cc
same_pin (Some frame) None now moves is = cc
same_pin (Some old) (Some new) now moves is = ap Some moves

pin_told : (at : ℕ) (w : World) (page : ObjectPage) → ArePinned at w
    → is_some (pinned_frame w.pins page) ≡ list_any (is_page page)
    (pinned_pages w.objects w.areas w.memory w.access_pins)
pin_told at w page p =
    let pages = pinned_pages w.objects w.areas w.memory w.access_pins in
    alike _ _ (λ some. pin_is_of w.pins pages page some p.only)
    (λ within. at_page (λ q. is_some (pinned_frame w.pins q)) pages page p.pinned within)

module _ {A : Type 0} (at : ℕ) (w : World) (r : Record A) (file : FileNo) (number : ℕ) (before : OwnPins at w)
    (next : OwnPins (at + 1) (after at w r)) (alike : AccessedAlike w (after at w r)) (b : AreBound w)
    (another : IsOfAnother w r.event file) (has : has_memory file w number ≡ true) where
  rows : rows_of file (after at w r) ≡ rows_of file w
  rows = after_keeps_others at w r file b another

  still : has_memory file (after at w r) number ≡ true
  still = of_rows (after at w r) file number
      ∙ ap (λ (rs : FileRows). list_any (λ (a : Area). eqb a.memory number) rs.areas) rows ∙ sym (of_rows w file number)
      ∙ has

  some_object : is_some (object_numbered w.memory number) ≡ true
  some_object =
      constant (is_some (object_numbered w.memory number)) w.areas
      (any_of_all (has_object w.memory) (λ (a : Area). eqb a.file.0 file.0 && eqb a.memory number)
      (λ a. is_some (object_numbered w.memory number)) w.areas
      (λ a sized over.
      let here = flipped a.memory number (and_true (eqb a.file.0 file.0) (eqb a.memory number) over).1 in
      some_found (λ (m : MemoryObject). eqb m.number number) w.memory
      (any_weaker (λ (m : MemoryObject). eqb m.number a.memory && eqb (m.count * 4096) (size_of a.span))
      (λ (m : MemoryObject). eqb m.number number) w.memory
      (λ m is. both_equal m.number a.memory number
      (and_true (eqb m.number a.memory) (eqb (m.count * 4096) (size_of a.span)) is).0 here) sized))
      before.pins.sizes has)

  same_object : object_numbered (after at w r).memory number ≡ object_numbered w.memory number
  same_object = after_object at w r number some_object
      (any_weaker (λ (a : Area). eqb a.file.0 file.0 && eqb a.memory number) (λ (a : Area). eqb a.memory number)
      (after at w r).areas (λ a both. (and_true (eqb a.file.0 file.0) (eqb a.memory number) both).1) still)

  same_translated : is_translated (after at w r).objects (after at w r).areas number ≡ is_translated
      w.objects w.areas number
  same_translated = translated_own (after at w r) file number next.own still
      ∙ ap (λ (rs : FileRows). is_translated_in rs number) rows ∙ sym (translated_own w file number before.own has)

  same_pinned : (index : ℕ) → list_any (is_page (record { memory = number; index = index }))
      (pinned_pages w.objects w.areas w.memory w.access_pins)
      ≡ list_any (is_page (record { memory = number; index = index }))
      (pinned_pages (after at w r).objects (after at w r).areas (after at w r).memory (after at w r).access_pins)
  same_pinned index =
      let page : ObjectPage = record { memory = number; index = index } in
      let new = after at w r in
      let listed : is_listed w.memory page ≡ is_listed new.memory page =
      listed_numbered w.memory page before.pins.numbers ∙ ap (has_index index) (sym same_object)
      ∙ sym (listed_numbered new.memory page next.pins.numbers)
      in
      in_pinned w.objects w.areas w.memory w.access_pins page
      ∙ ap (λ (here : Bool). here && is_pinned w.objects w.areas w.access_pins page) listed
      ∙ by_listed (is_listed new.memory page) refl
      ∙ sym (in_pinned new.objects new.areas new.memory new.access_pins page)
    where
      page : ObjectPage
      page = record { memory = number; index = index }

      by_listed : (b : Bool) → is_listed (after at w r).memory page ≡ b
          → (b && (is_translated w.objects w.areas number || is_accessed w.objects w.areas w.access_pins page))
          ≡ (b && (is_translated (after at w r).objects (after at w r).areas number
          || is_accessed (after at w r).objects (after at w r).areas (after at w r).access_pins page))
      by_listed false is = refl
      by_listed true is =
          rw (
            same_translated,
            others_accessed w file page before.own has r.event (after at w r) another alike
                (after_access_pins at w r) is,
          ) refl

  pub after_same_memory : SameMemory number w (after at w r)
  after_same_memory = record {
    object = same_object;
    pins = λ index.
        let page : ObjectPage = record { memory = number; index = index } in
        same_pin _ _ _ (after_moves w page at r) (pin_told at w page before.pins ∙ same_pinned index
        ∙ sym (pin_told (at + 1) (after at w r) page next.pins));
  }
