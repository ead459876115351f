-- Access pins of other files: a record of one file neither makes nor takes them, and of the pages of memory objects
-- under another file's areas the same stay covered.
use Rattle.std.proofs.Common.{◌≡◌, ◌≢◌, ℕ, Bool, true, false, cond, ◌&&◌, ◌||◌, not, eqb, Some, List, [], ◌∷◌, ◌++◌}
use Rattle.std.proofs.Common.{refl, ap, sym, ◌∙◌, arith}
use Rattle.std.specs.List.{filter, list_any}
use Rattle.std.proofs.lemmas.Bool.{eqb-true}
use Rattle.std.proofs.lemmas.Bool.Decides.{nat_tests}
use Rattle.iofd_laws.specs.Laws.{IsOfAnother, file_of, has_memory}
use Rattle.iofd_rows.proofs.Bools.{and_true}
use Rattle.iofd_rows.proofs.Each.{of_each}
use Rattle.iofd_rows.proofs.ListTests.{false_else}
use Rattle.iofd_rows.proofs.ObjectPages.{is_listed}
use Rattle.iofd_rows.proofs.OwnMemory.{all_of_file}
use Rattle.iofd_rows.proofs.Unusable.{none_of}
use Rattle.iofd_rows.specs.Pinned.{share_in_files}
use Rattle.iofd_runs.proofs.AccessPins.{accessed_pins_more, is_accessed_by}
use Rattle.iofd_runs.proofs.Moves.{AccessPinsMove, LessAccessPin, MakesPin, OneAccessPin, SameAccessPins, TakesPin}
use Rattle.iofd_runs.proofs.PagesToPin.{AccessedAlike}
use Rattle.iofd_runs.proofs.PinsAfter.{is_accessed_in}
use Rattle.iofd_words.specs.Pins.{ObjectPage, covers_page, is_accessed, is_equal, is_pin_in, without_pin}
use Rattle.iofd_words.specs.World.{World}
use Rattle.iofd_words.specs.declared.event.Event.{Event}
use Rattle.iofd_words.specs.declared.event.Event.TheVariants as event
use Rattle.iofd_words.specs.declared.numbers.FileNo.{FileNo}
use Rattle.iofd_words.specs.declared.rows.AccessPin.{AccessPin}
use Rattle.iofd_words.specs.declared.rows.Area.{Area}

-- ---- whose pin an event makes or takes

pub makes_own : {A : Type 0} (w : World) (e : Event A) (pin : AccessPin) → MakesPin e pin → file_of w e ≡ Some pin.file
makes_own w (event.AccessPin file id request) pin is = ap (λ (p : AccessPin). Some p.file) is
makes_own w e pin makes = absurd makes

pub takes_own : {A : Type 0} (w : World) (e : Event A) (pin : AccessPin) → TakesPin e pin → file_of w e ≡ Some pin.file
takes_own w (event.AccessUnpin file id request) pin is = ap (λ (p : AccessPin). Some p.file) is
takes_own w e pin takes = absurd takes

-- a test that no pin that equals this one passes finds as much without one of them
pub any_without_other : (p : AccessPin → Bool) (pin : AccessPin) (pins : List AccessPin)
    → ((q : AccessPin) → is_equal pin q ≡ true → p q ≡ false) → list_any p (without_pin pin pins) ≡ list_any p pins
any_without_other p pin [] fails = refl
any_without_other p pin (q ∷ pins) fails =
    by_test (is_equal pin q) refl (any_without_other p pin pins fails)
  where
    by_test : (b : Bool) → is_equal pin q ≡ b → list_any p (without_pin pin pins) ≡ list_any p pins
        → list_any p (cond b pins (q ∷ without_pin pin pins)) ≡ (p q || list_any p pins)
    by_test true same rest = rw (fails q same) refl
    by_test false other rest = ap (λ b. p q || b) rest

-- a filter that none of them passes keeps the same pins
pub filter_without_other : (p : AccessPin → Bool) (pin : AccessPin) (pins : List AccessPin)
    → ((q : AccessPin) → is_equal pin q ≡ true → p q ≡ false) → filter p (without_pin pin pins) ≡ filter p pins
filter_without_other p pin [] fails = refl
filter_without_other p pin (q ∷ pins) fails =
    by_test (is_equal pin q) refl (filter_without_other p pin pins fails)
  where
    by_test : (b : Bool) → is_equal pin q ≡ b → filter p (without_pin pin pins) ≡ filter p pins
        → filter p (cond b pins (q ∷ without_pin pin pins)) ≡ cond (p q) (q ∷ filter p pins) (filter p pins)
    by_test true same rest = rw (fails q same) refl
    by_test false other rest = ap (λ (kept : List AccessPin). cond (p q) (q ∷ kept) kept) rest

-- equal pins are of one file
pub equal_file : (a b : AccessPin) → is_equal a b ≡ true → b.file.0 ≡ a.file.0
equal_file a b same =
    let spans = (and_true _ _ same).0 in
    let firsts = (and_true _ _ spans).0 in
    let of_access = (and_true (eqb b.file.0 a.file.0 && eqb b.access.0 a.access.0) _ firsts).0 in
    eqb-true b.file.0 a.file.0 (and_true (eqb b.file.0 a.file.0) (eqb b.access.0 a.access.0) of_access).0

-- ---- the pages of memory objects under areas of a file

module _ (w : World) (file : FileNo) (page : ObjectPage) (own : share_in_files w.areas ≡ true)
    (has : has_memory file w page.memory ≡ true) where
  -- a pin of another file covers none of them
  none_by_other : (pin : AccessPin) → pin.file.0 ≢ file.0 → is_accessed_by w.objects w.areas pin page ≡ false
  none_by_other pin another =
      none_of (λ (area : Area). eqb area.memory page.memory && covers_page w.objects page.index pin area) w.areas
      (λ area among. false_else _ (λ both.
      let parts = and_true (eqb area.memory page.memory) (covers_page w.objects page.index pin area) both in
      let of_file = of_each (λ (a : Area). not (eqb a.memory page.memory) || eqb a.file.0 file.0) w.areas area
      (all_of_file w.areas file page.memory own has) among in
      let pinned = and_true (eqb area.file.0 pin.file.0) _
      (and_true (is_pin_in w.objects pin area) _ parts.1).0 in
      another (same pin.file.0 area.file.0 file.0 _ parts.0 of_file pinned.0)))
    where
      same : (a b c : ℕ) (here : Bool) → here ≡ true → (not here || eqb b c) ≡ true → eqb b a ≡ true → a ≡ c
      same a b c true is over of = grind (arith, nat_tests)
      same a b c false is over of = cc

  -- so a record of another covers the same of them
  pub others_accessed : {A : Type 0} (e : Event A) (new : World) → IsOfAnother w e file → AccessedAlike w new
      → AccessPinsMove w e new → is_listed new.memory page ≡ true → is_accessed_in new page ≡ is_accessed_in w page
  others_accessed e new another alike (SameAccessPins is) listed =
      alike page listed ∙ ap (λ (pins : List AccessPin). is_accessed w.objects w.areas pins page) is
  others_accessed e new another alike (OneAccessPin pin makes same held is) listed =
      alike page listed
      ∙ ap (λ (pins : List AccessPin). is_accessed w.objects w.areas pins page) is
      ∙ accessed_pins_more w.objects w.areas w.access_pins pin page
      ∙ rw (none_by_other pin (another pin.file (makes_own w e pin makes))) (or_nothing _)
    where
      or_nothing : (b : Bool) → (b || false) ≡ b
      or_nothing true = refl
      or_nothing false = refl
  others_accessed e new another alike (LessAccessPin pin takes same held is) listed =
      alike page listed
      ∙ ap (λ (pins : List AccessPin). is_accessed w.objects w.areas pins page) is
      ∙ any_without_other (λ q. is_accessed_by w.objects w.areas q page) pin w.access_pins
      (λ q equal. none_by_other q (λ here.
      another pin.file (takes_own w e pin takes) (sym (equal_file pin q equal) ∙ here)))

-- ---- the pins of a file

abbrev pub is_of_file : FileNo → AccessPin → Bool
is_of_file file pin = eqb pin.file.0 file.0

-- an event that makes and takes none of them leaves them
pub others_pins : {A : Type 0} (w : World) (e : Event A) (new : World) (file : FileNo)
    → ((pin : AccessPin) → MakesPin e pin → pin.file.0 ≢ file.0)
    → ((pin : AccessPin) → TakesPin e pin → pin.file.0 ≢ file.0) → AccessPinsMove w e new
    → filter (is_of_file file) new.access_pins ≡ filter (is_of_file file) w.access_pins
others_pins w e new file made taken (SameAccessPins is) = rw is refl
others_pins w e new file made taken (OneAccessPin pin makes same held is) =
    rw is (last w.access_pins (other pin.file.0 file.0 (made pin makes)))
  where
    other : (a b : ℕ) → a ≢ b → eqb a b ≡ false
    other a b differ = grind (arith, nat_tests)

    last : (pins : List AccessPin) → is_of_file file pin ≡ false
        → filter (is_of_file file) (pins ++ pin ∷ []) ≡ filter (is_of_file file) pins
    last [] fails = rw fails refl
    last (q ∷ pins) fails =
        ap (λ (kept : List AccessPin). cond (is_of_file file q) (q ∷ kept) kept) (last pins fails)
others_pins w e new file made taken (LessAccessPin pin takes same held is) =
    rw is (filter_without_other (is_of_file file) pin w.access_pins
    (λ q equal. false_else _ (λ here.
    taken pin takes (sym (equal_file pin q equal) ∙ eqb-true q.file.0 file.0 here))))
