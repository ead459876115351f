-- What stays, by the rows of what is asked for.
use Rattle.std.proofs.Common.{◌≡◌, ◌<◌, ℕ, ◌+◌, Bool, true, false, ◌&&◌, ◌||◌, not, eqb, List, [], length}
use Rattle.std.proofs.Common.{get_or, drop, map, refl, sym, ap, ◌∙◌}
use Rattle.std.proofs.lemmas.Bool.{eqb-true}
use Rattle.std.proofs.lemmas.List.{drop_more}
use Rattle.std.specs.List.{filter, list_all, list_any}
use Rattle.iofd_rows.proofs.ListTests.{any-filter, filter_alike_on}
use Rattle.iofd_runs.proofs.Accessed.{accessed_phases}
use Rattle.iofd_words.specs.Areas.{with_phase}
use Rattle.iofd_words.specs.Objects.{has_hwpt, is_hwpt_over}
use Rattle.iofd_words.specs.Pins.{ObjectPage, covers_page, is_accessed, is_pinned, page_of_pin}
use Rattle.iofd_words.specs.declared.numbers.FileNo.{FileNo}
use Rattle.iofd_words.specs.declared.numbers.ObjId.{ObjId}
use Rattle.iofd_words.specs.declared.rows.AccessPin.{AccessPin}
use Rattle.iofd_words.specs.declared.rows.Area.{Area}
use Rattle.iofd_words.specs.declared.rows.MemoryObject.{MemoryObject}
use Rattle.iofd_words.specs.declared.rows.Object.{Object}
use Rattle.iofd_words.specs.declared.rows.Phase.TheVariants as phase
use Rattle.iofd_words.specs.declared.rows.Pin.{Pin}
use Rattle.journal_audit_world.specs.Keys.{has_number, has_pair}
use Rattle.journal_audit_world.proofs.Swapped.{any_alike}
use Rattle.journal_audit_world.specs.Over.{is_over}

-- areas over a number that is asked for are over one that is asked for
asked_over : (asked : List ℕ) (p : Area → Bool) (areas : List Area) (n : ℕ) → has_number asked n ≡ true
    → is_over (λ area. has_number asked area.memory && p area) areas n
    ≡ list_any (λ (area : Area). eqb area.memory n && p area) areas
asked_over asked p areas n is = any_alike _ _ areas (λ area. same area (eqb area.memory n) refl)
  where
    same : (area : Area) (b : Bool) → eqb area.memory n ≡ b
        → ((has_number asked area.memory && p area) && eqb area.memory n) ≡ (eqb area.memory n && p area)
    same area true here =
        let number : area.memory ≡ n = eqb-true area.memory n here in
        let among : has_number asked area.memory ≡ true = ap (has_number asked) number ∙ is in
        rw (among, here) (and_one (p area))
      where
        and_one : (b : Bool) → (b && true) ≡ b
        and_one true = refl
        and_one false = refl
    same area false here = rw here (and_none (has_number asked area.memory && p area))
      where
        and_none : (b : Bool) → (b && false) ≡ false
        and_none true = refl
        and_none false = refl

-- ---- memory objects

pub used_alike : (asked used : List ℕ) (areas : List Area) (memory left : List MemoryObject)
    → ((n : ℕ) → has_number used n ≡ is_over (λ area. has_number asked area.memory) areas n)
    → list_all (λ m. has_number asked m.number || list_any (λ (area : Area). eqb area.memory m.number) areas) memory
    ≡ true
    → left ≡ filter (λ m. not (has_number asked m.number) || has_number used m.number) memory
    → left ≡ filter (λ m. list_any (λ (area : Area). eqb area.memory m.number) areas) memory
used_alike asked used areas memory left used_is kept is =
    is
    ∙ filter_alike_on
    (λ (m : MemoryObject). has_number asked m.number || list_any (λ (area : Area). eqb area.memory m.number) areas)
    (λ (m : MemoryObject). not (has_number asked m.number) || has_number used m.number)
    (λ (m : MemoryObject). list_any (λ (area : Area). eqb area.memory m.number) areas) memory kept
    (λ m one. by_test m (has_number asked m.number) refl one)
  where
    same : (n : ℕ) → has_number asked n ≡ true
        → is_over (λ area. has_number asked area.memory) areas n ≡ list_any (λ (area : Area). eqb area.memory n) areas
    same n among = any_alike _ _ areas (λ area. here area (eqb area.memory n) refl)
      where
        here : (area : Area) (b : Bool) → eqb area.memory n ≡ b
            → (has_number asked area.memory && eqb area.memory n) ≡ eqb area.memory n
        here area true is =
            let number : area.memory ≡ n = eqb-true area.memory n is in
            let asks : has_number asked area.memory ≡ true = ap (has_number asked) number ∙ among in
            rw asks refl
        here area false is = rw is (none (has_number asked area.memory))
          where
            none : (b : Bool) → (b && false) ≡ false
            none true = refl
            none false = refl

    by_test : (m : MemoryObject) (b : Bool) → has_number asked m.number ≡ b
        → (has_number asked m.number || list_any (λ (area : Area). eqb area.memory m.number) areas) ≡ true
        → (not (has_number asked m.number) || has_number used m.number)
        ≡ list_any (λ (area : Area). eqb area.memory m.number) areas
    by_test m true among one = rw among (used_is m.number ∙ same m.number among)
    by_test m false among one =
        let rest : list_any (λ (area : Area). eqb area.memory m.number) areas ≡ true = rw among at one in
        rw among (sym rest)

-- ---- pins

-- the areas that are left have those over a memory object that is asked for and isn't translated
accessed_in : (asked translated : List ℕ) (objects : List Object) (areas left : List Area) (access_pins : List AccessPin)
    (page : ObjectPage) → has_number asked page.memory ≡ true → has_number translated page.memory ≡ false
    → left ≡ map (with_phase phase.Live)
    (filter (λ area. has_number asked area.memory && not (has_number translated area.memory)) areas)
    → is_accessed objects left access_pins page ≡ is_accessed objects areas access_pins page
accessed_in asked translated objects areas left access_pins page among isnt is =
    ap (λ (rows : List Area). is_accessed objects rows access_pins page) is
    ∙ accessed_phases objects (λ area. phase.Live) (filter over areas) access_pins page
    ∙ any_alike _ _ access_pins (λ pin. any-filter (here pin) over areas
    ∙ any_alike _ _ areas (λ area. same pin area (eqb area.memory page.memory) refl))
  where
    over : Area → Bool
    over area = has_number asked area.memory && not (has_number translated area.memory)

    here : AccessPin → Area → Bool
    here pin area = eqb area.memory page.memory && covers_page objects page.index pin area

    same : (pin : AccessPin) (area : Area) (b : Bool) → eqb area.memory page.memory ≡ b
        → (over area && (eqb area.memory page.memory && covers_page objects page.index pin area))
        ≡ (eqb area.memory page.memory && covers_page objects page.index pin area)
    same pin area true one =
        let number : area.memory ≡ page.memory = eqb-true area.memory page.memory one in
        let asks : has_number asked area.memory ≡ true = ap (has_number asked) number ∙ among in
        let none : has_number translated area.memory ≡ false = ap (has_number translated) number ∙ isnt in
        rw (asks, none) refl
    same pin area false one = rw one (never (over area))
      where
        never : (b : Bool) → (b && false) ≡ false
        never true = refl
        never false = refl

pub pinned_alike : (asked translated : List ℕ) (objects : List Object) (areas left seen : List Area)
    (access_pins : List AccessPin) (pins stay : List Pin)
    → ((n : ℕ) → has_number translated n
    ≡ is_over (λ area. has_number asked area.memory && has_hwpt objects area.file area.ioas) areas n)
    → left ≡ map (with_phase phase.Live)
    (filter (λ area. has_number asked area.memory && not (has_number translated area.memory)) areas)
    → seen ≡ left
    → list_all (λ pin. has_number asked pin.memory || is_pinned objects areas access_pins (page_of_pin pin)) pins ≡ true
    → stay ≡ filter (λ pin. not (has_number asked pin.memory) || has_number translated pin.memory
    || is_accessed objects seen access_pins (page_of_pin pin)) pins
    → stay ≡ filter (λ pin. is_pinned objects areas access_pins (page_of_pin pin)) pins
pinned_alike asked translated objects areas left seen access_pins pins stay translated_is left_is seen_is kept is =
    is
    ∙ filter_alike_on
    (λ (pin : Pin). has_number asked pin.memory || is_pinned objects areas access_pins (page_of_pin pin))
    (λ (pin : Pin). not (has_number asked pin.memory) || has_number translated pin.memory
    || is_accessed objects seen access_pins (page_of_pin pin))
    (λ (pin : Pin). is_pinned objects areas access_pins (page_of_pin pin)) pins kept
    (λ pin one. by_test pin (has_number asked pin.memory) refl one)
  where
    among_asked : (pin : Pin) → has_number asked pin.memory ≡ true → (b : Bool) → has_number translated pin.memory ≡ b
        → (b || is_accessed objects seen access_pins (page_of_pin pin))
        ≡ (b || is_accessed objects areas access_pins (page_of_pin pin))
    among_asked pin among true there = refl
    among_asked pin among false none =
        accessed_in asked translated objects areas seen access_pins (page_of_pin pin) among none (seen_is ∙ left_is)

    by_test : (pin : Pin) (b : Bool) → has_number asked pin.memory ≡ b
        → (has_number asked pin.memory || is_pinned objects areas access_pins (page_of_pin pin)) ≡ true
        → (not (has_number asked pin.memory) || has_number translated pin.memory
        || is_accessed objects seen access_pins (page_of_pin pin))
        ≡ is_pinned objects areas access_pins (page_of_pin pin)
    by_test pin true among one = rw among
        (among_asked pin among (has_number translated pin.memory) refl
        ∙ ap (λ b. b || is_accessed objects areas access_pins (page_of_pin pin)) (translated_is pin.memory
        ∙ asked_over asked (λ (area : Area). has_hwpt objects area.file area.ioas) areas pin.memory among))
    by_test pin false among one =
        let rest : is_pinned objects areas access_pins (page_of_pin pin) ≡ true = rw among at one in
        rw among (sym rest)

-- ---- address spaces with a page table

pub no_space : (objects : List Object) (keys : List (ℕ × ℕ)) → keys ≡ [] → (file : FileNo) (ioas : ObjId)
    → (has_pair keys file.0 ioas.0 || has_hwpt objects file ioas) ≡ has_hwpt objects file ioas
no_space objects keys none file ioas = ap (λ ks. has_pair ks file.0 ioas.0 || has_hwpt objects file ioas) none

pub space_added : (objects : List Object) (old new : List (ℕ × ℕ)) (i : ℕ) (d : Object) → i < length objects
    → ((file : FileNo) (ioas : ObjId) → has_pair new file.0 ioas.0
    ≡ (has_pair old file.0 ioas.0 || (eqb (get_or objects i d).file.0 file.0
    && is_hwpt_over ioas (get_or objects i d).kind)))
    → ((file : FileNo) (ioas : ObjId) → (has_pair old file.0 ioas.0 || has_hwpt (drop i objects) file ioas)
    ≡ has_hwpt objects file ioas)
    → (file : FileNo) (ioas : ObjId) → (has_pair new file.0 ioas.0 || has_hwpt (drop (i + 1) objects) file ioas)
    ≡ has_hwpt objects file ioas
space_added objects old new i d within more before file ioas =
    ap (λ b. b || has_hwpt (drop (i + 1) objects) file ioas) (more file ioas)
    ∙ tidy (has_pair old file.0 ioas.0) (eqb (get_or objects i d).file.0 file.0
    && is_hwpt_over ioas (get_or objects i d).kind) (has_hwpt (drop (i + 1) objects) file ioas)
    ∙ ap (λ rows. has_pair old file.0 ioas.0 || has_hwpt rows file ioas) (sym (drop_more objects i d within))
    ∙ before file ioas
  where
    tidy : (a b c : Bool) → ((a || b) || c) ≡ (a || (b || c))
    tidy true b c = refl
    tidy false b c = refl
