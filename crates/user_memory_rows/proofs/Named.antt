-- Which frames are named: where pins settle none is that wasn't before.
use Rattle.std.proofs.Common.{◌≡◌, ℕ, ◌+◌, ◌<◌, Bool, true, false, eqb, ltb, ◌&&◌, Option, Some, None, List, refl, ap}
use Rattle.std.proofs.Common.{sym, ◌∙◌, arith}
use Rattle.std.specs.Prelude.{if◌then◌else◌}
use Rattle.std.specs.List.{count_by, find, list_any}
use Rattle.std.proofs.lemmas.Bool.Decides.{nat_tests}
use Rattle.frame_memory.specs.Pool.{FramePool}
use Rattle.iofd_words.specs.Frames.{frame_at}
use Rattle.iofd_words.specs.Pages.{page_of}
use Rattle.iofd_words.specs.Pins.{ObjectPage}
use Rattle.iofd_words.specs.declared.numbers.FrameNo.{FrameNo}
use Rattle.iofd_words.specs.declared.numbers.UserNo.{UserNo}
use Rattle.iofd_words.specs.declared.rows.MemoryObject.{MemoryObject}
use Rattle.iofd_words.specs.declared.rows.UserPage.{UserPage}
use Rattle.iofd_rows.proofs.Each.{in_found, of_any}
use Rattle.memory_objects.specs.Objects.{are_rising, pins_on}
use Rattle.user_memory.proofs.Found.{pinned_has}
use Rattle.user_memory_rows.proofs.CountBy.{any_count}
use Rattle.user_memory.proofs.PinsNamed.{named_counts, some_named}
use Rattle.user_memory.specs.Changes.{Settles}
use Rattle.user_memory.specs.Memory.{Memory, frame_now, is_pinned, pinned_frame, reached, rows_of}

-- ---- by a user's page

-- the page's row names its frame
at_page : (pages : List UserPage) (user : UserNo) (page frame : ℕ) (found : FrameNo)
    → frame_at pages user page ≡ Some found → eqb found.0 frame ≡ true
    → list_any (λ (p : UserPage). eqb p.frame.0 frame) pages ≡ true
at_page pages user page frame found is names =
    by_row (find (λ (p : UserPage). eqb p.user.0 user.0 && eqb p.page page) pages) refl is
  where
    by_row : (o : Option UserPage) → find (λ (p : UserPage). eqb p.user.0 user.0 && eqb p.page page) pages ≡ o
        → elim o as (λ _. Option FrameNo) [ Some p ↦ Some p.frame | None ↦ None ] ≡ Some found
        → list_any (λ (p : UserPage). eqb p.frame.0 frame) pages ≡ true
    by_row None at there = absurd (never there)
      where
        never : None ≡ Some found → ⊥
        never same = cc
    by_row (Some p) at there =
        let same : p.frame ≡ found = cc in
        of_any (λ (x : UserPage). eqb x.frame.0 frame) pages p
        (in_found (λ (x : UserPage). eqb x.user.0 user.0 && eqb x.page page) pages p at).0
        (ap (λ (f : FrameNo). eqb f.0 frame) same ∙ names)

-- a page of a memory object that has a frame in its user's memory now has the frame of a row
page_now : (m : Memory) (page : ObjectPage) (frame : ℕ) (found : FrameNo) → frame_now m page ≡ Some found
    → eqb found.0 frame ≡ true → list_any (λ (p : UserPage). eqb p.frame.0 frame) m.pages ≡ true
page_now m page frame found is names = by_object (find (λ (o : MemoryObject). eqb o.number page.memory) (rows_of m)) is
  where
    by_object : (o : Option MemoryObject) → elim o as (λ _. Option FrameNo)
        [ Some x ↦ frame_at m.pages x.user (page_of x.va + page.index) | None ↦ None ] ≡ Some found
        → list_any (λ (p : UserPage). eqb p.frame.0 frame) m.pages ≡ true
    by_object None there = absurd (never there)
      where
        never : None ≡ Some found → ⊥
        never same = cc
    by_object (Some x) there = at_page m.pages x.user (page_of x.va + page.index) frame found there names

-- ---- pins settle

module _ (old new : Memory) (before after : FramePool) (rising : are_rising old.objects ≡ true)
    (settles : Settles old new before after) (frame : ℕ) where
  -- a page that is pinned now was pinned so, or its user's page is in the frame
  by_page : (page : ObjectPage) (found : FrameNo) (is was : Bool) → is_pinned old page ≡ was
      → (if is then (if was then pinned_frame old page else frame_now new page) else None) ≡ Some found
      → eqb found.0 frame ≡ true → 0 < reached old frame
  by_page page found false was pinned there names = absurd (never there)
    where
      never : None ≡ Some found → ⊥
      never same = cc
  by_page page found true true pinned there names =
      let some : ltb 0 (pins_on old.objects frame) ≡ true =
      named_counts old.objects page.memory page.index frame found (pinned_has old page rising pinned) there names in
      let more : 0 < pins_on old.objects frame = search (some, arith, nat_tests) in
      omega (arith, more)
  by_page page found true false pinned there names =
      let row = page_now new page frame found there names in
      let counted : ltb 0 (count_by (λ (p : UserPage). eqb p.frame.0 frame) old.pages) ≡ true =
      ap (λ (l : List UserPage). ltb 0 (count_by (λ (p : UserPage). eqb p.frame.0 frame) l)) (sym settles.pages)
      ∙ sym (any_count (λ (p : UserPage). eqb p.frame.0 frame) new.pages) ∙ row in
      let more : 0 < count_by (λ (p : UserPage). eqb p.frame.0 frame) old.pages = search (counted, arith, nat_tests) in
      omega (arith, more)

  by_pins : (b : Bool) → ltb 0 (pins_on new.objects frame) ≡ b → 0 < reached new frame → 0 < reached old frame
  by_pins true some named =
      let found = some_named new.objects frame settles.kept.rising some in
      let page : ObjectPage = record { memory = found.number; index = found.index } in
      by_page page found.found (is_pinned new page) (is_pinned old page) refl (sym (settles.frames page)
      ∙ found.pinned) found.names
  by_pins false none named =
      let few : pins_on new.objects frame ≡ 0 = search (none, arith, nat_tests) in
      let same : count_by (λ (p : UserPage). eqb p.frame.0 frame) new.pages ≡ count_by
      (λ (p : UserPage). eqb p.frame.0 frame) old.pages =
      ap (λ (l : List UserPage). count_by (λ (p : UserPage). eqb p.frame.0 frame) l) settles.pages in
      omega (arith, few, same, named)

  pub settles_named : 0 < reached new frame → 0 < reached old frame
  settles_named named = by_pins (ltb 0 (pins_on new.objects frame)) refl named
