-- A pin that a step brings has the frame of the page that it pins.
use Rattle.std.proofs.Common.{◌≡◌, ℕ, ◌+◌, ◌/◌, not, eqb, Option, Some, None, List, refl, ap, ◌∙◌, ◌⊎◌, inl, inr}
use Rattle.std.proofs.Common.{⊎_elim}
use Rattle.std.specs.List.{filter, filter_map, find, list_any}
use Rattle.std.proofs.lemmas.Bool.{eqb-true}
use Rattle.iofd_steps.specs.After.{settle}
use Rattle.iofd_words.specs.Frames.{frame_at}
use Rattle.iofd_words.specs.Pins.{ObjectPage, is_page, page_of_pin, pin_now, pinned_pages}
use Rattle.iofd_words.specs.World.{World}
use Rattle.iofd_words.specs.declared.numbers.FrameNo.{FrameNo}
use Rattle.iofd_words.specs.declared.rows.MemoryObject.{MemoryObject}
use Rattle.iofd_words.specs.declared.rows.Pin.{Pin}
use Rattle.iofd_words.specs.declared.rows.UserPage.{UserPage}
use Rattle.iofd_rows.proofs.Each.{IsIn, in_filter, in_found}
use Rattle.iofd_promises.specs.Owners.{IsUsersPage}
use Rattle.iofd_runs.proofs.Moves.{PinsMove, SamePins, Settled}
use Rattle.iofd_promises.proofs.Lists.{in_append, in_filter_map}
use Rattle.iofd_promises.proofs.Rows.{contains}
use Rattle.iofd_promises.proofs.UserPages.{page_at}
use Rattle.iofd_words.specs.declared.event.Event.{Event}

-- a page's pin, by its frame, and its frame, by its memory object
abbrev pin_with : ℕ → ℕ → Option FrameNo → Option Pin
pin_with memory index o =
    elim o [ Some frame ↦ Some (record { memory = memory; index = index; frame = frame }) | None ↦ None ]

abbrev frame_with : List UserPage → ℕ → Option MemoryObject → Option FrameNo
frame_with pages index o = elim o [ Some m ↦ frame_at pages m.user (m.va / 4096 + index) | None ↦ None ]

module _ (w : World) (pin : Pin) where
  abbrev pub IsFrom : World → Type 0
  IsFrom new = IsIn w.pins pin ⊎ IsUsersPage new pin

  by_frame : (new : World) (m : MemoryObject) (memory index : ℕ) (o : Option FrameNo) → IsIn new.memory m
      → m.number ≡ memory → frame_at new.user_pages m.user (m.va / 4096 + index) ≡ o
      → pin_with memory index o ≡ Some pin → IsUsersPage new pin
  by_frame new m memory index None within number at is = cc
  by_frame new m memory index (Some frame) within number at is =
      let page = page_at new m.user (m.va / 4096 + index) frame at in
      let same : record { memory = memory; index = index; frame = frame } ≡ pin = cc in
      record {
        object = m;
        there = contains new.memory m within;
        number = number ∙ ap (λ (p : Pin). p.memory) same;
        page = page.page;
        listed = page.there;
        of_user = page.of_user;
        of_page = page.of_page ∙ ap (λ (n : ℕ). m.va / 4096 + n) (ap (λ (p : Pin). p.index) same);
        of_frame = page.at_frame ∙ ap (λ (p : Pin). p.frame) same;
      }

  of_now : (new : World) (page : ObjectPage) → pin_now new.memory new.user_pages page ≡ Some pin → IsUsersPage new pin
  of_now new page is = by_object (find (λ (m : MemoryObject). eqb m.number page.memory) new.memory) refl is
    where
      by_object : (o : Option MemoryObject) → find (λ (m : MemoryObject). eqb m.number page.memory) new.memory ≡ o
          → pin_with page.memory page.index (frame_with new.user_pages page.index o) ≡ Some pin → IsUsersPage new pin
      by_object None found is = cc
      by_object (Some m) found is =
          let (within, same) = in_found (λ (m : MemoryObject). eqb m.number page.memory) new.memory m found in
          by_frame new m page.memory page.index (frame_at new.user_pages m.user (m.va / 4096 + page.index)) within
          (eqb-true m.number page.memory same) refl is

  settled_from : (new : World) → IsIn (settle w new).pins pin → IsFrom new
  unfolding settle
  settled_from new within =
      let before = pinned_pages w.objects w.areas w.memory w.access_pins in
      let next = pinned_pages new.objects new.areas new.memory new.access_pins in
      ⊎_elim
      (λ (old : IsIn (filter (λ (p : Pin). list_any (is_page (page_of_pin p)) next) w.pins) pin). inl
      (in_filter _ w.pins pin old).0)
      (λ (come : IsIn (filter_map (pin_now new.memory new.user_pages)
      (filter (λ page. not (list_any (is_page page) before)) next)) pin).
      let (page, there, is) = in_filter_map (pin_now new.memory new.user_pages) _ pin come in
      inr (of_now new page is))
      (in_append (filter (λ (p : Pin). list_any (is_page (page_of_pin p)) next) w.pins) _ pin within)

  pub pin_from : {A : Type 0} (at : ℕ) (e : Event A) (new : World) → PinsMove at w e new → IsIn new.pins pin
      → IsFrom new
  pin_from at e new (SamePins is alike) within = inl (rw is at within)
  pin_from at e new (Settled is present) within = settled_from new (rw is at within)
