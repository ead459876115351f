-- An UNMAP leaves the areas that it doesn't touch, and the memory under them, as they are.
use Rattle.std.proofs.Common.{◌≡◌, ℕ, Bool, true, false, cond, ◌&&◌, not, eqb, is_some, Option, Some, None, List, []}
use Rattle.std.proofs.Common.{◌∷◌, map, Contains, refl, ap, sym, ◌∙◌, subst, arith, inl, inr}
use Rattle.std.specs.List.{filter, list_any}
use Rattle.std.proofs.lemmas.Bool.Decides.{nat_tests}
use Rattle.iofd_steps.specs.After.{changed, settle, without_areas}
use Rattle.iofd_words.specs.Areas.{is_touched, leaving, with_phase, tried, touched_tries, with_leaving}
use Rattle.iofd_words.specs.Attachments.{devices_of}
use Rattle.iofd_refusals.specs.Checks.{refusal}
use Rattle.iofd_words.specs.Objects.{has_hwpt}
use Rattle.iofd_words.specs.Pins.{ObjectPage, frame_now, is_page, is_translated, pinned_frame, pinned_pages, is_pinned}
use Rattle.iofd_steps.specs.Run.{after, after_answer}
use Rattle.iofd_words.specs.Record.{Record}
use Rattle.iofd_words.specs.Tables.{with_tables}
use Rattle.iofd_words.specs.World.{World}
use Rattle.iofd_words.specs.declared.event.Event.{Event}
use Rattle.iofd_words.specs.declared.event.Event.TheVariants as event
use Rattle.iofd_words.specs.declared.event.UnmapRequest.{UnmapRequest}
use Rattle.iofd_words.specs.declared.numbers.FileNo.{FileNo}
use Rattle.iofd_words.specs.declared.numbers.FrameNo.{FrameNo}
use Rattle.iofd_words.specs.declared.refusal.Cause.{Cause}
use Rattle.iofd_words.specs.declared.reply.Reply.{Reply}
use Rattle.iofd_words.specs.declared.reply.Reply.TheVariants as reply
use Rattle.iofd_words.specs.declared.rows.Area.{Area}
use Rattle.iofd_words.specs.declared.rows.MemoryObject.{MemoryObject}
use Rattle.iofd_words.specs.declared.rows.Phase.{Phase}
use Rattle.iofd_laws.specs.Laws.{Outlives, object_numbered}
use Rattle.iofd_rows.specs.Pinned.{ArePinned}
use Rattle.iofd_rows.proofs.Bools.{and_true, both_true, not_false}
use Rattle.iofd_rows.proofs.Each.{IsIn, of_any}
use Rattle.iofd_rows.proofs.ListTests.{alike, any-filter, any_weaker, contains_first, contains_later, or_left}
use Rattle.iofd_rows.proofs.ObjectPages.{has_page, in_pinned, is_listed, listed_fewer, listed_is}
use Rattle.iofd_rows.proofs.PinsFollow.{pin_is_of, settled_at, settled_frame}
use Rattle.iofd_runs.proofs.StillTabled.{in_kept}
use Rattle.iofd_laws.proofs.MemoryApart.{gone_object}

itself : (n : ℕ) → eqb n n ≡ true
itself n = search (arith, nat_tests)

-- ---- rows of a list

contains : {X : Type 0} (xs : List X) (x : X) → IsIn xs x → Contains xs x
contains [] x within = absurd within
contains (y ∷ ys) x (inl same) = subst (λ z. Contains (z ∷ ys) x) (sym same) (contains_first x ys)
contains (y ∷ ys) x (inr later) = contains_later x y ys (contains ys x later)

in_mapped : {X Y : Type 0} (h : X → Y) (xs : List X) (x : X) → IsIn xs x → IsIn (map h xs) (h x)
in_mapped h [] x within = absurd within
in_mapped h (y ∷ ys) x (inl same) = inl (ap h same)
in_mapped h (y ∷ ys) x (inr later) = inr (in_mapped h ys x later)

-- ---- a page that is to be pinned before and after, or neither, keeps its pin

kept_frame : (was is : Bool) (old now : Option FrameNo) → was ≡ is → (is_some old ≡ true → was ≡ true)
    → settled_at was is old now ≡ old
kept_frame true true None now same only = refl
kept_frame true true (Some old) now same only = refl
kept_frame true false old now same only = cc
kept_frame false true old now same only = cc
kept_frame false false None now same only = refl
kept_frame false false (Some old) now same only = let never = only refl in cc

-- ---- areas go, and this one stays

module _ (at : ℕ) (w : World) (area : Area) (within : IsIn w.areas area) (goes : Area
    → Bool) (stays : goes area ≡ false) where
  left : IsIn (filter (λ (a : Area). not (goes a)) w.areas) area
  left = in_kept (λ (a : Area). not (goes a)) w.areas area within (not_false _ stays)

  -- the pages of its memory object are there still
  still_listed : (page : ObjectPage) → page.memory ≡ area.memory
      → is_listed (filter (λ (m : MemoryObject). list_any (λ (a : Area). eqb a.memory m.number && not (goes a)) w.areas)
      w.memory) page ≡ is_listed w.memory page
  still_listed page same =
      let keeps : MemoryObject → Bool = λ m. list_any (λ (a : Area). eqb a.memory m.number && not (goes a)) w.areas in
      alike _ _ (listed_fewer keeps w.memory page)
      (λ listed. listed_is (filter keeps w.memory) page ∙ any-filter (has_page page) keeps w.memory
      ∙ any_weaker (has_page page) (λ (m : MemoryObject). keeps m && has_page page m) w.memory
      (λ m has. both_true _ _ (kept m has) has) (sym (listed_is w.memory page) ∙ listed))
    where
      over : (n : ℕ) → eqb page.memory n ≡ true → eqb area.memory n ≡ true
      over n is = rw same at is

      kept : (m : MemoryObject) → has_page page m ≡ true
          → list_any (λ (a : Area). eqb a.memory m.number && not (goes a)) w.areas ≡ true
      kept m has =
          of_any (λ (a : Area). eqb a.memory m.number && not (goes a)) w.areas area within
          (both_true _ _ (over m.number (and_true (eqb page.memory m.number) _ has).0) (not_false _ stays))

  -- and its address space's page table translates them still
  translates : (areas : List Area) → IsIn areas area → has_hwpt w.objects area.file area.ioas ≡ true
      → is_translated w.objects areas area.memory ≡ true
  translates areas among table = of_any (λ (a : Area). eqb a.memory area.memory && has_hwpt w.objects a.file a.ioas)
      areas area among (both_true _ _ (itself area.memory) table)

  stays_pinned : ArePinned at w → has_hwpt w.objects area.file area.ioas ≡ true → (index : ℕ)
      → pinned_frame (settle w (without_areas goes w)).pins (record { memory = area.memory; index = index })
      ≡ pinned_frame w.pins (record { memory = area.memory; index = index })
  unfolding settle without_areas
  stays_pinned p table index =
      settled_frame (pinned_pages w.objects w.areas w.memory w.access_pins)
      (pinned_pages w.objects areas memory w.access_pins) memory w.user_pages w.pins page
      ∙ kept_frame (list_any (is_page page) (pinned_pages w.objects w.areas w.memory w.access_pins))
      (list_any (is_page page) (pinned_pages w.objects areas memory w.access_pins)) (pinned_frame w.pins page)
      (frame_now memory w.user_pages page)
      same (λ some. pin_is_of w.pins (pinned_pages w.objects w.areas w.memory w.access_pins) page some p.only)
    where
      page : ObjectPage
      page = record { memory = area.memory; index = index }

      areas : List Area
      areas = filter (λ (a : Area). not (goes a)) w.areas

      memory : List MemoryObject
      memory =
          filter (λ (m : MemoryObject). list_any (λ (a : Area). eqb a.memory m.number && not (goes a)) w.areas) w.memory

      pinned : (areas : List Area) → IsIn areas area → is_pinned w.objects areas w.access_pins page ≡ true
      pinned areas among = or_left _ _ (translates areas among table)

      same : list_any (is_page page) (pinned_pages w.objects w.areas w.memory w.access_pins) ≡ list_any (is_page page)
          (pinned_pages w.objects areas memory w.access_pins)
      same =
          in_pinned w.objects w.areas w.memory w.access_pins page
          ∙ ap (λ (b : Bool). is_listed w.memory page && b) (pinned w.areas within ∙ sym (pinned areas left))
          ∙ ap (λ (b : Bool). b && is_pinned w.objects areas w.access_pins page) (sym (still_listed page refl))
          ∙ sym (in_pinned w.objects areas memory w.access_pins page)

  same_object : object_numbered (settle w (without_areas goes w)).memory
      area.memory ≡ object_numbered w.memory area.memory
  unfolding settle without_areas
  same_object = gone_object goes w.areas w.memory area.memory
      (of_any (λ (a : Area). eqb a.memory area.memory) (filter (λ (a : Area). not (goes a)) w.areas) area
      left (itself area.memory))

  outlives_gone : ArePinned at w → Outlives area w (settle w (without_areas goes w))
  unfolding settle without_areas
  outlives_gone p = record {
    row = contains _ area left;
    object = same_object;
    pins = λ table. record { object = same_object; pins = stays_pinned p table };
  }

-- ---- an UNMAP

outlives_same : (w : World) (area : Area) → IsIn w.areas area → Outlives area w w
outlives_same w area within = record {
  row = contains w.areas area within;
  object = refl;
  pins = λ table. record { object = refl; pins = λ index. refl };
}

-- it waits: the touched areas are leaving
outlives_waiting : (w : World) (area : Area) (file : FileNo) (request : UnmapRequest) → IsIn w.areas area
    → is_touched file request area ≡ false
    → Contains (with_leaving w.areas (devices_of w.objects w.attachments file request.ioas) file request) area
outlives_waiting w area file request within apart =
    let phase = λ (a : Area). cond (is_touched file request a) (left a.phase) a.phase in
    contains _ area (subst (IsIn (map (λ (a : Area). with_phase (phase a) a) w.areas))
    (stays (is_touched file request area) apart)
    (in_mapped (λ (a : Area). with_phase (phase a) a) w.areas area within))
  where
    left : Phase → Phase
    left phase =
        tried (touched_tries w.areas file request)
        (leaving (devices_of w.objects w.attachments file request.ioas) phase)

    stays : (b : Bool) → b ≡ false → with_phase (cond b (left area.phase) area.phase) area ≡ area
    stays true is = cc
    stays false is = refl

outlives_unmap : (A : Type 0) (at : ℕ) (w : World) (file : FileNo) (request : UnmapRequest) (answer : Reply)
    (area : Area) → ArePinned at w → IsIn w.areas area → is_touched file request area ≡ false
    → Outlives area w (changed {A = A} at w (event.Unmap file request) answer)
unfolding changed
outlives_unmap A at w file request (reply.Bytes count) area p within apart =
    outlives_gone at w area within (is_touched file request) apart p
outlives_unmap A at w file request (reply.Pending errno) area p within apart =
    record {
      row = outlives_waiting w area file request within apart;
      object = refl;
      pins = λ table. record { object = refl; pins = λ index. refl };
    }
outlives_unmap A at w file request answer area p within apart = outlives_same w area within

pub after_outlives : {A : Type 0} (at : ℕ) (w : World) (r : Record A) (file : FileNo) (request : UnmapRequest)
    (area : Area) → ArePinned at w → r.event ≡ event.Unmap file request → IsIn w.areas area
    → is_touched file request area ≡ false → Outlives area w (after at w r)
unfolding after with_tables
after_outlives {A = A} at w r file request area p is within apart = by_refusal (refusal w r.event)
  where
    unmapped : Outlives area w (changed at w r.event r.reply)
    unmapped = subst (λ (e : Event A). Outlives area w (changed at w e r.reply)) (sym is)
        (outlives_unmap A at w file request r.reply area p within apart)

    by_refusal : (o : Option Cause) → Outlives area w (after_answer at w r o)
    by_refusal (Some cause) = outlives_same w area within
    by_refusal None = record {
      row = unmapped.row;
      object = unmapped.object;
      pins = λ table. let same = unmapped.pins table in record { object = same.object; pins = same.pins };
    }
