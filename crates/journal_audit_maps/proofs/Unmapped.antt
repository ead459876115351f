-- The world after an UNMAP by which areas go: the pins of pages that are to be pinned still stay, and no others.
use Rattle.std.proofs.Common.{◌≡◌, ◌&&◌, ◌||◌, ℕ, true, not, eqb, None, List, [], refl, sym, ap, subst, ◌∙◌}
use Rattle.std.specs.List.{filter, list_all, list_any}
use Rattle.iofd_runs.proofs.KeepsPins.{accesses_kept}
use Rattle.iofd_runs.proofs.PagesToPin.{gone_within}
use Rattle.iofd_steps.specs.After.{changed, settle, without_areas}
use Rattle.iofd_steps.specs.Answers.{Answers}
use Rattle.iofd_words.specs.Areas.{is_of, is_touched, unmapped_span}
use Rattle.iofd_words.specs.Bounds.{Bounds}
use Rattle.iofd_refusals.specs.Checks.{refusal}
use Rattle.iofd_words.specs.Pins.{is_pinned, page_of_pin}
use Rattle.iofd_words.specs.Span.{meets}
use Rattle.iofd_words.specs.World.{World}
use Rattle.iofd_words.specs.declared.event.Event.TheVariants as event
use Rattle.iofd_words.specs.declared.event.UnmapRequest.{UnmapRequest}
use Rattle.iofd_words.specs.declared.numbers.FileNo.{FileNo}
use Rattle.iofd_words.specs.declared.reply.Reply.TheVariants as reply
use Rattle.iofd_words.specs.declared.rows.AccessPin.{AccessPin}
use Rattle.iofd_words.specs.declared.rows.Area.{Area}
use Rattle.iofd_words.specs.declared.rows.MemoryObject.{MemoryObject}
use Rattle.iofd_words.specs.declared.rows.Object.{Object}
use Rattle.iofd_words.specs.declared.rows.Pin.{Pin}
use Rattle.journal_audit_world.specs.Keys.{has_number}
use Rattle.journal_audit_world.proofs.Asked.{accessed_left, still_pinned, translated_left}
use Rattle.journal_audit_world.proofs.AreasOver.{used_or_asked}
use Rattle.journal_audit_world.proofs.Settling.{listed_left, pinned_still, settle_less, used_still, with_kept_pins}
use Rattle.journal_audit_world.specs.Kept.{IsKept}
use Rattle.journal_audit_world.specs.Over.{is_over}
use Rattle.journal_audit_world.specs.Unwritten.{unwritten}

-- without the areas that it touches, and the memory objects that no other is over
abbrev gone : World → FileNo → UnmapRequest → World
gone w file request = record w {
  memory = filter (λ m. list_any (λ area. eqb area.memory m.number && not (is_touched file request area)) w.areas)
      w.memory;
  areas = filter (λ area. not (is_touched file request area)) w.areas;
}

gone_is : (A : Type 0) (at : ℕ) (w : World) (file : FileNo) (request : UnmapRequest) (count : ℕ) → IsKept at w
    → refusal {A = A} w (event.Unmap file request) ≡ None
    → Answers {A = A} w (event.Unmap file request) (reply.Bytes count)
    → settle w (gone w file request) ≡ with_kept_pins w.pins (gone w file request)
unfolding changed settle without_areas
gone_is A at w file request count kept none answers =
    let alike = (accesses_kept {A = A} at w (event.Unmap file request) (reply.Bytes count) none answers kept.pins
    ).accessed in
    settle_less w (gone w file request)
    (λ page inside. gone_within w (is_touched file request) w.objects _ page (λ own ioas has. has) (alike page)
    inside)
    (λ page listed is. listed_left w.objects (is_touched file request) w.areas w.memory w.access_pins page listed is)
    kept.pins.only

-- ---- what is asked for

-- the numbers of areas that it touches, gathered by its span
asked_touched : (file : FileNo) (request : UnmapRequest) (span : Bounds) (seen areas : List Area)
    (none asked : List ℕ) → none ≡ [] → span ≡ unmapped_span request → seen ≡ areas
    → ((n : ℕ) → has_number asked n ≡ (has_number none n || is_over (λ (area : Area). is_of file request.ioas area
    && meets area.span (record { first = span.first; last = span.last })) seen n))
    → (n : ℕ) → is_over (is_touched file request) areas n ≡ true → has_number asked n ≡ true
asked_touched file request span seen areas none asked empty span_is seen_is gathered n over =
    gathered n
    ∙ ap (λ (ks : List ℕ). has_number ks n || is_over (λ (area : Area). is_of file request.ioas area
    && meets area.span (record { first = span.first; last = span.last })) seen n) empty
    ∙ ap (λ (b : Bounds). is_over (λ (area : Area). is_of file request.ioas area
    && meets area.span (record { first = b.first; last = b.last })) seen n) span_is
    ∙ ap (λ (rows : List Area). is_over (is_touched file request) rows n) seen_is
    ∙ over

-- so each memory object is asked for, or has an area still
pub touched_used : (at : ℕ) (v w : World) (file : FileNo) (request : UnmapRequest) (span : Bounds)
    (seen left over : List Area) (memory : List MemoryObject) (none asked : List ℕ) → v ≡ w → IsKept at w → none ≡ []
    → span ≡ unmapped_span request → seen ≡ v.areas
    → ((n : ℕ) → has_number asked n ≡ (has_number none n || is_over (λ (area : Area). is_of file request.ioas area
    && meets area.span (record { first = span.first; last = span.last })) seen n))
    → left ≡ filter (λ area. not (is_touched file request area)) v.areas → over ≡ left → memory ≡ v.memory
    → list_all (λ m. has_number asked m.number || list_any (λ (area : Area). eqb area.memory m.number) over) memory
    ≡ true
touched_used at v w file request span seen left over memory none asked same kept empty span_is seen_is gathered left_is
    over_is memory_is =
    let kept_v = subst (λ (x : World). IsKept at x) (sym same) kept in
    rw memory_is
    (used_or_asked (is_touched file request) v.areas over v.memory asked
    (asked_touched file request span seen v.areas none asked empty span_is seen_is gathered) (over_is ∙ left_is)
    kept_v.pins.used)

-- and each pin is of one that is, or of a page that is to be pinned still
pub touched_pinned : (A : Type 0) (at : ℕ) (v w : World) (file : FileNo) (request : UnmapRequest) (count : ℕ)
    (span : Bounds) (seen left : List Area) (objects : List Object) (areas : List Area) (access_pins : List AccessPin)
    (pins : List Pin) (none asked : List ℕ) → v ≡ w → IsKept at w
    → refusal {A = A} w (event.Unmap file request) ≡ None
    → Answers {A = A} w (event.Unmap file request) (reply.Bytes count) → none ≡ []
    → span ≡ unmapped_span request → seen ≡ v.areas
    → ((n : ℕ) → has_number asked n ≡ (has_number none n || is_over (λ (area : Area). is_of file request.ioas area
    && meets area.span (record { first = span.first; last = span.last })) seen n))
    → left ≡ filter (λ area. not (is_touched file request area)) v.areas
    → objects ≡ v.objects → areas ≡ left → access_pins ≡ v.access_pins → pins ≡ v.pins
    → list_all (λ pin. has_number asked pin.memory || is_pinned objects areas access_pins (page_of_pin pin)) pins ≡ true
unfolding changed settle without_areas
touched_pinned A at v w file request count span seen left objects areas access_pins pins none asked same kept granted
    answers empty span_is seen_is gathered left_is o r p ps =
    let kept_v = subst (λ (x : World). IsKept at x) (sym same) kept in
    let none_v = subst (λ (x : World). refusal {A = A} x (event.Unmap file request) ≡ None) (sym same) granted in
    let answers_v = subst (λ (x : World). Answers {A = A} x (event.Unmap file request) (reply.Bytes count)) (sym same)
    answers in
    let over = asked_touched file request span seen v.areas none asked empty span_is seen_is gathered in
    let alike = (accesses_kept {A = A} at v (event.Unmap file request) (reply.Bytes count) none_v answers_v kept_v.pins
    ).accessed in
    rw (o, r ∙ left_is, p, ps)
    (still_pinned v v.objects (filter (λ area. not (is_touched file request area)) v.areas) v.access_pins asked
    (λ n. translated_left (is_touched file request) (is_touched file request) v.objects v.objects v.areas asked n
    (over n) (λ area isnt. (isnt, λ has. has)))
    (λ page. accessed_left (is_touched file request) v v.objects
    (filter (λ area. not (is_touched file request area)) v.areas) asked page over kept_v.pins.used (alike page))
    kept_v.pins.only)

pub remove_done : (A : Type 0) (at : ℕ) (v w new : World) (file : FileNo) (request : UnmapRequest) (count : ℕ)
    (over : List Area) (objects : List Object) (areas : List Area) (access_pins : List AccessPin) → v ≡ w
    → IsKept at w → refusal {A = A} w (event.Unmap file request) ≡ None
    → Answers {A = A} w (event.Unmap file request) (reply.Bytes count)
    → new ≡ record v { memory = new.memory; areas = new.areas; pins = new.pins }
    → new.areas ≡ filter (λ area. not (is_touched file request area)) v.areas → over ≡ new.areas
    → new.memory ≡ filter (λ m. list_any (λ area. eqb area.memory m.number) over) v.memory
    → objects ≡ v.objects → areas ≡ new.areas → access_pins ≡ v.access_pins
    → new.pins ≡ pinned_still objects areas access_pins v.pins
    → unwritten new ≡ unwritten (changed {A = A} at w (event.Unmap file request) (reply.Bytes count))
unfolding changed without_areas
remove_done A at v w new file request count over objects areas access_pins same kept none answers new_is areas_are
    seen memory_is o r p pins =
    let kept_v = subst (λ (x : World). IsKept at x) (sym same) kept in
    let none_v = subst (λ (x : World). refusal {A = A} x (event.Unmap file request) ≡ None) (sym same) none in
    let answers_v = subst (λ (x : World). Answers {A = A} x (event.Unmap file request) (reply.Bytes count)) (sym same)
    answers in
    let left = gone v file request in
    let memory_left : new.memory ≡ left.memory =
    memory_is ∙ rw (seen, areas_are) (used_still (is_touched file request) v.areas v.memory) in
    let pins_are : new.pins ≡ pinned_still v.objects left.areas v.access_pins v.pins =
    pins ∙ rw (o, r, p, areas_are) refl in
    ap (λ (x : World). unwritten x) new_is
    ∙ ap (λ (ms : List MemoryObject). unwritten (record v {
      memory = ms;
      areas = new.areas;
      pins = new.pins;
    })) memory_left
    ∙ ap (λ (rs : List Area). unwritten (record v {
      memory = left.memory;
      areas = rs;
      pins = new.pins;
    })) areas_are
    ∙ ap (λ (ps : List Pin). unwritten (record left { pins = ps })) pins_are
    ∙ ap (λ (x : World). unwritten x) (sym (gone_is A at v file request count kept_v none_v answers_v))
    ∙ ap (λ (x : World). unwritten (settle x (gone x file request))) same
