use Rattle.std.proofs.Common.{◌≡◌, ◌<◌, ◌∙◌, ℕ, IfSome, IfNone, List, [], Option, Some, cond, eqb, length, sym, ap, subst}
use Rattle.std.specs.List.{slice_get}
use Rattle.iofd_words.specs.declared.numbers.FrameNo.{FrameNo}
use Rattle.memory_objects.specs.Objects.{MemoryEntry, ObjectTable, frame_in, object_at}
use Rattle.pinned_pages.specs.Pages.{frame_of}
use Rattle.memory_objects.proofs.objects.MemoryObjects.frames.Goals as goal

each_of : (frames : List FrameNo) (o : Option MemoryEntry) (x : MemoryEntry) → o ≡ Some x
    → (0 < x.pages.pages.table_pins → (i : ℕ) → slice_get frames i ≡ frame_of x.pages.pages i)
    → IfSome o (λ object. 0 < object.pages.pages.table_pins → (i : ℕ) → slice_get frames i ≡ frame_in o i)
each_of frames o x is each =
    let P : Option MemoryEntry → Type 0 = λ p. IfSome p (λ object. 0 < object.pages.pages.table_pins
    → (i : ℕ) → slice_get frames i ≡ frame_in p i) in
    subst P (sym is) each

pub object_at-requires : goal.object_at-requires
object_at-requires g c = rw c.deref.ensures.value c.self.invariant.rising

pub returns-in-Some-clause-each : goal.returns-in-Some-clause-each
returns-in-Some-clause-each g c =
    let found = sym ((rw c.deref.ensures.value at c.in-Some.ensures)
    ∙ ap (λ (v : ObjectTable). object_at v.objects c.args.number) c.self.view_is) in
    each_of c.frames.result.now (object_at c.args.self.now.objects c.args.number) c.in-Some.entry.now found
    c.frames.ensures.each

pub returns-in-Some-clause-none : goal.returns-in-Some-clause-none
returns-in-Some-clause-none g c =
    let N : Option MemoryEntry → Type 0 = λ o. IfNone o (c.frames.result.now ≡ []) in
    subst N ((rw c.deref.ensures.value at c.in-Some.ensures)
    ∙ ap (λ (v : ObjectTable). object_at v.objects c.args.number) c.self.view_is) tt

pub returns-in-Some-clause-count : goal.returns-in-Some-clause-count
returns-in-Some-clause-count g c =
    let C : Option MemoryEntry → Type 0 = λ o. IfSome o (λ object. length c.frames.result.now
    ≡ cond (eqb object.pages.pages.table_pins 0) 0 object.pages.pages.count) in
    subst C ((rw c.deref.ensures.value at c.in-Some.ensures)
    ∙ ap (λ (v : ObjectTable). object_at v.objects c.args.number) c.self.view_is) c.frames.ensures.count

pub returns-in-None-clause-each : goal.returns-in-None-clause-each
returns-in-None-clause-each g c =
    let no_frames : List FrameNo = [] in
    let E : Option MemoryEntry → Type 0 = λ o. IfSome o (λ object. 0 < object.pages.pages.table_pins
    → (i : ℕ) → slice_get no_frames i ≡ frame_in o i) in
    subst E ((rw c.deref.ensures.value at c.in-None.ensures)
    ∙ ap (λ (v : ObjectTable). object_at v.objects c.args.number) c.self.view_is) tt

pub returns-in-None-clause-count : goal.returns-in-None-clause-count
returns-in-None-clause-count g c =
    let C : Option MemoryEntry → Type 0 = λ o. IfSome o (λ object. 0
    ≡ cond (eqb object.pages.pages.table_pins 0) 0 object.pages.pages.count) in
    subst C ((rw c.deref.ensures.value at c.in-None.ensures)
    ∙ ap (λ (v : ObjectTable). object_at v.objects c.args.number) c.self.view_is) tt
