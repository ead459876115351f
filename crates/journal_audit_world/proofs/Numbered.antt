-- Each step keeps that memory objects stand by rising number: one that comes has the number of its record.
use Rattle.std.proofs.Common.{◌≡◌, ℕ, ◌+◌, Bool, true, false, cond, ltb, None, List, [], ◌∷◌, ◌++◌, refl, ◌∙◌}
use Rattle.std.specs.List.{filter, list_all}
use Rattle.std.proofs.lemmas.List.Folds.{list_all-append}
use Rattle.iofd_rows.specs.Pinned.{ArePinned}
use Rattle.iofd_rows.proofs.Bools.{and_true, both_true}
use Rattle.iofd_rows.proofs.Found.{all_filter}
use Rattle.iofd_runs.proofs.KeepsPins.{keeps_pins, later_pinned, opening_pinned, tabled_pinned}
use Rattle.iofd_runs.proofs.Moves.{AreasMove, FewerAreas, MemoryUnder, NewMemory, OneArea, OtherPhases, SameAreas}
use Rattle.iofd_runs.proofs.Moves.{SharedMemory, changed_moves}
use Rattle.iofd_steps.specs.After.{changed, memory_object}
use Rattle.iofd_steps.specs.Answers.{Answers}
use Rattle.iofd_refusals.specs.Checks.{refusal}
use Rattle.iofd_words.specs.Settings.{Settings}
use Rattle.iofd_words.specs.Tables.{with_tables}
use Rattle.iofd_words.specs.World.{World, opening}
use Rattle.iofd_words.specs.declared.event.Event.{Event}
use Rattle.iofd_words.specs.declared.event.MapRequest.{MapRequest}
use Rattle.iofd_words.specs.declared.numbers.FileNo.{FileNo}
use Rattle.iofd_words.specs.declared.numbers.FrameNo.{FrameNo}
use Rattle.iofd_words.specs.declared.numbers.Iova.{Iova}
use Rattle.iofd_words.specs.declared.reply.Reply.{Reply}
use Rattle.iofd_words.specs.declared.rows.MemoryObject.{MemoryObject}
use Rattle.journal_audit_world.specs.Kept.{numbers_rise}

-- ---- lists

rise-more : (memory : List MemoryObject) (m : MemoryObject)
    → list_all (λ (o : MemoryObject). ltb o.number m.number) memory ≡ true → numbers_rise memory ≡ true
    → numbers_rise (memory ++ m ∷ []) ≡ true
rise-more [] m made rise = refl
rise-more (o ∷ memory) m made rise =
    let parts = and_true (ltb o.number m.number) (list_all (λ (x : MemoryObject). ltb x.number m.number) memory) made in
    let rises = and_true (list_all (λ (x : MemoryObject). ltb o.number x.number) memory) (numbers_rise memory) rise in
    both_true _ _ (list_all-append (λ (x : MemoryObject). ltb o.number x.number) memory (m ∷ [])
    ∙ both_true _ _ rises.0 (both_true _ _ parts.0 refl))
    (rise-more memory m parts.1 rises.1)

rise-filter : (keeps : MemoryObject → Bool) (memory : List MemoryObject) → numbers_rise memory ≡ true
    → numbers_rise (filter keeps memory) ≡ true
rise-filter keeps [] rise = refl
rise-filter keeps (o ∷ memory) rise =
    let rises = and_true (list_all (λ (x : MemoryObject). ltb o.number x.number) memory) (numbers_rise memory) rise in
    kept (keeps o) (all_filter (λ (x : MemoryObject). ltb o.number x.number) keeps memory rises.0)
    (rise-filter keeps memory rises.1)
  where
    kept : (b : Bool) → list_all (λ (x : MemoryObject). ltb o.number x.number) (filter keeps memory) ≡ true
        → numbers_rise (filter keeps memory) ≡ true
        → numbers_rise (cond b (o ∷ filter keeps memory) (filter keeps memory)) ≡ true
    kept true here rest = both_true _ _ here rest
    kept false here rest = rest

-- ---- steps

pub record IsNumbered (at : ℕ) (w : World) : Type 0 where
  pub pins : ArePinned at w
  pub rise : numbers_rise w.memory ≡ true

pub opening_numbered : (settings : Settings) → IsNumbered 0 (opening settings)
opening_numbered settings = record { pins = opening_pinned settings; rise = refl }

pub later_numbered : (at : ℕ) (w : World) → IsNumbered at w → IsNumbered (at + 1) w
later_numbered at w p = record { pins = later_pinned at w p.pins; rise = p.rise }

pub tabled_numbered : (at : ℕ) (w : World) (taken given : List FrameNo) → IsNumbered at w
    → IsNumbered at (with_tables taken given w)
unfolding with_tables
tabled_numbered at w taken given p = record { pins = tabled_pinned at w taken given p.pins; rise = p.rise }

module _ {A : Type 0} (at : ℕ) (w : World) (e : Event A) (p : IsNumbered at w) where
  under_rises : (file : FileNo) (request : MapRequest) (iova : Iova) (number : ℕ) (memory : List MemoryObject)
      → MemoryUnder at w e file request iova number memory → numbers_rise memory ≡ true
  under_rises file request iova number memory (NewMemory user known short is more) =
      rw more (rise-more w.memory (memory_object at user request) p.pins.made p.rise)
  under_rises file request iova number memory (SharedMemory source within of_file size is same) = rw same p.rise

  rows_rise : (answer : Reply) (new : World) → AreasMove at w e answer new → numbers_rise new.memory ≡ true
  rows_rise answer new (SameAreas is same) = rw same p.rise
  rows_rise answer new (FewerAreas goes by is left free) = rw left (rise-filter _ w.memory p.rise)
  rows_rise answer new (OtherPhases phase lives is same) = rw same p.rise
  rows_rise answer new (OneArea number file request iova passed lies makes alike is under) =
      under_rises file request iova number new.memory under

pub keeps_numbered : {A : Type 0} (at : ℕ) (w : World) (e : Event A) (answer : Reply) → refusal w e ≡ None
    → Answers w e answer → IsNumbered at w → IsNumbered (at + 1) (changed at w e answer)
keeps_numbered at w e answer none answers p = record {
  pins = keeps_pins at w e answer none answers p.pins;
  rise = rows_rise at w e p answer (changed at w e answer) (changed_moves at w e answer).areas;
}
