-- An empty table that is taken, and named.
use Rattle.std.proofs.Common.{◌≡◌, ◌≢◌, ℕ, ◌<◌, Some, None, Ok, Err, Result, List, get_or, refl, sym, ◌∙◌, ap, arith}
use Rattle.std.proofs.Common.{⊎_elim}
use Rattle.std.specs.Prelude.{IsOk, IfSome, IfNone, is_err}
use Rattle.std.proofs.lemmas.Bool.{false≢true}
use Rattle.iofd_words.specs.declared.numbers.FrameNo.{FrameNo}
use Rattle.iofd_words.specs.declared.refusal.Cause.TheVariants as cause
use Rattle.iofd_words.specs.declared.refusal.Refusal.{Refusal}
use Rattle.frame_memory.specs.Pool.{free_count, least_free}
use Rattle.page_table_words.proofs.Frames.{least_is, some_least}
use Rattle.page_table_words.proofs.Lookups.{cases_Option}

pub take_ok : (holds : List ℕ) (result : Result FrameNo Refusal) → 0 < free_count holds
    → IfSome (least_free holds) (λ frame. result ≡ Ok (record { 0 = frame })) → IsOk result
take_ok holds result some least =
    let found = some_least holds some in
    let ok : result ≡ Ok (record { 0 = found.0 }) = rw found.1 at least in
    rw ok refl

pub taken_least : (holds : List ℕ) (result : Result FrameNo Refusal) (frame : FrameNo)
    → IfSome (least_free holds) (λ f. result ≡ Ok (record { 0 = f }))
    → IfNone (least_free holds) (result ≡ Err (record { cause = cause.Frames })) → result ≡ Ok frame
    → least_free holds ≡ Some frame.0
taken_least holds result frame some none is =
    ⊎_elim
    (λ (no : least_free holds ≡ None).
    let refused : result ≡ Err (record { cause = cause.Frames }) = rw no at none in
    let both : ◌≡◌ {A = Result FrameNo Refusal} (Ok frame) (Err (record { cause = cause.Frames })) = sym is ∙ refused in
    absurd (false≢true (ap is_err both)))
    (λ (found : (f : ℕ) × (least_free holds ≡ Some f)).
    let ok : result ≡ Ok (record { 0 = found.0 }) = rw found.1 at some in
    found.1 ∙ ap (λ (n : ℕ). Some n) (sym (number_of frame found.0 (sym is ∙ ok))))
    (cases_Option (least_free holds))
  where
    number_of : (f : FrameNo) (n : ℕ) → ◌≡◌ {A = Result FrameNo Refusal} (Ok f) (Ok (record { 0 = n })) → f.0 ≡ n
    number_of f n same = let frames : f ≡ record { 0 = n } = cc in ap (λ (g : FrameNo). g.0) frames

-- a frame that was free isn't one on which a hold stands
pub other_frame : (holds : List ℕ) (frame table : ℕ) → least_free holds ≡ Some frame → 0 < get_or holds table 0
    → frame ≢ table
other_frame holds frame table least held same =
    let free = (least_is holds frame least).1 in
    let one = ap (λ (n : ℕ). get_or holds n 0) same in
    omega (arith, free, one, held)
