-- What a refused call answers, and one that nothing refuses.
use Rattle.std.proofs.Common.{◌≡◌, ℕ, Bool, true, false, List, not, Option, Some, None, is_some, is_none, Result, Ok}
use Rattle.std.proofs.Common.{Err, IfSome, IfNone, refl, subst, sym, ap, ◌∙◌}
use Rattle.iofd_words.specs.Frames.{frame_at}
use Rattle.iofd_words.specs.declared.call_error.CallError.{CallError}
use Rattle.iofd_words.specs.declared.call_error.CallError.TheVariants.{Memory, Refused}
use Rattle.iofd_words.specs.declared.numbers.UserNo.{UserNo}
use Rattle.iofd_words.specs.declared.refusal.Cause.{Cause}
use Rattle.iofd_words.specs.declared.refusal.Cause.TheVariants as cause
use Rattle.iofd_words.specs.declared.rows.UserPage.{UserPage}
use Rattle.frame_memory.specs.Pool.{least_free}
use Rattle.frame_memory.specs.UserPages.{map_refusal}

module _ (T : Type 0) where
  abbrev pub err_of : CallError → Result T CallError
  err_of error = Err error

  abbrev pub cause_told : CallError → Option Cause → Type 0
  cause_told error refusal = IfSome refusal (λ cause. err_of error ≡ err_of (Refused (record { cause = cause })))

  pub refusal_told : (refusal : Option Cause) (cause : Cause) (error : CallError) → refusal ≡ Some cause
      → error ≡ Refused (record { cause = cause }) → cause_told error refusal
  refusal_told refusal cause error is told = subst (cause_told error) (sym is) (ap err_of told)

  pub not_memory : (error : CallError) (cause : Cause) → error ≡ Refused (record { cause = cause })
      → err_of error ≡ err_of (Memory (record {})) → ⊥
  not_memory error cause told memory = cc

pub not_taken : {X : Type 0} (P : Type 0) (o : Option X) (x : X) → o ≡ Some x → IfNone o P
not_taken P o x is = subst (λ r. IfNone r P) (sym is) tt

pub none_there : {X : Type 0} (P : X → Type 0) (o : Option X) → o ≡ None → IfSome o P
none_there P o is = subst (λ r. IfSome r P) (sym is) tt

pub taken : {X : Type 0} (P : Type 0) (o : Option X) → P → IfNone o P
taken P None done = done
taken P (Some x) done = tt

-- what gives a value where there is one doesn't fail there
pub never_fails : {T E X : Type 0} (make : X → T) (o : Option X) (r : Result T E) (error : E) → is_some o ≡ true
    → IfSome o (λ x. r ≡ Ok (make x)) → r ≡ Err error → ⊥
never_fails make None r error some ok fails = cc
never_fails make (Some x) r error some ok fails =
    let differs : Ok (make x) ≡ Err error = sym ok ∙ fails in cc

-- ---- why a user isn't given a page

none_is : (o : Option ℕ) (b : Bool) → is_some o ≡ b → is_none o ≡ not b
none_is None b is = ap not is
none_is (Some x) b is = ap not is

module _ (pages : List UserPage) (holds : List ℕ) (user : UserNo) (page : ℕ) where
  pub overlap_refused : is_some (frame_at pages user page) ≡ true
      → map_refusal pages holds user page ≡ Some cause.Overlap
  overlap_refused there = rw there refl

  pub full_refused : is_some (frame_at pages user page) ≡ false → is_some (least_free holds) ≡ false
      → map_refusal pages holds user page ≡ Some cause.Frames
  full_refused absent full = rw (absent, none_is (least_free holds) false full) refl

  pub none_refuses : is_some (frame_at pages user page) ≡ false → is_some (least_free holds) ≡ true
      → map_refusal pages holds user page ≡ None
  none_refuses absent free = rw (absent, none_is (least_free holds) true free) refl
