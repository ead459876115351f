-- The machine value of a struct of a pointer and an allocator.
use Rattle.std.proofs.Common.{◌≡◌, List, [], ◌∷◌, ◌++◌, subst}
use mathlib.Core.Bool.{Bool, true, false, ◌&&◌}
use lib.Dec.{T, lit<}
use mir.Syntax.{ty_ptr}
use mir.Val.{Val, vstruct, vcons, vnil, of_list}
use denote.RawPtr.{Ptr, block_ptr, null_ptr, ptr_val}
use Rattle.std.proofs.cell.Inside.{Good}

abbrev pub pair : Val → Val → Val
pair v w = vstruct (vcons v (vcons w vnil))

-- the fields are these, so the struct is
pub of_fields : (p : Ptr) (h : Val) (vs ps hs : List Val) → vs ≡ vstruct (of_list (ps ++ (hs ++ []))) ∷ []
    → ps ≡ ptr_val p ∷ [] → hs ≡ h ∷ [] → vs ≡ pair (ptr_val p) h ∷ []
of_fields p h vs ps hs is is_p is_h =
    subst (λ (ws : List Val). vs ≡ vstruct (of_list (ptr_val p ∷ (ws ++ []))) ∷ []) is_h
    (subst (λ (ws : List Val). vs ≡ vstruct (of_list (ws ++ (hs ++ []))) ∷ []) is_p is)

pub both_hold : (x y : Bool) → T x → T y → T (x && (y && true))
both_hold true true s t = tt
both_hold true false s t = absurd t
both_hold false y s t = absurd s

-- the machine value of a pointer is one
pub ptr_fits : (p : Ptr) → Good ty_ptr (ptr_val p)
ptr_fits (block_ptr b o) = (tt, tt)
ptr_fits null_ptr = (tt, record { fits = lit< tt })
