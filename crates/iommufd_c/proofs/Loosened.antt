-- What a loose box owns, taken apart and put together.
use Rattle.std.proofs.Common.{◌≡◌, ℕ, List, [], ◌∷◌, refl, subst}
use mathlib.Core.Bool.{true, ◌&&◌}
use lib.Dec.{T}
use seplogic.Ra.Ura.{Ura}
use mir.Syntax.{impl, tnil, dnil}
use mir.Raw.{raw as bare}
use mir.Val.{Val, vptr, has_ty, WT}
use base.Logic.{never, fst∗}
use types.Logic.{Logic, sem}
use types.Kit.{Item, Goal, Seq, Step, step, ‵, ◌$◌, move, drop, fsplit, fjoin, fpick, fpack, feq_i, feq_l}
use denote.RattleType.{RattleType, Valss}
use denote.Builtin.{RawPtr}
use denote.Memory.{lone}
use denote.RawPtr.{Ptr, block_ptr, null_ptr, ptr_val, in_a_block}
use denote.Steps.{nothing}
use denote.Param.{layout}
use denote.Param.Laws.{Laws}
use denote.Struct.Struct.{within}
use denote.Struct.Owning.{shape}
use Rattle.std.specs.Box.Ownership.{box_owns}
use Rattle.std.specs.declared.alloc.Allocator.{Ghosts}
use Rattle.std.proofs.alloc.Calls.{Al, handle_tells}
use Rattle.std.proofs.cell.Inside.{Good}
use Rattle.std.proofs.ResultValues.{and_tt}
use Rattle.iommufd_c.specs.contracts.handle.loose.Loose as loose
use Rattle.iommufd_c.proofs.Words.{of_fields, pair}

module _ (V Z : RattleType) (zs : Laws Z) (g : Ghosts Z.Denot) where
  abbrev pub Loose : RattleType
  Loose = loose.the_row V Z g

  abbrev pub heap : Al
  heap = record { row = Z; laws = zs; g = g; d = impl [] tnil dnil; drops = impl [] tnil dnil }

  pub word_fits : (b o : ℕ) (h : Val) → Good (layout Z) h → T (has_ty (layout Z) h && true) × WT (pair (vptr b o) h)
  word_fits b o h fits = (and_tt (has_ty (layout Z) h) fits.0, (tt, (fits.1, tt)))

  module _ {M : Type 1} {𝓤 : Ura M} {𝓛 : Logic 𝓤} {K : Type 0} {Γ : List (Item 𝓤)} {G : Goal 𝓤 𝓛.H} where
    -- the memory at its pointer, which lies in a block, and its allocator
    pub opens_loose : K → (it : Loose.Denot) (vs : List Val)
        → ((b o : ℕ) (h : Val) → it.at ≡ block_ptr b o → vs ≡ pair (vptr b o) h ∷ [] → Good (layout Z) h
        → Seq K 𝓛 (‵ (box_owns (g.dealloc_token it.alloc) V (block_ptr b o) it.value)
        ∷ ‵ (Z.own_val it.alloc (h ∷ [])) ∷ Γ) G)
        → Seq K 𝓛 (‵ (Loose.own_val it vs) ∷ Γ) G
    opens_loose t it vs k =
        fsplit t $ fpick t (λ parts. fsplit t $ feq_l t (λ is. fsplit t $ feq_l t (λ is_ptr. fsplit t $
        handle_tells heap t it.alloc parts.1.0 (λ h is_heap fits.
        move t (1 ∷ []) $ drop t $ move t (1 ∷ []) $
        in_a_block t it.at (λ p. box_owns (g.dealloc_token it.alloc) V p it.value)
        (fst∗ 𝓤 (never 𝓤) (sem 𝓛 (g.dealloc_token it.alloc (bare (lone V.mir)) null_ptr))) (λ b o is_at. k b o h is_at
        (subst (λ (p : Ptr). vs ≡ pair (ptr_val p) h ∷ []) is_at (of_fields it.at h vs _ _ is is_ptr is_heap)) fits)))))

    -- and back
    pub closes_loose : K → (b o : ℕ) (h : Val) (a : Z.Denot) (x : V.Denot)
        → Step K 𝓛 (‵ (Loose.own_val (record { at = block_ptr b o; alloc = a; value = x })
        (pair (vptr b o) h ∷ [])) ∷ Γ) G
        (‵ (box_owns (g.dealloc_token a) V (block_ptr b o) x) ∷ ‵ (Z.own_val a (h ∷ [])) ∷ Γ) G
    closes_loose t b o h a x = step (λ s.
        let v : Val = pair (vptr b o) h in
        nothing t $ move t (2 ∷ 0 ∷ []) $ fjoin t $ feq_i t (List Val) (vptr b o ∷ []) (vptr b o ∷ []) refl $
        fjoin t $ feq_i t (List Val) (v ∷ []) (v ∷ []) refl $ fjoin t $
        fpack t (Valss (RawPtr ∷ Z ∷ []))
        (within (shape (loose.the_type V Z g)) (block_ptr b o, (a, tt)) (v ∷ [])) (vptr b o ∷ [], (h ∷ [], tt)) $
        fjoin t $ s)
