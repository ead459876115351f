-- What a handle owns, taken apart and put together.
use Rattle.std.proofs.Common.{◌≡◌, ℕ, List, [], ◌∷◌, refl}
use seplogic.Ra.Ura.{Ura}
use mir.Syntax.{ty_ptr}
use mir.Raw.{raw as bare}
use mir.Val.{Val, has_ty}
use base.Fml.{Fml}
use base.Logic.{ent, guard, guard_i, via, snd∗, never, fst∗}
use base.Fraction.{full_share}
use contract.Monad.{fact_use}
use types.Logic.{Logic, sem}
use types.Kit.{Item, given, learn, use1, Goal, Seq, Step, step, ‵, ◌$◌, move, drop, fsplit, fjoin, fpick, fpack, feq_i}
use types.Kit.{feq_l}
use denote.RattleType.{RattleType, Valss}
use denote.Builtin.{RawPtr}
use denote.Memory.{lone}
use denote.RawPtr.{Ptr, block_ptr, null_ptr, ptr_val, in_a_block, lies_at, Testable}
use denote.Steps.{nothing}
use denote.Param.{layout}
use denote.Param.Laws.{Laws}
use denote.Struct.Struct.{within}
use denote.Struct.Owning.{shape}
use Rattle.std.specs.Box.Ownership.{box_owns}
use Rattle.std.specs.Prelude.{Option, Some, None}
use Rattle.std.specs.contracts.alloc.Global as global
use Rattle.std.specs.contracts.impls.GlobalAllocator.TheImpl.{ghosts}
use Rattle.std.specs.declared.alloc.Global.{Global}
use Rattle.std.proofs.GlobalToken.{dealloc_token-Testable}
use Rattle.std.proofs.alloc.Calls.{handle_tells}
use Rattle.std.proofs.alloc.Global.TheLaws as global_laws
use Rattle.std.proofs.cell.Inside.{Good}
use Rattle.iommufd_c.specs.Kept.{keeps_boxed}
use Rattle.iommufd_c.specs.contracts.handle.client.Client as client
use Rattle.iommufd_c.specs.contracts.handle.Handle as handle
use Rattle.iommufd_c.proofs.Loosened.{heap}
use Rattle.iommufd_c.proofs.Words.{both_hold, of_fields, pair, ptr_fits}

abbrev pub Z : RattleType
Z = global.the_row

abbrev pub zs : Laws Z
zs = global_laws.the_row_laws

abbrev pub V : RattleType
V = client.the_row

abbrev pub H : RattleType
H = handle.the_row

pub handle_fits : (p : Ptr) (h : Val) → Good (layout Z) h → Good (layout H) (pair (ptr_val p) h)
handle_fits p h fits = (
  both_hold (has_ty ty_ptr (ptr_val p)) (has_ty (layout Z) h) (ptr_fits p).0 fits.0,
  ((ptr_fits p).1, (fits.1, tt)),
)

module _ {M : Type 1} {𝓤 : Ura M} {𝓛 : Logic 𝓤} {K : Type 0} {Γ : List (Item 𝓤)} {G : Goal 𝓤 𝓛.H} where
  -- what it keeps, and its allocator
  pub opens_handle : K → (it : H.Denot) (vs : List Val)
      → ((h : Val) → vs ≡ pair (ptr_val it.at) h ∷ [] → Good (layout Z) h
      → Seq K 𝓛 (‵ (keeps_boxed (ghosts.dealloc_token it.alloc) V it.at it.client)
      ∷ ‵ (Z.own_val it.alloc (h ∷ [])) ∷ Γ) G)
      → Seq K 𝓛 (‵ (H.own_val it vs) ∷ Γ) G
  opens_handle t it vs k =
      fsplit t $ fpick t (λ parts. fsplit t $ feq_l t (λ is. fsplit t $ feq_l t (λ is_ptr. fsplit t $
      handle_tells (heap V Z zs ghosts) t it.alloc parts.1.0 (λ h is_heap fits.
      move t (1 ∷ []) $ drop t $ move t (1 ∷ []) $ k h (of_fields it.at h vs _ _ is is_ptr is_heap) fits))))

  -- and back
  pub closes_handle : K → (p : Ptr) (h : Val) (a : Z.Denot) (c : Option V.Denot)
      → Step K 𝓛 (‵ (H.own_val (record { at = p; alloc = a; client = c }) (pair (ptr_val p) h ∷ [])) ∷ Γ) G
      (‵ (keeps_boxed (ghosts.dealloc_token a) V p c) ∷ ‵ (Z.own_val a (h ∷ [])) ∷ Γ) G
  closes_handle t p h a c = step (λ s.
      let v : Val = pair (ptr_val p) h in
      nothing t $ move t (2 ∷ 0 ∷ []) $ fjoin t $ feq_i t (List Val) (ptr_val p ∷ []) (ptr_val p ∷ []) refl $
      fjoin t $ feq_i t (List Val) (v ∷ []) (v ∷ []) refl $ fjoin t $
      fpack t (Valss (RawPtr ∷ Z ∷ []))
      (within (shape handle.the_type) (p, ((global.the_field).into a, tt)) (v ∷ [])) (ptr_val p ∷ [], (h ∷ [], tt)) $
      fjoin t $ s)

module _ {M : Type 1} {𝓤 : Ura M} (𝓛 : Logic 𝓤) (a : Global) where
  abbrev Kept : Ptr → V.Denot → Fml
  Kept p x = box_owns (ghosts.dealloc_token a) V p x

  -- a box's address may be compared with null
  pub tested : (p : Ptr) (x : V.Denot) → ent 𝓤 (sem 𝓛 (Kept p x)) (guard 𝓤 (Testable p) (sem 𝓛 (Kept p x)))
  tested p x =
      fact_use 𝓤 (Testable p) (via 𝓤 _ (snd∗ 𝓤 (sem 𝓛 (lies_at V full_share p x))
      (sem 𝓛 (ghosts.dealloc_token a (bare (lone V.mir)) p))) (dealloc_token-Testable 𝓛 a (bare (lone V.mir)) p))
      (guard_i 𝓤 (Testable p) (sem 𝓛 (Kept p x)))

module _ (a : Global) {M : Type 1} {𝓤 : Ura M} {𝓛 : Logic 𝓤} {K : Type 0} {Γ : List (Item 𝓤)} {G : Goal 𝓤 𝓛.H} where
  -- a handle is closed, and null, or open, and a box's address
  pub either_kept : K → (p : Ptr) (c : Option V.Denot) → (p ≡ null_ptr → c ≡ None → Seq K 𝓛 Γ G)
      → ((b o : ℕ) (x : V.Denot) → p ≡ block_ptr b o → c ≡ Some x → Testable (block_ptr b o)
      → Seq K 𝓛 (‵ (box_owns (ghosts.dealloc_token a) V (block_ptr b o) x) ∷ Γ) G)
      → Seq K 𝓛 (‵ (keeps_boxed (ghosts.dealloc_token a) V p c) ∷ Γ) G
  either_kept t p None shut opened = feq_l t (λ e. shut e refl)
  either_kept t p (Some x) shut opened =
      in_a_block t p (λ q. box_owns (ghosts.dealloc_token a) V q x)
      (fst∗ 𝓤 (never 𝓤) (sem 𝓛 (ghosts.dealloc_token a (bare (lone V.mir)) null_ptr))) (λ b o is_at.
      use1 𝓛 (given (Testable (block_ptr b o)) (‵ (box_owns (ghosts.dealloc_token a) V (block_ptr b o) x)))
      (tested 𝓛 a (block_ptr b o) x) $ learn t (λ ok. opened b o x is_at refl ok))
