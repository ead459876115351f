-- `closed` makes a handle of null, which keeps nothing.
use Rattle.std.proofs.Common.{◌≡◌, List, [], ◌∷◌, ◌++◌, refl, sym, subst}
use mir.Val.{Val}
use base.Logic.{SProp, ent, emp, id⊢}
use base.Fml.{ftrue}
use prog.Wp.{WpFn}
use types.Kit.{‵, raw, ◌⊛◌, ◌$◌, ◌∵◌, !, qed, by, move, keep, split, fsplit, fjoin, suffices, use0, feq_i}
use types.Run.{lit, of_opd, no_more, and_then, returns, enter}
use types.ByLocal.{alloc_all, pass_all, free_all, look_at, get, sets}
use types.Part.{agg}
use contract.Monad.{fact, fact_i}
use contract.Running.{tables}
use denote.Exit.{yes}
use denote.RattleType.{owns}
use denote.Signature.{types_at, plain}
use denote.RawPtr.{Ptr, null_ptr, ptr_val}
use denote.Steps.{nothing}
use denote.Triple.Walked.{Stays, stay_dropped, walk_of, Goes-dropped}
use Rattle.std.specs.Prelude.{None}
use Rattle.std.proofs.raw_atomic.Walks.{proved_at, leaves}
use Rattle.std.proofs.alloc.Calls.{handle_tells}
use Rattle.std.specs.contracts.impls.GlobalAllocator.TheImpl.{ghosts}
use Rattle.iommufd_c.proofs.Handled as handled
use Rattle.iommufd_c.proofs.Loosened as loosened
use Rattle.iommufd_c.proofs.Words.{pair, ptr_fits}
use Rattle.iommufd_c.specs.contracts.handle.Handle.closed.{ended, clauses}
use Rattle.iommufd_c.specs.contracts.handle.Handle.closed.Key.{name as #self}
use Rattle.iommufd_c.proofs.handle.Handle.closed.Statement.{statement}
use Rattle.iommufd_c.proofs.handle.Handle.closed.Code as code

pub closed_spec : {M : Type 1} → statement M
closed_spec 𝓤 𝓛 𝓜 𝓡 wired =
    let self = plain (λ _. handled.Z) in
    let body = code.function in
    let says = clauses 𝓛 𝓜.mem 𝓡.returns in
    let stays : Stays ended.signature.params ended.kept = (stay_dropped self yes, tt) in
    let machine = tables 𝓤 𝓛.H 𝓜 𝓡 𝓡.env in
    proved_at 𝓛 ended stays says 𝓜 𝓡 (Goes-dropped 𝓛 0 self yes (λ κs x f. refl), tt) #self body
    (code.unfolded 𝓤 𝓛.H 𝓜 𝓡 wired) (λ z are.
    let it = z.0.3.0 in
    let Post : Val → SProp 𝓤 = (walk_of 𝓛 ended stays says).post z in
    let Runs : List Val → SProp 𝓤 = λ words. WpFn 𝓤 𝓛.H machine.C machine.Λ body words Post in
    let owned = ‵ (owns (types_at ended.signature.params z.0.0) z.0.3 z.0.4) in
    qed 𝓛 ((‵ ftrue ⊛ owned) ∷ raw ((says z.0.0 z.0.3).requires z.1) ∷ []) ∵
    split ! $ move ! (1 ∷ []) $ fsplit ! $
    handle_tells (loosened.heap handled.V handled.Z handled.zs ghosts) ! it z.0.4.0 (λ h words fits.
    let made : Val = pair (ptr_val null_ptr) h in
    suffices ! (Runs (h ∷ [])) (subst (λ (us : List Val). ent 𝓤 (Runs (h ∷ [])) (Runs us))
    (sym (λ i. words i ++ [])) (id⊢ 𝓤 (Runs (h ∷ [])))) $
    enter ! machine.C machine.Λ body (h ∷ []) Post $ alloc_all ! (λ l. pass_all ! refl (fits, tt) $
    sets ! (of_opd ! (lit ! tt)) refl (ptr_fits null_ptr) $
    sets ! (agg ! (and_then ! (get ! refl) (and_then ! (get ! refl) (no_more !)))) refl
    (handled.handle_fits null_ptr h fits) $
    -- null, and nothing kept
    feq_i ! Ptr null_ptr null_ptr refl $ handled.closes_handle ! null_ptr h it None $
    use0 𝓛 (raw (fact 𝓤 (None ≡ None))) (fact_i 𝓤 (None ≡ None) (emp 𝓤) refl) $
    nothing ! $ nothing ! $ fjoin ! $
    returns ! (look_at ! 0 refl) $ free_all ! refl $ keep ! (4 ∷ 0 ∷ 2 ∷ 1 ∷ []) $
    by ! (leaves 𝓛 ended stays says z made (record { at = null_ptr; alloc = it; client = None }) (tt, tt) (tt, tt)))))
