-- `of_loose` takes a loose box over.
use Rattle.std.proofs.Common.{◌≡◌, List, [], ◌∷◌, ◌++◌, refl, sym, subst}
use mir.Val.{Val, vptr}
use base.Logic.{SProp, ent, emp, id⊢}
use base.Fml.{ftrue}
use prog.Wp.{WpFn}
use types.Kit.{‵, raw, ◌⊛◌, ◌$◌, ◌∵◌, !, qed, by, move, keep, split, fsplit, fjoin, suffices, use0}
use types.Run.{stop, fld, of_opd, no_more, and_then, returns, enter}
use types.ByLocal.{alloc_all, pass_all, free_all, look_at, get, get_in, sets}
use types.Part.{agg, sub, whole}
use contract.Monad.{fact, fact_i}
use contract.Running.{tables}
use denote.Exit.{yes}
use denote.RattleType.{owns}
use denote.Signature.{types_at, plain}
use denote.RawPtr.{block_ptr}
use denote.Steps.{nothing}
use denote.Triple.Walked.{Stays, stay_dropped, walk_of, Goes-dropped}
use Rattle.std.specs.Prelude.{Some}
use Rattle.std.proofs.raw_atomic.Walks.{proved_at, leaves}
use Rattle.std.specs.contracts.impls.GlobalAllocator.TheImpl.{ghosts}
use Rattle.iommufd_c.proofs.Handled as handled
use Rattle.iommufd_c.proofs.Loosened as loosened
use Rattle.iommufd_c.proofs.Words.{pair}
use Rattle.iommufd_c.specs.contracts.handle.Handle.of_loose.{ended, clauses}
use Rattle.iommufd_c.specs.contracts.handle.Handle.of_loose.Key.{name as #self}
use Rattle.iommufd_c.proofs.handle.Handle.of_loose.Statement.{statement}
use Rattle.iommufd_c.proofs.handle.Handle.of_loose.Code as code

pub of_loose_spec : {M : Type 1} → statement M
of_loose_spec 𝓤 𝓛 𝓜 𝓡 wired =
    let self = plain (λ _. loosened.Loose handled.V handled.Z handled.zs ghosts) in
    let body = code.function in
    let says = clauses 𝓛 𝓜.mem 𝓡.returns in
    let stays : Stays ended.signature.params ended.kept = (stay_dropped self yes, tt) in
    let machine = tables 𝓤 𝓛.H 𝓜 𝓡 𝓡.env in
    proved_at 𝓛 ended stays says 𝓜 𝓡 (Goes-dropped 𝓛 0 self yes (λ κs x f. refl), tt) #self body
    (code.unfolded 𝓤 𝓛.H 𝓜 𝓡 wired) (λ z are.
    let it = z.0.3.0 in
    let Post : Val → SProp 𝓤 = (walk_of 𝓛 ended stays says).post z in
    let Runs : List Val → SProp 𝓤 = λ words. WpFn 𝓤 𝓛.H machine.C machine.Λ body words Post in
    let owned = ‵ (owns (types_at ended.signature.params z.0.0) z.0.3 z.0.4) in
    qed 𝓛 ((‵ ftrue ⊛ owned) ∷ raw ((says z.0.0 z.0.3).requires z.1) ∷ []) ∵
    split ! $ move ! (1 ∷ []) $ fsplit ! $
    loosened.opens_loose handled.V handled.Z handled.zs ghosts ! it z.0.4.0 (λ b o h is_at words fits.
    let word : Val = pair (vptr b o) h in
    let value = Some it.value in
    suffices ! (Runs (word ∷ [])) (subst (λ (us : List Val). ent 𝓤 (Runs (word ∷ [])) (Runs us))
    (sym (λ i. words i ++ [])) (id⊢ 𝓤 (Runs (word ∷ [])))) $
    enter ! machine.C machine.Λ body (word ∷ []) Post $ alloc_all ! (λ l.
    pass_all ! refl (loosened.word_fits handled.V handled.Z handled.zs ghosts b o h fits, tt) $
    sets ! (of_opd ! (get_in ! (fld ! refl (stop !)) (sub ! 0 refl (whole !)))) refl (tt, tt) $
    sets ! (of_opd ! (get_in ! (fld ! refl (stop !)) (sub ! 1 refl (whole !)))) refl fits $
    sets ! (of_opd ! (get ! refl)) refl (tt, tt) $
    sets ! (agg ! (and_then ! (get ! refl) (and_then ! (get ! refl) (no_more !)))) refl
    (handled.handle_fits (block_ptr b o) h fits) $
    -- the address of a box, which is kept
    handled.closes_handle ! (block_ptr b o) h it.alloc value $
    use0 𝓛 (raw (fact 𝓤 (value ≡ value))) (fact_i 𝓤 (value ≡ value) (emp 𝓤) refl) $
    nothing ! $ nothing ! $ fjoin ! $
    returns ! (look_at ! 0 refl) $ free_all ! refl $ keep ! (4 ∷ 0 ∷ 2 ∷ 1 ∷ []) $
    by ! (leaves 𝓛 ended stays says z word (record { at = block_ptr b o; alloc = it.alloc; client = value }) (tt, tt)
    (tt, tt)))))
