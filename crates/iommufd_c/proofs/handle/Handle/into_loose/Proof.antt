-- `into_loose` tests for null: what was kept says which.
use Rattle.std.proofs.Common.{◌≡◌, List, [], ◌∷◌, ◌++◌, refl, sym, ap, ◌∙◌, subst, lit<}
use mir.Val.{Val, vcons, vnil}
use base.Logic.{SProp, ent, emp, id⊢}
use base.Fml.{ftrue}
use prog.Wp.{WpFn}
use types.Kit.{‵, raw, ◌⊛◌, at_ret, ◌$◌, ◌∵◌, !, qed, by, move, keep, split, fsplit, fjoin, suffices, use0, use1}
use types.Run.{stop, fld, lit, of_opd, bin, no_more, and_then, first, branches, exec, returns, enter}
use types.ByLocal.{alloc_all, pass_all, free_all, look_at, get, get_in, sets, sets_last, env}
use types.Part.{agg, sub, whole}
use types.Match.{live}
use contract.Monad.{fact, fact_i}
use contract.Running.{tables}
use denote.Exit.{yes}
use denote.RattleType.{RattleType, owns}
use denote.Signature.{types_at, type_at, plain}
use denote.RawPtr.{Ptr, block_ptr, null_ptr, ptr_val, tests_null}
use denote.Steps.{nothing}
use denote.Param.{layout}
use denote.Triple.Walked.{Stays, stay_dropped, walk_of, Goes-dropped}
use Rattle.std.specs.Prelude.{Some, None}
use Rattle.std.proofs.VecSteps.Shapes.{after}
use Rattle.std.proofs.cell.Inside.{Good}
use Rattle.std.proofs.ResultValues.{and_tt}
use Rattle.std.proofs.option.Made.{Some-of, none_of}
use Rattle.std.proofs.raw_atomic.Walks.{proved_at, leaves}
use Rattle.std.specs.contracts.impls.GlobalAllocator.TheImpl.{ghosts}
use Rattle.iommufd_c.proofs.Handled as handled
use Rattle.iommufd_c.proofs.Loosened as loosened
use Rattle.iommufd_c.proofs.Words.{pair, ptr_fits}
use Rattle.iommufd_c.specs.contracts.handle.Handle.into_loose.{ended, clauses}
use Rattle.iommufd_c.specs.contracts.handle.Handle.into_loose.Key.{name as #self}
use Rattle.iommufd_c.proofs.handle.Handle.into_loose.Statement.{statement}
use Rattle.iommufd_c.proofs.handle.Handle.into_loose.Code as code

pub into_loose_spec : {M : Type 1} → statement M
into_loose_spec 𝓤 𝓛 𝓜 𝓡 wired =
    let Loose : RattleType = loosened.Loose handled.V handled.Z handled.zs ghosts in
    let self = plain (λ _. handled.H) in
    let body = code.function in
    let says = clauses 𝓛 𝓜.mem 𝓡.returns in
    let stays : Stays ended.signature.params ended.kept = (stay_dropped self yes, tt) in
    let machine = tables 𝓤 𝓛.H 𝓜 𝓡 𝓡.env in
    proved_at 𝓛 ended stays says 𝓜 𝓡 (Goes-dropped 𝓛 0 self yes (λ κs x f. refl), tt) #self body
    (code.unfolded 𝓤 𝓛.H 𝓜 𝓡 wired) (λ z are.
    let it = z.0.3.0 in
    let Post : Val → SProp 𝓤 = (walk_of 𝓛 ended stays says).post z in
    let Runs : List Val → SProp 𝓤 = λ words. WpFn 𝓤 𝓛.H machine.C machine.Λ body words Post in
    let owned = ‵ (owns (types_at ended.signature.params z.0.0) z.0.3 z.0.4) in
    let Out : RattleType = type_at ended.signature.result z.0.0 in
    qed 𝓛 ((‵ ftrue ⊛ owned) ∷ raw ((says z.0.0 z.0.3).requires z.1) ∷ []) ∵
    split ! $ move ! (1 ∷ []) $ fsplit ! $ handled.opens_handle ! it z.0.4.0 (λ h words fits.
    let word : Ptr → Val = λ p. pair (ptr_val p) h in
    let at : (p : Ptr) → it.at ≡ p → ent 𝓤 (Runs (word p ∷ [])) (Runs (z.0.4.0 ++ [])) =
    λ p is. subst (λ (us : List Val). ent 𝓤 (Runs (word p ∷ [])) (Runs us))
    (sym (λ i. (words ∙ ap (λ (q : Ptr). word q ∷ []) is) i ++ [])) (id⊢ 𝓤 (Runs (word p ∷ []))) in
    handled.either_kept it.alloc ! it.at it.client
    -- closed: null is tested, and None is answered
    (λ is shut. suffices ! (Runs (word null_ptr ∷ [])) (at null_ptr is) $
    enter ! machine.C machine.Λ body (word null_ptr ∷ []) Post $ alloc_all ! (λ l.
    pass_all ! refl (handled.handle_fits null_ptr h fits, tt) $ let here = env body.locals l in
    sets ! (of_opd ! (get_in ! (fld ! refl (stop !)) (sub ! 0 refl (whole !)))) refl (ptr_fits null_ptr) $
    sets ! (of_opd ! (get_in ! (fld ! refl (stop !)) (sub ! 1 refl (whole !)))) refl fits $
    sets ! (bin ! (get ! refl) (lit ! tt) tt) refl (tt, tt) $ first ! $ branches ! (get ! refl)
    (λ _. sets_last ! (agg ! (and_then ! (lit ! tt) (no_more !))) refl (tt, (record { fits = lit< tt }, tt)) $
    exec ! machine.C machine.Λ here (after 4 body.body) (at_ret here Post) $
    sets ! (of_opd ! (get ! refl)) refl (tt, (record { fits = lit< tt }, tt)) $
    use0 𝓛 (‵ (Out.own_val None (live 0 vnil ∷ []))) (none_of 𝓛 Loose) $
    use0 𝓛 (raw (fact 𝓤 (it.client ≡ None))) (fact_i 𝓤 (it.client ≡ None) (emp 𝓤) shut) $
    nothing ! $ nothing ! $ fjoin ! $
    returns ! (look_at ! 0 refl) $ free_all ! refl $ keep ! (5 ∷ 0 ∷ 2 ∷ 1 ∷ []) $
    by ! (leaves 𝓛 ended stays says z (live 0 vnil) None (tt, tt) (tt, tt))) (λ wrong. absurd wrong)))
    -- open: an address isn't null, and what it owns is answered
    (λ b o x is kept ok.
    let made : Val = word (block_ptr b o) in
    let typed = loosened.word_fits handled.V handled.Z handled.zs ghosts b o h fits in
    let out : Val = live 1 (vcons made vnil) in
    let loose : Loose.Denot = record { at = block_ptr b o; alloc = it.alloc; value = x } in
    let good : Good (layout Out) out = (and_tt _ typed.0, (record { fits = lit< tt }, (typed.1, tt))) in
    suffices ! (Runs (made ∷ [])) (at (block_ptr b o) is) $
    enter ! machine.C machine.Λ body (made ∷ []) Post $ alloc_all ! (λ l.
    pass_all ! refl (handled.handle_fits (block_ptr b o) h fits, tt) $ let here = env body.locals l in
    sets ! (of_opd ! (get_in ! (fld ! refl (stop !)) (sub ! 0 refl (whole !)))) refl (tt, tt) $
    sets ! (of_opd ! (get_in ! (fld ! refl (stop !)) (sub ! 1 refl (whole !)))) refl fits $
    sets ! (bin ! (get ! refl) (lit ! tt) (tests_null (block_ptr b o) ok)) refl (tt, tt) $
    first ! $ branches ! (get ! refl) (λ wrong. absurd wrong) (λ _.
    sets ! (of_opd ! (get ! refl)) refl (tt, tt) $
    sets ! (agg ! (and_then ! (get ! refl) (and_then ! (get ! refl) (no_more !)))) refl typed $
    sets_last ! (agg ! (and_then ! (lit ! tt) (and_then ! (get ! refl) (no_more !)))) refl good $
    exec ! machine.C machine.Λ here (after 4 body.body) (at_ret here Post) $
    sets ! (of_opd ! (get ! refl)) refl good $
    loosened.closes_loose handled.V handled.Z handled.zs ghosts ! b o h it.alloc x $
    use1 𝓛 (‵ (Out.own_val (Some loose) (out ∷ []))) (Some-of 𝓛 Loose loose made) $
    use0 𝓛 (raw (fact 𝓤 (it.client ≡ Some x))) (fact_i 𝓤 (it.client ≡ Some x) (emp 𝓤) kept) $
    nothing ! $ nothing ! $ fjoin ! $
    returns ! (look_at ! 0 refl) $ free_all ! refl $ keep ! (4 ∷ 0 ∷ 2 ∷ 1 ∷ []) $
    by ! (leaves 𝓛 ended stays says z out (Some loose) (tt, tt) (tt, tt)))))))
