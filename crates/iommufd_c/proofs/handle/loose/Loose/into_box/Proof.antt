-- `into_box`: address, allocator and the right to free, handed to `Box::from_raw`, are the box that they came from.
use Rattle.std.proofs.Common.{◌≡◌, List, [], ◌∷◌, ◌++◌, refl, sym, ap, subst}
use mir.Syntax.{a_type, dcons, dnil}
use mir.Val.{Val, vptr}
use mir.MapTy.{inst_fn}
use base.Logic.{SProp, ent, id⊢}
use base.Fml.{ftrue, flft}
use prog.Wp.{WpFn}
use types.Kit.{‵, raw, ◌⊛◌, some, later, at_ret, ◌$◌, ◌∵◌, !, qed, by, move, keep, drop, split, split3, join, fsplit}
use types.Kit.{fjoin, pick, suffices, use1, await, rewrite, feq_i}
use types.Run.{stop, fld, of_opd, no_more, and_then, first, blocks, exec, returns, enter}
use types.ByLocal.{alloc_all, pass_all, free_all, look_at, get, get_in, sets, lands_last, env}
use types.Part.{sub, whole}
use contract.Monad.{fact}
use contract.BorrowLft.{◌⊑◌}
use contract.Running.{tables}
use denote.Exit.{no}
use denote.RattleType.{RattleType, owns}
use denote.Signature.{types_at, plain}
use denote.RawPtr.{block_ptr}
use denote.Steps.{nothing, only}
use denote.Param.{param, layout, bounded}
use denote.Param.Laws.{param_laws}
use denote.Triple.Clauses.{Lasts, lasts}
use denote.Triple.Spec.{triple_of}
use denote.Triple.Table.{framed}
use denote.Triple.Call.{calls_at_last}
use denote.Triple.Walked.{Stays, stay_dropped, walk_of}
use Rattle.std.proofs.alloc.Calls.{Goes-blank}
use Rattle.std.proofs.VecSteps.Shapes.{after}
use Rattle.std.proofs.cell.Inside.{Good}
use Rattle.std.proofs.BoxSteps.Form as box
use Rattle.std.proofs.BoxSteps.Steps.{box_out, box_in}
use Rattle.std.proofs.raw_atomic.Walks.{proved_at, leaves}
use Rattle.std.specs.contracts.boxed.Box.from_raw as from_raw
use Rattle.std.proofs.boxed.Box.from_raw.Met.{met}
use Rattle.iommufd_c.proofs.Words.{pair}
use Rattle.iommufd_c.proofs.Loosened.{Loose, opens_loose, word_fits}
use Rattle.iommufd_c.specs.contracts.handle.loose.Loose.into_box.{ended, clauses}
use Rattle.iommufd_c.specs.contracts.handle.loose.Loose.into_box.Key.{name as #self}
use Rattle.iommufd_c.proofs.handle.loose.Loose.into_box.Statement.{statement}
use Rattle.iommufd_c.proofs.handle.loose.Loose.into_box.Code as code

pub into_box_spec : {M : Type 1} → statement M
into_box_spec 𝓤 𝓛 𝓜 𝓡 wired T A L LA g d dx dd allocator glue glued =
    -- the types, the contract and the code
    let V : RattleType = param 0 T in
    let Z : RattleType = param 1 A in
    let zs = param_laws 1 A LA in
    let self = plain (λ _. Loose V Z zs g) in
    let form : box.Bx = record { row = T; laws = L; al = record { row = A; laws = LA; g = g; d = d; drops = dd } } in
    let Boxed : RattleType = box.B form in
    let types = bounded (a_type ∷ a_type ∷ []) (T, (A, tt)) (dcons d (dcons dx (dcons dd dnil))) in
    let body = inst_fn types code.function in
    let given = ended T A g d dx dd in
    let says = clauses T A g d dx dd 𝓛 𝓜.mem 𝓡.returns in
    let stays : Stays given.signature.params given.kept = (stay_dropped self no, tt) in
    let machine = tables 𝓤 𝓛.H 𝓜 𝓡 𝓡.env in
    let callee = triple_of 𝓛 (from_raw.signature T A g d dd) (from_raw.spec T A g d dd 𝓛 𝓜.mem 𝓡.returns) in
    proved_at 𝓛 given stays says 𝓜 𝓡 (Goes-blank 𝓛 2 self no (λ κs x f. tt), tt) (#self types) body
    (code.unfolded 𝓤 𝓛.H 𝓜 𝓡 wired (T, (A, tt)) d dx dd) (λ z are.
    let κs = z.0.0 in
    let qs = z.0.1 in
    let it = z.0.3.0 in
    let Post : Val → SProp 𝓤 = (walk_of 𝓛 given stays says).post z in
    let Runs : List Val → SProp 𝓤 = λ words. WpFn 𝓤 𝓛.H machine.C machine.Λ body words Post in
    let alive = ‵ (flft κs.0 qs.0) ⊛ ‵ (flft κs.1.0 qs.1.0) ⊛ ‵ ftrue in
    let owned = ‵ (owns (types_at given.signature.params κs) z.0.3 z.0.4) in
    qed 𝓛 ((alive ⊛ owned) ∷ raw ((says κs z.0.3).requires z.1) ∷ []) ∵
    split ! $ move ! (1 ∷ []) $ fsplit ! $ opens_loose V Z zs g ! it z.0.4.0 (λ b o heap is_at words fits.
    let word : Val = pair (vptr b o) heap in
    let fits_so = word_fits V Z zs g b o heap fits in
    let args : callee.Ghost =
    ((κs, qs, tt, (it.alloc, (block_ptr b o, tt)), (heap ∷ [], (vptr b o ∷ [], tt))), it.value) in
    -- what `from_raw` asks for: the lifetimes, the allocator, the pointer, and the box's memory
    move ! (4 ∷ []) $
    use1 𝓛 (raw (fact 𝓤 (κs.0 ⊑ T.lives)) ⊛ raw (fact 𝓤 (κs.1.0 ⊑ A.lives)) ⊛ ‵ ftrue) (id⊢ 𝓤 _) $
    split3 ! $ move ! (2 ∷ []) $ drop ! $ move ! (1 ∷ 2 ∷ []) $ join ! $ move ! (1 ∷ 0 ∷ []) $ join ! $
    move ! (2 ∷ []) $ feq_i ! (List Val) (vptr b o ∷ []) (vptr b o ∷ []) refl $
    fjoin ! $ move ! (2 ∷ 0 ∷ []) $ fjoin ! $ move ! (2 ∷ 0 ∷ []) $ join ! $ join ! $
    use1 𝓛 (raw (callee.pre args)) (id⊢ 𝓤 _) $
    suffices ! (Runs (word ∷ [])) (subst (λ (us : List Val). ent 𝓤 (Runs (word ∷ [])) (Runs us))
    (sym (λ i. words i ++ [])) (id⊢ 𝓤 (Runs (word ∷ [])))) $
    -- the two fields, and the call in its block
    enter ! machine.C machine.Λ body (word ∷ []) Post $ alloc_all ! (λ l. pass_all ! refl (fits_so, tt) $
    sets ! (of_opd ! (get_in ! (fld ! refl (stop !)) (sub ! 0 refl (whole !)))) refl (tt, tt) $
    sets ! (of_opd ! (get_in ! (fld ! refl (stop !)) (sub ! 1 refl (whole !)))) refl fits $
    first ! $ blocks ! $ sets ! (of_opd ! (get ! refl)) refl fits $
    calls_at_last ! (framed 𝓤 𝓛.H 𝓜 machine) callee
    (met 𝓤 𝓛 𝓜 𝓡 (code.calls-std::boxed::Box::from_raw 𝓡.env wired) T A L LA g d dd allocator glued) args
    (and_then ! (get ! refl) (and_then ! (get ! refl) (no_more !))) (λ out.
    let last = from_raw.ended T A g d dd in
    use1 𝓛 (later (some (λ (r : Boxed.Denot). (alive ⊛ ‵ (Boxed.own_val r (out ∷ [])))
    ⊛ some (λ (ls : Lasts last κs args.0.3). ‵ (lasts last κs args.0.3 ls)
    ⊛ (raw (fact 𝓤 (r.value ≡ it.value)) ⊛ raw (fact 𝓤 (r.alloc ≡ it.alloc))))))) (id⊢ 𝓤 (callee.post args out)) $
    await ! tt $ pick ! (λ r. split ! $ move ! (1 ∷ []) $ pick ! (λ _.
    split3 ! $ drop ! $ move ! (2 ∷ []) $ split ! $ move ! (1 ∷ []) $
    -- the box that came back, as it lies in its local
    box_out form ! r (out ∷ []) (λ b' o' heap' is_at' words' fits'. box_in form ! r b' o' r.value is_at' refl $
    rewrite ! 0 (λ (us : List Val). ‵ (Boxed.own_val r us)) (sym words') refl $
    let good : Good (layout Boxed) out =
    subst (Good (layout Boxed)) (sym (ap only words')) (word_fits V Z zs g b' o' heap' fits') in
    lands_last ! refl good $ exec ! machine.C machine.Λ (env body.locals l) (after 3 body.body)
    (at_ret (env body.locals l) Post) $
    sets ! (of_opd ! (get ! refl)) refl good $ nothing ! $ nothing ! $ fjoin ! $
    returns ! (look_at ! 0 refl) $ free_all ! refl $ keep ! (2 ∷ 0 ∷ 1 ∷ 3 ∷ []) $
    by ! (leaves 𝓛 given stays says z out r ((tt, (tt, tt)), tt) (tt, tt)))))))))
