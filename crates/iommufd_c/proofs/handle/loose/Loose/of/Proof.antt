-- `of`: what `Box::into_raw_with_allocator` gives of a box is what a loose one owns.
use Rattle.std.proofs.Common.{◌≡◌, List, [], ◌∷◌, ◌++◌, refl, sym, ap, ◌∙◌, subst}
use mir.Syntax.{a_type, dcons, dnil}
use mir.Raw.{raw as bare}
use mir.Val.{Val, vptr, vstruct, of_list}
use mir.MapTy.{inst_fn}
use base.Logic.{SProp, ent, emp, never, id⊢, fst∗}
use base.Fml.{ftrue, fsep, flft}
use prog.Wp.{WpFn}
use types.Logic.{sem}
use types.Kit.{‵, raw, ◌⊛◌, some, later, ◌$◌, ◌∵◌, !, qed, by, move, keep, drop, split, split3, join, fsplit, fjoin}
use types.Kit.{fpick, pick, suffices, use0, use1, await, rewrite, feq_l}
use types.Run.{stop, fld, of_opd, no_more, and_then, returns, enter}
use types.ByLocal.{alloc_all, pass_all, free_all, look_at, get, get_in, sets, lands_as}
use types.Part.{agg, sub, whole}
use contract.Monad.{fact, fact_i}
use contract.Running.{tables}
use denote.Exit.{no}
use denote.RattleType.{RattleType, owns}
use denote.Signature.{types_at, plain}
use denote.Builtin.{RawPtr}
use denote.RawPtr.{Ptr, block_ptr, null_ptr, ptr_val, in_a_block}
use denote.Steps.{nothing, only, heard}
use denote.Param.{param, layout, bounded}
use denote.Param.Laws.{param_laws}
use denote.Struct.Tuple.{Tuple}
use denote.Triple.Spec.{triple_of}
use denote.Triple.Table.{framed}
use denote.Triple.Call.{calls_at}
use denote.Triple.Walked.{Stays, stay_dropped, walk_of}
use Rattle.std.proofs.alloc.Calls.{Goes-blank, handle_tells}
use Rattle.std.specs.Box.Ownership.{box_owns}
use Rattle.std.proofs.BoxSteps.Form as box
use Rattle.std.proofs.BoxSteps.Steps.{box_out, box_in}
use Rattle.std.proofs.raw_atomic.Walks.{proved_at, leaves}
use Rattle.std.specs.contracts.boxed.Box.into_raw_with_allocator as into_raw
use Rattle.std.proofs.boxed.Box.into_raw_with_allocator.Met.{met}
use Rattle.iommufd_c.proofs.Words.{pair}
use Rattle.iommufd_c.proofs.Loosened.{closes_loose, word_fits}
use Rattle.iommufd_c.specs.contracts.handle.loose.Loose.of.{ended, clauses}
use Rattle.iommufd_c.specs.contracts.handle.loose.Loose.of.Key.{name as #self}
use Rattle.iommufd_c.proofs.handle.loose.Loose.of.Statement.{statement}
use Rattle.iommufd_c.proofs.handle.loose.Loose.of.Code as code

pub of_spec : {M : Type 1} → statement M
of_spec 𝓤 𝓛 𝓜 𝓡 wired T A L LA g d dx dd allocator glue glued =
    -- the types, the contract and the code
    let V : RattleType = param 0 T in
    let Z : RattleType = param 1 A in
    let zs = param_laws 1 A LA in
    let form : box.Bx = record { row = T; laws = L; al = record { row = A; laws = LA; g = g; d = d; drops = dd } } in
    let boxed = plain (λ _. box.B form) in
    let types = bounded (a_type ∷ a_type ∷ []) (T, (A, tt)) (dcons d (dcons dx (dcons dd dnil))) in
    let body = inst_fn types code.function in
    let given = ended T A g d dx dd in
    let says = clauses T A g d dx dd 𝓛 𝓜.mem 𝓡.returns in
    let stays : Stays given.signature.params given.kept = (stay_dropped boxed no, tt) in
    let machine = tables 𝓤 𝓛.H 𝓜 𝓡 𝓡.env in
    let callee = triple_of 𝓛 (into_raw.signature T A g d dd dx) (into_raw.spec T A g d dd dx 𝓛 𝓜.mem 𝓡.returns) in
    proved_at 𝓛 given stays says 𝓜 𝓡 (Goes-blank 𝓛 2 boxed no (λ κs x f. tt), tt) (#self types) body
    (code.unfolded 𝓤 𝓛.H 𝓜 𝓡 wired (T, (A, tt)) d dx dd) (λ z are.
    let κs = z.0.0 in
    let qs = z.0.1 in
    let whole_box = z.0.3.0 in
    let heap_of = whole_box.alloc in
    let Post : Val → SProp 𝓤 = (walk_of 𝓛 given stays says).post z in
    let Runs : List Val → SProp 𝓤 = λ words. WpFn 𝓤 𝓛.H machine.C machine.Λ body words Post in
    let alive = ‵ (flft κs.0 qs.0) ⊛ ‵ (flft κs.1.0 qs.1.0) ⊛ ‵ ftrue in
    let owned = ‵ (owns (types_at given.signature.params κs) z.0.3 z.0.4) in
    qed 𝓛 ((alive ⊛ owned) ∷ raw ((says κs z.0.3).requires z.1) ∷ []) ∵
    split ! $ move ! (1 ∷ []) $ fsplit ! $ box_out form ! whole_box z.0.4.0 (λ b o heap is_at words fits.
    -- the call takes the whole box
    box_in form ! whole_box b o whole_box.value is_at refl $
    let word : Val = box.word form heap b o in
    let fits_so = word_fits V Z zs g b o heap fits in
    let args : callee.Ghost = ((κs, qs, tt, (whole_box, tt), (word ∷ [], tt)), tt) in
    let Pair = Tuple (RawPtr ∷ Z ∷ []) in
    fjoin ! $ move ! (1 ∷ 0 ∷ []) $ join ! $ join ! $ use1 𝓛 (raw (callee.pre args)) (id⊢ 𝓤 _) $
    suffices ! (Runs (word ∷ [])) (subst (λ (us : List Val). ent 𝓤 (Runs (word ∷ [])) (Runs us))
    (sym (λ i. words i ++ [])) (id⊢ 𝓤 (Runs (word ∷ [])))) $
    enter ! machine.C machine.Λ body (word ∷ []) Post $ alloc_all ! (λ l. pass_all ! refl (fits_so, tt) $
    sets ! (of_opd ! (get ! refl)) refl fits_so $
    calls_at ! (framed 𝓤 𝓛.H 𝓜 machine) callee
    (met 𝓤 𝓛 𝓜 𝓡 (code.calls-std::boxed::Box::into_raw_with_allocator 𝓡.env wired) T A L LA g d dd dx allocator glued
    glue) args (and_then ! (get ! refl) (no_more !)) (λ out.
    let No : Type 0 = (Unit {0} × (Unit {0} × Unit {0})) × Unit {0} in
    use1 𝓛 (later (some (λ (r : Ptr × A.Denot). (alive ⊛ ‵ (Pair.own_val r (out ∷ [])))
    ⊛ some (λ (_ : No). ‵ (fsep (fsep ftrue (fsep ftrue ftrue)) ftrue)
    ⊛ (raw (fact 𝓤 (r.1 ≡ heap_of)) ⊛ ‵ (box_owns (g.dealloc_token heap_of) V r.0 whole_box.value))))))
    (id⊢ 𝓤 _) $
    -- a pointer into a block, and the allocator of the box
    await ! tt $ pick ! (λ r. split ! $ move ! (1 ∷ []) $ pick ! (λ _.
    split3 ! $ drop ! $ heard ! (r.1 ≡ heap_of) (λ same_heap.
    in_a_block ! r.0 (λ p. box_owns (g.dealloc_token heap_of) V p whole_box.value)
    (fst∗ 𝓤 (never 𝓤) (sem 𝓛 (g.dealloc_token heap_of (bare (layout T)) null_ptr))) (λ b' o' is_at'.
    move ! (1 ∷ []) $ split ! $ move ! (1 ∷ []) $ fpick ! (λ parts.
    fsplit ! $ feq_l ! (λ of_parts. fsplit ! $ feq_l ! (λ of_ptr. fsplit ! $
    rewrite ! 0 (λ (s : A.Denot). ‵ (A.own_val s parts.1.0)) same_heap refl $
    handle_tells form.al ! heap_of parts.1.0 (λ heap' of_heap fits'.
    let good = word_fits V Z zs g b' o' heap' fits' in
    let word' = of_parts ∙ (λ j. vstruct (of_list ((of_ptr ∙ ap (λ (p : Ptr). ptr_val p ∷ []) is_at') j
    ++ (of_heap j ++ []))) ∷ []) in
    lands_as ! (ap only word') refl good $
    sets ! (of_opd ! (get_in ! (fld ! refl (stop !)) (sub ! 0 refl (whole !)))) refl (tt, tt) $
    sets ! (of_opd ! (get_in ! (fld ! refl (stop !)) (sub ! 1 refl (whole !)))) refl fits' $
    sets ! (of_opd ! (get ! refl)) refl fits' $
    sets ! (agg ! (and_then ! (get ! refl) (and_then ! (get ! refl) (no_more !)))) refl good $
    -- these are the fields of the loose one
    move ! (3 ∷ 0 ∷ []) $ closes_loose V Z zs g ! b' o' heap' heap_of whole_box.value $
    let is_value = whole_box.value ≡ whole_box.value in
    use0 𝓛 (raw (fact 𝓤 is_value)) (fact_i 𝓤 is_value (emp 𝓤) refl) $ nothing ! $ nothing ! $ fjoin ! $
    returns ! (look_at ! 0 refl) $ free_all ! refl $ keep ! (4 ∷ 0 ∷ 2 ∷ 1 ∷ []) $
    by ! (leaves 𝓛 given stays says z (pair (vptr b' o') heap')
    (record { at = block_ptr b' o'; alloc = heap_of; value = whole_box.value }) ((tt, (tt, tt)), tt)
    (tt, tt))))))))))))))
