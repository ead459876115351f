-- `try_write` hands its pass on to the pass's own `try_write`, whose contract is its own with the pass in front. The
-- check makes no proof of that by itself, since the pass, which ends as the guard says, isn't the first parameter; so
-- this one follows the three statements of the code.
use Rattle.atomic_table.proofs.Names.{[], ◌∷◌, refl, a_type, dcons, dnil, named, Val, inst_fn, ‵, raw, ◌⊛◌, some, later}
use Rattle.atomic_table.proofs.Names.{◌$◌, ◌∵◌, !, qed, by, move, drop, split, join, fsplit, fjoin, use1, await, pick}
use Rattle.atomic_table.proofs.Names.{id⊢, stop, addr, no_more, and_then, returns, enter, alloc_all, pass_all, free_all}
use Rattle.atomic_table.proofs.Names.{look_at, nothing, get, through, sets, lands_as, tables, yes, no, RattleType, owns}
use Rattle.atomic_table.proofs.Names.{types_at, plain, param, bounded, Stays, stay_dropped, walk_of, Goes-dropped}
use Rattle.atomic_table.proofs.Names.{Goes-spent_ref, alive, type_at, Is, shows, peeks, RefOf, RefMutOf, shr_vals}
use Rattle.atomic_table.proofs.Names.{shr_Tells, mut_vals, mut_Tells, calls_at, triple_of}
use denote.Triple.Table.{framed}
use denote.Signature.{named_lft}
use denote.Triple.Clauses.{Lasts, lasts, at_exit}
use denote.Triple.Entry.{Args}
use denote.Param.Laws.{param_laws}
use Rattle.std.proofs.result.Result.TheLaws.{the_row_laws}
use Rattle.lane_lock.proofs.write_guard.WriteGuard.TheLaws.{the_row_laws as guard_laws}
use Rattle.lane_lock.proofs.refusal.Busy.TheLaws.{the_row_laws as busy_laws}
use Rattle.atomic_table.proofs.Walks.{proved, leaves}
use Rattle.lane_lock.specs.contracts.lock.LaneLock as lock
use Rattle.lane_lock.specs.contracts.pass.Pass as pass
use Rattle.lane_lock.specs.contracts.lock.LaneLock.try_write as f
use Rattle.lane_lock.specs.contracts.lock.LaneLock.try_write.Key.{name as #self}
use Rattle.lane_lock.specs.contracts.pass.Pass.try_write as g
use Rattle.lane_lock.proofs.pass.Pass.try_write.Met.{met}
use Rattle.lane_lock.proofs.lock.LaneLock.try_write.Statement.{statement}
use Rattle.lane_lock.proofs.lock.LaneLock.try_write.Code as code

pub try_write_spec : {M : Type 1} → statement M
try_write_spec 𝓤 𝓛 𝓜 𝓡 wired K A S E lK lA lS lE gh d1 d2 m1 m2 =
    let H = 𝓛.H in let 𝓣 = tables 𝓤 H 𝓜 𝓡 𝓡.env in
    let LR : RattleType = lock.the_row (param 0 K) (param 1 A) (param 2 S) (param 3 E) gh in let PR : RattleType =
    pass.the_row (param 0 K) (param 1 A) (param 2 S) (param 3 E) gh in
    let c = f.clauses K A S E gh d1 d2 𝓛 𝓜.mem 𝓡.returns in let En = f.ended K A S E gh d1 d2 in
    let self =
    RefOf (0 ∷ []) tt (plain (λ _. LR)) (λ _. tt) in let lent = RefMutOf (0 ∷ []) tt (plain (λ _. PR)) (λ _. tt) in
    let hs : Stays En.signature.params En.kept = (stay_dropped self yes, (stay_dropped lent no, tt)) in
    let inst = bounded (a_type ∷ a_type ∷ a_type ∷ a_type ∷ []) (K, (A, (S, (E, tt)))) (dcons d1 (dcons d2 dnil)) in
    let fn = inst_fn inst code.function in
    proved 𝓛 En hs c 𝓜 𝓡 (
      Goes-dropped 𝓛 5 self yes (λ κs x w. refl),
      (Goes-spent_ref 𝓛 5 (0 ∷ []) tt (plain (λ _. PR)), tt),
    ) (#self inst) fn (code.unfolded 𝓤 H 𝓜 𝓡 wired (
      K,
      (A, (S, (E, tt))),
    ) d1 d2)
    (λ κs. (shr_vals, (mut_vals, tt))) (λ κs. (shr_Tells (named 0) κs.0 LR, (mut_Tells (named 0) κs.0 PR, tt)))
    (λ κs qs bounds a gg are.
    let y : (walk_of 𝓛 En hs c).Ghost = ((κs, qs, bounds, a, (shr_vals a.0, (mut_vals a.1.0, tt))), gg) in
    let G = triple_of 𝓛 (g.signature K A S E gh d1 d2) (g.spec K A S E gh d1 d2 𝓛 𝓜.mem 𝓡.returns) in
    let z : G.Ghost = ((κs, qs, bounds, (a.1.0, (a.0, tt)), (mut_vals a.1.0, (shr_vals a.0, tt))), tt) in
    let Eg = g.ended K A S E gh d1 d2 in let cg =
    g.clauses K A S E gh d1 d2 𝓛 𝓜.mem 𝓡.returns in let b : Args Eg.signature κs = (a.1.0, (a.0, tt)) in
    let RT : RattleType = type_at En.signature.result κs in
    let typed = λ (r : RT.Denot) (v : Val) (is : Is RT r (v ∷ [])).
    ((the_row_laws _ _ (guard_laws (named_lft 5 0 tt κs) _ _ _ _ gh (param_laws 0 K lK) (param_laws 1 A lA)
    (param_laws 2 S lS) (param_laws 3 E lE)) busy_laws).lawful 𝓛).typed r (v ∷ []) is in
    qed 𝓛 ((raw (alive 𝓛 En.signature κs qs) ⊛ ‵ (owns (types_at En.signature.params κs) a y.0.4))
    ∷ raw ((c κs a).requires gg) ∷ []) ∵
    split ! $ move ! (1 ∷ []) $ fsplit ! $ move ! (1 ∷ []) $ fsplit ! $ move ! (2 ∷ 1 ∷ []) $ fjoin ! $ move !
    (1 ∷ 0 ∷ []) $ fjoin ! $ move ! (1 ∷ 0 ∷ []) $ join ! $ join ! $
    use1 𝓛 (raw (G.pre z)) (id⊢ 𝓤 _) $
    enter ! _ _ _ _ _ $ alloc_all ! (λ l. pass_all ! refl ((tt, tt), ((tt, tt), tt)) $
    sets ! (addr ! (through ! refl (stop !))) refl (tt, tt) $
    calls_at ! (framed 𝓤 H 𝓜 𝓣) G (met 𝓤 𝓛 𝓜 𝓡 (code.calls-lane_lock::pass::Pass::try_write 𝓡.env wired) K A S E lK lA
    lS lE gh d1 d2 m1 m2) z (and_then ! (get ! refl) (and_then ! (get ! refl) (no_more !))) (λ v.
    use1 𝓛 (later (some (λ (r : RT.Denot). (raw (alive 𝓛 Eg.signature κs qs) ⊛ ‵ (RT.own_val r (v ∷ []))) ⊛ some
    (λ (ws : Lasts Eg κs b). ‵ (lasts Eg κs b ws) ⊛ raw ((cg κs b).ensures tt r (at_exit Eg κs b ws))))))
    (id⊢ 𝓤 _) $
    await ! tt $ pick ! (λ r. split ! $ split ! $ move ! (1 ∷ []) $ peeks ! RT (Is RT) (shows 𝓛 RT) r (v ∷ [])
    (λ is. lands_as ! refl refl (typed r v is).0 $
    move ! (2 ∷ []) $ pick ! (λ ws. split ! $ drop ! $
    returns ! (look_at ! 0 refl) $ free_all ! refl $
    nothing ! $ nothing ! $ fjoin ! $ nothing ! $ fjoin ! $ move ! (3 ∷ 0 ∷ 2 ∷ 1 ∷ []) $ by !
    (leaves 𝓛 En hs c y v r (tt, (tt, tt)) (tt, (tt, tt)))))))))
