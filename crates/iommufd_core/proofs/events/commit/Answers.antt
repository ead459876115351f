use Rattle.std.proofs.Common.{◌≡◌, None, not, [], refl, ap, sym, subst}
use Rattle.iofd_refusals.specs.Checks.{checks}
use Rattle.iofd_rows.proofs.Bools.{both_true, not_false}
use Rattle.iofd_words.specs.FirstTrue.{first_true}
use Rattle.iofd_words.specs.View.{view}
use Rattle.iofd_words.specs.declared.event.Event.{Event}
use Rattle.iommufd_core.proofs.Answering.{granted_as, granted_at, granted_via, if_ok, lack_as, none_chosen}
use Rattle.iommufd_core.proofs.Answering.{none_moved, on_both, on_err, takes_as, tells_none}
use Rattle.server_state.proofs.Errors.{on_err_same}
use Rattle.server_state.specs.Step.{MovingSteps}
use Rattle.iommufd_core.proofs.events.commit.Goals as goal

-- ---- events that move no frames of tables

pub returns-in-IoasAlloc-clause-ok : goal.returns-in-IoasAlloc-clause-ok
returns-in-IoasAlloc-clause-ok g c = if_ok c.commit.result _ _
    (λ reply steps. subst (λ (e : Event _). MovingSteps c.args.at e c.args.act.now.via c.args.state.now reply
    c.args.taken.now.items c.args.given.now.items c.commit.new.state) (sym c.in-IoasAlloc.is)
    (none_chosen c.args.at _ c.args.act.now.via c.args.state.now c.commit.new.state reply c.args.taken.now.items
    c.args.given.now.items c.requires.none_taken c.requires.none_given (λ w. tt) (λ w. tt) (λ left t. refl)
    (steps c.args.at) (λ w. tt)))
    c.commit.ensures.ok

pub returns-in-IoasAlloc-clause-err : goal.returns-in-IoasAlloc-clause-err
returns-in-IoasAlloc-clause-err g c =
    on_err c.commit.result _ _ (λ same w tidy shows. same w shows) c.commit.ensures.err

pub returns-in-AllowIovas-clause-ok : goal.returns-in-AllowIovas-clause-ok
returns-in-AllowIovas-clause-ok g c = if_ok c.commit-in-AllowIovas.result _ _
    (λ reply steps. subst (λ (e : Event _). MovingSteps c.args.at e c.args.act.now.via c.args.state.now reply
    c.args.taken.now.items c.args.given.now.items c.commit-in-AllowIovas.new.state) (sym c.in-AllowIovas.is)
    (none_chosen c.args.at _ c.args.act.now.via c.args.state.now c.commit-in-AllowIovas.new.state reply
    c.args.taken.now.items c.args.given.now.items c.requires.none_taken c.requires.none_given (λ w. tt) (λ w. tt) (λ left t. refl) (steps c.args.at) (λ w. tt)))
    c.commit-in-AllowIovas.ensures.ok

pub returns-in-AllowIovas-clause-err : goal.returns-in-AllowIovas-clause-err
returns-in-AllowIovas-clause-err g c =
    on_err c.commit-in-AllowIovas.result _ _ (λ same w tidy shows. same w shows) c.commit-in-AllowIovas.ensures.err

pub returns-in-Bind-clause-ok : goal.returns-in-Bind-clause-ok
returns-in-Bind-clause-ok g c = if_ok c.commit-in-Bind.result _ _
    (λ reply steps. subst (λ (e : Event _). MovingSteps c.args.at e c.args.act.now.via c.args.state.now reply
    c.args.taken.now.items c.args.given.now.items c.commit-in-Bind.new.state) (sym c.in-Bind.is)
    (none_chosen c.args.at _ c.args.act.now.via c.args.state.now c.commit-in-Bind.new.state reply c.args.taken.now.items
    c.args.given.now.items c.requires.none_taken c.requires.none_given (λ w. tt) (λ w. tt) (λ left t. refl)
    (steps c.args.at) (λ w. tt)))
    c.commit-in-Bind.ensures.ok

pub returns-in-AccessCreate-clause-ok : goal.returns-in-AccessCreate-clause-ok
returns-in-AccessCreate-clause-ok g c = if_ok c.commit-in-AccessCreate.result _ _
    (λ reply steps. subst (λ (e : Event _). MovingSteps c.args.at e c.args.act.now.via c.args.state.now reply
    c.args.taken.now.items c.args.given.now.items c.commit-in-AccessCreate.new.state) (sym c.in-AccessCreate.is)
    (none_chosen c.args.at _ c.args.act.now.via c.args.state.now c.commit-in-AccessCreate.new.state reply
    c.args.taken.now.items c.args.given.now.items c.requires.none_taken c.requires.none_given (λ w. tt) (λ w. tt) (λ left t. refl)
    (steps c.args.at) (λ w. tt)))
    c.commit-in-AccessCreate.ensures.ok

pub returns-in-AccessPin-clause-ok : goal.returns-in-AccessPin-clause-ok
returns-in-AccessPin-clause-ok g c = if_ok c.commit-in-AccessPin.result _ _
    (λ reply steps. subst (λ (e : Event _). MovingSteps c.args.at e c.args.act.now.via c.args.state.now reply
    c.args.taken.now.items c.args.given.now.items c.commit-in-AccessPin.new.state) (sym c.in-AccessPin.is)
    (none_chosen c.args.at _ c.args.act.now.via c.args.state.now c.commit-in-AccessPin.new.state reply
    c.args.taken.now.items c.args.given.now.items c.requires.none_taken c.requires.none_given (λ w. tt) (λ w. tt) (λ left t. refl)
    (steps c.args.at) (λ w. tt)))
    c.commit-in-AccessPin.ensures.ok

pub returns-in-Bind-clause-err : goal.returns-in-Bind-clause-err
returns-in-Bind-clause-err g c =
    on_err c.commit-in-Bind.result _ _ (λ same w tidy shows. same w shows) c.commit-in-Bind.ensures.err

pub returns-in-AccessCreate-clause-err : goal.returns-in-AccessCreate-clause-err
returns-in-AccessCreate-clause-err g c =
    on_err c.commit-in-AccessCreate.result _ _ (λ same w tidy shows. same w shows) c.commit-in-AccessCreate.ensures.err

pub returns-in-AccessPin-clause-err : goal.returns-in-AccessPin-clause-err
returns-in-AccessPin-clause-err g c = on_err c.commit-in-AccessPin.result _ _
    (λ same w tidy shows. same c.args.at w tidy shows) c.commit-in-AccessPin.ensures.err

pub returns-in-UserMap-clause-ok : goal.returns-in-UserMap-clause-ok
returns-in-UserMap-clause-ok g c = if_ok c.commit-in-UserMap.result _ _
    (λ reply steps. subst (λ (e : Event _). MovingSteps c.args.at e c.args.act.now.via c.args.state.now reply
    c.args.taken.now.items c.args.given.now.items c.commit-in-UserMap.new.state) (sym c.in-UserMap.is)
    (none_moved c.args.at _ c.args.act.now.via c.args.state.now c.commit-in-UserMap.new.state reply
    c.args.taken.now.items c.args.given.now.items c.requires.none_taken c.requires.none_given (λ w. tt) (λ w. tt) (λ left t. refl) (steps c.args.at c.args.act.now.via)))
    c.commit-in-UserMap.ensures.ok

pub returns-in-UserMap-clause-err : goal.returns-in-UserMap-clause-err
returns-in-UserMap-clause-err g c =
    on_err c.commit-in-UserMap.result _ _ (λ same w tidy shows. same w shows) c.commit-in-UserMap.ensures.err

pub returns-in-DeviceWrite-clause-ok : goal.returns-in-DeviceWrite-clause-ok
returns-in-DeviceWrite-clause-ok g c =
    if_ok c.commit-in-DeviceWrite.result _ _
    (λ reply steps. subst (λ (e : Event _). MovingSteps c.args.at e c.args.act.now.via c.args.state.now reply
    c.args.taken.now.items c.args.given.now.items c.commit-in-DeviceWrite.new.state) (sym c.in-DeviceWrite.is)
    (none_moved c.args.at _ c.args.act.now.via c.args.state.now c.commit-in-DeviceWrite.new.state reply
    c.args.taken.now.items c.args.given.now.items c.requires.none_taken c.requires.none_given (λ w. tt) (λ w. tt)
    (λ left t. refl) (steps c.args.at)))
    c.commit-in-DeviceWrite.ensures.ok

pub returns-in-DeviceWrite-clause-err : goal.returns-in-DeviceWrite-clause-err
returns-in-DeviceWrite-clause-err g c =
    on_err c.commit-in-DeviceWrite.result _ _ (λ same w tidy shows. same w shows) c.commit-in-DeviceWrite.ensures.err

pub returns-in-DirtyEnable-clause-ok : goal.returns-in-DirtyEnable-clause-ok
returns-in-DirtyEnable-clause-ok g c = if_ok c.commit-in-DirtyEnable.result _ _
    (λ reply steps. subst (λ (e : Event _). MovingSteps c.args.at e c.args.act.now.via c.args.state.now reply
    c.args.taken.now.items c.args.given.now.items c.commit-in-DirtyEnable.new.state) (sym c.in-DirtyEnable.is)
    (none_chosen c.args.at _ c.args.act.now.via c.args.state.now c.commit-in-DirtyEnable.new.state reply
    c.args.taken.now.items c.args.given.now.items c.requires.none_taken c.requires.none_given (λ w. tt) (λ w. tt)
    (λ left t. refl) (steps c.args.at) (λ w. tt)))
    c.commit-in-DirtyEnable.ensures.ok

pub returns-in-DirtyEnable-clause-err : goal.returns-in-DirtyEnable-clause-err
returns-in-DirtyEnable-clause-err g c =
    on_err c.commit-in-DirtyEnable.result _ _ (λ same w tidy shows. same w shows) c.commit-in-DirtyEnable.ensures.err

pub returns-in-Map-clause-ok : goal.returns-in-Map-clause-ok
returns-in-Map-clause-ok g c = rw c.requires.none_given (if_ok c.commit-in-Map.result _ _
    (λ reply steps. subst (λ (e : Event _). MovingSteps c.args.at e c.args.act.now.via c.args.state.now reply
    c.commit-in-Map.new.taken.items [] c.commit-in-Map.new.state) (sym c.in-Map.is)
    (steps c.args.act.now.via))
    c.commit-in-Map.ensures.ok)

pub returns-in-Copy-clause-ok : goal.returns-in-Copy-clause-ok
returns-in-Copy-clause-ok g c = rw c.requires.none_given (if_ok c.commit-in-Copy.result _ _
    (λ reply steps. subst (λ (e : Event _). MovingSteps c.args.at e c.args.act.now.via c.args.state.now reply
    c.commit-in-Copy.new.taken.items [] c.commit-in-Copy.new.state) (sym c.in-Copy.is) (steps
    c.args.at c.args.act.now.via))
    c.commit-in-Copy.ensures.ok)

pub returns-in-Copy-clause-err : goal.returns-in-Copy-clause-err
returns-in-Copy-clause-err g c =
    on_err c.commit-in-Copy.result _ _ (λ same w tidy shows. same c.args.at w tidy shows) c.commit-in-Copy.ensures.err

pub returns-in-HwptAlloc-clause-ok : goal.returns-in-HwptAlloc-clause-ok
returns-in-HwptAlloc-clause-ok g c = rw c.requires.none_given (if_ok c.commit-in-HwptAlloc.result _ _
    (λ reply steps. subst (λ (e : Event _). MovingSteps c.args.at e c.args.act.now.via c.args.state.now reply
    c.commit-in-HwptAlloc.new.taken.items [] c.commit-in-HwptAlloc.new.state) (sym c.in-HwptAlloc.is) (steps
    c.args.at c.args.act.now.via))
    c.commit-in-HwptAlloc.ensures.ok)

pub returns-in-HwptAlloc-clause-err : goal.returns-in-HwptAlloc-clause-err
returns-in-HwptAlloc-clause-err g c =
    on_err c.commit-in-HwptAlloc.result _ _ (λ same w tidy shows. same w shows) c.commit-in-HwptAlloc.ensures.err

pub returns-in-Attach-clause-ok : goal.returns-in-Attach-clause-ok
returns-in-Attach-clause-ok g c = rw c.requires.none_given (if_ok c.commit-in-Attach.result _ _
    (λ reply steps. subst (λ (e : Event _). MovingSteps c.args.at e c.args.act.now.via c.args.state.now reply
    c.commit-in-Attach.new.taken.items [] c.commit-in-Attach.new.state) (sym c.in-Attach.is) (steps
    c.args.at c.args.act.now.via))
    c.commit-in-Attach.ensures.ok)

pub returns-in-Attach-clause-err : goal.returns-in-Attach-clause-err
returns-in-Attach-clause-err g c =
    on_err c.commit-in-Attach.result _ _ (λ same w tidy shows. same w shows) c.commit-in-Attach.ensures.err

pub returns-in-Unmap-clause-ok : goal.returns-in-Unmap-clause-ok
returns-in-Unmap-clause-ok g c = rw c.requires.none_taken (if_ok c.commit-in-Unmap.result _ _
    (λ reply steps. subst (λ (e : Event _). MovingSteps c.args.at e c.args.act.now.via c.args.state.now reply []
    c.commit-in-Unmap.new.given.items c.commit-in-Unmap.new.state) (sym c.in-Unmap.is) (steps
    c.args.at c.args.act.now.via))
    c.commit-in-Unmap.ensures.ok)

pub returns-in-Unmap-clause-err : goal.returns-in-Unmap-clause-err
returns-in-Unmap-clause-err g c =
    on_err c.commit-in-Unmap.result _ _ (λ same w tidy shows. same w shows) c.commit-in-Unmap.ensures.err

pub returns-in-Destroy-clause-ok : goal.returns-in-Destroy-clause-ok
returns-in-Destroy-clause-ok g c = rw c.requires.none_taken (if_ok c.commit-in-Destroy.result _ _
    (λ reply steps. subst (λ (e : Event _). MovingSteps c.args.at e c.args.act.now.via c.args.state.now reply []
    c.commit-in-Destroy.new.given.items c.commit-in-Destroy.new.state) (sym c.in-Destroy.is) (steps
    c.args.at c.args.act.now.via))
    c.commit-in-Destroy.ensures.ok)

pub returns-in-Destroy-clause-err : goal.returns-in-Destroy-clause-err
returns-in-Destroy-clause-err g c =
    on_err c.commit-in-Destroy.result _ _ (λ same w tidy shows. same w shows) c.commit-in-Destroy.ensures.err

pub returns-in-Close-clause-ok : goal.returns-in-Close-clause-ok
returns-in-Close-clause-ok g c = rw c.requires.none_taken (if_ok c.commit-in-Close.result _ _
    (λ reply steps. subst (λ (e : Event _). MovingSteps c.args.at e c.args.act.now.via c.args.state.now reply []
    c.commit-in-Close.new.given.items c.commit-in-Close.new.state) (sym c.in-Close.is) (steps
    c.args.at c.args.act.now.via))
    c.commit-in-Close.ensures.ok)

pub returns-in-Close-clause-err : goal.returns-in-Close-clause-err
returns-in-Close-clause-err g c =
    on_err c.commit-in-Close.result _ _ (λ same w tidy shows. same w shows) c.commit-in-Close.ensures.err

pub returns-in-Detach-clause-ok : goal.returns-in-Detach-clause-ok
returns-in-Detach-clause-ok g c = rw c.requires.none_taken (if_ok c.commit-in-Detach.result _ _
    (λ reply steps. subst (λ (e : Event _). MovingSteps c.args.at e c.args.act.now.via c.args.state.now reply []
    c.commit-in-Detach.new.given.items c.commit-in-Detach.new.state) (sym c.in-Detach.is) (steps
    c.args.at c.args.act.now.via))
    c.commit-in-Detach.ensures.ok)

pub returns-in-Detach-clause-err : goal.returns-in-Detach-clause-err
returns-in-Detach-clause-err g c =
    on_err c.commit-in-Detach.result _ _ (λ same w tidy shows. same w shows) c.commit-in-Detach.ensures.err

-- ---- want of memory, where page tables may go

pub returns-in-Unmap-clause-memory : goal.returns-in-Unmap-clause-memory
returns-in-Unmap-clause-memory g c = on_err c.commit-in-Unmap.result _ _
    (takes_as c.args.state.now _ _ c.in-Unmap.is) c.commit-in-Unmap.ensures.memory

pub returns-in-Destroy-clause-memory : goal.returns-in-Destroy-clause-memory
returns-in-Destroy-clause-memory g c = on_err c.commit-in-Destroy.result _ _
    (takes_as c.args.state.now _ _ c.in-Destroy.is) c.commit-in-Destroy.ensures.memory

pub returns-in-Close-clause-memory : goal.returns-in-Close-clause-memory
returns-in-Close-clause-memory g c = on_err c.commit-in-Close.result _ _
    (takes_as c.args.state.now _ _ c.in-Close.is) c.commit-in-Close.ensures.memory

-- ---- where a page may be marked

pub returns-in-DeviceWrite-clause-memory : goal.returns-in-DeviceWrite-clause-memory
returns-in-DeviceWrite-clause-memory g c = on_err c.commit-in-DeviceWrite.result _ _
    (takes_as c.args.state.now _ _ c.in-DeviceWrite.is) c.commit-in-DeviceWrite.ensures.memory

pub returns-in-DirtyEnable-clause-memory : goal.returns-in-DirtyEnable-clause-memory
returns-in-DirtyEnable-clause-memory g c = on_err c.commit-in-DirtyEnable.result _ _
    (takes_as c.args.state.now _ _ c.in-DirtyEnable.is) c.commit-in-DirtyEnable.ensures.memory

-- ---- each is granted, as the event that it is

pub commit-requires-in-Map-clause-granted : goal.commit-requires-in-Map-clause-granted
commit-requires-in-Map-clause-granted g c =
    granted_at c.args.at _ _ c.args.act.now.via c.args.state.now c.in-Map.is c.requires.granted

pub commit-requires-in-Copy-clause-granted : goal.commit-requires-in-Copy-clause-granted
commit-requires-in-Copy-clause-granted g c =
    granted_as c.args.at _ _ c.args.act.now.via c.args.state.now c.in-Copy.is c.requires.granted

pub commit-requires-in-HwptAlloc-clause-granted : goal.commit-requires-in-HwptAlloc-clause-granted
commit-requires-in-HwptAlloc-clause-granted g c =
    granted_as c.args.at _ _ c.args.act.now.via c.args.state.now c.in-HwptAlloc.is c.requires.granted

pub commit-requires-in-Destroy-clause-granted : goal.commit-requires-in-Destroy-clause-granted
commit-requires-in-Destroy-clause-granted g c =
    granted_as c.args.at _ _ c.args.act.now.via c.args.state.now c.in-Destroy.is c.requires.granted

pub commit-requires-in-Close-clause-granted : goal.commit-requires-in-Close-clause-granted
commit-requires-in-Close-clause-granted g c =
    granted_as c.args.at _ _ c.args.act.now.via c.args.state.now c.in-Close.is c.requires.granted

pub commit-requires-in-Attach-clause-granted : goal.commit-requires-in-Attach-clause-granted
commit-requires-in-Attach-clause-granted g c =
    granted_as c.args.at _ _ c.args.act.now.via c.args.state.now c.in-Attach.is c.requires.granted

pub commit-requires-in-Detach-clause-granted : goal.commit-requires-in-Detach-clause-granted
commit-requires-in-Detach-clause-granted g c =
    granted_as c.args.at _ _ c.args.act.now.via c.args.state.now c.in-Detach.is c.requires.granted

pub commit-requires : goal.commit-requires
commit-requires g c =
    granted_as c.args.at _ _ c.args.act.now.via c.args.state.now c.in-IoasAlloc.is c.requires.granted

pub commit-requires-in-Bind : goal.commit-requires-in-Bind
commit-requires-in-Bind g c =
    granted_as c.args.at _ _ c.args.act.now.via c.args.state.now c.in-Bind.is c.requires.granted

pub commit-requires-in-AccessCreate : goal.commit-requires-in-AccessCreate
commit-requires-in-AccessCreate g c =
    granted_as c.args.at _ _ c.args.act.now.via c.args.state.now c.in-AccessCreate.is c.requires.granted

pub commit-requires-in-Unmap-clause-granted : goal.commit-requires-in-Unmap-clause-granted
commit-requires-in-Unmap-clause-granted g c =
    granted_as c.args.at _ _ c.args.act.now.via c.args.state.now c.in-Unmap.is c.requires.granted

pub commit-requires-in-UserMap : goal.commit-requires-in-UserMap
commit-requires-in-UserMap g c =
    granted_as c.args.at _ _ c.args.act.now.via c.args.state.now c.in-UserMap.is c.requires.granted

pub commit-requires-in-AccessPin : goal.commit-requires-in-AccessPin
commit-requires-in-AccessPin g c =
    granted_as c.args.at _ _ c.args.act.now.via c.args.state.now c.in-AccessPin.is c.requires.granted

pub commit-requires-in-DeviceWrite : goal.commit-requires-in-DeviceWrite
commit-requires-in-DeviceWrite g c =
    granted_via c.args.at _ _ c.args.act.now.via c.args.state.now c.in-DeviceWrite.is c.requires.granted

pub returns-in-IoasAlloc-clause-memory : goal.returns-in-IoasAlloc-clause-memory
returns-in-IoasAlloc-clause-memory g c =
    on_err_same c.commit.result _ (takes_as c.args.state.now _ _ c.in-IoasAlloc.is refl)

pub returns-in-Map-clause-memory : goal.returns-in-Map-clause-memory
returns-in-Map-clause-memory g c =
    on_err_same c.commit-in-Map.result _ (takes_as c.args.state.now _ _ c.in-Map.is refl)

pub returns-in-Copy-clause-memory : goal.returns-in-Copy-clause-memory
returns-in-Copy-clause-memory g c =
    on_err_same c.commit-in-Copy.result _ (takes_as c.args.state.now _ _ c.in-Copy.is refl)

pub returns-in-HwptAlloc-clause-memory : goal.returns-in-HwptAlloc-clause-memory
returns-in-HwptAlloc-clause-memory g c =
    on_err_same c.commit-in-HwptAlloc.result _
    (takes_as c.args.state.now _ _ c.in-HwptAlloc.is refl)

pub returns-in-UserMap-clause-memory : goal.returns-in-UserMap-clause-memory
returns-in-UserMap-clause-memory g c =
    on_err_same c.commit-in-UserMap.result _ (takes_as c.args.state.now _ _ c.in-UserMap.is refl)

pub returns-in-Bind-clause-memory : goal.returns-in-Bind-clause-memory
returns-in-Bind-clause-memory g c =
    on_err_same c.commit-in-Bind.result _ (takes_as c.args.state.now _ _ c.in-Bind.is refl)

pub returns-in-AccessCreate-clause-memory : goal.returns-in-AccessCreate-clause-memory
returns-in-AccessCreate-clause-memory g c =
    on_err_same c.commit-in-AccessCreate.result _ (takes_as c.args.state.now _ _ c.in-AccessCreate.is refl)

pub returns-in-AccessPin-clause-memory : goal.returns-in-AccessPin-clause-memory
returns-in-AccessPin-clause-memory g c =
    on_err c.commit-in-AccessPin.result _ _
    (λ none. takes_as c.args.state.now _ _ c.in-AccessPin.is (not_false _ none)) c.commit-in-AccessPin.ensures.memory

pub returns-in-Attach-clause-memory : goal.returns-in-Attach-clause-memory
returns-in-Attach-clause-memory g c =
    on_err_same c.commit-in-Attach.result _ (takes_as c.args.state.now _ _ c.in-Attach.is refl)

pub returns-in-Detach-clause-memory : goal.returns-in-Detach-clause-memory
returns-in-Detach-clause-memory g c = on_err c.commit-in-Detach.result _ _
    (takes_as c.args.state.now _ _ c.in-Detach.is) c.commit-in-Detach.ensures.memory

pub returns-in-AllowIovas-clause-memory : goal.returns-in-AllowIovas-clause-memory
returns-in-AllowIovas-clause-memory g c = on_err c.commit-in-AllowIovas.result _ _
    (takes_as c.args.state.now _ _ c.in-AllowIovas.is) c.commit-in-AllowIovas.ensures.memory

pub returns-in-Map-clause-err : goal.returns-in-Map-clause-err
returns-in-Map-clause-err g c = c.commit-in-Map.ensures.err

-- ---- an UNMAP wants for memory only where it doesn't wait and some table goes, a device's write only where it may
-- pass and its mark is the first among its 64 pages; of the others no more is said

pub returns-in-Unmap-clause-lacking : goal.returns-in-Unmap-clause-lacking
returns-in-Unmap-clause-lacking g c = on_both c.commit-in-Unmap.result _ _ _
    (λ pending tables at w tidy shows none. lack_as w _ _ _ c.in-Unmap.is
    (let unrefused = subst (λ (x : Event _). first_true (checks (view w) x) ≡ None) c.in-Unmap.is none in
    both_true _ _ (ap not (pending at w tidy shows unrefused)) (tables at w tidy shows unrefused)))
    c.commit-in-Unmap.ensures.pending c.commit-in-Unmap.ensures.tables

pub returns-in-IoasAlloc-clause-lacking : goal.returns-in-IoasAlloc-clause-lacking
returns-in-IoasAlloc-clause-lacking g c =
    on_err_same c.commit.result _ (λ at w tidy shows none. lack_as w _ _ _ c.in-IoasAlloc.is refl)

pub returns-in-AllowIovas-clause-lacking : goal.returns-in-AllowIovas-clause-lacking
returns-in-AllowIovas-clause-lacking g c =
    on_err_same c.commit-in-AllowIovas.result _ (λ at w tidy shows none. lack_as w _ _ _ c.in-AllowIovas.is refl)

pub returns-in-Map-clause-lacking : goal.returns-in-Map-clause-lacking
returns-in-Map-clause-lacking g c =
    on_err_same c.commit-in-Map.result _ (λ at w tidy shows none. lack_as w _ _ _ c.in-Map.is refl)

pub returns-in-Copy-clause-lacking : goal.returns-in-Copy-clause-lacking
returns-in-Copy-clause-lacking g c =
    on_err_same c.commit-in-Copy.result _ (λ at w tidy shows none. lack_as w _ _ _ c.in-Copy.is refl)

pub returns-in-HwptAlloc-clause-lacking : goal.returns-in-HwptAlloc-clause-lacking
returns-in-HwptAlloc-clause-lacking g c =
    on_err_same c.commit-in-HwptAlloc.result _ (λ at w tidy shows none. lack_as w _ _ _ c.in-HwptAlloc.is refl)

pub returns-in-Destroy-clause-lacking : goal.returns-in-Destroy-clause-lacking
returns-in-Destroy-clause-lacking g c =
    on_err_same c.commit-in-Destroy.result _ (λ at w tidy shows none. lack_as w _ _ _ c.in-Destroy.is refl)

pub returns-in-Close-clause-lacking : goal.returns-in-Close-clause-lacking
returns-in-Close-clause-lacking g c =
    on_err_same c.commit-in-Close.result _ (λ at w tidy shows none. lack_as w _ _ _ c.in-Close.is refl)

pub returns-in-UserMap-clause-lacking : goal.returns-in-UserMap-clause-lacking
returns-in-UserMap-clause-lacking g c =
    on_err_same c.commit-in-UserMap.result _ (λ at w tidy shows none. lack_as w _ _ _ c.in-UserMap.is refl)

pub returns-in-Bind-clause-lacking : goal.returns-in-Bind-clause-lacking
returns-in-Bind-clause-lacking g c =
    on_err_same c.commit-in-Bind.result _ (λ at w tidy shows none. lack_as w _ _ _ c.in-Bind.is refl)

pub returns-in-Attach-clause-lacking : goal.returns-in-Attach-clause-lacking
returns-in-Attach-clause-lacking g c =
    on_err_same c.commit-in-Attach.result _ (λ at w tidy shows none. lack_as w _ _ _ c.in-Attach.is refl)

pub returns-in-Detach-clause-lacking : goal.returns-in-Detach-clause-lacking
returns-in-Detach-clause-lacking g c =
    on_err_same c.commit-in-Detach.result _ (λ at w tidy shows none. lack_as w _ _ _ c.in-Detach.is refl)

pub returns-in-DeviceWrite-clause-lacking : goal.returns-in-DeviceWrite-clause-lacking
returns-in-DeviceWrite-clause-lacking g c = on_err c.commit-in-DeviceWrite.result _ _
    (λ lacking at w tidy shows none. lack_as w _ _ _ c.in-DeviceWrite.is (lacking at w tidy shows))
    c.commit-in-DeviceWrite.ensures.lacking

pub returns-in-AccessCreate-clause-lacking : goal.returns-in-AccessCreate-clause-lacking
returns-in-AccessCreate-clause-lacking g c =
    on_err_same c.commit-in-AccessCreate.result _ (λ at w tidy shows none. lack_as w _ _ _ c.in-AccessCreate.is refl)

pub returns-in-AccessPin-clause-lacking : goal.returns-in-AccessPin-clause-lacking
returns-in-AccessPin-clause-lacking g c =
    on_err_same c.commit-in-AccessPin.result _ (λ at w tidy shows none. lack_as w _ _ _ c.in-AccessPin.is refl)

pub returns-in-DirtyEnable-clause-lacking : goal.returns-in-DirtyEnable-clause-lacking
returns-in-DirtyEnable-clause-lacking g c =
    on_err_same c.commit-in-DirtyEnable.result _ (λ at w tidy shows none. lack_as w _ _ _ c.in-DirtyEnable.is refl)

-- ---- none of these tells a report

pub returns-in-Map-clause-reports : goal.returns-in-Map-clause-reports
returns-in-Map-clause-reports g c = if_ok c.commit-in-Map.result _ _
    (λ reply steps. tells_none c.args.at _ _ c.args.act.now.via c.args.state.now c.in-Map.is c.requires.granted refl
    reply _ _ _ (steps c.args.act.now.via))
    c.commit-in-Map.ensures.ok

pub returns-in-Copy-clause-reports : goal.returns-in-Copy-clause-reports
returns-in-Copy-clause-reports g c = if_ok c.commit-in-Copy.result _ _
    (λ reply steps. tells_none c.args.at _ _ c.args.act.now.via c.args.state.now c.in-Copy.is c.requires.granted refl
    reply _ _ _ (steps c.args.at c.args.act.now.via))
    c.commit-in-Copy.ensures.ok

pub returns-in-HwptAlloc-clause-reports : goal.returns-in-HwptAlloc-clause-reports
returns-in-HwptAlloc-clause-reports g c = if_ok c.commit-in-HwptAlloc.result _ _
    (λ reply steps. tells_none c.args.at _ _ c.args.act.now.via c.args.state.now c.in-HwptAlloc.is c.requires.granted refl
    reply _ _ _ (steps c.args.at c.args.act.now.via))
    c.commit-in-HwptAlloc.ensures.ok

pub returns-in-Attach-clause-reports : goal.returns-in-Attach-clause-reports
returns-in-Attach-clause-reports g c = if_ok c.commit-in-Attach.result _ _
    (λ reply steps. tells_none c.args.at _ _ c.args.act.now.via c.args.state.now c.in-Attach.is c.requires.granted refl
    reply _ _ _ (steps c.args.at c.args.act.now.via))
    c.commit-in-Attach.ensures.ok

pub returns-in-Unmap-clause-reports : goal.returns-in-Unmap-clause-reports
returns-in-Unmap-clause-reports g c = if_ok c.commit-in-Unmap.result _ _
    (λ reply steps. tells_none c.args.at _ _ c.args.act.now.via c.args.state.now c.in-Unmap.is c.requires.granted refl
    reply _ _ _ (steps c.args.at c.args.act.now.via))
    c.commit-in-Unmap.ensures.ok

pub returns-in-Destroy-clause-reports : goal.returns-in-Destroy-clause-reports
returns-in-Destroy-clause-reports g c = if_ok c.commit-in-Destroy.result _ _
    (λ reply steps. tells_none c.args.at _ _ c.args.act.now.via c.args.state.now c.in-Destroy.is c.requires.granted refl
    reply _ _ _ (steps c.args.at c.args.act.now.via))
    c.commit-in-Destroy.ensures.ok

pub returns-in-Close-clause-reports : goal.returns-in-Close-clause-reports
returns-in-Close-clause-reports g c = if_ok c.commit-in-Close.result _ _
    (λ reply steps. tells_none c.args.at _ _ c.args.act.now.via c.args.state.now c.in-Close.is c.requires.granted refl
    reply _ _ _ (steps c.args.at c.args.act.now.via))
    c.commit-in-Close.ensures.ok

pub returns-in-Detach-clause-reports : goal.returns-in-Detach-clause-reports
returns-in-Detach-clause-reports g c = if_ok c.commit-in-Detach.result _ _
    (λ reply steps. tells_none c.args.at _ _ c.args.act.now.via c.args.state.now c.in-Detach.is c.requires.granted refl
    reply _ _ _ (steps c.args.at c.args.act.now.via))
    c.commit-in-Detach.ensures.ok
