use Rattle.std.proofs.Common.{[], refl, sym, subst}
use Rattle.iofd_words.specs.declared.event.Event.{Event}
use Rattle.iommufd_core.proofs.Answering.{granted_as, granted_known, none_chosen}
use Rattle.server_state.specs.Step.{MovingSteps}
use Rattle.iommufd_core.proofs.events.commit_in_place.Goals as goal

pub returns-in-UserUnmap : goal.returns-in-UserUnmap
returns-in-UserUnmap g c =
    subst (λ (e : Event _). MovingSteps c.args.at e c.args.act.now.via c.args.state.now c.commit.result [] []
    c.commit.new.state) (sym c.in-UserUnmap.is)
    (none_chosen c.args.at _ c.args.act.now.via c.args.state.now c.commit.new.state c.commit.result [] [] refl refl
    (λ w. tt) (λ w. tt) (λ left t. refl) (c.commit.ensures c.args.at) (λ w. tt))

pub returns-in-UserWrite : goal.returns-in-UserWrite
returns-in-UserWrite g c =
    subst (λ (e : Event _). MovingSteps c.args.at e c.args.act.now.via c.args.state.now c.commit-in-UserWrite.result [] []
    c.commit-in-UserWrite.new.state) (sym c.in-UserWrite.is)
    (none_chosen c.args.at _ c.args.act.now.via c.args.state.now c.commit-in-UserWrite.new.state c.commit-in-UserWrite.result [] [] refl refl
    (λ w. tt) (λ w. tt) (λ left t. refl) (c.commit-in-UserWrite.ensures c.args.at) (λ w. tt))

pub returns-in-Unbind : goal.returns-in-Unbind
returns-in-Unbind g c =
    subst (λ (e : Event _). MovingSteps c.args.at e c.args.act.now.via c.args.state.now c.commit-in-Unbind.result [] []
    c.commit-in-Unbind.new.state) (sym c.in-Unbind.is)
    (none_chosen c.args.at _ c.args.act.now.via c.args.state.now c.commit-in-Unbind.new.state c.commit-in-Unbind.result [] [] refl refl
    (λ w. tt) (λ w. tt) (λ left t. refl) (c.commit-in-Unbind.ensures c.args.at) (λ w. tt))

pub returns-in-Flush : goal.returns-in-Flush
returns-in-Flush g c =
    subst (λ (e : Event _). MovingSteps c.args.at e c.args.act.now.via c.args.state.now c.commit-in-Flush.result [] []
    c.commit-in-Flush.new.state) (sym c.in-Flush.is)
    (none_chosen c.args.at _ c.args.act.now.via c.args.state.now c.commit-in-Flush.new.state c.commit-in-Flush.result [] [] refl refl
    (λ w. tt) (λ w. tt) (λ left t. refl) (c.commit-in-Flush.ensures c.args.at) (λ w. tt))

pub returns-in-AccessAttach : goal.returns-in-AccessAttach
returns-in-AccessAttach g c =
    subst (λ (e : Event _). MovingSteps c.args.at e c.args.act.now.via c.args.state.now c.commit-in-AccessAttach.result [] []
    c.commit-in-AccessAttach.new.state) (sym c.in-AccessAttach.is)
    (none_chosen c.args.at _ c.args.act.now.via c.args.state.now c.commit-in-AccessAttach.new.state c.commit-in-AccessAttach.result [] [] refl refl
    (λ w. tt) (λ w. tt) (λ left t. refl) (c.commit-in-AccessAttach.ensures c.args.at) (λ w. tt))

pub returns-in-AccessDetach : goal.returns-in-AccessDetach
returns-in-AccessDetach g c =
    subst (λ (e : Event _). MovingSteps c.args.at e c.args.act.now.via c.args.state.now c.commit-in-AccessDetach.result [] []
    c.commit-in-AccessDetach.new.state) (sym c.in-AccessDetach.is)
    (none_chosen c.args.at _ c.args.act.now.via c.args.state.now c.commit-in-AccessDetach.new.state c.commit-in-AccessDetach.result [] [] refl refl
    (λ w. tt) (λ w. tt) (λ left t. refl) (c.commit-in-AccessDetach.ensures c.args.at) (λ w. tt))

pub returns-in-AccessUnpin : goal.returns-in-AccessUnpin
returns-in-AccessUnpin g c =
    subst (λ (e : Event _). MovingSteps c.args.at e c.args.act.now.via c.args.state.now c.commit-in-AccessUnpin.result [] []
    c.commit-in-AccessUnpin.new.state) (sym c.in-AccessUnpin.is)
    (none_chosen c.args.at _ c.args.act.now.via c.args.state.now c.commit-in-AccessUnpin.new.state c.commit-in-AccessUnpin.result [] [] refl refl
    (λ w. tt) (λ w. tt) (λ left t. refl) (c.commit-in-AccessUnpin.ensures c.args.at) (λ w. tt))

pub returns-in-AccessWrite : goal.returns-in-AccessWrite
returns-in-AccessWrite g c =
    subst (λ (e : Event _). MovingSteps c.args.at e c.args.act.now.via c.args.state.now c.commit-in-AccessWrite.result [] []
    c.commit-in-AccessWrite.new.state) (sym c.in-AccessWrite.is)
    (none_chosen c.args.at _ c.args.act.now.via c.args.state.now c.commit-in-AccessWrite.new.state c.commit-in-AccessWrite.result [] [] refl refl
    (λ w. tt) (λ w. tt) (λ left t. refl) (c.commit-in-AccessWrite.ensures c.args.at) (λ w. tt))

pub returns-in-DirtyClear : goal.returns-in-DirtyClear
returns-in-DirtyClear g c =
    subst (λ (e : Event _). MovingSteps c.args.at e c.args.act.now.via c.args.state.now c.commit-in-DirtyClear.result [] []
    c.commit-in-DirtyClear.new.state) (sym c.in-DirtyClear.is)
    (none_chosen c.args.at _ c.args.act.now.via c.args.state.now c.commit-in-DirtyClear.new.state c.commit-in-DirtyClear.result [] [] refl refl
    (λ w. tt) (λ w. tt) (λ left t. refl) (c.commit-in-DirtyClear.ensures c.args.at) (λ w. tt))

-- ---- each is granted, as the event that it is

pub commit-requires : goal.commit-requires
commit-requires g c =
    granted_as c.args.at _ _ c.args.act.now.via c.args.state.now c.in-UserUnmap.is c.requires.granted

pub commit-requires-in-UserWrite : goal.commit-requires-in-UserWrite
commit-requires-in-UserWrite g c =
    granted_as c.args.at _ _ c.args.act.now.via c.args.state.now c.in-UserWrite.is c.requires.granted

pub commit-requires-in-Unbind : goal.commit-requires-in-Unbind
commit-requires-in-Unbind g c =
    granted_as c.args.at _ _ c.args.act.now.via c.args.state.now c.in-Unbind.is c.requires.granted

pub commit-requires-in-Flush : goal.commit-requires-in-Flush
commit-requires-in-Flush g c =
    granted_known c.args.at _ _ c.args.act.now.via c.args.state.now c.in-Flush.is c.requires.granted

pub commit-requires-in-AccessAttach : goal.commit-requires-in-AccessAttach
commit-requires-in-AccessAttach g c =
    granted_as c.args.at _ _ c.args.act.now.via c.args.state.now c.in-AccessAttach.is c.requires.granted

pub commit-requires-in-AccessDetach : goal.commit-requires-in-AccessDetach
commit-requires-in-AccessDetach g c =
    granted_as c.args.at _ _ c.args.act.now.via c.args.state.now c.in-AccessDetach.is c.requires.granted

pub commit-requires-in-AccessUnpin : goal.commit-requires-in-AccessUnpin
commit-requires-in-AccessUnpin g c =
    granted_as c.args.at _ _ c.args.act.now.via c.args.state.now c.in-AccessUnpin.is c.requires.granted

pub commit-requires-in-AccessWrite : goal.commit-requires-in-AccessWrite
commit-requires-in-AccessWrite g c =
    granted_as c.args.at _ _ c.args.act.now.via c.args.state.now c.in-AccessWrite.is c.requires.granted

pub commit-requires-in-DirtyClear : goal.commit-requires-in-DirtyClear
commit-requires-in-DirtyClear g c =
    granted_as c.args.at _ _ c.args.act.now.via c.args.state.now c.in-DirtyClear.is c.requires.granted
