use Rattle.std.proofs.Common.{◌≡◌, Some, None, sym, ◌∙◌, subst}
use Rattle.server_state.proofs.ViewShown.{same_refusal}
use Rattle.iommufd_core.proofs.Answering.{refused_lawful, refused_after, answered_lawful, answered_after, if_ok, on_err}
use Rattle.iofd_refusals.specs.Checks.{refusal}
use Rattle.iofd_words.specs.declared.refusal.Cause.{Cause}
use Rattle.server_state.specs.Shows.{Shows}
use Rattle.iommufd_core.proofs.events.answer.Goals as goal

never : (cause : Cause) → Some cause ≡ None → ⊥
never cause is = cc

pub returns-in-Some-clause-ok : goal.returns-in-Some-clause-ok
returns-in-Some-clause-ok g c = rw (c.requires.none_taken, c.requires.none_given) (λ pass w tidy shows may.
    let is = sym (c.refusal.ensures ∙ same_refusal w c.args.state.now shows tidy.tabled.owned c.args.act.now.event)
    ∙ c.in-Some.is in (
      refused_lawful _ c.args.at w pass c.args.act.now.event _ is,
      λ none. absurd (never _ (sym is ∙ none)),
      subst (λ after. Shows after c.args.state.now)
          (sym (refused_after _ c.args.at w pass c.args.act.now.event _ _ is)) shows,
    ))

pub returns-in-None-clause-ok : goal.returns-in-None-clause-ok
returns-in-None-clause-ok g c = if_ok c.commit.result _ _ (λ reply steps pass w tidy shows may.
    let is = sym (c.refusal.ensures ∙ same_refusal w c.args.state.now shows tidy.tabled.owned c.args.act.now.event)
    ∙ c.in-None.is in
    let told = steps w tidy shows is (may is) in
    let e = c.args.act.now.event in
    let taken = c.commit.new.taken.items in
    let given = c.commit.new.given.items in (
      answered_lawful _ c.args.at w pass e reply taken given is told.0 told.2,
      λ none. (told.1, told.3),
      subst (λ after. Shows after c.commit.new.state)
          (sym (answered_after _ c.args.at w pass e reply taken given is)) told.4,
    )) c.commit.ensures.ok

pub returns-in-None-clause-memory : goal.returns-in-None-clause-memory
returns-in-None-clause-memory g c =
    on_err c.commit.result _ _ (λ takes. (sym c.refusal.ensures ∙ c.in-None.is, takes)) c.commit.ensures.memory

pub returns-in-None-clause-lacking : goal.returns-in-None-clause-lacking
returns-in-None-clause-lacking g c = c.commit.ensures.lacking

pub commit-requires-clause-granted : goal.commit-requires-clause-granted
commit-requires-clause-granted g c =
    let called = c.requires.called in
    let event = c.args.act.now.event in
    let none : refusal called.world event ≡ None = sym (c.refusal.ensures
    ∙ same_refusal called.world c.args.state.now called.shows called.tidy.tabled.owned event) ∙ c.in-None.is in
    record {
      granted = record { world = called.world; tidy = called.tidy; shows = called.shows; none = none };
      may =
          called.may none;
    }
