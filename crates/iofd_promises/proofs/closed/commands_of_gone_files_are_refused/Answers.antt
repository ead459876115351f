use Rattle.std.proofs.Common.{◌≡◌, Some, None, refl, sym, ◌∙◌}
use Rattle.iofd_steps.specs.Run.{world_of}
use Rattle.iofd_words.specs.declared.refusal.Cause.{Cause}
use Rattle.iofd_words.specs.declared.refusal.Cause.TheVariants as cause
use Rattle.iofd_words.specs.declared.reply.Reply.{Reply}
use Rattle.iofd_words.specs.declared.reply.Reply.TheVariants as reply
use Rattle.iofd_promises.proofs.ClosedFiles.{gone_refused}
use Rattle.iofd_promises.proofs.Steps.{by_record}
use Rattle.iofd_promises.proofs.closed.commands_of_gone_files_are_refused.Goals as goal

same_cause : (told : Reply) (a b : Cause) → Some a ≡ Some b → told ≡ reply.Refused (record { cause = a })
    → told ≡ reply.Refused (record { cause = b })
same_cause told a b is answer = let same : a ≡ b = cc in rw same at answer

no_cause : (a : Cause) → None ≡ Some a → ⊥
no_cause a is = cc

pub returns : goal.returns
returns g c = λ settings before r file run named gone.
    let w = world_of settings before in
    let refused = gone_refused w r.event file named gone in
    by_record settings before r run (λ new. (r.reply ≡ reply.Refused (record { cause = cause.Id })) × (new ≡ w))
    (λ told is answer. (same_cause r.reply told cause.Id (sym is ∙ refused) answer, refl))
    (λ none answers moves. absurd (no_cause cause.Id (sym none ∙ refused)))
