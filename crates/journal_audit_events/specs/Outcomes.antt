-- What may come of a device's access, in two parts: a frame at which it may pass, and a reason for which it may be
-- denied.
use Rattle.std.specs.Prelude.{◌≡◌, ℕ, Option, Some, None, List, [], ◌∷◌, ◌++◌}
use Rattle.iofd_words.specs.Policy.{Outcome, Denied, fault_of, passing}
use Rattle.iofd_words.specs.Settings.{Settings}
use Rattle.iofd_words.specs.declared.fault.AccessKind.TheVariants.{Write}
use Rattle.iofd_words.specs.declared.fault.FaultReason.{FaultReason}
use Rattle.iofd_words.specs.declared.numbers.DeviceNo.{DeviceNo}
use Rattle.iofd_words.specs.declared.numbers.FrameNo.{FrameNo}
use Rattle.iofd_words.specs.declared.reply.Reply.{Reply}
use Rattle.iofd_words.specs.declared.reply.Reply.TheVariants as reply
use Rattle.journal_audit_events.specs.declared.outcomes.Outcomes.{Outcomes}

abbrev pub denying : Option FaultReason → List Outcome
denying (Some reason) = Denied reason ∷ []
denying None = []

-- the outcomes of the definitions
abbrev pub outcomes_in : Outcomes → List Outcome
outcomes_in o = passing o.frame ++ denying o.reason

-- the answer tells that a write passes at this frame, or that it is denied for this reason
abbrev pub TellsPass : Option FrameNo → Reply → Type 0
TellsPass (Some frame) answer = answer ≡ reply.Passed frame
TellsPass None answer = ⊥

abbrev pub TellsFault : Settings → DeviceNo → ℕ → Option FaultReason → Reply → Type 0
TellsFault settings device address (Some reason) answer =
    answer ≡ reply.Fault (fault_of settings device address Write reason)
TellsFault settings device address None answer = ⊥
