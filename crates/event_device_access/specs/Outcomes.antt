-- The core's words for what may come of a device's access, and which outcome is chosen.
use Rattle.std.specs.Prelude.{Option, Some, None, Result, Ok, Err, List, [], ◌∷◌}
use Rattle.iofd_words.specs.Policy.{Outcome, Passes, Denied}
use Rattle.iofd_words.specs.declared.fault.FaultReason.TheVariants.{WriteDenied}
use Rattle.iofd_words.specs.declared.fault.FaultReason.{FaultReason}
use Rattle.iofd_words.specs.declared.numbers.FrameNo.{FrameNo}
use Rattle.server_state.specs.Choice.{without_cache}
use Rattle.event_device_access.specs.declared.access.Access.{Access}
use Rattle.event_device_access.specs.declared.access.Access.TheVariants as access

-- the outcomes that an access may have
abbrev pub outcomes_in : Access → List Outcome
outcomes_in (access.Passes frame) = Passes frame ∷ []
outcomes_in (access.Denied reason) = Denied reason ∷ []
outcomes_in (access.Either frame reason) = Passes frame ∷ Denied reason ∷ []

-- none where there is no access
abbrev pub outcomes_of : Option Access → List Outcome
outcomes_of None = []
outcomes_of (Some access) = outcomes_in access

-- passing at the frame of a pin
abbrev pub passes_at : Option FrameNo → List Outcome
passes_at None = []
passes_at (Some frame) = Passes frame ∷ []

-- the outcome that the server chooses: a pass at the cached frame, if there is one; else what comes of it without a
-- cached frame, or where nothing may come of it (which no run leads to) a denial
abbrev pub chosen_outcome : Option FrameNo → List Outcome → Outcome
chosen_outcome (Some frame) outcomes = Passes frame
chosen_outcome None outcomes = elim (without_cache outcomes) [ Some outcome ↦ outcome | None ↦ Denied WriteDenied ]

abbrev pub outcome_told : Result FrameNo FaultReason → Outcome
outcome_told (Ok frame) = Passes frame
outcome_told (Err reason) = Denied reason
