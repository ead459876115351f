use Rattle.std.proofs.Common.{◌≡◌, None, [], sym, ◌∙◌, ap, subst}
use Rattle.std.specs.List.{list_any}
use Rattle.iofd_words.specs.Policy.{Passes, fault_of, is_pass_at, outcomes}
use Rattle.iofd_words.specs.declared.fault.AccessKind.TheVariants.{Read}
use Rattle.iofd_steps.specs.Look.{lawful_answers}
use Rattle.iofd_words.specs.declared.query.Answer.TheVariants as answer
use Rattle.iofd_words.specs.declared.query.Query.TheVariants as query
use Rattle.server_state.specs.Choice.{IsLooked}
use Rattle.event_device_access.proofs.DeviceReads.{cached_only, chosen_read, pass_told}
use Rattle.server_state.proofs.ViewShown.{same_outcomes}
use Rattle.event_device_access.specs.Outcomes.{chosen_outcome}
use Rattle.event_device_access.proofs.device_read.bytes.Goals as goal

pub bytes_at-requires-clause-asked : goal.bytes_at-requires-clause-asked
bytes_at-requires-clause-asked g c = record { known = c.requires.known; none = c.requires.none }

pub bytes_at-requires-clause-passes : goal.bytes_at-requires-clause-passes
bytes_at-requires-clause-passes g c =
    let known = c.requires.known in
    let w = known.world in
    let frame = c.in-Ok.frame in
    let same = same_outcomes w c.args.state.now known.shows known.tidy.tabled.owned c.args.device c.args.iova.0 Read in
    let told : Passes frame ≡ chosen_outcome None (outcomes w c.args.device c.args.iova.0 Read) =
    c.in-Ok.ensures ∙ ap (chosen_outcome None) same in
    let chosen = chosen_read {A = g.row.A.Denot} known.at w [] c.args.device c.args.iova c.args.len (Passes frame)
    known.tidy told in
    ap (list_any (is_pass_at frame)) same
    ∙ pass_told frame (outcomes w c.args.device c.args.iova.0 Read) chosen.0

pub returns-in-Ok-clause-read : goal.returns-in-Ok-clause-read
returns-in-Ok-clause-read g c = λ at w records tidy shows none.
    let frame = c.in-Ok.frame in
    let iova = c.args.iova in
    let told : Passes frame ≡ chosen_outcome None (outcomes w c.args.device iova.0 Read) =
    c.in-Ok.ensures ∙ ap (chosen_outcome None)
    (same_outcomes w c.args.state.now shows tidy.tabled.owned c.args.device iova.0 Read) in
    let chosen = chosen_read at w records c.args.device iova c.args.len (Passes frame) tidy told in
    let passes = pass_told frame (outcomes w c.args.device iova.0 Read) chosen.0 in
    subst (λ given. IsLooked (lawful_answers w records (query.DeviceRead c.args.device iova c.args.len)) given)
    (cached_only w c.args.device iova c.args.len frame passes (answer.Read c.bytes_at.result.now)
    (c.bytes_at.ensures.read at w records tidy shows none)) chosen.1

pub returns-in-Err-clause-denied : goal.returns-in-Err-clause-denied
returns-in-Err-clause-denied g c = λ at w records tidy shows none.
    let told = c.in-Err.ensures ∙ ap (chosen_outcome None)
    (same_outcomes w c.args.state.now shows tidy.tabled.owned c.args.device c.args.iova.0 Read) in
    let chosen = chosen_read at w records c.args.device c.args.iova c.args.len _ tidy told in
    let fault = ap
    (λ settings. answer.Fault (fault_of settings c.args.device c.args.iova.0 Read c.in-Err.reason))
    (sym shows.settings) in
    rw fault chosen.1
