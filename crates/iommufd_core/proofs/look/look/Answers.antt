use Rattle.std.proofs.Common.{sym, ◌∙◌, subst}
use Rattle.server_state.specs.Choice.{IsLooked}
use Rattle.event_device_access.proofs.DeviceReads.{answered_read, refused_read}
use Rattle.server_state.proofs.ViewShown.{same_query_refusal}
use Rattle.iommufd_core.proofs.look.look.Goals as goal

pub returns-in-Some : goal.returns-in-Some
returns-in-Some g c = λ at w records tidy shows turns.
    refused_read w records c.args.state.now shows tidy.tabled.owned c.args.query.now _ (sym c.in-Some.is
    ∙ c.refusal.ensures)

pub returns-in-None : goal.returns-in-None
returns-in-None g c = λ at w records tidy shows turns.
    let query = c.args.query.now in
    let none = sym c.in-None.is ∙ c.refusal.ensures in
    let unrefused = sym (none ∙ same_query_refusal w c.args.state.now shows tidy.tabled.owned query) in
    subst (λ lawful. IsLooked lawful c.answer.result)
    (sym (answered_read w records c.args.state.now shows tidy.tabled.owned query none))
    (c.answer.ensures at w records tidy shows turns unrefused)

pub answer-requires-clause-asked : goal.answer-requires-clause-asked
answer-requires-clause-asked g c =
    let known = c.requires.known in
    let query = c.args.query.now in
    record {
      known = known;
      none = sym (same_query_refusal known.world c.args.state.now known.shows known.tidy.tabled.owned query)
          ∙ sym c.refusal.ensures ∙ c.in-None.is;
    }
