use Rattle.server_state.proofs.Users.{known_found}
use Rattle.server_state.proofs.accounts.user_of.Goals as goal

pub returns-clause-known : goal.returns-clause-known
returns-clause-known g c =
    known_found c.args.config.now c.args.file c.user_of.result c.facts.ensures c.user_of.ensures
