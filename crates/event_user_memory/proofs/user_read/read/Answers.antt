use Rattle.std.proofs.Common.{◌≡◌, ℕ, Option, List, sym, subst}
use Rattle.std.specs.Option.{IfSome}
use Rattle.iofd_steps.specs.Look.{lawful_answers}
use Rattle.iofd_words.specs.declared.query.Answer.TheVariants as answer
use Rattle.iofd_words.specs.declared.query.Query.TheVariants as query
use Rattle.server_state.specs.Choice.{IsLooked}
use Rattle.event_user_memory.proofs.user_read.read.Goals as goal

pub returns : goal.returns
returns g c = λ at w records tidy shows none.
    let is : c.unwrap.result ≡ c.bytes.result.now =
    subst (λ (o : Option (List ℕ)). IfSome o (λ burst. burst ≡ c.bytes.result.now)) c.unwrap.ensures c.new.ensures.value
    in
    subst (λ (b : List ℕ). IsLooked
    (lawful_answers w records (query.UserRead c.args.user c.args.va c.args.len)) (answer.Read b))
    (sym is) (c.bytes.ensures.read at w records tidy shows none)
