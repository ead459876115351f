use Rattle.std.proofs.Common.{◌≡◌, ℕ, Option, List, sym, subst}
use Rattle.std.specs.Option.{IfSome}
use Rattle.iofd_steps.specs.Look.{lawful_answers}
use Rattle.iofd_words.specs.declared.query.Answer.TheVariants as answer
use Rattle.iofd_words.specs.declared.query.Query.TheVariants as query
use Rattle.server_state.specs.Choice.{IsLooked}
use Rattle.event_device_access.proofs.device_read.read.Goals as goal

pub returns-in-Ok : goal.returns-in-Ok
returns-in-Ok g c = λ at w records tidy shows none.
    let bytes = c.in-Ok.bytes.now in
    let is : c.unwrap.result ≡ bytes =
    subst (λ (o : Option (List ℕ)). IfSome o (λ burst. burst ≡ bytes)) c.unwrap.ensures c.new.ensures.value in
    subst (λ (b : List ℕ). IsLooked
    (lawful_answers w records (query.DeviceRead c.args.device c.args.iova c.args.len)) (answer.Read b))
    (sym is) (c.in-Ok.ensures.read at w records tidy shows none)

pub returns-in-Err : goal.returns-in-Err
returns-in-Err g c = λ at w records tidy shows none.
    rw c.denied.ensures (c.in-Err.ensures.denied at w records tidy shows none)
