use Rattle.std.proofs.Common.{◌≡◌, ℕ, Option, List, sym, subst}
use Rattle.std.specs.Option.{IfSome}
use Rattle.iofd_steps.specs.Look.{lawful_answers}
use Rattle.iofd_words.specs.declared.query.Answer.TheVariants as answer
use Rattle.iofd_words.specs.declared.query.Query.TheVariants as query
use Rattle.server_state.specs.Choice.{IsLooked}
use Rattle.event_device_access.proofs.device_read.cached.Goals as goal

pub returns : goal.returns
returns g c = λ at w records tidy shows none.
    let bytes = c.bytes_at-bytes.result.now in
    let is : c.unwrap.result ≡ bytes =
    subst (λ (o : Option (List ℕ)). IfSome o (λ burst. burst ≡ bytes)) c.unwrap.ensures c.new.ensures.value in
    subst (λ (b : List ℕ). IsLooked
    (lawful_answers w records (query.CachedRead c.args.device c.args.iova c.args.len c.args.frame)) (answer.Read b))
    (sym is) (c.bytes_at-bytes.ensures.read at w records tidy shows none)
