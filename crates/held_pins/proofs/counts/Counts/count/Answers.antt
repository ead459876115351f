use Rattle.std.proofs.Common.{Bool, Option, ap, ◌∙◌, ℕ}
use Rattle.std.specs.Map.{lookup}
use Rattle.std.specs.Option.{unwrap_or}
use Rattle.held_pins.specs.Counts.{count_in}
use Rattle.held_pins.proofs.Rows.{by_order}
use Rattle.held_pins.proofs.counts.Counts.count.Goals as goal

pub returns : goal.returns
returns g c =
    let same = by_order g.K.Ord.cmp g.K.PartialEq.eq g.met.K.Ord.matches_eq in
    c.unwrap_or.ensures
    ∙ ap (λ (o : Option ℕ). unwrap_or o 0) (c.copied.ensures ∙ c.get.ensures.value
    ∙ ap (λ (eq : _ → _ → Bool). lookup (eq c.args.key) c.self.inside.rows.entries) same)
    ∙ ap (λ rows. count_in g.K.Ord.cmp rows c.args.key) c.self.view_is
