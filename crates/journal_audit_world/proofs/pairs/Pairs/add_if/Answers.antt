use Rattle.std.proofs.Common.{◌&&◌, ◌||◌, eqb, ap, sym, ◌∙◌}
use Rattle.journal_audit_world.specs.Keys.{has_pair}
use Rattle.journal_audit_world.proofs.Keyed.{pair_added}
use Rattle.journal_audit_world.proofs.pairs.Pairs.add_if.Goals as goal

pub returns-in_ok-insert : goal.returns-in_ok-insert
returns-in_ok-insert g c = λ first second.
    pair_added c.self.inside.set.keys c.insert.new.self.keys c.args.a c.args.b c.in_ok-insert.ensures.updates.0 first
    second
    ∙ ap (λ keys. has_pair keys first second || (eqb c.args.a first && eqb c.args.b second)) c.self.view_is
    ∙ ap (λ b. has_pair c.args.self.now first second || (b && (eqb c.args.a first && eqb c.args.b second)))
    (sym c.if-is_asked.true)
