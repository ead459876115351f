use Rattle.std.proofs.Common.{◌&&◌, ◌||◌, eqb, ap, sym, ◌∙◌}
use Rattle.journal_audit_world.specs.Keys.{has_number}
use Rattle.journal_audit_world.proofs.Keyed.{more_within, number_added}
use Rattle.journal_audit_world.proofs.numbers.Numbers.add_if.Goals as goal

pub invariant_of-self-then-is_asked : goal.invariant_of-self-then-is_asked
invariant_of-self-then-is_asked g c = rw (c.min-self-inside.ensures, c.max-self-inside.ensures)
    (more_within c.self.inside.set.keys c.insert.new.self.keys c.self.inside.low c.self.inside.high c.args.number
    c.self.invariant
    (number_added c.self.inside.set.keys c.insert.new.self.keys c.args.number c.in_ok-insert.ensures.updates.0))

pub returns-in_ok-insert : goal.returns-in_ok-insert
returns-in_ok-insert g c = λ other.
    number_added c.self.inside.set.keys c.insert.new.self.keys c.args.number c.in_ok-insert.ensures.updates.0 other
    ∙ ap (λ keys. has_number keys other || eqb c.args.number other) c.self.view_is
    ∙ ap (λ b. has_number c.args.self.now other || (b && eqb c.args.number other)) (sym c.if-is_asked.true)
