use Rattle.std.proofs.Common.{ap, sym, ◌∙◌}
use Rattle.iofd_words.specs.World.{World}
use Rattle.journal_audit_tables.specs.Moved.{are_given, is_enough, taken_world}
use Rattle.journal_audit_tables.proofs.Moving.{decided, not_given, world_moved}
use Rattle.journal_audit_tables.proofs.moves.move_tables.Goals as goal

pub returns-then-not-branch-clause-moved : goal.returns-then-not-branch-clause-moved
returns-then-not-branch-clause-moved g c = λ at w by.
    not_given at w c.args.world.now c.args.event.now c.args.reply c.args.taken.now c.args.given.now c.args.gone
    c.args.coming by
    (ap (λ s. are_given c.args.gone s c.args.world.now c.args.given.now) (sym c.thinned_by.ensures)
    ∙ sym c.in_ok-are_given.ensures ∙ c.if-not-branch.true)

pub returns-clause-moved : goal.returns-clause-moved
returns-clause-moved g c = λ at w by.
    decided at w c.args.world.now c.args.event.now c.args.reply c.args.taken.now c.args.given.now c.args.gone
    c.args.coming by
    (ap (λ s. are_given c.args.gone s c.args.world.now c.args.given.now) (sym c.thinned_by.ensures)
    ∙ sym c.in_ok-are_given.ensures ∙ c.if-not-branch.false)
    _ (c.in_ok-is_enough.ensures.enough
    ∙ ap (λ (x : World). is_enough c.args.coming x c.args.taken.now) c.give_back.ensures)

pub returns-clause-after : goal.returns-clause-after
returns-clause-after g c = λ at w by yes.
    world_moved at w c.args.world.now c.args.event.now c.args.reply c.args.taken.now c.args.given.now c.args.gone
    c.args.coming by
    (ap (λ s. are_given c.args.gone s c.args.world.now c.args.given.now) (sym c.thinned_by.ensures)
    ∙ sym c.in_ok-are_given.ensures ∙ c.if-not-branch.false)
    _ (c.in_ok-is_enough.ensures.after yes
    ∙ ap (λ (x : World). taken_world c.args.coming x c.args.taken.now) c.give_back.ensures)
