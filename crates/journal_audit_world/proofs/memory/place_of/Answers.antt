use Rattle.std.proofs.Common.{rules}
use Rattle.std.proofs.lemmas.Fn.{always_returns_same}
use Rattle.iofd_words.specs.declared.rows.MemoryObject.{MemoryObject}
use Rattle.journal_audit_world.proofs.Places.{found_number, not_found, searched}
use Rattle.journal_audit_world.proofs.memory.place_of.Goals as goal

pub returns-in-Ok : goal.returns-in-Ok
returns-in-Ok c = (
  c.in-Ok.ensures.bound,
  found_number c.args.memory.now c.args.number c.in-Ok.place
      (c.in-Ok.ensures.position (λ (m : MemoryObject). m.number)
      (always_returns_same _ _ _ (λ a r f k. search rules))),
)

pub returns-in-Err : goal.returns-in-Err
returns-in-Err c = not_found c.args.memory.now c.args.number _
    (c.in-Err.ensures.position (λ (m : MemoryObject). m.number)
    (always_returns_same _ _ _ (λ a r f k. search rules))
    (searched c.args.memory.now c.args.number c.requires))
