use Rattle.std.proofs.Common.{◌≡◌, length, refl}
use Rattle.iofd_steps.specs.After.{changed}
use Rattle.iofd_steps.specs.Run.{world_of}
use Rattle.iofd_words.specs.Tables.{with_tables}
use Rattle.iofd_laws.proofs.PinsApart.{others_pins}
use Rattle.iofd_runs.proofs.Moves.{changed_moves}
use Rattle.iofd_promises.specs.Holding.{pins_of}
use Rattle.iofd_promises.proofs.AccessPinRows.{makes_named, takes_named}
use Rattle.iofd_promises.proofs.Steps.{by_record}
use Rattle.iofd_promises.proofs.access.access_pins_of_files_are_apart.Goals as goal

pub returns : goal.returns
unfolding with_tables
returns g c = λ settings before r file run another.
    let w = world_of settings before in
    by_record settings before r run (λ new. pins_of file new.access_pins ≡ pins_of file w.access_pins)
    (λ cause is told. refl)
    (λ none answers moves. others_pins w r.event (changed (length before) w r.event r.reply) file
    (λ pin makes. another pin.file (makes_named r.event pin makes))
    (λ pin takes. another pin.file (takes_named r.event pin takes))
    (changed_moves (length before) w r.event r.reply).accesses)
