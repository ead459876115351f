use Rattle.std.proofs.Common.{◌≤◌, ℕ, sym, subst, ◌&&◌, eqb}
use Rattle.iofd_steps.specs.Run.{world_of}
use Rattle.iofd_words.specs.declared.rows.AccessPin.{AccessPin}
use Rattle.iofd_rows.proofs.Each.{of_each}
use Rattle.iofd_runs.specs.PinsFit.{is_fitting_pin}
use Rattle.iofd_promises.proofs.AccessPinRows.{whole_pages}
use Rattle.iofd_promises.proofs.Counted.{how_many_are}
use Rattle.iofd_promises.proofs.Facts.{pins_fit_of}
use Rattle.iofd_promises.proofs.Rows.{within}
use Rattle.iofd_promises.proofs.access.access_pins_are_whole_pages_and_few.Goals as goal

pub returns-clause-pages : goal.returns-clause-pages
returns-clause-pages g c = λ settings records pin run has.
    let w = world_of settings records in
    whole_pages pin (of_each is_fitting_pin w.access_pins pin (pins_fit_of settings records run).spans
    (within w.access_pins pin has))

pub returns-clause-few : goal.returns-clause-few
returns-clause-few g c = λ settings records file access run.
    let w = world_of settings records in
    subst (λ (n : ℕ). n ≤ 65535)
    (sym (how_many_are (λ (pin : AccessPin). eqb pin.file.0 file && eqb pin.access.0 access) w.access_pins))
    ((pins_fit_of settings records run).few (record { 0 = file }) (record { 0 = access }))
