use Rattle.std.proofs.Common.{true, refl, arith, inl, inr}
use Rattle.iofd_examples.specs.Words.{device, memory_row, page_row, pin_row, user}
use Rattle.iofd_examples.proofs.Never.{never}
use Rattle.iofd_interleavings.specs.Steps.{state_after}
use Rattle.iofd_interleavings_examples.specs.Worked.{entry}
use Rattle.iofd_interleavings_examples.proofs.kept.frames_that_two_have_are_not_apart.Goals as goal

pub returns-clause-cached : goal.returns-clause-cached
unfolding state_after
returns-clause-cached c = λ uncached. uncached (device 2) entry (0, omega arith, refl) refl

pub returns-clause-of_page : goal.returns-clause-of_page
returns-clause-of_page c = λ nobodys. let free = nobodys.free.1 in cc

pub returns-clause-of_pin : goal.returns-clause-of_pin
returns-clause-of_pin c = λ nobodys. let free = nobodys.free.1 in cc

pub returns-clause-of_table : goal.returns-clause-of_table
returns-clause-of_table c = λ nobodys. let free = nobodys.free.1 in cc

pub returns-clause-beyond : goal.returns-clause-beyond
returns-clause-beyond c = λ nobodys. absurd (omega (arith, nobodys.free.0))

pub returns-clause-pages : goal.returns-clause-pages
returns-clause-pages c = λ apart. never apart.pages

pub returns-clause-page_and_pin : goal.returns-clause-page_and_pin
returns-clause-page_and_pin c = λ one.
    let same = one 0 (user 2) (user 1)
    (inl (record { page = page_row 2 0x10 0; there = (0, omega arith, refl); of = refl; frame_is = refl }))
    (inr (record {
      pin = pin_row 2 0 0;
      there = (0, omega arith, refl);
      m = memory_row 2 1 0x10000 1 true;
      among = (0, omega arith, refl);
      number = refl;
      of = refl;
      frame_is = refl;
    })) in
    absurd (omega (arith, same))

pub returns-clause-pin_and_table : goal.returns-clause-pin_and_table
returns-clause-pin_and_table c = λ apart. never apart.tables.alone

pub returns-clause-tables : goal.returns-clause-tables
returns-clause-tables c = λ apart. never apart.tables.differ
