use Rattle.std.proofs.Common.{◌≡◌, true, refl, arith, [], ◌∷◌, ap, subst, sym}
use Rattle.iofd_words.specs.Span.{holds}
use Rattle.iofd_words.specs.declared.flags.Rights.{Rights}
use Rattle.iofd_words.specs.declared.rows.Area.{Area}
use Rattle.iofd_words.specs.declared.rows.Phase.TheVariants.{Leaving, Live}
use Rattle.iofd_examples.specs.Words.{area_row, attachment_row, id}
use Rattle.iofd_examples.proofs.Contained.{contained_in_one}
use Rattle.iofd_examples.proofs.Never.{never}
use Rattle.iofd_interleavings.specs.Caches.{Entry, IsBacked}
use Rattle.iofd_interleavings_examples.specs.Kept.{both_owe, next_page}
use Rattle.iofd_interleavings_examples.specs.Worked.{entry}
use Rattle.iofd_interleavings_examples.proofs.kept.entries_are_of_their_areas.Goals as goal

pub returns-clause-fewer : goal.returns-clause-fewer
returns-clause-fewer c = λ backed.
    let same = contained_in_one (area_row 1 1 0x1000 0x1fff 2 3 Live) backed.area backed.there in
    let three = ap (λ (area : Area). area.rights.0) same in
    let one = ap (λ (rights : Rights). rights.0) backed.rights in
    absurd (omega (arith, three, one))

pub returns-clause-each : goal.returns-clause-each
returns-clause-each c = λ sound.
    let backed = sound next_page (1, omega arith, refl) in
    let same = contained_in_one (area_row 1 1 0x1000 0x1fff 2 3 Live) backed.area backed.there in
    never (subst (λ (area : Area). holds area.span 0x2000 ≡ true) (sym same) backed.covers)

pub returns-clause-owed : goal.returns-clause-owed
returns-clause-owed c = λ e has. subst (λ (e : Entry). IsBacked both_owe (record { 0 = 1 }) e)
    (contained_in_one entry e has) (record {
      attachment = attachment_row 1 1 4;
      attached = refl;
      ioas = id 1;
      space = refl;
      area = area_row 1 1 0x1000 0x1fff 2 3 (Leaving (1 ∷ 2 ∷ []) 1);
      there = (0, omega arith, refl);
      own = refl;
      covers = refl;
      rights = refl;
      phase = refl;
      pinned = refl;
    })

pub returns-clause-anew : goal.returns-clause-anew
returns-clause-anew c = λ fill.
    let same = contained_in_one (area_row 1 1 0x1000 0x1fff 2 3 (Leaving (1 ∷ 2 ∷ []) 1)) fill.backed.area
    fill.backed.there in
    let leaving = ap (λ (area : Area). area.phase) same in
    let live = fill.live in
    cc

pub returns-clause-older : goal.returns-clause-older
returns-clause-older c = record { cached = (1, omega arith, refl); page = refl; right = refl; inside = refl }
