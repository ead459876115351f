use Rattle.std.proofs.Common.{refl}
use Rattle.iofd_steps.specs.After.{changed, settle, without_areas}
use Rattle.iofd_steps.specs.Answers.{Answers}
use Rattle.iofd_refusals.specs.Checks.{close_checks, flush_checks, map_checks, unmap_checks}
use Rattle.iofd_words.specs.Levels.{number_at}
use Rattle.iofd_steps.specs.Run.{Lawful, after}
use Rattle.iofd_words.specs.Tables.{with_tables}
use Rattle.iofd_examples.proofs.Never.{never}
use Rattle.iofd_examples.proofs.tables.tables_move_with_their_pages.Goals as goal

pub returns-clause-elsewhere : goal.returns-clause-elsewhere
unfolding Lawful after with_tables close_checks map_checks unmap_checks Answers changed settle without_areas number_at
returns-clause-elsewhere c = (
  (refl, record { enough = refl; free = refl; different = refl; gone = refl; may = refl; rising = refl }),
  tt,
)

pub returns-clause-one_alone : goal.returns-clause-one_alone
unfolding Lawful after with_tables close_checks map_checks unmap_checks Answers changed settle without_areas number_at
returns-clause-one_alone c = (
  λ h. let is = h.1.enough in cc,
  tt,
)

pub returns-clause-map_gives : goal.returns-clause-map_gives
unfolding Lawful after with_tables close_checks map_checks unmap_checks Answers changed settle without_areas number_at
returns-clause-map_gives c = (λ h. never h.1.may, (λ h. never h.1.may, (λ h. never h.1.may, tt)))

pub returns-clause-given : goal.returns-clause-given
unfolding Lawful after with_tables close_checks map_checks unmap_checks Answers changed settle without_areas number_at
returns-clause-given c = (
  ((refl, refl), record { enough = refl; free = refl; different = refl; gone = refl; may = refl; rising = refl }),
  (
    ((refl, refl), record { enough = refl; free = refl; different = refl; gone = refl; may = refl; rising = refl }),
    (
      ((refl, refl), record { enough = refl; free = refl; different = refl; gone = refl; may = refl; rising = refl }),
      tt,
    ),
  ),
)

pub returns-clause-not_given : goal.returns-clause-not_given
unfolding Lawful after with_tables close_checks map_checks unmap_checks Answers changed settle without_areas number_at
returns-clause-not_given c = (
  λ h. never h.1.may,
  (
    λ h. never h.1.may,
    (
      λ h. never h.1.may,
      (
        λ h. never h.1.may,
        tt,
      ),
    ),
  ),
)

pub returns-clause-exchanged : goal.returns-clause-exchanged
unfolding Lawful after with_tables close_checks map_checks unmap_checks Answers changed settle without_areas number_at
returns-clause-exchanged c = (
  λ h. never h.1.may,
  (λ h. never h.1.may, (λ h. never h.1.may, (λ h. never h.1.may, tt))),
)

pub returns-clause-rising : goal.returns-clause-rising
unfolding Lawful after with_tables close_checks map_checks unmap_checks Answers changed settle without_areas number_at
returns-clause-rising c = (λ h. never h.1.rising, (λ h. never h.1.rising, tt))

pub returns-clause-leaving : goal.returns-clause-leaving
unfolding Lawful after with_tables close_checks map_checks unmap_checks Answers changed settle without_areas number_at
returns-clause-leaving c = (λ h. never h.1.may, (λ h. never h.1.may, tt))

pub returns-clause-idle : goal.returns-clause-idle
unfolding Lawful after with_tables flush_checks map_checks unmap_checks Answers changed settle without_areas number_at
returns-clause-idle c = (
  λ h. never h.1.may,
  (λ h. never h.1.may, (λ h. never h.1.may, (λ h. never h.1.may, tt))),
)

pub returns-clause-idle_stay : goal.returns-clause-idle_stay
unfolding Lawful after with_tables flush_checks map_checks unmap_checks Answers changed settle without_areas number_at
returns-clause-idle_stay c = (
  ((refl, refl), record { enough = refl; free = refl; different = refl; gone = refl; may = refl; rising = refl }),
  (
    (refl, record { enough = refl; free = refl; different = refl; gone = refl; may = refl; rising = refl }),
    ((tt, record { enough = refl; free = refl; different = refl; gone = refl; may = refl; rising = refl }), tt),
  ),
)

pub returns-clause-apart : goal.returns-clause-apart
unfolding Lawful after with_tables close_checks map_checks unmap_checks Answers changed settle without_areas number_at
returns-clause-apart c = (λ h. never h.1.may, (λ h. never h.1.may, tt))

pub returns-clause-root_stays : goal.returns-clause-root_stays
unfolding Lawful after with_tables close_checks map_checks unmap_checks Answers changed settle without_areas number_at
returns-clause-root_stays c = (
  λ h. never h.1.gone,
  tt,
)
