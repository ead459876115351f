-- What adding an area answers.
use Rattle.std.specs.Prelude.{Option, List, [], ◌∷◌}
use Rattle.iofd_words.specs.Areas.{areas_meet, has_no_room}
use Rattle.iofd_words.specs.Bounds.{Bounds}
use Rattle.iofd_words.specs.FirstTrue.{first_true}
use Rattle.iofd_words.specs.declared.refusal.Cause.{Cause}
use Rattle.iofd_words.specs.declared.refusal.Cause.TheVariants as cause
use Rattle.iofd_words.specs.declared.rows.Area.{Area}

-- why an area of this span isn't added: the first cause that applies
abbrev pub insert_refusal : Bounds → List Area → Option Cause
insert_refusal span areas = first_true (
    (cause.Overlap, areas_meet span areas)
    ∷ (cause.Full, has_no_room areas)
    ∷ [])
