-- The table frames that an event moves.
use Rattle.std.specs.Prelude.{◌≡◌, ◌⊎◌, Bool, true, List, []}
use Rattle.iofd_words.specs.declared.numbers.FrameNo.{FrameNo}

-- it takes none, or gives none back
abbrev pub MovesOneWay : List FrameNo → List FrameNo → Type 0
MovesOneWay taken given = (taken ≡ []) ⊎ (given ≡ [])

-- none at all, where a report is told
abbrev pub MovesNone : Bool → List FrameNo → List FrameNo → Type 0
MovesNone report taken given = report ≡ true → (taken ≡ []) × (given ≡ [])
