-- The areas that were looked up are those of the address space.
use Rattle.std.proofs.Common.{◌≡◌, List, ◌∙◌}
use Rattle.iofd_words.specs.declared.event.Event.{Event}
use Rattle.iofd_words.specs.declared.numbers.FileNo.{FileNo}
use Rattle.iofd_words.specs.declared.numbers.ObjId.{ObjId}
use Rattle.iofd_words.specs.declared.rows.Area.{Area}
use Rattle.server_state.proofs.AreasBecome.{own_at}
use Rattle.server_state.proofs.Orderly.{orderly}
use Rattle.server_state.specs.Held.{areas_at}
use Rattle.server_state.specs.Mapping.{own_areas}
use Rattle.server_state.specs.Step.{IsGranted}
use Rattle.server_state.specs.declared.state.State.{State}

pub own_are : {A : Type 0} (s : State A) (event : Event A) → IsGranted event s → (file : FileNo) (ioas : ObjId)
    (areas : List Area) → areas_at s.objects.rows file ioas ≡ areas → own_areas s.objects file ioas ≡ areas
own_are s event granted file ioas areas is =
    let known = granted.granted in
    own_at s.objects file ioas (orderly granted.at known.world s known.tidy known.shows) ∙ is
