use Rattle.std.proofs.Common.{◌≡◌, Bool, true, false, ◌&&◌, not, List, [], sym, ap, ◌∙◌, refl}
use Rattle.std.specs.List.{list_any}
use Rattle.iofd_words.specs.Objects.{has_hwpt}
use Rattle.iofd_words.specs.TablePlaces.{is_live}
use Rattle.iofd_words.specs.declared.rows.Area.{Area}
use Rattle.server_state.proofs.Objects.{no_space}
use Rattle.server_state.specs.Held.{areas_at, objects_in}
use Rattle.hwpt_device.proofs.waiting.waits_for_leaving.Goals as goal

-- where there are no areas none is leaving
none_waits : (has : Bool) (areas : List Area) → areas ≡ []
    → false ≡ (not has && list_any (λ area. not (is_live area.phase)) areas)
none_waits has areas none =
    neither (not has) ∙ ap (λ (l : List Area). not has && list_any (λ area. not (is_live area.phase)) l) (sym none)
  where
    neither : (b : Bool) → false ≡ (b && false)
    neither true = refl
    neither false = refl

pub returns-in-None : goal.returns-in-None
returns-in-None g c =
    let s = c.args.state.now in
    none_waits (has_hwpt (objects_in s.objects) c.args.file c.args.ioas)
    (areas_at s.objects.rows c.args.file c.args.ioas)
    (no_space s.objects.rows c.args.file c.args.ioas c.in-None.ensures)
