use Rattle.std.proofs.Common.{◌≡◌, ◌∙◌, not, subst}
use Rattle.std.specs.List.{list_any}
use Rattle.area_map.proofs.SomeLeaving.{some_leaving}
use Rattle.area_map.specs.AreaTable.{AreaTable}
use Rattle.area_map_rows.specs.Rows.{in_rows}
use Rattle.iofd_words.specs.TablePlaces.{is_live}
use Rattle.area_map.proofs.areas.Areas.has_leaving.Goals as goal

pub returns : goal.returns
returns g c =
    let Told : AreaTable → Type 0 = λ v. c.is_some.result ≡ list_any (λ area. not (is_live area.phase)) v.areas in
    subst Told c.self.view_is (c.is_some.ensures ∙ some_leaving c.self.inside.leaving (in_rows c.self.inside.rows.items)
    c.self.invariant.0.leave)
