use Rattle.std.proofs.Common.{◌∙◌, ◌++◌, ◌∷◌, List, Option, [], refl, sym, ap, append_assoc}
use Rattle.std.proofs.lemmas.List.Sums.{fold-append}
use Rattle.iofd_words.specs.Bounds.{Bounds}
use Rattle.iofd_words.specs.declared.rows.Area.{Area}
use Rattle.area_map.specs.Kept.{with_leaving}
use Rattle.area_map.proofs.leaving.with_areas.Goals as goal

pub loop-area-init : goal.loop-area-init
loop-area-init g c = record { seen = []; whole = c.into_iter-area-iterator.ensures.into_iter_gives; hull = refl }

pub loop-area-preserved : goal.loop-area-preserved
loop-area-preserved g c =
    let area = c.in-Some.area.now in
    let rest : List Area = c.next.new.self in
    let before = c.loop-area.invariant in
    let seen : List Area = before.seen in
    record {
      seen = seen ++ area ∷ [];
      whole = append_assoc seen (area ∷ []) rest ∙ ap (λ (l : List Area). seen ++ l) (sym c.in-Some.ensures.steps)
          ∙ before.whole;
      hull = c.with_area-hull.ensures ∙ ap (λ (h : Option Bounds). with_leaving h area) before.hull
          ∙ sym (fold-append with_leaving c.args.hull seen (area ∷ []));
    }
