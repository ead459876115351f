use Rattle.std.proofs.Common.{◌≡◌, ◌≤◌, true, ◌∷◌, [], sym, ◌∙◌}
use Rattle.iofd_rows.proofs.Bools.{and_true}
use Rattle.iofd_runs.specs.Fits.{begins_at_page}
use Rattle.iofd_words.specs.TablePlaces.{is_live}
use Rattle.event_unmap.proofs.PagesCleared.{one_cleared}
use Rattle.event_unmap.specs.Cleared.{cleared}
use Rattle.event_unmap.proofs.clearing.clear_area.Goals as goal

pub returns-clause-cleared : goal.returns-clause-cleared
returns-clause-cleared g c =
    let live : is_live c.args.area.now.phase ≡ true = sym c.is_live.ensures ∙ c.if-not-is_live.false in
    let starts = (and_true (begins_at_page c.args.area.now) true c.requires.starts).0 in
    let ordered : c.args.area.now.span.first ≤ c.args.area.now.span.last =
    rw c.first-first_page.ensures.value at c.first-first_page.ensures.ordered in
    let clears = rw (c.first-first_page.ensures.value, c.last-last_page.ensures.value) at c.clear.ensures.stand in
    record {
      holds = c.clear.ensures.holds;
      stand = λ rows leads stand. clears rows leads stand
          (cleared c.args.file c.args.ioas (c.args.area.now ∷ []) leads)
          (one_cleared c.args.file c.args.ioas c.args.area.now leads live starts ordered);
      others = c.clear.ensures.others;
    }
