use Rattle.std.proofs.Common.{◌+◌, List, map, ◌∙◌, ap, subst}
use Rattle.area_map_rows.specs.Areas.{marked, tried}
use Rattle.event_unmap.proofs.TriesCounted.{areas_again, one_more, orderly_after, too_few}
use Rattle.iofd_words.specs.declared.rows.Area.{Area}
use Rattle.server_state.specs.Held.{areas_at}
use Rattle.server_state.specs.Spaces.{HasAreas}
use Rattle.event_unmap.proofs.waiting.wait.Goals as goal

pub returns-clause-areas : goal.returns-clause-areas
returns-clause-areas g c = λ orderly.
    let table = c.args.table.now in
    let most = c.args.most in
    let before = areas_at table.rows c.args.file c.args.ioas in
    let first = c.mark_leaving.ensures orderly in
    let later = c.set_tries.ensures (orderly_after c.args.file c.args.ioas table
    (map (marked c.args.span c.args.owed.now) before) c.mark_leaving.new.table orderly first) in
    let has = areas_again c.args.file c.args.ioas table (map (marked c.args.span c.args.owed.now) before)
    (map (tried c.args.span (most + 1)) (areas_at c.mark_leaving.new.table.rows c.args.file c.args.ioas))
    c.mark_leaving.new.table c.set_tries.new.table first later in
    subst (λ (areas : List Area). HasAreas c.args.file c.args.ioas areas table c.set_tries.new.table)
    (ap (map (tried c.args.span (most + 1))) first.here
    ∙ one_more c.args.span most c.args.owed.now (too_few most c.if-most-ge-COUNTED_TRIES.false) before) has
