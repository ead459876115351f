use Rattle.std.proofs.Common.{◌&&◌, ◌||◌, not, ap, ◌∙◌}
use Rattle.dirty_bitmap.specs.Tracking.{is_dirty, is_table, is_tracked}
use Rattle.dirty_bitmap.proofs.Tracked.{puts, started_marks, started_tracks}
use Rattle.dirty_bitmap.proofs.dirty_tables.DirtyTables.start.Goals as goal

pub returns-in-Ok-clause-tracks : goal.returns-in-Ok-clause-tracks
returns-in-Ok-clause-tracks g c f h =
    let old = c.self.inside.tables.entries in
    let new = c.insert.new.self.entries in
    let put = puts old new c.args.file c.args.hwpt _ c.in-Ok.ensures.updates.0 in
    started_tracks old new c.args.file c.args.hwpt c.new.result put f h
    ∙ ap (λ tables. is_tracked tables f h || is_table c.args.file c.args.hwpt f h) c.self.view_is

pub returns-in-Ok-clause-marks : goal.returns-in-Ok-clause-marks
returns-in-Ok-clause-marks g c f h page =
    let old = c.self.inside.tables.entries in
    let new = c.insert.new.self.entries in
    let put = puts old new c.args.file c.args.hwpt _ c.in-Ok.ensures.updates.0 in
    started_marks old new c.args.file c.args.hwpt c.new.result put c.new.ensures f h page
    ∙ ap (λ tables. is_dirty tables f h page && not (is_table c.args.file c.args.hwpt f h)) c.self.view_is
