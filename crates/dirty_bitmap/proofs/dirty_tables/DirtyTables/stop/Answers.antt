use Rattle.std.proofs.Common.{◌&&◌, not, ap, ◌∙◌}
use Rattle.dirty_bitmap.specs.Tracking.{is_dirty, is_table, is_tracked}
use Rattle.dirty_bitmap.proofs.Tracked.{puts, stopped_marks, stopped_tracks}
use Rattle.dirty_bitmap.proofs.dirty_tables.DirtyTables.stop.Goals as goal

pub returns-clause-tracks : goal.returns-clause-tracks
returns-clause-tracks g c f h =
    let old = c.self.inside.tables.entries in
    let new = c.remove.new.self.entries in
    let gone = puts old new c.args.file c.args.hwpt _ c.remove.ensures.updates.0 in
    stopped_tracks old new c.args.file c.args.hwpt gone f h
    ∙ ap (λ tables. is_tracked tables f h && not (is_table c.args.file c.args.hwpt f h)) c.self.view_is

pub returns-clause-marks : goal.returns-clause-marks
returns-clause-marks g c f h page =
    let old = c.self.inside.tables.entries in
    let new = c.remove.new.self.entries in
    let gone = puts old new c.args.file c.args.hwpt _ c.remove.ensures.updates.0 in
    stopped_marks old new c.args.file c.args.hwpt gone f h page
    ∙ ap (λ tables. is_dirty tables f h page && not (is_table c.args.file c.args.hwpt f h)) c.self.view_is
