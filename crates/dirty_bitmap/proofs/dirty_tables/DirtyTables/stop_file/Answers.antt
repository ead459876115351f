use Rattle.std.proofs.Common.{◌≡◌, ◌&&◌, ℕ, not, eqb, filter, ap, ◌∙◌, rules}
use Rattle.std.proofs.lemmas.Map.Made.{filter_same_pairs}
use Rattle.dirty_bitmap.specs.Marks.{Words}
use Rattle.dirty_bitmap.specs.Tracking.{is_dirty, is_file, is_tracked}
use Rattle.dirty_bitmap.proofs.Tracked.{file_stopped_marks, file_stopped_tracks}
use Rattle.dirty_bitmap.proofs.dirty_tables.DirtyTables.stop_file.Goals as goal

left : (g : _) (c : goal.After-retain g) → c.retain.new.self.entries
    ≡ filter (λ (entry : (ℕ × ℕ) × Words). not (eqb entry.0.0 c.args.file.0)) c.self.inside.tables.entries
left g c = filter_same_pairs _ _ _ (λ k v b w f t. search rules) _ _ c.retain.ensures.filtered

pub returns-clause-tracks : goal.returns-clause-tracks
returns-clause-tracks g c f h =
    file_stopped_tracks c.self.inside.tables.entries c.retain.new.self.entries c.args.file (left g c) f h
    ∙ ap (λ tables. is_tracked tables f h && not (is_file c.args.file f)) c.self.view_is

pub returns-clause-marks : goal.returns-clause-marks
returns-clause-marks g c f h page =
    file_stopped_marks c.self.inside.tables.entries c.retain.new.self.entries c.args.file (left g c) f h page
    ∙ ap (λ tables. is_dirty tables f h page && not (is_file c.args.file f)) c.self.view_is
