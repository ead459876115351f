use Rattle.std.proofs.Common.{◌||◌, eqb, ap, ◌∙◌}
use Rattle.std.proofs.lemmas.Result.{on_ok_weaker}
use Rattle.dirty_bitmap.specs.Marks.{is_marked}
use Rattle.dirty_bitmap.proofs.Kept.{marked_more}
use Rattle.dirty_bitmap.proofs.marks.Marks.set.Goals as goal

pub returns-clause-marks : goal.returns-clause-marks
returns-clause-marks g c = on_ok_weaker c.add_bits.result (λ more other.
    marked_more c.self.inside.words.entries c.add_bits.new.words.entries c.args.page more other
    ∙ ap (λ words. is_marked words other || eqb c.args.page other) c.self.view_is) c.add_bits.ensures.words
