use Rattle.std.proofs.Common.{◌/◌, ◌&&◌, not, eqb, leb, ap, ◌∙◌, arith}
use Rattle.dirty_bitmap.specs.Marks.{is_marked}
use Rattle.dirty_bitmap.proofs.Kept.{cleared_word}
use Rattle.dirty_bitmap.proofs.marks.Marks.clear_word.Goals as goal

pub returns : goal.returns
returns g c page =
    cleared_word c.args.number c.args.first c.args.last c.ones-before.result c.ones-behind.result
    c.saturating_sub.result c.saturating_sub-2.result c.saturating_sub.ensures c.saturating_sub-2.ensures
    (omega arith) c.ones-before.ensures c.ones-behind.ensures c.self.inside.words.entries
    c.keep_bits.new.words.entries c.keep_bits.ensures page
    ∙ ap (λ words. is_marked words page
    && not (eqb c.args.number (page / 64) && (leb c.args.first page && leb page c.args.last))) c.self.view_is
