use Rattle.std.proofs.Common.{◌+◌, ◌*◌, ◌&&◌, leb, ap, ◌∙◌, arith}
use Rattle.dirty_bitmap.specs.Marks.{is_marked}
use Rattle.dirty_bitmap.proofs.Kept.{cut_word, up_to}
use Rattle.dirty_bitmap.proofs.marks.Marks.word_up_to.Goals as goal

pub returns : goal.returns
returns g c k within =
    cut_word c.self.inside.words.entries c.args.number c.args.last c.ones.result c.word_in.result k c.word_in.ensures
    within (c.ones.ensures k within ∙ up_to (c.args.number * 64) c.args.last k _ (omega arith))
    ∙ ap (λ words. is_marked words (c.args.number * 64 + k) && leb (c.args.number * 64 + k) c.args.last) c.self.view_is
