use Rattle.std.proofs.Common.{◌<◌, arith, get_or}
use Rattle.std.proofs.lemmas.List.{get_or-set_same}
use Rattle.frame_memory.proofs.Words.{clear_this, clear_others, summed-none, without_bit}
use Rattle.frame_memory.proofs.free_map.FreeMap.remove.Goals as goal

pub invariant_of-self : goal.invariant_of-self
invariant_of-self c =
    let words = c.self.inside.words in
    let w = c.place-word.result.0 in
    let n = without_bit (get_or words w 0) c.place-word.result.1 in
    let small : w < 64 = omega arith in
    let none = rw (get_or-set_same words w n 0 (omega (arith, c.self.invariant.count))) at c.if-self-word-eq0.true in
    summed-none words c.self.inside.summary w n c.self.invariant small none

pub returns-then-self-word-eq0-clause-others : goal.returns-then-self-word-eq0-clause-others
returns-then-self-word-eq0-clause-others c =
    rw (← c.self.view_is)
    (clear_others c.self.inside.words c.args.frame c.place-word.result.0 c.place-word.result.1 c.self.invariant.count
    c.requires c.place-word.ensures.word c.place-word.ensures.bit)

pub returns-else-self-word-eq0-clause-this : goal.returns-else-self-word-eq0-clause-this
returns-else-self-word-eq0-clause-this c =
    clear_this c.self.inside.words c.args.frame c.place-word.result.0 c.place-word.result.1 c.self.invariant.count
    c.requires c.place-word.ensures.word c.place-word.ensures.bit

pub returns-else-self-word-eq0-clause-others : goal.returns-else-self-word-eq0-clause-others
returns-else-self-word-eq0-clause-others c =
    rw (← c.self.view_is)
    (clear_others c.self.inside.words c.args.frame c.place-word.result.0 c.place-word.result.1 c.self.invariant.count
    c.requires c.place-word.ensures.word c.place-word.ensures.bit)
