use Rattle.std.proofs.Common.{sym, arith}
use Rattle.std.proofs.lemmas.List.{ext_get_or}
use Rattle.std.proofs.lemmas.Slice.Eq.{bytes_eq-Decides}
use Rattle.iommufd_script.proofs.keyword.is_word.Goals as goal

pub returns : goal.returns
returns c = sym ((bytes_eq-Decides c.args.word.now c.args.name.now).1
    (ext_get_or 0 c.args.word.now c.args.name.now c.if-word-name.false
    (λ k within. c.loop-i.invariant k (omega arith))))
