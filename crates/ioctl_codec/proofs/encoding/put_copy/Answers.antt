use Rattle.std.proofs.Common.{◌≡◌, cond, unwrap_or, ap, ◌∙◌, rules}
use Rattle.iofd_words.specs.Rights.{is_fixed}
use Rattle.ioctl_codec.proofs.MapBytes.{copy_bytes, copy_fits}
use Rattle.ioctl_codec.proofs.encoding.put_copy.Goals as goal

pub returns-clause-bytes : goal.returns-clause-bytes
returns-clause-bytes c =
    let copy = c.args.copy in
    let fixed = is_fixed copy.flags in
    let iova : c.unwrap_or.result ≡ unwrap_or c.args.answer (cond fixed copy.dst_iova.0 0) =
    c.unwrap_or.ensures ∙ ap (unwrap_or c.args.answer) c.kept_iova.ensures in
    rw (
      ← (copy_bytes fixed copy c.args.answer c.unwrap_or.result iova),
      ← c.from.ensures,
      ← c.from-2.ensures,
      ← c.from-3.ensures,
    ) c.put_structure.ensures.bytes

pub returns-clause-fits : goal.returns-clause-fits
returns-clause-fits c = copy_fits (is_fixed c.args.copy.flags) c.args.copy (search rules)
