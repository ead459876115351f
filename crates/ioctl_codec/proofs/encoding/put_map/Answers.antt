use Rattle.std.proofs.Common.{◌≡◌, cond, unwrap_or, ap, ◌∙◌}
use Rattle.iofd_words.specs.Rights.{is_fixed}
use Rattle.ioctl_codec.proofs.MapBytes.{map_bytes}
use Rattle.ioctl_codec.proofs.encoding.put_map.Goals as goal

pub returns-clause-bytes : goal.returns-clause-bytes
returns-clause-bytes c =
    let map = c.args.map in
    let fixed = is_fixed map.flags in
    let iova : c.unwrap_or.result ≡ unwrap_or c.args.answer (cond fixed map.iova.0 0) =
    c.unwrap_or.ensures ∙ ap (unwrap_or c.args.answer) c.kept_iova.ensures in
    rw (
      ← (map_bytes fixed map c.args.answer c.unwrap_or.result iova),
      ← c.from.ensures,
      ← c.from-2.ensures,
    ) c.put_structure.ensures.bytes
