use Rattle.std.proofs.Common.{◌≡◌, ◌++◌, codes, take}
use Rattle.std.specs.List.{flat_map}
use Rattle.iommufd_cli.specs.Replies.{notice_text}
use Rattle.iommufd_cli.proofs.replies.notices_line.Given as goal

-- the notices so far are written
abbrev pub invariant-loop-span : goal.invariant-loop-span
invariant-loop-span g l = l.text.items ≡ codes "ok" ++ flat_map notice_text (take l.span-index l.spans)
