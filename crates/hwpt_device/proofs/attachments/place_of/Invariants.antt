use Rattle.std.proofs.Common.{◌≡◌, ◌++◌, take, drop}
use Rattle.iofd_words.specs.Attachments.{with_attachment}
use Rattle.hwpt_device.proofs.attachments.place_of.Given as goal

abbrev pub invariant-loop-index : goal.invariant-loop-index
invariant-loop-index l =
    take l.index l.list ++ with_attachment l.attachment (drop l.index l.list) ≡ with_attachment l.attachment l.list
