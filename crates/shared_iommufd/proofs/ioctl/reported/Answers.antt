use Rattle.std.proofs.Common.{◌∙◌, ap}
use Rattle.ioctl_codec.specs.Events.{errno_of}
use Rattle.shared_iommufd.specs.Ioctls.{report_written_back}
use Rattle.shared_iommufd.proofs.IoctlBytes.{front}
use Rattle.shared_iommufd.proofs.ioctl.reported.Goals as goal

pub returns : goal.returns
returns g c = (
  c.errno_of.ensures ∙ ap errno_of c.reply_told-reply.ensures,
  c.filled.ensures
      ∙ front c.write_report-count.result (report_written_back c.args.request c.reply_told-reply.result) _ _
      c.write_report-count.ensures.count c.write_report-count.ensures.bytes
      ∙ ap (report_written_back c.args.request) c.reply_told-reply.ensures,
)
