use Rattle.std.proofs.Common.{◌≡◌, suc, Some, sym, ap, ◌∙◌, arith}
use Rattle.iofd_words.specs.Files.{numbered}
use Rattle.iofd_steps.specs.Run.{world_of}
use Rattle.iofd_promises.proofs.Facts.{widths_of}
use Rattle.iofd_promises.proofs.Rows.{within}
use Rattle.iofd_rows.proofs.Named.{row_kind}
use Rattle.iofd_rows.proofs.Widths.{one_width}
use Rattle.iofd_promises.proofs.isolation.page_tables_have_their_devices_width.Goals as goal

pub returns : goal.returns
returns g c = λ settings records a table ioas width automatic n device run has there of_file of_id is number known.
    let w = world_of settings records in
    let widths = widths_of settings records run in
    let next : a.device.0 ≡ suc n = omega (arith, number) in
    let listed : numbered settings.devices a.device.0 ≡ Some device = ap (numbered settings.devices) next ∙ known in
    one_width width device.width
    (sym (widths.widths a (within w.attachments a has) device ioas width automatic listed
    (row_kind w.objects table a.file a.hwpt _ widths.sound.own_ids
    (within w.objects table there) of_file of_id is)))
