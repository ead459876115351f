use Rattle.std.proofs.Common.{◌≡◌, ◌<◌, length, arith, ◌∙◌, sym}
use Rattle.iommufd_cli.proofs.Written.{all_read, long_read}
use Rattle.iommufd_cli.proofs.input.read_all.Goals as goal

pub returns-in-Ok-clause-bytes : goal.returns-in-Ok-clause-bytes
returns-in-Ok-clause-bytes g c =
    let count : length c.read_to_end.new.buf.items ≡ c.len.result = sym (c.len.ensures ∙ c.read_to_end.new.buf.ok.0) in
    let short : length c.read_to_end.new.buf.items < 16777217 = rw count (omega (arith, c.if-len-le-MOST_BYTES.true)) in
    all_read (g.R.Read.remaining c.args.reader.now) 16777217 c.new-bytes.result.items c.read_to_end.new.buf.items
    c.new-bytes.ensures.items (rw (c.take.ensures.limit, c.take.ensures.inner) at c.in-Ok.ensures.bytes) short

pub returns-in-Ok-2-clause-fault : goal.returns-in-Ok-2-clause-fault
returns-in-Ok-2-clause-fault g c =
    let count : length c.read_to_end.new.buf.items ≡ c.len.result = sym (c.len.ensures ∙ c.read_to_end.new.buf.ok.0) in
    let long : 16777216 < length c.read_to_end.new.buf.items =
    rw count (omega (arith, c.if-len-le-MOST_BYTES.false)) in
    long_read (g.R.Read.remaining c.args.reader.now) 16777217 16777216 c.new-bytes.result.items
    c.read_to_end.new.buf.items c.new-bytes.ensures.items
    (rw (c.take.ensures.limit, c.take.ensures.inner) at c.in-Ok-2.ensures.bytes) long
