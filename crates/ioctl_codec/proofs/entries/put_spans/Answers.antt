use Rattle.ioctl_codec.proofs.EntriesBytes.{is_next, written_more}
use Rattle.ioctl_codec.proofs.entries.put_spans.Goals as goal

pub loop-span-preserved : goal.loop-span-preserved
loop-span-preserved g c =
    let i = c.loop-span.span-index in
    let spans = c.args.spans.now in
    let next = is_next i spans c.first.result c.last.result c.span-item.result c.span-item.is
    c.first.ensures.value c.last.ensures.value in
    written_more c.loop-span.out.items c.args.out.now.items c.put_entry.new.out.items i spans c.first.result
    c.last.result c.loop-span-test.true next c.loop-span.invariant c.in_ok-put_entry.ensures.bytes
