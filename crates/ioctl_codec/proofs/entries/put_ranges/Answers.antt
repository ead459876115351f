use Rattle.std.proofs.Common.{◌≤◌, length, ap, subst, arith}
use Rattle.std.proofs.lemmas.List.{take_all}
use Rattle.iofd_words.specs.Bounds.{Bounds}
use Rattle.ioctl_codec.specs.Entries.{AreAddresses}
use Rattle.ioctl_codec.proofs.EntriesBytes.{is_next, written_more, AreAddresses_more}
use Rattle.ioctl_codec.proofs.entries.put_ranges.Goals as goal

pub loop-range-preserved : goal.loop-range-preserved
loop-range-preserved g c =
    let i = c.loop-range.range-index in
    let ranges = c.args.ranges.now in
    let range = c.range.inside in
    let put = c.in_ok-put_entry.ensures in
    let next =
    is_next i ranges range.start range.last c.range-item.result c.range-item.is
    (ap (λ (r : Bounds). r.first) c.range.view_is) (ap (λ (r : Bounds). r.last) c.range.view_is) in
    record {
      bytes = written_more c.loop-range.out.items c.args.out.now.items c.put_entry.new.out.items i ranges range.start
          range.last c.loop-range-test.true next c.loop-range.invariant.bytes put.bytes;
      fits = AreAddresses_more i ranges range.start range.last c.loop-range-test.true next
          c.loop-range.invariant.fits put.start put.last;
    }

pub returns-clause-fits : goal.returns-clause-fits
returns-clause-fits g c =
    let ranges = c.args.ranges.now in
    let end : length ranges ≤ c.loop-range.range-index = omega (arith, c.loop-range-test.false) in
    subst AreAddresses (take_all c.loop-range.range-index ranges end) c.loop-range.invariant.fits
