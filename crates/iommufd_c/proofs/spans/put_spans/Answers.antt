use Rattle.std.proofs.Common.{◌≡◌, ◌<◌, ◌∙◌, ap, arith, length, min, rules, slice_set, take, ℕ}
use Rattle.std.proofs.lemmas.List.{length-set}
use Rattle.iommufd_c.specs.Exports.{row_of}
use Rattle.iommufd_c.specs.declared.spans.SpanRow.{SpanRow}
use Rattle.iommufd_c.proofs.Rows.{all_put, put_more}
use Rattle.iommufd_c.proofs.spans.put_spans.Goals as goal

pub loop-place-preserved : goal.loop-place-preserved
loop-place-preserved c =
    let now = c.loop-place in
    let old = c.args.rows.now in
    let front = take c.min.result c.args.spans.now in
    let span = c.index-front-place.result in
    let there : now.place < length old = omega (arith, now.invariant.few, c.loop-place-test.true) in
    let long : length (slice_set now.rows now.place c.row_of.result) ≡ length now.rows =
    length-set now.rows now.place c.row_of.result in
    record {
      few = omega (arith, now.invariant.few, long);
      put = ap (λ (row : SpanRow). slice_set now.rows now.place row) c.row_of.ensures
          ∙ put_more row_of front old now.rows now.place span c.loop-place-test.true there now.invariant.put
          c.index-front-place.is;
    }

pub returns : goal.returns
returns c =
    let now = c.loop-place in
    let count : c.min.result ≡ min (length c.args.rows.now) (length c.args.spans.now) = search rules in
    let end : now.place ≡ length (take c.min.result c.args.spans.now) = omega arith in
    all_put row_of c.args.spans.now c.args.rows.now now.rows (take c.min.result c.args.spans.now) now.place
    (ap (λ (n : ℕ). take n c.args.spans.now) count) end now.invariant.put
