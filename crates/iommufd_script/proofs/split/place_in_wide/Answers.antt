use Rattle.std.proofs.Common.{◌≡◌, ◌+◌, sym, ◌∙◌, arith}
use Rattle.iommufd_script.proofs.Parts.{at_hit, at_most_stride, first_place, further}
use Rattle.iommufd_script.proofs.split.place_in_wide.Goals as goal

pub returns-then-before-lt-WIDE-clause-found : goal.returns-then-before-lt-WIDE-clause-found
returns-then-before-lt-WIDE-clause-found c =
    let byte = c.args.byte in
    let text = c.args.text.now in
    let start = c.loop-start.start in
    let before = c.count_before_wide-before.result in
    let counted = c.count_before_wide-before.ensures in (
      omega arith,
      first_place byte text (start + before) (omega arith)
          (further byte text start 64 before (omega arith) counted c.loop-start.invariant.before)
          (at_hit byte text start 64 before (omega arith) counted (omega arith)),
    )

pub loop-start-preserved : goal.loop-start-preserved
loop-start-preserved c =
    let byte = c.args.byte in
    let text = c.args.text.now in
    let start = c.loop-start.start in
    let before = c.count_before_wide-before.result in
    let counted = c.count_before_wide-before.ensures in
    let most = at_most_stride byte text start 64 before (omega arith) counted in
    let all : before ≡ 64 = omega (arith, most) in record {
      within = omega arith;
      before = further byte text start 64 64 (omega arith) (sym all ∙ counted) c.loop-start.invariant.before;
    }
