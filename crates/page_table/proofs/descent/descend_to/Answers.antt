use Rattle.std.proofs.Common.{ℕ, ◌≡◌, ◌∙◌, ap, sym, arith}
use Rattle.page_table_words.specs.Rows.{table_at}
use Rattle.page_table_words.proofs.Tables.{table_within}
use Rattle.page_table.proofs.Emptying.{down_small, one_down}
use Rattle.page_table.proofs.descent.descend_to.Goals as goal

pub read-requires-clause-frame : goal.read-requires-clause-frame
read-requires-clause-frame g c =
    let w = c.loop-above.invariant.way in
    table_within c.args.pool.now w.levels w.root w.rows w.pages w.stands c.loop-above.above c.args.page
    c.loop-above.frame w.at

pub frame-frame-requires : goal.frame-frame-requires
frame-frame-requires g c =
    let w = c.loop-above.invariant.way in
    down_small c.args.pool.now w.levels w.root w.rows w.pages w.stands c.loop-above.above c.args.level c.args.page
    c.loop-above.frame w.at w.there c.requires.some (omega (arith, c.loop-above-test.true)) c.read.result.0 c.read.ensures

pub loop-above-preserved : goal.loop-above-preserved
loop-above-preserved g c =
    let inv = c.loop-above.invariant in
    let w = inv.way in
    let next = one_down c.args.pool.now w.levels w.root w.rows w.pages w.stands c.loop-above.above c.args.level
    c.args.page c.loop-above.frame w.at w.there c.requires.some (omega (arith, c.loop-above-test.true)) c.read.result.0 c.read.ensures
    c.frame-frame.result c.frame-frame.ensures in
    record {
      low = omega (arith, c.loop-above-test.true);
      down = omega (arith, inv.down);
      way = record {
        levels = w.levels;
        root = w.root;
        rows = w.rows;
        pages = w.pages;
        stands = w.stands;
        at = next;
        there = w.there;
      };
      at = λ levels root rows pages stands top there.
          one_down c.args.pool.now levels root rows pages stands c.loop-above.above c.args.level c.args.page
          c.loop-above.frame (inv.at levels root rows pages stands top there) there c.requires.some
          (omega (arith, c.loop-above-test.true)) c.read.result.0 c.read.ensures c.frame-frame.result c.frame-frame.ensures;
    }

pub returns : goal.returns
returns g c = λ levels root rows pages stands top there.
    let inv = c.loop-above.invariant in
    let last : c.loop-above.above ≡ c.args.level = omega (arith, inv.low, c.loop-above-test.false) in
    ap (λ (k : ℕ). table_at rows k c.args.page) (sym last) ∙ inv.at levels root rows pages stands top there
