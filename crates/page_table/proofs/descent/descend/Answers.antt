use Rattle.std.proofs.Common.{ℕ, ◌≡◌, ◌-◌, List, Some, sym, arith, ◌∙◌}
use Rattle.std.proofs.lemmas.Bool.Decides.{nat_tests}
use Rattle.iofd_words.specs.declared.numbers.FrameNo.{FrameNo}
use Rattle.page_table_words.specs.Rows.{MappedPage, TableRow, table_at}
use Rattle.page_table_words.specs.Stands.{Stands}
use Rattle.page_table_words.proofs.Decoded.{table_absent}
use Rattle.page_table_words.proofs.Descends.{next_at, through_within}
use Rattle.page_table.proofs.Walking.{same_rights}
use Rattle.page_table.proofs.descent.descend.Goals as goal

pub read-entry-requires-clause-frame : goal.read-entry-requires-clause-frame
read-entry-requires-clause-frame g c = through_within c.args.pool.now c.loop-reached.reached.level c.args.page
    c.loop-reached.reached.frame c.loop-reached.invariant.through

pub returns-clause-lowest : goal.returns-clause-lowest
returns-clause-lowest g c = λ levels root rows pages stands at.
    record {
      at = c.loop-reached.invariant.at levels root rows pages stands at;
      last = λ low. absurd (omega (arith, low, c.loop-reached-test.false));
    }

pub returns-then-not-is_present-clause-lowest : goal.returns-then-not-is_present-clause-lowest
returns-then-not-is_present-clause-lowest g c = λ levels root rows pages stands at.
    let here = c.loop-reached.invariant.at levels root rows pages stands at in
    record {
      at = here;
      last = λ low. table_absent (table_at rows (c.loop-reached.reached.level - 1) c.args.page)
          c.read-entry.result.0 (c.read-entry.ensures
          ∙ stands.entries c.loop-reached.reached.level c.args.page c.loop-reached.reached.frame here low)
          (grind (arith, nat_tests));
    }

pub loop-reached-preserved : goal.loop-reached-preserved
loop-reached-preserved g c =
    let t = c.loop-reached.invariant.through in
    let next = λ (levels : ℕ) (root : FrameNo) (rows : List TableRow) (pages : List MappedPage)
    (stands : Stands c.args.pool.now levels root rows pages)
    (at : table_at rows c.loop-reached.reached.level c.args.page ≡ Some c.loop-reached.reached.frame). next_at
    c.args.pool.now levels root rows pages stands c.loop-reached.reached.level c.args.page
    c.loop-reached.reached.frame at c.read-entry.result.0 c.loop-reached-test.true c.read-entry.ensures
    c.frame.result (sym c.if-not-is_present.ensures) c.frame.ensures in
    let down = next t.levels t.root t.rows t.pages t.stands t.at in
    record {
      some = omega (arith, c.loop-reached-test.true);
      down = omega (arith, c.loop-reached.invariant.down);
      rights = same_rights c.loop-reached.reached.rights.0 c.rights.result.0 c.loop-reached.invariant.rights
          (omega (arith, c.rights.ensures, down.1)) ∙ c.rights.ensures ∙ down.1;
      through =
          record { levels = t.levels; root = t.root; rows = t.rows; pages = t.pages; stands = t.stands; at = down.0 };
      at = λ levels root rows pages stands at.
          (next levels root rows pages stands (c.loop-reached.invariant.at levels root rows pages stands at)).0;
    }
