use Rattle.std.proofs.Common.{◌≡◌, ◌<◌, true, false, leb, not, sym, ap, ◌∙◌, arith, ⊎_elim}
use Rattle.std.proofs.lemmas.Bool.{cases_Bool, leb-true}
use Rattle.std.proofs.lemmas.Bool.Decides.{nat_tests}
use Rattle.iofd_words.specs.Levels.{levels_of}
use Rattle.page_table_words.proofs.Needs.{absent_above, first_below, present_from}
use Rattle.page_table.proofs.table.Table.has.Goals as goal

pub lowest-requires-clause-below : goal.lowest-requires-clause-below
lowest-requires-clause-below g c =
    rw c.first_page.ensures (first_below c.args.self.now.width c.args.level c.args.number
    (omega (arith, c.requires.low)) c.requires.number)

pub returns : goal.returns
returns g c = λ rows pages stands.
    let levels = levels_of c.args.self.now.width in
    let lowest = rw c.first_page.ensures at (c.lowest.ensures.lowest rows pages stands) in
    ⊎_elim
    (λ (low : leb c.lowest.result.level c.args.level ≡ true).
    low ∙ sym (ap not (present_from c.args.pool.now levels c.args.self.now.root rows pages stands c.args.level
    c.lowest.result.level c.args.number c.lowest.result.frame lowest c.requires.some (leb-true _ _ low)
    (omega (arith, c.requires.low)))))
    (λ (high : leb c.lowest.result.level c.args.level ≡ false).
    let above : c.args.level < c.lowest.result.level = grind (arith, nat_tests) in
    high ∙ sym (ap not (absent_above c.args.pool.now levels c.args.self.now.root rows pages stands c.args.level
    c.lowest.result.level c.args.number c.lowest.result.frame lowest c.requires.some above)))
    (cases_Bool (leb c.lowest.result.level c.args.level))
