use Rattle.std.proofs.Common.{◌≡◌, ◌+◌, ◌-◌, ◌∙◌, arith}
use Rattle.page_table_spans.proofs.SpanMapped.{cleared_alike, cleared_more}
use Rattle.page_table_spans.proofs.mapping.clear.Goals as goal

pub clear-requires : goal.clear-requires
clear-requires g c =
    let has = c.requires.table in
    let is = c.loop-page.invariant.cleared has.rows has.pages has.stands in
    rw c.loop-page.invariant.table (record { rows = has.rows; pages = is.cleared; stands = is.becomes.stands })

pub loop-page-preserved : goal.loop-page-preserved
loop-page-preserved g c =
    let inv = c.loop-page.invariant in
    record {
      table = c.clear.ensures.same ∙ inv.table;
      holds = c.clear.ensures.holds ∙ inv.holds;
      cleared = λ rows pages stands.
          let is = inv.cleared rows pages stands in
          cleared_more c.args.pool.now c.loop-page.pool c.clear.new.pool c.args.table.now rows pages c.args.first_page
          (c.loop-page.page - c.args.first_page) c.loop-page.page (c.loop-page.page + 1 - c.args.first_page) is
          (omega arith) (omega arith)
          ((rw (c.clear.ensures.same, inv.table) at c.clear.ensures.table) rows is.cleared is.becomes.stands);
    }

pub returns-clause-stands : goal.returns-clause-stands
returns-clause-stands g c =
    let has = c.requires.table in
    let is = c.loop-page.invariant.cleared has.rows has.pages has.stands in
    rw c.loop-page.invariant.table (record { rows = has.rows; pages = is.cleared; stands = is.becomes.stands })

pub returns-clause-cleared : goal.returns-clause-cleared
returns-clause-cleared g c = λ rows pages stands others clears.
    let inv = c.loop-page.invariant in
    let all : c.loop-page.page - c.args.first_page ≡ c.args.count = omega arith in
    rw inv.table (cleared_alike c.args.pool.now c.loop-page.pool c.args.table.now rows pages others c.args.first_page
    c.args.count (rw all at inv.cleared rows pages stands) clears)
