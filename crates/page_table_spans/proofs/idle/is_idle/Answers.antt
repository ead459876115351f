use Rattle.std.proofs.Common.{Bool, ◌&&◌, not, sym, ap, ◌∙◌, arith}
use Rattle.page_table_words.specs.Needed.{is_absent}
use Rattle.page_table_spans.proofs.IdleTables.{end_fits}
use Rattle.page_table_spans.proofs.idle.is_idle.Goals as goal

pub is_left_idle-requires-clause-fits : goal.is_left_idle-requires-clause-fits
is_left_idle-requires-clause-fits g c =
    end_fits c.args.table.now.width c.args.level c.args.number (omega (arith, c.requires.low)) c.requires.number

pub returns-then-is_left_idle : goal.returns-then-is_left_idle
returns-then-is_left_idle g c = λ rows pages stands.
    c.has.ensures rows pages stands
    ∙ sym (ap (λ (b : Bool). b && not (is_absent rows c.args.level c.args.number))
    (sym c.is_left_idle.ensures ∙ c.if-is_left_idle.true))
