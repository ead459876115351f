use Rattle.std.proofs.Common.{Bool, true, List, ◌++◌, refl, subst, sym}
use Rattle.iofd_words.specs.Record.{Record}
use Rattle.iommufd_cli.specs.Failures.{BeginsEnd}
use Rattle.iommufd_cli.specs.Journal.{EndText}
use Rattle.iommufd_cli.proofs.Written.{appends_more, BeginsTo, journal_begun, journal_text, lines_begun, on_err}
use Rattle.iommufd_cli.proofs.Written.{plain_text, TextTo}
use Rattle.iommufd_cli.proofs.run.run_whole.Goals as goal

pub returns-in_err-run_steps-clause-begun : goal.returns-in_err-run_steps-clause-begun
returns-in_err-run_steps-clause-begun g c =
    let (out, (begun, last), written) = c.in_err-run_steps.ensures.begun in
    on_err c.from_residual.result (out, lines_begun _ _ _ _ _ out begun last, written)

pub returns-else-journal-clause-text : goal.returns-else-journal-clause-text
returns-else-journal-clause-text g c =
    let (out, lines, written) = c.in_ok-run_steps.ensures.text in
    let (text, last) = subst
    (λ (b : Bool). TextTo b c.args.config.now c.args.core.now c.args.steps.now c.run_steps.new.core out)
    (sym c.if-journal.false)
    (plain_text c.args.config.now c.args.core.now c.run_steps.new.core c.args.steps.now out lines) in
    (out, (text, refl, last), written)

pub returns-in_err-put_journal-clause-begun : goal.returns-in_err-put_journal-clause-begun
returns-in_err-put_journal-clause-begun g c =
    let (out, lines, written) = c.in_ok-run_steps.ensures.text in
    let (front, begun, more) = c.in_err-put_journal.ensures.err in
    on_err c.from_residual-in_err-put_journal.result (
      out ++ front,
      subst (λ (b : Bool). BeginsTo b c.args.config.now c.args.core.now c.args.steps.now c.run_steps.new.core
          (out ++ front))
          (sym c.if-journal.true)
          (journal_begun c.args.config.now c.args.core.now c.run_steps.new.core c.args.steps.now out front lines
          (subst (λ (records : List (Record _)). BeginsEnd true c.args.config.now records front)
          c.records.ensures.value begun)),
      appends_more _ _ _ out front written more,
    )

pub returns-in_ok-put_journal-clause-text : goal.returns-in_ok-put_journal-clause-text
returns-in_ok-put_journal-clause-text g c =
    let (out, lines, written) = c.in_ok-run_steps.ensures.text in
    let (end, is, more) = c.in_ok-put_journal.ensures.ok in
    let (text, last) = subst
    (λ (b : Bool). TextTo b c.args.config.now c.args.core.now c.args.steps.now c.run_steps.new.core (out ++ end))
    (sym c.if-journal.true)
    (journal_text c.args.config.now c.args.core.now c.run_steps.new.core c.args.steps.now out end lines
    (subst (λ (records : List (Record _)). EndText true c.args.config.now records end) c.records.ensures.value is)) in
    (out ++ end, (text, refl, last), appends_more _ _ _ out end written more)
