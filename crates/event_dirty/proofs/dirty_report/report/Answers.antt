use Rattle.std.proofs.Common.{◌≡◌, ◌∙◌, List, ℕ, [], ◌∷◌, sym, ap, arith}
use Rattle.dirty_bitmap.specs.Tracking.{is_dirty}
use Rattle.iofd_runs.proofs.NotRefused.{dirty_passed}
use Rattle.iofd_words.specs.Bounds.{Bounds}
use Rattle.iofd_words.specs.Dirty.{reported_span}
use Rattle.iofd_words.specs.DirtyWords.{dirty_words}
use Rattle.iofd_words.specs.View.{view}
use Rattle.iofd_words.specs.declared.query.Answer.TheVariants as answer
use Rattle.server_state.specs.Choice.{IsLooked}
use Rattle.event_dirty.proofs.Reported.{fits, never_none, same_words}
use Rattle.event_dirty.proofs.dirty_report.report.Goals as goal

pub unreachable-requires : goal.unreachable-requires
unreachable-requires g c =
    let w = c.requires.known.world in
    let may = fits (view w) c.args.file c.args.request
    (dirty_passed (view w) c.args.file c.args.request c.requires.none) in
    never_none c.of_length.result c.of_length.ensures.fits.1 may c.in-None.is

-- the one lawful answer
one : (told words : List ℕ) → words ≡ told → IsLooked (answer.Dirty told ∷ []) (answer.Dirty words)
one told words is = record { is_lawful = (0, omega arith, ap answer.Dirty (sym is)); is_fault_else = λ has. cc }

pub returns : goal.returns
returns g c = λ at w records tidy shows none.
    let s = c.args.state.now in
    let request = c.args.request in
    one _ _ (c.report.ensures
    ∙ ap (λ (b : Bounds). dirty_words (is_dirty s.dirty c.args.file request.hwpt) b) c.in-Some.ensures.value
    ∙ same_words w s shows c.args.file request)
