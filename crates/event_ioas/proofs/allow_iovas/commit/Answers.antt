use Rattle.std.proofs.Common.{◌≡◌, [], ◌∷◌, ◌++◌, length, ap, ◌∙◌, arith}
use Rattle.std.proofs.lemmas.Bool.Decides.{nat_tests}
use Rattle.iofd_steps.specs.After.{changed}
use Rattle.iofd_words.specs.Allowed.{AllowedRanges, without_allowed}
use Rattle.iofd_steps.specs.Answers.{Answers}
use Rattle.event_ioas.proofs.RangesAllowed.{shows_allowed, shows_lifted}
use Rattle.event_ioas.proofs.allow_iovas.commit.Goals as goal

pub returns-then-is_empty-clause-ok : goal.returns-then-is_empty-clause-ok
unfolding changed Answers
returns-then-is_empty-clause-ok g c =
    let none_there : length c.args.ranges.now ≡ 0 =
    search (c.as_slice.ensures, c.is_empty.ensures, c.if-is_empty.true, arith, nat_tests) in
    λ at w tidy shows none. (
      tt,
      shows_lifted w c.args.state.now c.args.file c.args.ioas c.args.ranges.now
          c.remove.new.self shows none_there c.remove.ensures.rows,
    )

pub returns-clause-ok : goal.returns-clause-ok
unfolding changed Answers
returns-clause-ok g c = λ at w tidy shows none. (
  tt,
  shows_allowed w c.args.state.now c.args.file c.args.ioas c.args.ranges.now c.set.new.self shows
      (c.in_ok-set.ensures.rows
      ∙ ap (λ (row : AllowedRanges). without_allowed row.file row.ioas c.args.state.now.allowed.rows ++ row
      ∷ []) c.in_ok-row.ensures.ok
      ∙ ap (λ ranges. without_allowed c.args.file c.args.ioas c.args.state.now.allowed.rows ++ record {
        file = c.args.file;
        ioas = c.args.ioas;
        spans = ranges;
      } ∷ []) c.in_ok-ranges.ensures.ok),
)
