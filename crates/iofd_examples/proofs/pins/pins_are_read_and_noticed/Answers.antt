use Rattle.std.proofs.Common.{refl}
use Rattle.iofd_steps.specs.Look.{answers_in}
use Rattle.iofd_examples.proofs.pins.pins_are_read_and_noticed.Goals as goal

pub returns-clause-pinned : goal.returns-clause-pinned
unfolding answers_in
returns-clause-pinned c = refl

pub returns-clause-kept : goal.returns-clause-kept
unfolding answers_in
returns-clause-kept c = refl

pub returns-clause-one_left : goal.returns-clause-one_left
unfolding answers_in
returns-clause-one_left c = refl

pub returns-clause-let_go : goal.returns-clause-let_go
unfolding answers_in
returns-clause-let_go c = refl

pub returns-clause-pinned_anew : goal.returns-clause-pinned_anew
unfolding answers_in
returns-clause-pinned_anew c = refl

pub returns-clause-leaving : goal.returns-clause-leaving
unfolding answers_in
returns-clause-leaving c = refl

pub returns-clause-all_leaving : goal.returns-clause-all_leaving
unfolding answers_in
returns-clause-all_leaving c = refl

pub returns-clause-others : goal.returns-clause-others
unfolding answers_in
returns-clause-others c = refl

pub returns-clause-live : goal.returns-clause-live
unfolding answers_in
returns-clause-live c = refl

pub returns-clause-narrow : goal.returns-clause-narrow
unfolding answers_in
returns-clause-narrow c = refl
