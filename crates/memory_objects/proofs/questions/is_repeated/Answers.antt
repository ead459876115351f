use Rattle.std.proofs.Common.{◌≡◌, ◌-◌, eqb, false, get_or, true, sym, ◌∙◌, ⊎_elim}
use Rattle.std.proofs.lemmas.Bool.{cases_Bool, eqb-false, eqb-true}
use Rattle.memory_objects.proofs.Counted.{first_time, repeated}
use Rattle.memory_objects.proofs.questions.is_repeated.Goals as goal

pub returns-then-at-gt0 : goal.returns-then-at-gt0
returns-then-at-gt0 c =
    let numbers = c.args.numbers.now in
    let at = c.args.at in
    let before = get_or numbers (at - 1) 0 in
    let here = get_or numbers at 0 in
    ⊎_elim
    (λ (same : eqb before here ≡ true). same
    ∙ sym (repeated numbers at c.requires.within c.if-at-gt0.true (eqb-true before here same)))
    (λ (differ : eqb before here ≡ false). differ
    ∙ sym (first_time numbers at c.requires.sorted c.requires.within (λ some. eqb-false before here differ)))
    (cases_Bool (eqb before here))
