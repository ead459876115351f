use borrow.Author.Rules.{scaled_Fits}
use Rattle.std.proofs.Common.{◌≡◌, ◌∙◌, ℕ, Bool, ap, arith, get_or, length, refl, sym, true}
use Rattle.std.proofs.lemmas.List.{take_all}
use Rattle.std.proofs.lemmas.List.Folds.{list_all_at, list_all_more}
use Rattle.memory_objects.specs.Objects.{all_pass, is_of, object_at, passes, standing}
use Rattle.memory_objects.proofs.questions.are_of.Goals as goal

pub loop-number-init : goal.loop-number-init
loop-number-init g c = refl

pub offset_bounds-numbers-number-index : goal.offset_bounds-numbers-number-index
offset_bounds-numbers-number-index g c =
    scaled_Fits c.loop-number.number-index (length c.args.numbers.now) _ c.loop-number-test.true c.well_formed.1.0.1

pub bounds-numbers-number-index : goal.bounds-numbers-number-index
bounds-numbers-number-index g c = c.loop-number-test.true

pub is_of-requires : goal.is_of-requires
is_of-requires g c = c.requires

pub returns-then-not-is_of : goal.returns-then-not-is_of
returns-then-not-is_of g c =
    let objects = standing c.args.entries.now in
    sym (list_all_at (λ n. passes (is_of c.args.user.0) (object_at objects n)) c.args.numbers.now
    c.loop-number.number-index 0 c.loop-number-test.true (sym c.is_of.ensures ∙ c.if-not-is_of.true))

pub loop-number-smaller : goal.loop-number-smaller
loop-number-smaller g c = omega (arith, c.loop-number-test.true)

pub loop-number-preserved : goal.loop-number-preserved
loop-number-preserved g c =
    let numbers = c.args.numbers.now in
    let i = c.loop-number.number-index in
    let pass : ℕ → Bool = λ n. passes (is_of c.args.user.0) (object_at (standing c.args.entries.now) n) in
    let here : pass (get_or numbers i 0) ≡ true = sym c.is_of.ensures ∙ c.if-not-is_of.false in
    rw (list_all_more pass numbers i 0 c.loop-number-test.true, c.loop-number.invariant, here) refl

pub returns : goal.returns
returns g c = sym c.loop-number.invariant ∙ ap (all_pass (is_of c.args.user.0) (standing c.args.entries.now))
    (take_all c.loop-number.number-index c.args.numbers.now c.loop-number-test.false)
