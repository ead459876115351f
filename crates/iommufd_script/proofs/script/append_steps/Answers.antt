use Rattle.std.proofs.Common.{◌≡◌, ℕ, ◌+◌, Bool, true, false, not, cond, List, ◌∷◌, Option, Some, None, refl, sym}
use Rattle.std.proofs.Common.{[], ◌++◌, append_assoc, ap, ◌∙◌, arith, rules}
use Rattle.iommufd_script.specs.Lines.{lines, line_of}
use Rattle.iommufd_script.specs.Script.{first_bad, first_bad_line, after, bad_or, step_before, steps_in, steps_of}
use Rattle.iommufd_script.specs.declared.line.Line.{Line}
use Rattle.iommufd_script.specs.declared.line.Line.TheVariants as line
use Rattle.iommufd_script.specs.declared.line.Step.{Step}
use Rattle.iommufd_script.specs.declared.place.Place.{Place}
use Rattle.iommufd_script.proofs.script.append_steps.Goals as goal

-- the first bad line of a text, by where its first line leads
by_line : (k : ℕ) (p : Place) (rest others : List ℕ) {text : List ℕ} {l : Option Line} {end : Option ℕ}
    {o : Option Place} → lines rest ≡ text ∷ lines others → line_of text ≡ l → after p l ≡ o
    → first_bad k p (lines rest) ≡ end → bad_or (k + 1) o (λ next. first_bad (k + 1) next (lines others)) ≡ end
by_line k p rest others split said leads all =
    sym (ap (λ (place : Option Place). bad_or (k + 1) place (λ next. first_bad (k + 1) next (lines others)))
    (ap (after p) said ∙ leads))
    ∙ sym (ap (first_bad k p) split) ∙ all

begun : (b : Bool) (p : Place) → not b ≡ false → cond b (Some p) None ≡ Some p
begun true p e = refl
begun false p e = absurd cc

-- the steps of a text, by what its first line is
by_step : (rest others : List ℕ) {text : List ℕ} {l : Option Line} → lines rest ≡ text ∷ lines others
    → line_of text ≡ l → steps_of rest ≡ step_before l (steps_of others)
by_step rest others split said = ap steps_in split ∙ ap (λ (l : Option Line). step_before l (steps_of others)) said

step_taken : (items next : List Step) (step : Step) (rest others : List ℕ) {all : List Step}
    → next ≡ items ++ step ∷ [] → steps_of rest ≡ step ∷ steps_of others → items ++ steps_of rest ≡ all
    → next ++ steps_of others ≡ all
step_taken items next step rest others pushed first taken =
    ap (λ (xs : List Step). xs ++ steps_of others) pushed ∙ append_assoc items (step ∷ []) (steps_of others)
    ∙ sym (ap (λ (xs : List Step). items ++ xs) first) ∙ taken

not_begun : (begun : Bool) (p : Place) → not begun ≡ true → cond begun (Some p) None ≡ None
not_begun true p e = absurd cc
not_begun false p e = refl

pub returns-then-not-place-clause-err : goal.returns-then-not-place-clause-err
unfolding first_bad_line
returns-then-not-place-clause-err g c =
    by_line c.loop-rest.number c.loop-rest.place c.loop-rest.rest.now c.split_line.result.1.now
    c.split_line.ensures.lines
    (sym c.parse_line.ensures ∙ c.in-Some-Step.is ∙ ap (λ (l : Line). Some l) c.in-Some-Step.field-0-is)
    (not_begun c.loop-rest.place.begun c.loop-rest.place c.if-not-place.true) c.loop-rest.invariant.same

pub returns-in_default-clause-err : goal.returns-in_default-clause-err
unfolding first_bad_line
returns-in_default-clause-err g c =
    by_line c.loop-rest.number c.loop-rest.place c.loop-rest.rest.now c.split_line.result.1.now
    c.split_line.ensures.lines
    (sym c.parse_line.ensures ∙ c.in-Some-Head.is ∙ ap (λ (l : Line). Some l) c.in-Some-Head.field-0-is)
    (sym {b = after c.loop-rest.place (Some (line.Head c.in-Some-Head.heading))} c.after_heading.ensures
    ∙ c.in_default.is) c.loop-rest.invariant.same

pub returns-in-None-clause-err : goal.returns-in-None-clause-err
unfolding first_bad_line
returns-in-None-clause-err g c =
    by_line c.loop-rest.number c.loop-rest.place c.loop-rest.rest.now c.split_line.result.1.now
    c.split_line.ensures.lines (sym c.parse_line.ensures ∙ c.in-None.is) refl c.loop-rest.invariant.same

pub loop-rest-preserved-else-is_err : goal.loop-rest-preserved-else-is_err
loop-rest-preserved-else-is_err g c =
    let rest = c.loop-rest.rest.now in
    let others = c.split_line.result.1.now in
    let split = c.split_line.ensures.lines in
    let said = sym c.parse_line.ensures ∙ c.in-Some-Step.is ∙ ap (λ (l : Line). Some l) c.in-Some-Step.field-0-is in
    record {
      same = by_line c.loop-rest.number c.loop-rest.place rest others split said
          (begun c.loop-rest.place.begun c.loop-rest.place c.if-not-place.false) c.loop-rest.invariant.same;
      count = omega (arith, c.loop-rest.invariant.count, c.split_line.ensures.shorter);
      taken = step_taken c.loop-rest.steps.items c.push.new.self.items c.in-Some-Step.step rest others (search rules)
          (by_step rest others split said) c.loop-rest.invariant.taken;
    }

pub loop-rest-preserved-in-Some : goal.loop-rest-preserved-in-Some
loop-rest-preserved-in-Some g c =
    let rest = c.loop-rest.rest.now in
    let others = c.split_line.result.1.now in
    let split = c.split_line.ensures.lines in
    let said = sym c.parse_line.ensures ∙ c.in-Some-Head.is ∙ ap (λ (l : Line). Some l) c.in-Some-Head.field-0-is in
    record {
      same = by_line c.loop-rest.number c.loop-rest.place rest others split said
          (sym {b = after c.loop-rest.place (Some (line.Head c.in-Some-Head.heading))} c.after_heading.ensures
          ∙ c.in-Some.is) c.loop-rest.invariant.same;
      count = omega (arith, c.loop-rest.invariant.count, c.split_line.ensures.shorter);
      taken = ap (λ (xs : List Step). c.loop-rest.steps.items ++ xs) (sym (by_step rest others split said))
          ∙ c.loop-rest.invariant.taken;
    }

pub loop-rest-preserved : goal.loop-rest-preserved
loop-rest-preserved g c =
    let rest = c.loop-rest.rest.now in
    let others = c.split_line.result.1.now in
    let split = c.split_line.ensures.lines in
    let said = sym c.parse_line.ensures ∙ c.in-Some-Skipped.is ∙ ap (λ (l : Line). Some l) c.in-Some-Skipped.field-0-is
    in
    record {
      same = by_line c.loop-rest.number c.loop-rest.place rest others split said refl c.loop-rest.invariant.same;
      count = omega (arith, c.loop-rest.invariant.count, c.split_line.ensures.shorter);
      taken = ap (λ (xs : List Step). c.loop-rest.steps.items ++ xs) (sym (by_step rest others split said))
          ∙ c.loop-rest.invariant.taken;
    }
