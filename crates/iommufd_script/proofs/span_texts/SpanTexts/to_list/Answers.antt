use Rattle.std.proofs.Common.{◌≡◌, ◌<◌, List, [], ◌∷◌, ◌++◌, append_assoc, length, length-append, ap, arith}
use Rattle.std.proofs.Common.{Result, Ok, Err, OnErr}
use Rattle.iofd_words.proofs.Unsaid.{unsaid}
use Rattle.iofd_words.specs.Bounds.{Bounds}
use Rattle.iommufd_script.proofs.span_texts.SpanTexts.to_list.Goals as goal

moved : (list more spans others all : List Bounds) (span : Bounds) → more ≡ list ++ span ∷ [] → spans ≡ span ∷ others
    → list ++ spans ≡ all → more ++ others ≡ all
moved list more spans others all span pushed taken kept = rw (pushed, append_assoc) (rw taken at kept)

-- where one is still to be moved there are some
some_in : (list spans others own same : List Bounds) (span : Bounds) → spans ≡ span ∷ others → list ++ spans ≡ same
    → same ≡ own → 0 < length own
some_in list spans others own same span taken kept is =
    omega (arith, ap length taken, length-append list spans, ap length kept, ap length is)

on_err : {T E P : Type 0} (r : Result T E) → P → OnErr r P
on_err (Ok x) p = tt
on_err (Err e) p = p

pub loop-span-preserved : goal.loop-span-preserved
loop-span-preserved g c =
    moved c.loop-span.list.items c.push.new.self.items c.loop-span.spans c.next_span.new.self c.same-spans.result
    c.in-Some.span c.in_ok-push.ensures.items c.in-Some.ensures c.loop-span.invariant

pub returns-in_err-push-clause-ok : goal.returns-in_err-push-clause-ok
returns-in_err-push-clause-ok g c =
    unsaid (λ list. list ≡ c.args.self.now) c.from_residual.result c.from_residual.ensures.0

pub returns-in_err-push-clause-memory : goal.returns-in_err-push-clause-memory
returns-in_err-push-clause-memory g c =
    on_err c.from_residual.result
    (some_in c.loop-span.list.items c.loop-span.spans c.next_span.new.self c.args.self.now c.same-spans.result
    c.in-Some.span c.in-Some.ensures c.loop-span.invariant c.same-spans.ensures)

pub returns-clause-memory : goal.returns-clause-memory
returns-clause-memory g c = tt
