use Rattle.std.proofs.Common.{◌≡◌, ◌*◌, ◌<◌, ◌≤◌, ◌++◌, ◌∷◌, [], length, arith}
use Rattle.std.specs.Int.{w32}
use Rattle.std.proofs.lemmas.List.{map_push}
use Rattle.journal_audit_bytes.specs.Reading.{elements_at, of_frames}
use Rattle.journal_audit_bytes.proofs.Elements.{ends, goes_on, is_done, on_memory, some_elements, too_few_frames}
use Rattle.journal_audit_bytes.proofs.lists.frames_from.Goals as goal

pub returns-then-bytes-count-clause-read : goal.returns-then-bytes-count-clause-read
returns-then-bytes-count-clause-read g c = too_few_frames c.args.count c.args.bytes.now c.if-bytes-count.true

pub returns-in_default-clause-read : goal.returns-in_default-clause-read
returns-in_default-clause-read g c =
    ends (w32 ∷ []) (of_frames c.loop.frames.items) c.args.count c.loop.counter c.loop.rest.now
    (elements_at c.args.count (w32 ∷ []) c.args.bytes.now) c.loop-test.true c.in_default.ensures c.loop.invariant

pub loop-preserved : goal.loop-preserved
loop-preserved g c =
    let more : of_frames c.push.new.self.items ≡ of_frames c.loop.frames.items ++ (c.in-Some.frame.0 ∷ []) ∷ [] =
    rw c.in_ok-push.ensures.items (map_push _ c.loop.frames.items _) in
    rw more (goes_on (w32 ∷ []) (of_frames c.loop.frames.items) c.args.count c.loop.counter c.loop.rest.now
    (c.in-Some.frame.0 ∷ []) c.in-Some.after.now
    (elements_at c.args.count (w32 ∷ []) c.args.bytes.now) c.loop-test.true c.in-Some.ensures c.loop.invariant)

pub returns-clause-read : goal.returns-clause-read
returns-clause-read g c =
    is_done (w32 ∷ []) (of_frames c.loop.frames.items) c.args.count c.loop.counter c.loop.rest.now
    (elements_at c.args.count (w32 ∷ []) c.args.bytes.now) c.loop-test.false c.loop.invariant

pub returns-in_err-frames-clause-memory : goal.returns-in_err-frames-clause-memory
returns-in_err-frames-clause-memory g c =
    let few : 4 * c.args.count ≤ length c.args.bytes.now = omega (arith, c.if-bytes-count.false) in
    on_memory c.from_residual.result
    (some_elements c.args.count (λ none. let ok = c.in_err-frames.ensures.succeeds none in absurd cc), few)

pub returns-in_err-push-clause-memory : goal.returns-in_err-push-clause-memory
returns-in_err-push-clause-memory g c =
    let some : 0 < c.args.count = omega (arith, c.loop-test.true) in
    let few : 4 * c.args.count ≤ length c.args.bytes.now = omega (arith, c.if-bytes-count.false) in
    on_memory c.from_residual-in_err-push.result (some, few)
