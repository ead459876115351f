use Rattle.std.proofs.Common.{◌≡◌, true, get_or, take, refl, ◌∙◌}
use Rattle.std.proofs.lemmas.List.Folds.{list_all_at, list_all_more}
use Rattle.memory_objects.specs.Objects.{has_memory, object_at, passes, standing}
use Rattle.memory_objects.proofs.Reserved.{after_error, enough_still, grows_further, grows_none, lacked_from}
use Rattle.memory_objects.proofs.reserving.reserve_all.Goals as goal

pub loop-number-init : goal.loop-number-init
loop-number-init g c = record {
  objects = grows_none (standing c.args.entries.now.items);
  gone = refl;
  rising = c.requires;
  memory = refl;
  len = refl;
  capacity = refl;
}

pub returns-in_err-reserve_one-clause-objects : goal.returns-in_err-reserve_one-clause-objects
returns-in_err-reserve_one-clause-objects g c =
    grows_further (standing c.args.entries.now.items) (standing c.loop-number.entries.items)
    (standing c.reserve_one.new.entries.items) c.loop-number.invariant.objects c.reserve_one.ensures.objects

pub returns-in_err-reserve_one-clause-err : goal.returns-in_err-reserve_one-clause-err
returns-in_err-reserve_one-clause-err g c =
    let numbers = c.args.numbers.now in
    let i = c.loop-number.number-index in
    let objects = (standing c.args.entries.now.items) in
    let lacked = lacked_from objects (standing c.loop-number.entries.items) c.loop-number.invariant.objects
    (get_or numbers i 0) c.in_err-reserve_one.ensures.err in
    after_error c.from_residual.result _ (list_all_at (λ n. passes has_memory (object_at objects n)) numbers i 0
    c.loop-number-test.true lacked)

pub loop-number-preserved : goal.loop-number-preserved
loop-number-preserved g c =
    let numbers = c.args.numbers.now in
    let i = c.loop-number.number-index in
    let before = (standing c.loop-number.entries.items) in
    let after = (standing c.reserve_one.new.entries.items) in
    let kept =
    enough_still before after c.reserve_one.ensures.objects (take i numbers) c.loop-number.invariant.memory in
    let all = list_all_more (λ n. passes has_memory (object_at after n)) numbers i 0 c.loop-number-test.true in
    let here : passes has_memory (object_at after (get_or numbers i 0)) ≡ true = c.in_ok-reserve_one.ensures.ok in
    record {
      objects = grows_further (standing c.args.entries.now.items) before after c.loop-number.invariant.objects
          c.reserve_one.ensures.objects;
      gone = c.reserve_one.ensures.gone ∙ c.loop-number.invariant.gone;
      rising = c.reserve_one.ensures.rising;
      memory = rw (all, kept, here) refl;
      len = c.reserve_one.ensures.len ∙ c.loop-number.invariant.len;
      capacity = c.reserve_one.ensures.capacity ∙ c.loop-number.invariant.capacity;
    }
