use Rattle.std.proofs.Common.{◌≡◌, ◌∙◌, ◌+◌, cond, true, length, vec_len, ap, sym, subst, arith}
use Rattle.std.specs.List.{list_all}
use Rattle.std.proofs.lemmas.List.{length-map}
use Rattle.memory_objects.specs.Backed.{AccountsMove, HoldsMove}
use Rattle.memory_objects.specs.Objects.{rows_of}
use Rattle.memory_objects.specs.Runs.{CanPinRun, RunIsPinned}
use Rattle.memory_objects.specs.Objects.{ObjectTable, access_pins_on, is_freed, object_at}
use Rattle.memory_objects.specs.Objects.{pinned_frame, standing}
use Rattle.memory_objects.specs.Runs.{covers, frame_after, lies_within}
use Rattle.memory_objects.proofs.Gone.{gone_are_few}
use Rattle.memory_objects.proofs.RunOne.{become, frames_run, pins_run}
use Rattle.memory_objects.proofs.objects.MemoryObjects.pin_by_access.Goals as goal

pub invariant_of-self : goal.invariant_of-self
invariant_of-self g c =
    let moved = c.pin_run.ensures.objects in
    let old = standing c.self.inside.entries.items in
    let same = ap length moved.objects ∙ length-map old (become c.args.run.number moved.pages) in
    record {
      rising = c.pin_run.ensures.rising;
      count = omega (arith, same, c.pin_run.ensures.len, c.self.invariant.count);
      few = omega (arith, c.pin_run.ensures.len, c.self.invariant.few);
      freed = ap (list_all is_freed) c.pin_run.ensures.gone ∙ c.self.invariant.freed;
      kept = c.pin_run.ensures.kept c.self.invariant.kept;
    }

pub pin_run-requires-clause-rising : goal.pin_run-requires-clause-rising
pin_run-requires-clause-rising g c = c.self.invariant.rising

pub pin_run-requires-clause-can : goal.pin_run-requires-clause-can
pin_run-requires-clause-can g c =
    let V : ObjectTable → Type 0 = λ v. CanPinRun v.objects c.args.run c.args.users.now.pages c.args.pool.now.holds
    c.args.accounts.now in
    subst V (sym c.self.view_is) c.requires

pub returns-clause-objects : goal.returns-clause-objects
returns-clause-objects g c =
    let V : ObjectTable → Type 0 = λ v. RunIsPinned c.args.run c.args.users.now.pages v.objects
    (standing c.pin_run.new.entries.items) in
    subst V c.self.view_is c.pin_run.ensures.objects

pub returns-clause-rows : goal.returns-clause-rows
returns-clause-rows g c = c.pin_run.ensures.rows ∙ ap (λ (v : ObjectTable). rows_of v.objects) c.self.view_is

pub returns-clause-pool : goal.returns-clause-pool
returns-clause-pool g c =
    let V : ObjectTable → Type 0 = λ v. HoldsMove v.objects (standing c.pin_run.new.entries.items) c.args.pool.now
    c.pin_run.new.pool in
    subst V c.self.view_is c.pin_run.ensures.pool

pub returns-clause-accounts : goal.returns-clause-accounts
returns-clause-accounts g c =
    let V : ObjectTable → Type 0 = λ v. AccountsMove v.objects (standing c.pin_run.new.entries.items)
    c.args.accounts.now c.pin_run.new.accounts in
    subst V c.self.view_is c.pin_run.ensures.accounts

pub returns-clause-gone : goal.returns-clause-gone
returns-clause-gone g c = gone_are_few c.pin_run.new.entries.items (vec_len c.pin_run.new.entries)
    c.self.inside.gone c.pin_run.new.entries.ok.0 (invariant_of-self g c)

pub returns-clause-invariant : goal.returns-clause-invariant
returns-clause-invariant g c = (invariant_of-self g c).kept

pub returns-clause-room : goal.returns-clause-room
returns-clause-room g c =
    let moved = c.pin_run.ensures.objects in
    let old = standing c.self.inside.entries.items in
    let same = ap length moved.objects ∙ length-map old (become c.args.run.number moved.pages) in
    omega (arith, same, c.pin_run.ensures.capacity, ap (λ (v : ObjectTable). v.room) c.self.view_is)

pub returns-clause-frames : goal.returns-clause-frames
returns-clause-frames g c number index =
    let F : ObjectTable → Type 0 = λ v. pinned_frame (standing c.pin_run.new.entries.items) number index
    ≡ frame_after c.args.run c.args.users.now.pages v.objects number index in
    let L : ObjectTable → Type 0 = λ v. lies_within c.args.run (object_at v.objects c.args.run.number) ≡ true in
    subst F c.self.view_is (frames_run c.args.run c.args.users.now.pages (standing c.self.inside.entries.items)
    (standing c.pin_run.new.entries.items) (subst L (sym c.self.view_is) c.requires.lies) c.pin_run.ensures.objects
    number index)

pub returns-clause-pins : goal.returns-clause-pins
returns-clause-pins g c number index =
    let F : ObjectTable → Type 0 = λ v. access_pins_on (standing c.pin_run.new.entries.items) number index
    ≡ access_pins_on v.objects number index + cond (covers c.args.run number index) 1 0 in
    let L : ObjectTable → Type 0 = λ v. lies_within c.args.run (object_at v.objects c.args.run.number) ≡ true in
    subst F c.self.view_is (pins_run c.args.run c.args.users.now.pages (standing c.self.inside.entries.items)
    (standing c.pin_run.new.entries.items) (subst L (sym c.self.view_is) c.requires.lies) c.pin_run.ensures.objects
    number index)
