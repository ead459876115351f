use Rattle.std.proofs.Common.{◌∙◌, ◌&&◌, ap, subst}
use Rattle.mem_account.specs.Accounts.{has_room}
use Rattle.memory_objects.specs.Backed.{Fits}
use Rattle.memory_objects.specs.Objects.{ObjectTable, all_pass, is_of, new_pages}
use Rattle.memory_objects.proofs.objects.MemoryObjects.fit.Goals as goal

pub returns-clause-value : goal.returns-clause-value
returns-clause-value g c =
    (rw c.deref.ensures.value at c.fit.ensures.value)
    ∙ ap (λ (v : ObjectTable). all_pass (is_of c.args.user.0) v.objects c.args.numbers.now
    && has_room c.args.accounts.now c.args.user.0 (new_pages v.objects c.args.numbers.now)) c.self.view_is

pub returns-clause-fits : goal.returns-clause-fits
returns-clause-fits g c = λ told.
    let F : ObjectTable → Type 0 = λ v. Fits v.objects c.args.numbers.now c.args.accounts.now in
    subst F c.self.view_is (rw c.deref.ensures.value at (c.fit.ensures.fits told))

pub fit-requires-clause-rising : goal.fit-requires-clause-rising
fit-requires-clause-rising g c = rw c.deref.ensures.value c.self.invariant.rising

pub fit-requires-clause-sorted : goal.fit-requires-clause-sorted
fit-requires-clause-sorted g c = c.requires.sorted

pub fit-requires-clause-user : goal.fit-requires-clause-user
fit-requires-clause-user g c = c.requires.user
