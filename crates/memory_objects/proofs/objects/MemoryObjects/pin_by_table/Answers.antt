use Rattle.memory_objects.proofs.FramesSeen.{frames_pinned, rows_pinned}
use Rattle.std.proofs.Common.{◌∙◌, List, length, vec_len, refl, sym, ap, subst, arith}
use Rattle.std.specs.List.{list_all}
use Rattle.std.proofs.lemmas.List.{length-map}
use Rattle.memory_objects.specs.Backed.{AccountsMove, AreBacked, CanPin, HoldsMove}
use Rattle.memory_objects.specs.Objects.{MemoryEntry, ObjectTable, all_pinned, is_freed, pinned_more}
use Rattle.memory_objects.specs.Objects.{standing, times_of, with_pages}
use Rattle.memory_objects.specs.Invariant.{MemoryInvariant}
use Rattle.memory_objects.proofs.Gone.{gone_are_few}
use Rattle.memory_objects.proofs.Invariants.{kept_pinned}
use Rattle.memory_objects.proofs.Unpinned.{backed_moved}
use Rattle.memory_objects.proofs.objects.MemoryObjects.pin_by_table.Goals as goal

pub invariant_of-self : goal.invariant_of-self
invariant_of-self g c =
    let M : List MemoryEntry → Type 0 = λ xs. MemoryInvariant xs in
    let old = standing c.self.inside.entries.items in
    let pin = λ (o : MemoryEntry). with_pages
    (pinned_more c.args.users.now.pages (times_of o.number c.args.numbers.now) o.pages.pages) o in
    let same = ap length c.pin_all.ensures.entries ∙ length-map old pin in
    record {
      rising = c.pin_all.ensures.rising;
      count = omega (arith, same, c.pin_all.ensures.len, c.self.invariant.count);
      few = omega (arith, c.pin_all.ensures.len, c.self.invariant.few);
      freed = ap (list_all is_freed) c.pin_all.ensures.gone ∙ c.self.invariant.freed;
      kept = subst M (sym c.pin_all.ensures.entries)
          (kept_pinned c.args.users.now.pages c.args.numbers.now old c.self.invariant.kept
          (rw (← c.self.view_is) at c.requires.areas));
    }

pub returns-clause-gone : goal.returns-clause-gone
returns-clause-gone g c = gone_are_few c.pin_all.new.entries.items (vec_len c.pin_all.new.entries)
    c.self.inside.gone c.pin_all.new.entries.ok.0 (invariant_of-self g c)

pub returns-clause-invariant : goal.returns-clause-invariant
returns-clause-invariant g c = (invariant_of-self g c).kept

pub returns-clause-backed : goal.returns-clause-backed
returns-clause-backed g c = λ backed.
    let old = (standing c.self.inside.entries.items) in
    let G = λ (o : MemoryEntry). with_pages (pinned_more c.args.users.now.pages
    (times_of o.number c.args.numbers.now) o.pages.pages) o in
    let is = c.pin_all.ensures.entries in
    let H : List MemoryEntry → Type 0 = λ xs. HoldsMove old xs c.args.pool.now c.pin_all.new.pool in
    let A : List MemoryEntry → Type 0 = λ xs. AccountsMove old xs c.args.accounts.now c.pin_all.new.accounts in
    let B : List MemoryEntry → Type 0 = λ xs. AreBacked xs c.pin_all.new.pool.holds c.pin_all.new.accounts in
    let V : ObjectTable → Type 0 = λ v. AreBacked v.objects c.args.pool.now.holds c.args.accounts.now in
    subst B (sym is) (backed_moved G (λ o. refl) old c.args.pool.now c.pin_all.new.pool c.args.accounts.now
    c.pin_all.new.accounts (subst H is c.pin_all.ensures.pool) (subst A is c.pin_all.ensures.accounts)
    (subst V (sym c.self.view_is) backed))

pub returns-clause-frames : goal.returns-clause-frames
returns-clause-frames g c = λ number index. rw (
  c.pin_all.ensures.entries,
  ← c.self.view_is,
) (frames_pinned c.args.users.now.pages c.args.numbers.now
    (standing c.self.inside.entries.items) (rw (← c.self.view_is) at c.requires.present) number index)

pub returns-clause-rows : goal.returns-clause-rows
returns-clause-rows g c = rw (
  c.pin_all.ensures.entries,
  ← c.self.view_is,
) (rows_pinned c.args.users.now.pages c.args.numbers.now (standing c.self.inside.entries.items))

pub pin_all-requires-clause-rising : goal.pin_all-requires-clause-rising
pin_all-requires-clause-rising g c = c.self.invariant.rising

pub pin_all-requires-clause-can : goal.pin_all-requires-clause-can
pin_all-requires-clause-can g c =
    let V : ObjectTable → Type 0 = λ v. CanPin v.objects c.args.numbers.now c.args.users.now.pages c.args.pool.now.holds
    c.args.accounts.now in
    subst V (sym c.self.view_is) c.requires

pub returns-clause-objects : goal.returns-clause-objects
returns-clause-objects g c =
    c.pin_all.ensures.entries
    ∙ ap (λ (v : ObjectTable). all_pinned c.args.users.now.pages c.args.numbers.now v.objects) c.self.view_is

pub returns-clause-room : goal.returns-clause-room
returns-clause-room g c =
    let old = standing c.self.inside.entries.items in
    let pin = λ (o : MemoryEntry). with_pages
    (pinned_more c.args.users.now.pages (times_of o.number c.args.numbers.now) o.pages.pages) o in
    let same = ap length c.pin_all.ensures.entries ∙ length-map old pin in
    omega (arith, same, c.pin_all.ensures.capacity, ap (λ (v : ObjectTable). v.room) c.self.view_is)

pub returns-clause-pool : goal.returns-clause-pool
returns-clause-pool g c =
    let V : ObjectTable → Type 0 = λ v. HoldsMove v.objects (standing c.pin_all.new.entries.items) c.args.pool.now
    c.pin_all.new.pool in
    subst V c.self.view_is c.pin_all.ensures.pool

pub returns-clause-accounts : goal.returns-clause-accounts
returns-clause-accounts g c =
    let V : ObjectTable → Type 0 = λ v. AccountsMove v.objects (standing c.pin_all.new.entries.items)
    c.args.accounts.now c.pin_all.new.accounts in
    subst V c.self.view_is c.pin_all.ensures.accounts
