use Rattle.std.proofs.Common.{◌∙◌, List, length, vec_len, ap, sym, subst, arith}
use Rattle.std.specs.List.{list_all}
use Rattle.std.proofs.lemmas.List.{length-map}
use Rattle.memory_objects.specs.Invariant.{MemoryInvariant}
use Rattle.memory_objects.specs.Objects.{MemoryEntry, is_freed, pinned_less, standing, times_of, with_pages}
use Rattle.memory_objects.proofs.FramesSeen.{frames_left, rows_unpinned}
use Rattle.memory_objects.proofs.Gone.{gone_are_few}
use Rattle.memory_objects.proofs.Invariants.{kept_unpinned}
use Rattle.memory_objects.proofs.objects.MemoryObjects.unpin_by_table.Goals as goal

pub invariant_of-self : goal.invariant_of-self
invariant_of-self g c =
    let M : List MemoryEntry → Type 0 = λ xs. MemoryInvariant xs in
    let old = standing c.self.inside.entries.items in
    let unpin = λ (o : MemoryEntry). with_pages (pinned_less (times_of o.number c.args.numbers.now) o.pages.pages) o in
    let same = ap length c.unpin_all.ensures.entries ∙ length-map old unpin in
    record {
      rising = c.unpin_all.ensures.rising;
      count = omega (arith, same, c.unpin_all.ensures.len, c.self.invariant.count);
      few = omega (arith, c.unpin_all.ensures.len, c.self.invariant.few);
      freed = ap (list_all is_freed) c.unpin_all.ensures.gone ∙ c.self.invariant.freed;
      kept = subst M (sym c.unpin_all.ensures.entries) (kept_unpinned c.args.numbers.now old c.self.invariant.kept);
    }

pub returns-clause-gone : goal.returns-clause-gone
returns-clause-gone g c = gone_are_few c.unpin_all.new.entries.items (vec_len c.unpin_all.new.entries)
    c.self.inside.gone c.unpin_all.new.entries.ok.0 (invariant_of-self g c)

pub returns-clause-invariant : goal.returns-clause-invariant
returns-clause-invariant g c = (invariant_of-self g c).kept

pub returns-clause-frames : goal.returns-clause-frames
returns-clause-frames g c = λ number index. rw (
  c.unpin_all.ensures.entries,
  ← c.self.view_is,
) (frames_left c.args.numbers.now (standing c.self.inside.entries.items) number index)

pub returns-clause-rows : goal.returns-clause-rows
returns-clause-rows g c = rw (
  c.unpin_all.ensures.entries,
  ← c.self.view_is,
) (rows_unpinned c.args.numbers.now (standing c.self.inside.entries.items))
