use Rattle.std.proofs.Common.{◌≡◌, ◌∙◌, List, length, true, ap, sym, subst, rules}
use Rattle.std.proofs.lemmas.Fn.{filter_same}
use Rattle.memory_objects.specs.Objects.{MemoryEntry, are_rising, gone_among, standing}
use Rattle.memory_objects.proofs.AreaCounts.{rising_left}
use Rattle.memory_objects.proofs.Gone.{none_gone}
use Rattle.memory_objects.proofs.Standing.{standing_twice, stands}
use Rattle.memory_objects.proofs.removal.sweep.Goals as goal

pub returns-clause-entries : goal.returns-clause-entries
returns-clause-entries g c = filter_same _ stands _ (λ x b f k. search rules) _ _ c.retain.ensures.filtered

pub returns-clause-same : goal.returns-clause-same
returns-clause-same g c = ap standing (returns-clause-entries g c) ∙ standing_twice c.args.entries.now.items

pub returns-clause-len : goal.returns-clause-len
returns-clause-len g c = c.retain.new.self.ok.0 ∙ ap length (returns-clause-entries g c)

pub returns-clause-rising : goal.returns-clause-rising
returns-clause-rising g c =
    let R : List MemoryEntry → Type 0 = λ xs. are_rising xs ≡ true in
    subst R (sym (returns-clause-entries g c)) (rising_left stands c.args.entries.now.items c.requires)

pub returns-clause-none : goal.returns-clause-none
returns-clause-none g c = ap gone_among (returns-clause-entries g c) ∙ none_gone c.args.entries.now.items
