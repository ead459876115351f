use Rattle.std.proofs.Common.{◌≡◌, ◌∙◌, List, [], drop, length, sym, ap, subst, arith}
use Rattle.std.proofs.lemmas.List.{take_at}
use Rattle.area_map.specs.declared.blocks.Block.{Block}
use Rattle.area_map.specs.Blocks.{AreBlocks, listed}
use Rattle.area_map.proofs.blocks.Blocks.renew.Goals as goal
use Rattle.area_map.proofs.blocks.Blocks.renew.Goals.{in-Some, in_default}

pub returns-clause-blocks : goal.returns-clause-blocks
returns-clause-blocks g c =
    elim c.match-self.branch [
      | in-Some w ↦ λ before all same.
          let was : w.deref_mut.result.now ≡ c.args.self.now =
          w.deref_mut.ensures.value ∙ sym (ap listed w.in-Some.is) ∙ c.self.view_is in
          let old = subst (λ (bs : List Block). AreBlocks bs before) (sym was) all in
          let new : List Block = w.renew_rows.new.blocks in
          let value = ap length w.deref_mut.ensures.value in
          let long : length new ≡ w.in-Some.blocks.len =
          omega (arith, value, w.renew_rows.auto.blocks, w.deref_mut.ensures.len) in
          let back = take_at new (drop (length new) w.in-Some.blocks.items) w.in-Some.blocks.len long in
          subst (λ (bs : List Block). AreBlocks bs c.args.rows.now)
          (sym (ap (λ inside. listed inside.blocks) w.self-inside-is ∙ back)) (w.renew_rows.ensures before old same)
      | in_default w ↦ λ before all same.
          let none : listed c.match-self.self-inside.blocks ≡ [] =
          ap (λ inside. listed inside.blocks) w.self-inside-is ∙ ap listed w.in_default.is in
          subst (λ (bs : List Block). AreBlocks bs c.args.rows.now) (sym none)
          (λ number within. absurd (omega (arith, within)))
    ]

pub renew_rows-requires : goal.renew_rows-requires
renew_rows-requires g c = c.requires

pub returns-clause-len : goal.returns-clause-len
returns-clause-len g c =
    elim c.match-self.branch [
      | in-Some w ↦
          let was = ap length (w.deref_mut.ensures.value ∙ sym (ap listed w.in-Some.is) ∙ c.self.view_is) in
          let new : List Block = w.renew_rows.new.blocks in
          let value = ap length w.deref_mut.ensures.value in
          let long : length new ≡ w.in-Some.blocks.len =
          omega (arith, value, w.renew_rows.auto.blocks, w.deref_mut.ensures.len) in
          let back = take_at new (drop (length new) w.in-Some.blocks.items) w.in-Some.blocks.len long in
          ap (λ inside. length (listed inside.blocks)) w.self-inside-is ∙ ap length back
          ∙ w.renew_rows.auto.blocks ∙ was
      | in_default w ↦ ap (λ inside. length (listed inside.blocks)) w.self-inside-is ∙ ap length c.self.view_is
    ]
