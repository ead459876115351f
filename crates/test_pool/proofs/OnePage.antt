-- The one page of the tests' memory object, through the calls that pin it.
use Rattle.std.proofs.Common.{◌≡◌, ℕ, ◌+◌}
use Rattle.std.proofs.Common.{[], refl, ap, ◌∙◌, arith}
use Rattle.iofd_words.specs.Pins.{ObjectPage}
use Rattle.frame_memory.specs.Pool.{FramePool}
use Rattle.user_memory.specs.Changes.{HasObject, HasRunPinned, HasRunReleased, HoldsFollow, SameObjects}
use Rattle.user_memory.specs.Changes.{Settles}
use Rattle.user_memory.specs.Memory.{IsBacked, Memory}
use Rattle.test_pool.specs.OnePage.{HasOnePage, one_page}

abbrev the_page : ObjectPage
the_page = record { memory = 0; index = 0 }

module _ (old new : Memory) (before after : FramePool) (pins : ℕ) where
  pub pin_more : HasRunPinned (record { number = 0; first = 0; count = 1 }) old new → Settles old new before after
      → HasOnePage old before.holds pins → HasOnePage new after.holds (pins + 1)
  pin_more more settles has = record {
    rows = more.rows ∙ has.rows;
    pins = more.access the_page ∙ ap (λ n. n + 1) has.pins;
    backed = settles.holds.backed has.backed;
  }

  pub pin_less : HasRunReleased (record { number = 0; first = 0; count = 1 }) old new → Settles old new before after
      → HasOnePage old before.holds (pins + 1) → HasOnePage new after.holds pins
  pin_less less settles has =
      let page = less.access the_page in
      let was = has.pins in
      record {
        rows = less.rows ∙ has.rows;
        pins = omega (arith, page, was);
        backed = settles.holds.backed has.backed;
      }

-- a user's page comes or goes
pub page_moves : (old new : Memory) (before after : FramePool) (pins : ℕ) → SameObjects old new
    → HoldsFollow old new before after → HasOnePage old before.holds pins → HasOnePage new after.holds pins
page_moves old new before after pins same follow has = record {
  rows = same.rows ∙ has.rows;
  pins = same.access the_page ∙ has.pins;
  backed = follow.backed has.backed;
}

-- the object that comes first
pub first_object : (old new : Memory) (before after : FramePool) → old.objects ≡ [] → HasObject 0 one_page old new
    → Settles old new before after → IsBacked old before.holds → HasOnePage new after.holds 0
first_object old new before after none has settles backed = record {
  rows = has.rows ∙ rw none refl;
  pins = has.access the_page ∙ rw none refl;
  backed = settles.holds.backed backed;
}
