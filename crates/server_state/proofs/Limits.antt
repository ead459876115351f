-- What users may have pinned.
use Rattle.std.proofs.Common.{◌≡◌, ℕ, ◌+◌, true, false, ltb, leb, Option, Some, None, is_some, ◌∙◌, ap, arith}
use Rattle.std.proofs.lemmas.Bool.Decides.{nat_tests}
use Rattle.iofd_refusals.specs.Checks.{passes_limit}
use Rattle.iofd_words.specs.Files.{is_user, limit_of}
use Rattle.iofd_words.specs.World.{World}
use Rattle.iofd_words.specs.declared.numbers.UserNo.{UserNo}
use Rattle.user_memory.specs.Memory.{has_room, held_by}
use Rattle.server_state.specs.Seen.{seen}
use Rattle.server_state.specs.Shows.{Shows}
use Rattle.server_state.specs.declared.state.State.{State}

module _ {A : Type 0} where
  -- the limits are those of the settings
  pub same_limits : (w : World) (s : State A) → Shows w s → s.memory.limits ≡ s.config.users
  same_limits w s shows =
      shows.limits ∙ ap (λ (settings : Rattle.iofd_words.specs.Settings.Settings). settings.users) shows.settings

  -- a user who is there may have so many pages more, where the limit isn't passed
  pub room_there : (w : World) (s : State A) (user : UserNo) (count : ℕ) → Shows w s → is_user s.config user ≡ true
      → passes_limit (seen s) (Some user) count ≡ false → has_room s.memory user count ≡ true
  room_there w s user count shows known within =
      rw (same_limits w s shows) (by_limit (limit_of s.config user) known within)
    where
      by_limit : (o : Option ℕ) → is_some o ≡ true
          → elim o [ Some limit ↦ ltb limit (held_by s.memory user + count) | None ↦ false ] ≡ false
          → elim o [ Some limit ↦ leb (held_by s.memory user + count) limit | None ↦ false ] ≡ true
      by_limit None known within = cc
      by_limit (Some limit) known within = grind (arith, nat_tests)
