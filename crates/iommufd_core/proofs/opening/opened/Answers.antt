use Rattle.std.proofs.Common.{◌≡◌, ◌≤◌, Bool, true, false, None, refl, sym, ◌∙◌, arith}
use Rattle.std.proofs.lemmas.Bool.Decides.{nat_tests}
use Rattle.iofd_words.specs.Limits.{first_outside}
use Rattle.iofd_words.specs.Settings.{Settings, is_between}
use Rattle.iommufd_core.proofs.Opened.{access_pins_opened, all_open, frames_opened, pins_opened}
use Rattle.iommufd_core.proofs.opening.opened.Goals as goal

pub returns-clause-shows : goal.returns-clause-shows
returns-clause-shows g c =
    record {
      settings = sym c.in_ok-copied.ensures;
      objects = record {
        rows = rw c.in_ok-new.ensures refl;
        spaces = λ file ioas. rw c.in_ok-new.ensures refl;
        files = λ number. rw (c.in_ok-new.ensures, c.files.ensures) (all_open g.row.A.Denot c.args.config.now number);
        counted = λ file id. rw c.in_ok-new.ensures refl;
        accesses = λ file id none. refl;
      };
      devices = record {
        bindings = λ device. rw c.new-5.ensures.items refl;
        rising = rw c.new-5.ensures.items refl;
        attached = sym c.new-7.ensures.items;
      };
      limits = c.in_ok-new-2.ensures.limits ∙ c.users.ensures;
      allowed = λ file ioas. rw c.new-4.ensures refl;
      users = rw c.in_ok-new-2.ensures.pages (record { pages = λ user page. refl; counts = λ test. refl });
      pins = pins_opened c.in_ok-new-2.field-0 c.in_ok-new-2.ensures.objects;
      access_pins = rw c.new-8.ensures access_pins_opened;
      dirty = record {
        tracks = λ file hwpt. sym (c.new-9.ensures.tracks file hwpt);
        marks = λ file hwpt page. sym (c.new-9.ensures.marks file hwpt page);
      };
      frames = rw (c.in_ok-new-3.ensures, c.pool-pool.ensures.value)
          (frames_opened c.args.config.now.pool c.in_ok-new-2.field-0 c.in_ok-new-2.ensures.pages
          c.in_ok-new-2.ensures.objects);
      tables = record {
        tables = rw c.new-6.ensures refl;
        widths = rw c.new-6.ensures refl;
        stand = rw c.new-6.ensures (record {
          own = refl;
          each = λ h within. absurd within;
          held = λ frame. omega arith;
        });
      };
    }

-- the pool of a configuration within its limits
pool_between : (s : Settings) → first_outside s ≡ None → (1 ≤ s.pool) × (s.pool ≤ 4096)
pool_between s within = by_test (is_between 1 4096 s.pool) refl within
  where
    by_test : (b : Bool) → is_between 1 4096 s.pool ≡ b → first_outside s ≡ None → (1 ≤ s.pool) × (s.pool ≤ 4096)
    by_test true is within = (search (is, arith, nat_tests), search (is, arith, nat_tests))
    by_test false is within = let first = rw is at within in cc

pub new-requires-3-clause-some : goal.new-requires-3-clause-some
new-requires-3-clause-some g c = rw c.pool-pool.ensures.value
    (pool_between c.args.config.now c.pool-pool.ensures.within).0

pub new-requires-3-clause-few : goal.new-requires-3-clause-few
new-requires-3-clause-few g c = rw c.pool-pool.ensures.value
    (pool_between c.args.config.now c.pool-pool.ensures.within).1
