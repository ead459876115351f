-- A port's translation that was asked for again.
use Rattle.std.proofs.Common.{◌≡◌, ℕ, Option, subst, ◌∙◌}
use Rattle.iofd_words.specs.Pages.{page_of}
use Rattle.iofd_words.specs.Settings.{Settings}
use Rattle.iofd_words.specs.declared.fault.AccessKind.{AccessKind}
use Rattle.iofd_words.specs.declared.numbers.DeviceNo.{DeviceNo}
use Rattle.iofd_words.specs.declared.query.Translation.{Translation}
use Rattle.lane_lock.specs.Outcomes.{HadNone, OnlySees}
use Rattle.lane_lock.specs.Passes.{view_of}
use Rattle.lane_lock.proofs.Retries.{lane_then, sees_then}
use Rattle.port_cache.specs.Cached.{Leaves, Translations, compared}
use Rattle.port_cache.specs.declared.cache.Found.{Found}
use Rattle.guarded_core.specs.Caches.{found}
use Rattle.guarded_core.specs.Passes.{CoreGhosts, CorePass}
use Rattle.shared_iommufd.specs.PortTranslations.{IsTranslatedSo, TellsTranslation}
use Rattle.shared_iommufd.specs.Ports.{KeepsSame, Standing}

module _ {A : Type 0} {g : CoreGhosts A} (settings : Settings) (address : ℕ) (kind : AccessKind) (o p : Standing A g)
    (same : KeepsSame o p) where
  tells_sooner : (device : DeviceNo) (finds : Found) (pass : CorePass A g)
      → TellsTranslation settings device address kind p finds pass
      → TellsTranslation settings device address kind o finds pass
  tells_sooner device finds pass tells = record {
    records = tells.records;
    seen = tells.seen;
    turns = tells.turns;
    found = tells.found ∙ (λ i. found settings tells.records device (same.turns i) (same.kept i) address kind);
    right = tells.right;
    backed = tells.backed;
  }

  -- what is told to a port that keeps the same is told so to the one that asked first
  pub translated_sooner : (of at : DeviceNo × ℕ) (told : Option Translation) (q : Standing A g) → of ≡ at
      → OnlySees (view_of o.pass) (view_of p.pass) → HadNone (view_of o.pass) (view_of p.pass)
      → IsTranslatedSo settings of.0 of.1 address kind p told q
      → IsTranslatedSo settings at.0 at.1 address kind o told q
  translated_sooner of at told q its sees had so =
      subst (λ (d : DeviceNo × ℕ). IsTranslatedSo settings d.0 d.1 address kind o told q) its record {
        sees = sees_then (view_of o.pass) (view_of p.pass) (view_of q.pass) sees so.sees;
        had = lane_then (view_of o.pass) (view_of p.pass) (view_of q.pass) had so.had;
        finds = so.finds;
        tells = tells_sooner of.0 so.finds q.pass so.tells;
        found = so.found;
        turns = so.turns;
        leaves = subst (λ (c : ℕ × Translations). Leaves of.1 (page_of address) so.finds.translation
            (compared c.0 so.finds.turns c.1) q.kept) (λ i. (same.turns i, same.kept i)) so.leaves;
      }
