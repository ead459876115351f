-- What may be asked of a history may be asked of the state that shows its world.
use Rattle.std.proofs.Common.{◌≡◌, true, length, refl, ◌∙◌, ap, is_none}
use Rattle.std.specs.List.{list_any}
use Rattle.iofd_rows.proofs.Bools.{and_true}
use Rattle.iofd_words.specs.Policy.{is_pass_at, outcomes}
use Rattle.iofd_words.specs.declared.fault.AccessKind.TheVariants.{Read}
use Rattle.iofd_words.specs.declared.query.Query.{Query}
use Rattle.iofd_words.specs.declared.query.Query.TheVariants.{CachedRead}
use Rattle.iommufd_core.specs.Asked.{may_ask}
use Rattle.iommufd_core.specs.History.{History, may_look, world}
use Rattle.server_state.proofs.ViewShown.{same_outcomes}
use Rattle.server_state.specs.Seen.{seen}
use Rattle.server_state.specs.Shows.{Shows}
use Rattle.server_state.specs.Step.{IsTidy}
use Rattle.server_state.specs.declared.state.State.{State}

pub asked_of : {A : Type 0} (h : History A) (s : State A) → Shows (world h) s → IsTidy (length h.records) (world h)
    → (query : Query) → may_look h query ≡ true → may_ask (seen s) query ≡ true
asked_of h s shows tidy (CachedRead device iova len frame) may =
    ap (list_any (is_pass_at frame)) (same_outcomes (world h) s shows tidy.tabled.owned device iova.0 Read)
    ∙ (and_true (is_none _) (list_any (is_pass_at frame) (outcomes (world h) device iova.0 Read)) may).1
asked_of h s shows tidy query may = refl
