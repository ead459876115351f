use Rattle.std.proofs.Common.{◌≡◌, true, false, Option, Some, None, is_none, is_some, length, refl, sym, ◌∙◌, ap}
use Rattle.std.specs.List.{list_any}
use Rattle.iofd_words.specs.FirstTrue.{first_true}
use Rattle.iofd_steps.specs.Look.{query_checks}
use Rattle.iofd_steps.specs.Run.{world_of}
use Rattle.iofd_words.specs.View.{view}
use Rattle.iofd_words.specs.declared.query.Query.TheVariants.{DeviceRead}
use Rattle.iommufd_core.proofs.Histories.{tidy_run}
use Rattle.server_state.proofs.ViewShown.{same_outcomes, same_query_refusal}
use Rattle.iofd_words.specs.Policy.{is_pass_at}
use Rattle.iommufd_core.proofs.apply.Core.may_pass.Goals as goal

none_if : {X : Type 0} (o : Option X) → is_some o ≡ false → is_none o ≡ true
none_if None is = refl
none_if (Some x) is = cc

pub returns-then-is_none : goal.returns-then-is_none
returns-then-is_none g c =
    let state = c.self.inside.state in
    let w = world_of state.config c.self.inside.records.items in
    let shows = c.self.invariant.shows in
    let tidy = tidy_run state.config c.self.inside.records.items c.self.invariant.run c.self.invariant.used in
    let query = DeviceRead c.args.device c.args.iova c.args.len in
    let none : is_none (first_true (query_checks (view w) query)) ≡ true =
    ap is_none (sym ((rw c.from.ensures at c.refusal.ensures) ∙ same_query_refusal w state shows tidy.tabled.owned
    query))
    ∙ none_if c.refusal.result c.if-is_none.ensures
    in
    rw (← c.self.view_is, none) (c.may_pass.ensures
    ∙ ap (list_any (is_pass_at c.args.frame))
    (same_outcomes w state shows tidy.tabled.owned c.args.device c.args.iova.0 c.args.right))

pub refusal-requires : goal.refusal-requires
refusal-requires g c =
    let settings = c.self.inside.state.config in
    let records = c.self.inside.records.items in
    record {
      at = length records;
      world = world_of settings records;
      tidy = tidy_run settings records c.self.invariant.run c.self.invariant.used;
      shows = c.self.invariant.shows;
    }

pub may_pass-requires : goal.may_pass-requires
may_pass-requires g c =
    let settings = c.self.inside.state.config in
    let records = c.self.inside.records.items in
    record {
      at = length records;
      world = world_of settings records;
      tidy = tidy_run settings records c.self.invariant.run c.self.invariant.used;
      shows = c.self.invariant.shows;
    }
