use Rattle.std.proofs.Common.{◌≡◌, ◌≤◌, ◌-◌, None, length, inl, inr, refl, ◌∙◌, ap, subst, sym, arith}
use Rattle.std.proofs.Common.{vec_capacity, vec_len}
use Rattle.iofd_refusals.specs.Checks.{refusal}
use Rattle.iofd_steps.specs.Run.{world_of}
use Rattle.iommufd_core.proofs.Applied.{may_use, unchanged_config, unchanged_kept, applied_chosen, applied_config}
use Rattle.iommufd_core.proofs.Applied.{applied_frames, applied_kept}
use Rattle.iommufd_core.proofs.Counted.{room_for_one}
use Rattle.iommufd_core.proofs.Histories.{tidy_run}
use Rattle.iommufd_core.proofs.Roomless.{no_room, of_success}
use Rattle.server_state.specs.Choice.{MayUse}
use Rattle.iommufd_core.specs.History.{HasOneMore}
use Rattle.server_state.specs.Step.{recorded}
use Rattle.iommufd_core.specs.Server.{Server}
use Rattle.iommufd_core.proofs.Answering.{takes_in}
use Rattle.server_state.proofs.ViewShown.{same_refusal}
use Rattle.server_state.specs.Step.{Answered, IsCalled, TidyShowsSame}
use Rattle.iommufd_core.proofs.apply.Core.apply.Goals as goal

pub invariant_of-self-in_default-answer : goal.invariant_of-self-in_default-answer
invariant_of-self-in_default-answer g c =
    let at : c.len-at.result ≡ length c.self.inside.records.items = c.len-at.ensures ∙ c.self.inside.records.ok.0 in
    let stays =
    subst (λ n. TidyShowsSame n c.self.inside.state c.answer.new.state) at c.in_default-answer.ensures.err in
    rw c.make_room.ensures.items (unchanged_kept c.self.inside.state c.answer.new.state
    c.self.inside.turns.items c.self.inside.records.items c.self.invariant stays)

pub returns-in_default-answer-clause-run : goal.returns-in_default-answer-clause-run
returns-in_default-answer-clause-run g c = (invariant_of-self-in_default-answer g c).run

pub returns-in_default-answer-clause-unchanged : goal.returns-in_default-answer-clause-unchanged
returns-in_default-answer-clause-unchanged g c =
    let at : c.len-at.result ≡ length c.self.inside.records.items = c.len-at.ensures ∙ c.self.inside.records.ok.0 in
    let stays =
    subst (λ n. TidyShowsSame n c.self.inside.state c.answer.new.state) at c.in_default-answer.ensures.err in
    let config =
    unchanged_config c.self.inside.state c.answer.new.state c.self.inside.turns.items c.self.inside.records.items
    c.self.invariant stays in
    rw (config, c.make_room.ensures.items) (ap (λ (s : Server _). s.history) c.self.view_is)

pub invariant_of-self-2 : goal.invariant_of-self-2
invariant_of-self-2 g c =
    let old = c.self.inside.state in
    let new = c.answer.new.state in
    let records = c.self.inside.records.items in
    let act = c.args.act.now in
    let taken = c.answer.new.taken.items in
    let given = c.answer.new.given.items in
    let at : c.len-at.result ≡ length records = c.len-at.ensures ∙ c.self.inside.records.ok.0 in
    let answered = subst (λ n. Answered n act.event act.via old c.in-Ok-answer.reply taken given new) at
    c.in-Ok-answer.ensures.ok in
    let may : MayUse (world_of old.config records) act.event act.via =
    may_use (record { settings = old.config; records = records }) act.event act.via
    (rw (← c.self.view_is) at c.requires) in
    let kept = applied_kept old new c.self.inside.turns.items records c.self.invariant c.args.pass act.event act.via
    c.in-Ok-answer.reply taken given may answered c.count.new.counts.items c.count.ensures in
    rw (
      c.push_reserved.ensures.items,
      c.make_room.ensures.items,
      c.in-Ok-new.ensures.ok,
      c.in-Ok.ensures.ok,
    ) kept

pub returns-clause-record : goal.returns-clause-record
returns-clause-record g c =
    let old = c.self.inside.state in
    let new = c.answer.new.state in
    let records = c.self.inside.records.items in
    let act = c.args.act.now in
    let taken = c.answer.new.taken.items in
    let given = c.answer.new.given.items in
    let at : c.len-at.result ≡ length records = c.len-at.ensures ∙ c.self.inside.records.ok.0 in
    let answered = subst (λ n. Answered n act.event act.via old c.in-Ok-answer.reply taken given new) at
    c.in-Ok-answer.ensures.ok in
    let may : MayUse (world_of old.config records) act.event act.via =
    may_use (record { settings = old.config; records = records }) act.event act.via
    (rw (← c.self.view_is) at c.requires) in
    let config = applied_config old new c.self.inside.turns.items records c.self.invariant c.args.pass act.event act.via
    c.in-Ok-answer.reply taken given may answered in
    let is : HasOneMore c.args.pass act.event c.in-Ok-answer.reply (record { settings = old.config; records = records })
    (record { settings = new.config; records = c.push_reserved.new.self.items }) = record {
      made = recorded c.args.pass act.event c.in-Ok-answer.reply taken given;
      records = rw (
        config,
        c.push_reserved.ensures.items,
        c.make_room.ensures.items,
        c.in-Ok-new.ensures.ok,
        c.in-Ok.ensures.ok,
      ) refl;
      pass = refl;
      event = refl;
      reply = refl;
      frames = applied_frames old new c.self.inside.turns.items records c.self.invariant c.args.pass act.event act.via
          c.in-Ok-answer.reply taken given may answered;
    } in
    rw (← c.self.view_is) is

pub returns-clause-run : goal.returns-clause-run
returns-clause-run g c = (invariant_of-self-2 g c).run

pub returns-clause-chosen : goal.returns-clause-chosen
returns-clause-chosen g c =
    let old = c.self.inside.state in
    let records = c.self.inside.records.items in
    let act = c.args.act.now in
    let taken = c.answer.new.taken.items in
    let given = c.answer.new.given.items in
    let at : c.len-at.result ≡ length records = c.len-at.ensures ∙ c.self.inside.records.ok.0 in
    let answered = subst (λ n. Answered n act.event act.via old c.in-Ok-answer.reply taken given c.answer.new.state) at
    c.in-Ok-answer.ensures.ok in
    let may : MayUse (world_of old.config records) act.event act.via =
    may_use (record { settings = old.config; records = records }) act.event act.via
    (rw (← c.self.view_is) at c.requires) in
    rw (← c.self.view_is) (applied_chosen old c.answer.new.state c.self.inside.turns.items records c.self.invariant c.args.pass
    act.event act.via c.in-Ok-answer.reply taken given may answered)

pub returns-in_default-answer-clause-memory : goal.returns-in_default-answer-clause-memory
returns-in_default-answer-clause-memory g c =
    let old = c.self.inside.state in
    let records = c.self.inside.records.items in
    let tidy = tidy_run old.config records c.self.invariant.run c.self.invariant.used in
    let wants = c.in_default-answer.ensures.memory in
    let none : refusal (world_of old.config records) c.args.act.now.event ≡ None =
    sym (same_refusal (world_of old.config records) old c.self.invariant.shows tidy.tabled.owned
    c.args.act.now.event) ∙ wants.0 in
    rw (← c.self.view_is) (inr (
      none,
      takes_in (world_of old.config records) old c.self.invariant.shows tidy.tabled.owned c.args.act.now.event wants.1,
      c.in_default-answer.ensures.lacking (length records) (world_of old.config records) tidy c.self.invariant.shows
          none,
    ))

pub answer-requires-clause-called : goal.answer-requires-clause-called
answer-requires-clause-called g c =
    let state = c.self.inside.state in
    let records = c.self.inside.records.items in
    let act = c.args.act.now in
    let at : c.len-at.result ≡ length records = c.len-at.ensures ∙ c.self.inside.records.ok.0 in
    let may : MayUse (world_of state.config records) act.event act.via =
    may_use (record { settings = state.config; records = records }) act.event act.via
    (rw (← c.self.view_is) at c.requires) in
    let called : IsCalled (length records) act.event act.via state = record {
      world = world_of state.config records;
      tidy = tidy_run state.config records c.self.invariant.run c.self.invariant.used;
      shows = c.self.invariant.shows;
      may = λ none. may;
    } in
    subst (λ n. IsCalled n act.event act.via state) (sym at) called

pub answer-requires-clause-none_taken : goal.answer-requires-clause-none_taken
answer-requires-clause-none_taken g c = c.new-taken.ensures.items

pub answer-requires-clause-none_given : goal.answer-requires-clause-none_given
answer-requires-clause-none_given g c = c.new-given.ensures.items

-- ---- where there is no place for the record, or for its list

pub invariant_of-self : goal.invariant_of-self
invariant_of-self g c = rw c.make_room.ensures.items c.self.invariant

pub returns-then-is_err-clause-run : goal.returns-then-is_err-clause-run
returns-then-is_err-clause-run g c = (invariant_of-self g c).run

pub returns-then-is_err-clause-memory : goal.returns-then-is_err-clause-memory
returns-then-is_err-clause-memory g c =
    let records = c.self.inside.records in
    rw (← c.self.view_is) (inl (inl (no_room c.make_room.result (vec_len records) (vec_capacity records)
    c.make_room.ensures.full (sym c.is_err.ensures.value ∙ c.if-is_err.true))))

pub returns-then-is_err-clause-unchanged : goal.returns-then-is_err-clause-unchanged
returns-then-is_err-clause-unchanged g c =
    rw c.make_room.ensures.items (ap (λ (s : Server _). s.history) c.self.view_is)

pub invariant_of-self-in_default : goal.invariant_of-self-in_default
invariant_of-self-in_default g c = rw c.make_room.ensures.items c.self.invariant

pub returns-in_default-clause-run : goal.returns-in_default-clause-run
returns-in_default-clause-run g c = (invariant_of-self-in_default g c).run

pub returns-in_default-clause-memory : goal.returns-in_default-clause-memory
returns-in_default-clause-memory g c = inl (inr c.in_default.ensures.memory)

pub returns-in_default-clause-unchanged : goal.returns-in_default-clause-unchanged
returns-in_default-clause-unchanged g c =
    rw c.make_room.ensures.items (ap (λ (s : Server _). s.history) c.self.view_is)

-- ---- where there is

pub count-requires : goal.count-requires
count-requires g c =
    let records = c.self.inside.records in
    room_for_one c.self.inside.turns.items c.self.inside.state.config records.items c.self.invariant.turns
    (omega (arith, records.ok.0, records.ok.1, records.small))

pub push_reserved-requires : goal.push_reserved-requires
push_reserved-requires g c =
    let roomy = of_success c.make_room.result _ c.make_room.ensures.ok
    (sym c.is_err.ensures.value ∙ c.if-is_err.false) in
    omega (arith, roomy)

pub returns-clause-at : goal.returns-clause-at
returns-clause-at g c =
    let at : c.len-at.result ≡ length c.self.inside.records.items = c.len-at.ensures ∙ c.self.inside.records.ok.0 in
    at ∙ ap (λ (s : Server _). length s.history.records) c.self.view_is

pub returns-clause-doubles : goal.returns-clause-doubles
returns-clause-doubles g c = λ none.
    let records = c.self.inside.records in
    let doubled = of_success c.make_room.result _ c.make_room.ensures.doubled
    (sym c.is_err.ensures.value ∙ c.if-is_err.false) in
    let room : vec_capacity records - vec_len records ≡ c.args.self.now.room = ap (λ (s : Server _). s.room)
    c.self.view_is in
    let count : length records.items ≡ length c.args.self.now.history.records =
    ap (λ (s : Server _). length s.history.records) c.self.view_is in
    let full : vec_capacity records ≤ vec_len records = omega (arith, room, none) in
    let twice = doubled full in
    omega (
      arith,
      twice,
      c.push_reserved.ensures.len,
      c.push_reserved.ensures.capacity,
      c.make_room.ensures.len,
      count,
      records.ok.0,
    )
