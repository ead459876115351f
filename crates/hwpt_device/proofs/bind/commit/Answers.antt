use Rattle.std.proofs.Common.{◌≡◌, true, ◌∙◌, ap}
use Rattle.iofd_steps.specs.After.{changed}
use Rattle.iofd_steps.specs.Answers.{Answers}
use Rattle.iofd_words.specs.Objects.{is_fresh}
use Rattle.iofd_words.specs.View.{view}
use Rattle.iofd_words.specs.declared.rows.Object.{Object}
use Rattle.iofd_words.specs.declared.rows.ObjectKind.TheVariants as kind
use Rattle.iofd_runs.proofs.NotRefused.{bind_passed}
use Rattle.hwpt_device.proofs.BindRoomy.{bind_taken}
use Rattle.server_state.proofs.ObjectsMoved.{fresh_id}
use Rattle.server_state.specs.Devices.{with_binding}
use Rattle.hwpt_device.proofs.Bound.{shows_bound}
use Rattle.hwpt_device.proofs.bind.commit.Goals as goal

pub unreachable-requires : goal.unreachable-requires
unreachable-requires g c =
    let known = c.requires.granted in
    bind_taken known.world c.args.state.now c.args.file c.args.device c.in-Err-Refused.field-0
    c.in-Err-Refused.field-0-0 known.shows known.none c.in-Err-Refused.field-0-is c.in-Err-Refused.ensures.why

pub returns-clause-ok : goal.returns-clause-ok
unfolding changed Answers
returns-clause-ok g c = λ at w tidy shows none.
    let inserted = c.insert_reserved-id.ensures in
    let reserved = c.reserve.ensures in
    let unused = rw reserved.rows at inserted.unused in
    let object : Object =
    record { file = c.args.file; id = c.insert_reserved-id.result; kind = kind.Device c.args.device } in
    let fresh : is_fresh w.objects c.args.file c.insert_reserved-id.result ≡ true =
    rw shows.objects.rows (fresh_id c.args.state.now.objects.rows c.args.file c.insert_reserved-id.result
    inserted.in_range.0 inserted.in_range.1 unused) in (
      fresh,
      shows_bound at w c.args.state.now c.args.file c.insert_reserved-id.result c.args.device
          c.insert_reserved-id.new.self c.insert_binding.new.bindings tidy shows
          (bind_passed (view w) c.args.file c.args.device none).unbound fresh unused
          (rw reserved.rows at inserted.rows) (inserted.files ∙ reserved.files) (c.insert_binding.ensures
          ∙ ap (with_binding object) c.reserve-2.ensures.items),
    )
