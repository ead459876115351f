use Rattle.std.proofs.Common.{◌≡◌, true, None, ◌∙◌, refl}
use Rattle.access_pins.proofs.Created.{create_taken}
use Rattle.iofd_rows.proofs.Found.{find-with_object}
use Rattle.iofd_steps.specs.After.{changed}
use Rattle.iofd_steps.specs.Answers.{Answers}
use Rattle.iofd_words.specs.Objects.{is_bound_as, is_fresh}
use Rattle.iofd_words.specs.declared.rows.ObjectKind.TheVariants as kind
use Rattle.iofd_runs.proofs.Accessed.{each_held}
use Rattle.iofd_runs.proofs.HoldersStay.{more_accesses}
use Rattle.server_state.proofs.ObjectsMoved.{fresh_id, shows_inserted}
use Rattle.access_pins.proofs.create.commit.Goals as goal

pub unreachable-requires : goal.unreachable-requires
unreachable-requires g c =
    let known = c.requires.granted in
    create_taken known.world c.args.state.now c.args.file c.in-Err-Refused.field-0 c.in-Err-Refused.field-0-0
    known.shows known.none c.in-Err-Refused.field-0-is c.in-Err-Refused.ensures.why

pub returns-clause-ok : goal.returns-clause-ok
unfolding changed Answers
returns-clause-ok g c = λ at w tidy shows none.
    let inserted = c.insert_reserved-id.ensures in
    let reserved = c.reserve.ensures in
    let unused = rw reserved.rows at inserted.unused in
    let fresh : is_fresh w.objects c.args.file c.insert_reserved-id.result ≡ true =
    rw shows.objects.rows (fresh_id c.args.state.now.objects.rows c.args.file c.insert_reserved-id.result
    inserted.in_range.0 inserted.in_range.1 unused) in (
      fresh,
      shows_inserted w c.args.state.now _ c.insert_reserved-id.new.self c.args.state.now.bindings shows refl
          refl unused refl refl (rw reserved.rows at inserted.rows) (inserted.files ∙ reserved.files)
          (λ device. find-with_object (λ object. is_bound_as device object.kind) _ w.objects refl
          ∙ shows.devices.bindings device) shows.devices.rising
          (more_accesses w (record {
            file = c.args.file;
            id = c.insert_reserved-id.result;
            kind = kind.Access None;
          }) fresh refl).holders
          (each_held w.objects w.areas w.access_pins tidy.pins.held),
    )
