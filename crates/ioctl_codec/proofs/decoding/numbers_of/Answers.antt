use Rattle.std.proofs.Common.{sym}
use Rattle.ioctl_codec.specs.Refusals.{read_numbers, read_values}
use Rattle.ioctl_codec.specs.Table.{structure_in}
use Rattle.ioctl_codec.proofs.Refusing.{refused_early, checked_late, refused_late}
use Rattle.ioctl_codec.proofs.Rows.{uncounted}
use Rattle.ioctl_codec.proofs.decoding.numbers_of.Goals as goal

pub returns-in_err-fields-clause-refused : goal.returns-in_err-fields-clause-refused
returns-in_err-fields-clause-refused c =
    let early = c.in_err-fields in
    refused_early (structure_in c.args.structure) c.args.bytes.now c.from_residual.result early.field-0.0
    c.from_residual.ensures.1 (rw c.requires.known at early.ensures.refused)

pub returns-in_err-check_fields-clause-refused : goal.returns-in_err-check_fields-clause-refused
unfolding read_numbers
returns-in_err-check_fields-clause-refused c =
    let s = structure_in c.args.structure in
    let parts = c.in_ok-fields in
    let back = c.from_residual-in_err-check_fields in
    refused_late s c.args.bytes.now parts.after.now c.read_fields-allowed.result.1 0 back.result
    c.in_err-check_fields.field-0.0 back.ensures.1
    (rw c.requires.known at parts.ensures.refused) parts.ensures.after
    (rw parts.ensures.fields at c.read_fields-allowed.ensures.allowed)
    (sym (uncounted s.fields (read_values s c.args.bytes.now) c.requires.uncounted))
    c.in_err-check_fields.ensures.refused

pub returns-clause-refused : goal.returns-clause-refused
unfolding read_numbers
returns-clause-refused c =
    let s = structure_in c.args.structure in
    let parts = c.in_ok-fields in
    checked_late s c.args.bytes.now parts.after.now c.read_fields-allowed.result.1 0 _
    (rw c.requires.known at parts.ensures.refused) parts.ensures.after
    (rw parts.ensures.fields at c.read_fields-allowed.ensures.allowed)
    (sym (uncounted s.fields (read_values s c.args.bytes.now) c.requires.uncounted))
    c.in_ok-check_fields.ensures.refused
