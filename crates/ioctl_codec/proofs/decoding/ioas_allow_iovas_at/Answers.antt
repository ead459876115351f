use Rattle.std.proofs.Common.{List, ℕ, ap, ◌∙◌}
use Rattle.std.specs.Prelude.{slice_index}
use Rattle.ioctl_codec.specs.Refusals.{read_numbers}
use Rattle.ioctl_codec.specs.Structures.{ioas_allow_iovas}
use Rattle.ioctl_codec.proofs.Refusing.{refused_early, checked_late, refused_late}
use Rattle.ioctl_codec.proofs.decoding.ioas_allow_iovas_at.Goals as goal

pub returns-in_err-fields-clause-refused : goal.returns-in_err-fields-clause-refused
returns-in_err-fields-clause-refused c =
    refused_early ioas_allow_iovas c.args.bytes.now c.from_residual.result c.in_err-fields.field-0.0
    c.from_residual.ensures.1 c.in_err-fields.ensures.refused

pub returns-in_err-check_fields-clause-refused : goal.returns-in_err-check_fields-clause-refused
unfolding read_numbers
returns-in_err-check_fields-clause-refused c =
    let parts = c.in_ok-fields in
    let back = c.from_residual-in_err-check_fields in
    let read = c.read_fields-allowed in
    refused_late ioas_allow_iovas c.args.bytes.now parts.after.now read.result.1 c.low-num_iovas.result back.result
    c.in_err-check_fields.field-0.0 back.ensures.1
    parts.ensures.refused parts.ensures.after
    (rw parts.ensures.fields at read.ensures.allowed)
    (c.low-num_iovas.ensures ∙ ap (λ (ns : List ℕ). slice_index ns 1) (rw parts.ensures.fields at read.ensures.numbers))
    c.in_err-check_fields.ensures.refused

pub returns-clause-refused : goal.returns-clause-refused
unfolding read_numbers
returns-clause-refused c =
    let parts = c.in_ok-fields in
    let read = c.read_fields-allowed in
    checked_late ioas_allow_iovas c.args.bytes.now parts.after.now read.result.1 c.low-num_iovas.result _
    parts.ensures.refused parts.ensures.after
    (rw parts.ensures.fields at read.ensures.allowed)
    (c.low-num_iovas.ensures ∙ ap (λ (ns : List ℕ). slice_index ns 1) (rw parts.ensures.fields at read.ensures.numbers))
    c.in_ok-check_fields.ensures.refused
