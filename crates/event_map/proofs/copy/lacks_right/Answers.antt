use Rattle.std.proofs.Common.{◌&&◌, not, sym, ◌∙◌, ap}
use Rattle.iofd_refusals.specs.Checks.{is_source_writable}
use Rattle.event_map.proofs.CopyAsks.{writable_is}
use Rattle.server_state.specs.Seen.{seen}
use Rattle.event_map.proofs.copy.lacks_right.Goals as goal

pub returns : goal.returns
returns g c =
    let s = c.args.state.now in
    let writes = sym c.is_writeable.ensures ∙ c.if-not-is_writeable.false in
    ap not (c.is_writable.ensures ∙ sym (writable_is (seen s) c.args.file c.args.request c.args.number c.requires))
    ∙ ap (λ b. b && not (is_source_writable (seen s) c.args.file c.args.request)) (sym writes)
