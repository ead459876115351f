use Rattle.std.proofs.Common.{ℕ, List, ◌++◌, ◌∙◌, ap, subst}
use Rattle.std.proofs.lemmas.List.{append-nil}
use Rattle.std.proofs.lemmas.Result.{on_err_weaker, on_ok_weaker}
use Rattle.std.specs.Io.KnownBytes.{Appends}
use Rattle.iommufd_cli.specs.Output.{IsFront}
use Rattle.iommufd_cli.proofs.Written.{appends_more, front_behind, front_of_more, on_err}
use Rattle.iommufd_cli.proofs.run.hand_on.Goals as goal

pub returns-in_err-put-clause-err : goal.returns-in_err-put-clause-err
returns-in_err-put-clause-err g c =
    let (front, short, written) = c.in_err-put.ensures.err in
    let of_page = subst (λ (text : List ℕ). IsFront front text) c.as_slice.ensures short in
    on_err c.from_residual.result
    (front, front_of_more front c.args.page.now c.args.bytes.now of_page, written)

pub returns-then-bytes-room-clause-ok : goal.returns-then-bytes-room-clause-ok
returns-then-bytes-room-clause-ok g c =
    let both = c.args.page.now ++ c.args.bytes.now in
    let first = subst (λ text. Appends (g.W.Write.contents c.args.writer.now) (g.W.Write.contents c.put.new.writer)
    text) c.as_slice.ensures c.in_ok-put.ensures.ok in
    on_ok_weaker c.put-then-bytes-room.result
    (λ more. (
      both,
      ap (λ (l : List ℕ). both ++ l) c.clear.ensures ∙ append-nil both,
      appends_more _ _ _ c.args.page.now c.args.bytes.now first more,
    )) c.put-then-bytes-room.ensures.ok

pub returns-then-bytes-room-clause-err : goal.returns-then-bytes-room-clause-err
returns-then-bytes-room-clause-err g c =
    let first = subst (λ text. Appends (g.W.Write.contents c.args.writer.now) (g.W.Write.contents c.put.new.writer)
    text) c.as_slice.ensures c.in_ok-put.ensures.ok in
    on_err_weaker c.put-then-bytes-room.result
    (λ h. (
      c.args.page.now ++ h.0,
      front_behind c.args.page.now h.0 c.args.bytes.now h.1,
      appends_more _ _ _ c.args.page.now h.0 first h.2,
    )) c.put-then-bytes-room.ensures.err
