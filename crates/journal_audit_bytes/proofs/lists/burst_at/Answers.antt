use Rattle.std.proofs.Common.{arith, ◌≡◌, ◌<◌, ◌≤◌, length, refl}
use Rattle.journal_audit_bytes.proofs.Bursts.{beyond, cut, few, no_number, not_few, whole}
use Rattle.journal_audit_bytes.proofs.lists.burst_at.Goals as goal

pub returns-in_err-count : goal.returns-in_err-count
returns-in_err-count c = rw c.from_residual.ensures (no_number c.args.bytes.now c.in_err-count.ensures)

pub returns-then-count-rest : goal.returns-then-count-rest
returns-then-count-rest c =
    cut c.args.bytes.now c.in_ok-count.count c.in_ok-count.rest.now c.in_ok-count.ensures
    (omega (arith, c.if-count-rest.true, c.from-count.ensures))

pub returns : goal.returns
returns c =
    let n = c.in_ok-count.count in
    let same : c.from-count.result ≡ n = omega (arith, c.from-count.ensures) in
    let fits = c.in_ok-burst.ensures.fits.0 refl in
    let some : 0 < n = omega (arith, c.split_at.ensures.front_len, same, fits.0) in
    let most : n ≤ 64 = omega (arith, c.split_at.ensures.front_len, same, fits.1) in
    let enough : n ≤ length c.in_ok-count.rest.now = omega (arith, c.if-count-rest.false, same) in
    rw (c.in_ok-burst.ensures.value, c.split_at.ensures.front, c.split_at.ensures.back, same)
    (whole c.args.bytes.now n c.in_ok-count.rest.now c.in_ok-count.ensures enough (few n some most))

pub returns-in_err-burst : goal.returns-in_err-burst
returns-in_err-burst c =
    let n = c.in_ok-count.count in
    let same : c.from-count.result ≡ n = omega (arith, c.from-count.ensures) in
    let long : length c.split_at.result.0.now ≡ n = omega (arith, c.split_at.ensures.front_len, same) in
    rw c.from_residual-in_err-burst.ensures (beyond c.args.bytes.now n c.in_ok-count.rest.now c.in_ok-count.ensures
    (not_few n (λ fits. c.in_err-burst.ensures.fits.1
    (omega (arith, long, fits.0), omega (arith, long, fits.1)))))
