use Rattle.std.proofs.Common.{arith}
use Rattle.ioctl_codec.proofs.Commands.{found, only, wanting}
use Rattle.ioctl_codec.proofs.decoding.decode.Goals as goal

pub returns-clause-found : goal.returns-clause-found
returns-clause-found g c =
    let read = c.read.ensures in
    found c.args.nr c.args.bytes.now c.read.result (λ i. omega (arith, c.type_inv.bytes i)) read.refused read.number
    read.values read.entries

pub returns-clause-only : goal.returns-clause-only
returns-clause-only g c =
    let read = c.read.ensures in
    λ command spells. only c.args.nr c.args.bytes.now c.read.result command spells read.refused read.number read.values
    read.entries read.memory

pub returns-clause-memory : goal.returns-clause-memory
returns-clause-memory g c =
    let read = c.read.ensures in
    wanting c.args.nr c.args.bytes.now c.read.result (λ i. omega (arith, c.type_inv.bytes i)) read.refused read.memory
