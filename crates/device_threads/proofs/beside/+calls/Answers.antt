use Rattle.std.proofs.Common.{◌≡◌, length, rules, arith}
use denote.Param.Send.{sendable}
use Rattle.device_threads.proofs.Pairs.{one_longer, pair_lengths, pair_off, pair_on}
use Rattle.device_threads.proofs.beside.+calls.Goals as goal

pub unreachable-requires : goal.unreachable-requires
unreachable-requires g t c =
    let lengths = pair_lengths _ c.args.firsts.items c.args.seconds.items c.requires.may in
    let some = one_longer c.pop.new.self.items c.args.firsts.items c.in-Some.first c.in-Some.ensures.items in
    let none : length c.args.seconds.items ≡ 0 = search rules in
    omega (arith, lengths, some, none)

pub join-came-requires-after_bounds : goal.join-came-requires-after_bounds
join-came-requires-after_bounds g t c κs within =
    let some = c.in-Some.ensures.items in
    let off = pair_off _ c.args.firsts.items c.pop.new.self.items c.args.seconds.items c.pop-2.new.self.items
    c.in-Some.first c.in-Some-pop.second some c.in-Some-pop.ensures.items c.requires.may in
    let longer = one_longer c.pop.new.self.items c.args.firsts.items c.in-Some.first some in
    let enough = c.requires.enough in
    -- that R and W may be shared, and X, Y and Z sent
    let sent = c.requires-raw.1.1.1.1.1 in (
      off.1,
      (
        search rules,
        (
          λ a m. m,
          (
            λ a m. m,
            (
              λ a m. m,
              (
                λ a m. m,
                (
                  λ a m. m,
                  (
                    (
                      search sendable depth 20,
                      search sendable depth 20,
                      search sendable depth 20,
                      search sendable depth 20,
                      search sendable depth 20,
                      off.0,
                      c.requires.empty,
                      omega (arith, longer, enough),
                    ),
                    (
                      search sendable depth 20,
                      search sendable depth 20,
                      search sendable depth 20,
                      search sendable depth 20,
                      search sendable depth 20,
                    ),
                  ),
                ),
              ),
            ),
          ),
        ),
      ),
    )

pub put_last-requires : goal.put_last-requires
put_last-requires g t c =
    let ran = c.join-came.ensures.second in
    let some = c.in-Some.ensures.items in
    let longer = one_longer c.pop.new.self.items c.args.firsts.items c.in-Some.first some in
    let same = pair_lengths _ c.pop.new.self.items c.join-came.result.1.items ran.0 in
    let room = ran.1 in
    let enough = c.requires.enough in
    omega (arith, longer, same, room, enough)

pub returns-clause-came : goal.returns-clause-came
returns-clause-came g t c =
    pair_on _ c.args.firsts.items c.pop.new.self.items c.put_last.result.items c.join-came.result.1.items
    c.in-Some.first c.join-came.result.0 c.in-Some.ensures.items c.put_last.ensures.items c.join-came.ensures.second.0
    (c.in-Some-pop.second, c.join-came.ensures.first)
