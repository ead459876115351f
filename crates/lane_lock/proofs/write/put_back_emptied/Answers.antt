use Rattle.std.proofs.Common.{None, ◌-◌, rules, refl}
use Rattle.lane_lock.proofs.Writes.{emptied_stack, emptied_hand, emptied_back}
use Rattle.lane_lock.proofs.write.put_back_emptied.Goals as goal

pub refill-requires-clause-stack : goal.refill-requires-clause-stack
refill-requires-clause-stack g c = emptied_stack c.args.seat.now.me c.turn.new.self.me (c.args.count - 1)
    c.requires.hand.0 c.requires.hand.1 c.turn.ensures.2

pub put_back_with-requires-clause-hand : goal.put_back_with-requires-clause-hand
put_back_with-requires-clause-hand g c = let h =
    emptied_hand c.args.seat.now.me c.turn.new.self.me (c.args.count - 1) c.requires.hand.0 c.requires.hand.1
    c.turn.ensures.2 c.refill.new.seat.me c.refill.ensures.lowered in (None, search (rules, h))

pub returns-clause-back : goal.returns-clause-back
returns-clause-back g c =
    emptied_back c.args.seat.now.me c.turn.new.self.me (c.args.count - 1) c.requires.hand.0 c.requires.hand.1
    c.turn.ensures.2 c.refill.new.seat.me c.put_back_with.new.seat.me c.args.count refl c.refill.ensures.lowered
    (search rules) (search rules) c.put_back_with.ensures.told
