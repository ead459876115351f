use Rattle.std.proofs.Common.{◌≡◌, ℕ, ◌∷◌, sym, subst}
use Rattle.atomic_table.specs.Table.{rest}
use Rattle.lane_lock.proofs.steps.exchange.Goals as goal

pub exchange-requires : goal.exchange-requires
exchange-requires g c = let h = c.requires.1 in let m = c.args.seat.now.me in
    (c.requires.0, subst (λ (i : ℕ). (old : _) × (m.1 ≡ (i, old) ∷ rest m.1)) (sym c.place.ensures) h)

pub returns : goal.returns
returns g c = let seat = c.args.seat.now in let new = c.exchange.new.seat in
    subst (λ (i : ℕ). (new.table_id ≡ seat.table_id) × (new.id ≡ seat.id)
    × (seat.me.1 ≡ (i, c.exchange.result) ∷ rest seat.me.1)
    × (new.me ≡ (seat.me.0, (i, c.args.share) ∷ rest seat.me.1))) c.place.ensures c.exchange.ensures
