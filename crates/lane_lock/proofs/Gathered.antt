-- All passes of a lock stand in one view.
use Rattle.std.proofs.Common.{◌≡◌, ◌⊎◌, inl, inr, ⊎_elim, ℕ, ◌<◌, ◌≤◌, List, [], ◌∷◌, ◌++◌, length, get_or, slice_get}
use Rattle.std.proofs.Common.{Some, sym, ap, ◌∙◌, subst}
use mathlib.Core.Option.{some}
use lib.ListN.{get_elem?}
use Rattle.lane_lock.specs.declared.kept.Kept as kept
use Rattle.lane_lock.specs.declared.lock.LaneLock.{LaneLock}
use Rattle.lane_lock.specs.declared.pass.Pass.{Pass}
use Rattle.lane_lock.specs.declared.table.View.{View}
use Rattle.lane_lock.specs.Closing.{AllHere, Closes}
use Rattle.lane_lock.specs.Ending.{HasNumber, AllIdle, Gathers, known_of, EndsWith}
use Rattle.lane_lock.specs.History.{Legal}
use Rattle.lane_lock.specs.Passes.{passes_of, opening_of}
use Rattle.lane_lock.proofs.PassLists.{last_at, either_at}

module _ {K A S E : Type 0} {g : kept.Ghosts K A S E} (lock : LaneLock K A S E) (all front : List (Pass K A S E g))
    (last : Pass K A S E g) (is : all ≡ front ++ last ∷ [])
    (v w : View E) (mine : v ≡ last.seat.me.0) (gathered : Gathers v front w) (there : (n : ℕ) → n < passes_of lock
    → HasNumber all n) where
  view_of_last : w ≡ record last.seat.me.0 { others = w.others }
  view_of_last = gathered.view ∙ (λ i. record (mine i) { others = w.others })

  -- a pass of the list stands in the view, by its own or among the others
  pub found : (i : ℕ) (p : Pass K A S E g) → slice_get all i ≡ Some p
      → (last ≡ p) ⊎ ((j : ℕ) × (get_elem? w.others j ≡ some (known_of p)))
  found i p at = ⊎_elim (λ (h : slice_get front i ≡ Some p). inr (gathered.others i p h)) (λ (h : last ≡ p). inl h)
      (either_at all front last p i is at)

  pub all_here : AllIdle all → AllHere lock.table.shared.key.passes w
  all_here idle = record {
    stands = ap (λ (u : View E). u.stands) view_of_last ∙ last.stands.0;
    blank = λ k. ap (λ (u : View E). get_or u.held k 0) view_of_last
        ∙ (last.idle (idle _ last (last_at all front last is))).1 k;
    all = λ n lt. let h = there n (subst (λ (m : ℕ). n < m) (sym lock.counted) lt) in
        ⊎_elim (λ (e : last ≡ h.1). inl (sym h.3
        ∙ (ap (λ (p : Pass K A S E g). p.number) (sym e)
        ∙ (sym last.stands.1 ∙ sym (ap (λ (u : View E). u.number) view_of_last)))))
        (λ (e : (j : ℕ) × (get_elem? w.others j ≡ some (known_of h.1))). inr (
          e.0,
          known_of h.1,
          e.1,
          sym h.3 ∙ sym h.1.stands.1,
        )) (found h.0 h.1 h.2);
  }

  pub ends_with : (h : List E) → Closes g.history g.maker lock.table.shared.key w h → EndsWith lock all h
  ends_with h c = record {
    opened = c.opened;
    all = there;
    each = λ i p at. ⊎_elim
        (λ (e : last ≡ p). subst (λ (q : Pass K A S E g). Legal g.maker (length (opening_of g.history lock)) h q.number
        q.seat.me.0.seen q.seat.me.0.made) e
        (subst (λ (n : ℕ). Legal g.maker (length (opening_of g.history lock)) h n last.seat.me.0.seen
        last.seat.me.0.made) last.stands.1 (subst
        (λ (u : View E). Legal g.maker (length (opening_of g.history lock)) h u.number u.seen u.made)
        view_of_last c.mine)))
        (λ (e : (j : ℕ) × (get_elem? w.others j ≡ some (known_of p))). subst
        (λ (n : ℕ). Legal g.maker (length (opening_of g.history lock)) h n p.seat.me.0.seen p.seat.me.0.made)
        p.stands.1 (c.others e.0 (known_of p) e.1)) (found i p at);
    foreign = λ n le. c.foreign n (subst (λ (m : ℕ). m ≤ n) lock.counted le);
  }
