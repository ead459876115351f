-- What is left where all passes stand in one view.
use Rattle.std.proofs.Common.{◌≡◌, ℕ, List, get_or, sym, refl, ap, ◌∙◌, subst, ⊎_elim, Option, Some, None, Result, Ok}
use Rattle.std.proofs.Common.{Err, IfOk, IfErr, MatchResult}
use mathlib.Core.Logic.{dite}
use mathlib.Core.Option.{some, some-injective}
use native.Mathlib.Decide.{ℕ_discrete}
use lib.ListN.{get_elem?}
use Rattle.std.specs.Arc.{arc_value}
use Rattle.std.specs.declared.sync.Arc.{Arc}
use Rattle.atomic_table.specs.Table.{State, Final, Seen}
use Rattle.lane_lock.specs.declared.table.View.{View}
use Rattle.lane_lock.specs.declared.table.Known.{Known}
use Rattle.lane_lock.specs.declared.table.Setup.{Setup}
use Rattle.lane_lock.specs.Closing.{AllHere, Closes}
use Rattle.lane_lock.specs.Rule.{Ruled, place}

module _ {K E : Type 0} (Z : Type 0) (hist : K → List E) (by : E → ℕ) (key : Setup K) where
  abbrev V : Type 0
  V = View E

  abbrev Rule : State (Option (Arc K Z)) V → Type 0
  Rule = Ruled hist by key

  -- every lane is home
  all_home : (s : State (Option (Arc K Z)) V) (r : Rule s) (id : ℕ) (v : V) → get_elem? s.views id ≡ some v
      → AllHere key.passes v → (k : ℕ) → get_or s.words (place k) 0 ≡ 0
  all_home s r id v at here k = dite (ℕ_discrete (get_or s.words (place k) 0) 0) (λ z. z)
      (λ n. let o = r.named k n in let h = o.3 in let mine = r.each id v at in
      let there : r.seat o.0 ≡ id = ⊎_elim (λ (e : o.0 ≡ v.number). ap r.seat e ∙ (mine.stands here.stands).1)
      (λ (t : (i : ℕ) × (u : Known E) × (get_elem? v.others i ≡ some u) × (o.0 ≡ u.number)). ap r.seat t.3
      ∙ (mine.others t.0 t.1 t.2).1) (here.all o.0 o.1) in
      let one : h.0 ≡ v = some-injective h.0 v (sym h.1 ∙ (ap (get_elem? s.views) there ∙ at)) in
      absurd (n (sym h.4 ∙ (ap (λ (c : V). get_or c.held k 0) one ∙ here.blank k))))

  share_of : (s : State (Option (Arc K Z)) V) (r : Rule s) (x : Option (Arc K Z)) → get_elem? s.homes 0 ≡ some (some x)
      → (a : Arc K Z) × (x ≡ Some a) × (hist (arc_value a) ≡ r.history)
  share_of s r None e = absurd (r.filled e)
  share_of s r (Some a) e = (a, refl, r.shown 0 a e)

  pub closes : (id : ℕ) (v : V) (ws : List ℕ) (xs : List (Option (Arc K Z))) → AllHere key.passes v
      → Final (Seen Rule id v) ws xs
      → (a : Arc K Z) × (get_elem? xs 0 ≡ some (Some a)) × Closes hist by key v (hist (arc_value a))
  closes id v ws xs here f =
      let s = f.0 in let r = f.1.0 in let at = f.1.1 in let mine = r.each id v at in let few = r.few in
      let home = r.home 0 few.0 (all_home s r id v at here 0) in let t = share_of s r home.0 home.1 in (
        t.0,
        f.4 0 home.0 home.1 ∙ ap (λ (x : Option (Arc K Z)). some x) t.1,
        subst (Closes hist by key v) (sym t.2) record {
          opened = r.opened;
          mine = (mine.stands here.stands).4;
          others = λ i o e. (mine.others i o e).2;
          foreign = r.foreign;
        },
      )

  pub first_is : (xs : List (Option (Arc K Z))) (x : Option (Arc K Z)) (a : Arc K Z) → get_elem? xs 0 ≡ some x
      → get_elem? xs 0 ≡ some (Some a) → x ≡ Some a
  first_is xs x a p q = some-injective x (Some a) (sym p ∙ q)

  pub not_none : (xs : List (Option (Arc K Z))) (x : Option (Arc K Z)) (a : Arc K Z) → get_elem? xs 0 ≡ some x
      → get_elem? xs 0 ≡ some (Some a) → x ≡ None → ⊥
  not_none xs x a p q n = let e : Some a ≡ None = sym (first_is xs x a p q) ∙ n in cc

  pub ends : (key : Setup K) (v : V) (r : Result K (Arc K Z)) (share a : Arc K Z) → Some share ≡ Some a
      → Closes hist by key v (hist (arc_value a)) → IfOk r (λ x. x ≡ arc_value share) → IfErr r (λ c. c ≡ share)
      → MatchResult r (λ k. Closes hist by key v (hist k)) (λ c. Closes hist by key v (hist (arc_value c)))
  ends key v (Ok k) share a same h ok err =
      let one : share ≡ a = cc in subst (λ (x : K). Closes hist by key v (hist x)) (sym (ok ∙ ap arc_value one)) h
  ends key v (Err c) share a same h ok err =
      let one : share ≡ a = cc in subst (λ (x : Arc K Z). Closes hist by key v (hist (arc_value x))) (sym (err ∙ one)) h
