-- Each step keeps the rule.
use Rattle.std.proofs.Common.{append-nil, ◌≡◌, ◌≢◌, ◌⊎◌, ℕ, zero, suc, ◌+◌, ◌-◌, ◌<◌, eqb, Bool, true, if◌then◌else◌}
use Rattle.std.proofs.Common.{List, [], ◌∷◌, length, get_or, set, drop, sym, refl, ap, ◌∙◌, subst, inl, inr, ⊎_elim, arith, Option, Some, None}
use Rattle.std.proofs.Common.{length-set, get_or-set_other, get_or-set_same, eq-eqb, ne_eqb}
use Rattle.std.proofs.Math.Nat.{mul-div_cancel}
use mathlib.Core.Logic.{dite}
use mathlib.Core.Option.{none, some, some-injective, some-ne-none}
use mathlib.Core.Option as maybe
use native.Mathlib.Decide.{ℕ_discrete}
use lib.ListN.{get_elem?}
use lib.Seq.{set-get_or}
use prog.Atomic.{either}
use Rattle.std.specs.Arc.{arc_value}
use Rattle.std.specs.declared.sync.Arc.{Arc}
use Rattle.atomic_table.specs.Table.{State, rest, Act, keeps, takes, gives, stepped, Allows, Valid, carried_after}
use Rattle.atomic_table.proofs.Lists.{at_set, set_here, set_else}
use Rattle.lane_lock.specs.declared.table.View.{View}
use Rattle.lane_lock.specs.declared.table.Setup.{Setup}
use Rattle.lane_lock.specs.History.{StartsWith, made_by, Legal}
use Rattle.lane_lock.specs.Rule.{Names, Knows, Has, Ruled, place, lane_at}
use Rattle.lane_lock.specs.Steps.{Mine, Takes, took, IsShare}
use Rattle.lane_lock.specs.Views.{holding, seeing, pin_or, freed, noted, found_empty, writes_with}

-- lanes lie apart
pub apart_there : (i k : ℕ) → i ≢ k → place i ≢ place k
apart_there i k ne e = ne (omega arith)

-- the lane of a lane's place is that lane
pub lane_of_place : (i k : ℕ) → i ≡ place k → lane_at i ≡ k
lane_of_place i k at = ap lane_at at ∙ mul-div_cancel k (let some : 0 < 8 = omega arith in some)

pub names_one : (p q w : ℕ) → Names p w → Names q w → p ≡ q
names_one p q w (inl a) (inl b) = omega arith
names_one p q w (inl a) (inr b) = absurd (omega arith)
names_one p q w (inr a) (inl b) = absurd (omega arith)
names_one p q w (inr a) (inr b) = omega arith

pub names_some : (p w : ℕ) → Names p w → w ≢ 0
names_some p w (inl a) = λ z. omega arith
names_some p w (inr a) = λ z. omega arith

pub inside : (l : List ℕ) (k : ℕ) → get_or l k 0 ≢ 0 → k < length l
inside [] k n = absurd (n refl)
inside (x ∷ xs) zero n = omega arith
inside (x ∷ xs) (suc k) n = let i = inside xs k n in omega arith

still_held : (l : List ℕ) (k w i : ℕ) → w ≢ 0 → get_or l i 0 ≢ 0 → get_or (set l k w) i 0 ≢ 0
still_held l k w i some_word n z = dite (ℕ_discrete i k)
    (λ e. some_word (sym (get_or-set_same l k w 0 (inside l k (λ h. n (ap (λ (c : ℕ). get_or l c 0) e ∙ h))))
    ∙ (ap (λ (c : ℕ). get_or (set l k w) c 0) (sym e) ∙ z)))
    (λ e. n (sym (get_or-set_other l k i w 0 e) ∙ z))

gone : {A : Type 0} (l : List (maybe.Option A)) (k : ℕ) (x : A) → k < length l
    → get_elem? (set l k none) k ≡ some (some x) → ⊥
gone l k x lt e = some-ne-none x (sym (some-injective none (some x) (sym (set_here l k none lt) ∙ e)))

pub none_here : {A : Type 0} (l : List (maybe.Option A)) (k : ℕ) (x : A) → get_elem? l k ≡ some none
    → get_elem? l k ≡ some (some x) → ⊥
none_here l k x out e = some-ne-none x (sym (some-injective none (some x) (sym out ∙ e)))

pub at_inside : {A : Type 0} (l : List A) (i : ℕ) (a : A) → get_elem? l i ≡ some a → i < length l
at_inside [] i a e = absurd (some-ne-none a (sym e))
at_inside (y ∷ ys) zero a e = omega arith
at_inside (y ∷ ys) (suc i) a e = let h = at_inside ys i a e in omega arith

pinned_by : (l : List ℕ) (k w : ℕ) → w ≢ 0 → get_or (set l k w) ((k + 1) - 1) 0 ≢ 0 → (pin : ℕ)
    → (pin ≢ 0 → get_or l (pin - 1) 0 ≢ 0) → get_or (set l k w) (pin_or pin (k + 1) - 1) 0 ≢ 0
pinned_by l k w some_word new zero old = new
pinned_by l k w some_word new (suc pin) old = still_held l k w (suc pin - 1) some_word (old (λ z. omega arith))

module _ {K E : Type 0} (Z : Type 0) (hist : K → List E) (by : E → ℕ) (key : Setup K) where
  abbrev V : Type 0
  V = View E

  abbrev St : Type 0
  St = State (Option (Arc K Z)) V

  abbrev Rule : St → Type 0
  Rule = Ruled hist by key

  abbrev base : ℕ
  base = length (hist key.value.value)

  abbrev Known' : (s : St) → Rule s → List ℕ → ℕ → V → Type 0
  Known' s r words j v = Knows by key.lanes key.passes (hist key.value.value) r.seat r.history words j v

  -- what another seat knows stays so, where the word of lane k was 0 or named the pass p of another seat
  others_stay : (s : St) (r : Rule s) (id p k x j : ℕ) (v : V) → r.seat p ≡ id → j ≢ id → (get_or s.words (place k) 0 ≡ 0)
      ⊎ Names p (get_or s.words (place k) 0) → Known' s r s.words j v → Known' s r (set s.words (place k) x) j v
  others_stay s r id p k x j v here other own o = record {
    begins = o.begins;
    stands = o.stands;
    others = o.others;
    held = λ i n. let h = o.held i n in dite (ℕ_discrete i k)
        (λ e. absurd (⊎_elim (λ (z : get_or s.words (place k) 0 ≡ 0). n (sym h.0
        ∙ (ap (λ (c : ℕ). get_or s.words (place c) 0) e ∙ z)))
        (λ (m : Names p (get_or s.words (place k) 0)). other (sym (o.stands h.1).1
        ∙ (ap r.seat (names_one v.number p (get_or s.words (place k) 0)
        (subst (Names v.number) (sym h.0 ∙ ap (λ (c : ℕ). get_or s.words (place c) 0) e) h.2) m) ∙ here))) own))
        (λ e. (get_or-set_other s.words (place k) (place i) x 0 (apart_there i k e) ∙ h.0, h.1, h.2));
    pin = o.pin;
  }

  -- a step of the pass of d on lane k, whose word becomes x, while the history stays
  lane_step : (s : St) (r : Rule s) (id k x pin empty empty_lane reads writes : ℕ) (d : V) (seen : List E)
      (homes' : List (maybe.Option (Option (Arc K Z)))) → get_elem? s.views id ≡ some d → d.stands ≡ true
      → k < key.lanes
      → (get_or s.words (place k) 0 ≡ 0) ⊎ Names d.number (get_or s.words (place k) 0) → (x ≢ 0 → Names d.number x)
      → Legal by base r.history d.number seen d.made
      → (pin ≢ 0 → (r.history ≡ seen) × (get_or (set d.held k x) (pin - 1) 0 ≢ 0))
      → length homes' ≡ length s.homes → ((j : ℕ) → j ≢ place k → get_elem? homes' j ≡ get_elem? s.homes j)
      → (x ≡ 0 → (y : Option (Arc K Z)) × (get_elem? homes' (place k) ≡ some (some y)))
      → (x ≢ 0 → get_elem? homes' (place k) ≡ some none)
      → ((a : Arc K Z) → get_elem? homes' (place k) ≡ some (some (Some a)) → hist (arc_value a) ≡ r.history)
      → (k ≡ 0 → get_elem? homes' 0 ≢ some (some None))
      → Rule record {
        words = set s.words (place k) x;
        homes = homes';
        views = set s.views id (record d {
          held = set d.held k x;
          seen = seen;
          pin = pin;
          empty = empty;
          empty_lane = empty_lane;
          reads = reads;
          writes = writes;
        });
      }
  lane_step s r id k x pin empty empty_lane reads writes d seen homes' at up small own names fits pinned deep apart home
      out shown filled =
      let w : V = record d {
        held = set d.held k x;
        seen = seen;
        pin = pin;
        empty = empty;
        empty_lane = empty_lane;
        reads = reads;
        writes = writes;
      } in
      let mine = r.each id d at in
      let std = mine.stands up in
      let wide = r.wide in
      let within : place k < length s.words = omega arith in
      let same : get_or (set s.words (place k) x) (place k) 0 ≡ x = get_or-set_same s.words (place k) x 0 within in
      let there_now : (i : ℕ) → i ≡ k → get_or (set s.words (place k) x) (place i) 0 ≡ x =
      λ i e. ap (λ (c : ℕ). get_or (set s.words (place k) x) (place c) 0) e ∙ same in
      let as_was : (i : ℕ) → i ≢ k → get_or (set s.words (place k) x) (place i) 0 ≡ get_or s.words (place i) 0 =
      λ i e. get_or-set_other s.words (place k) (place i) x 0 (apart_there i k e) in
      let beside : (i : ℕ) → i ≢ k → get_elem? homes' (place i) ≡ get_elem? s.homes (place i) =
      λ i e. apart (place i) (apart_there i k e) in
      let reach : k < length d.held = let l = std.3 in omega arith in
      let there : id < length s.views = at_inside s.views id d at in
      record {
        history = r.history;
        seat = r.seat;
        wide = length-set s.words (place k) x ∙ r.wide;
        deep = deep ∙ r.deep;
        few = r.few;
        opened = r.opened;
        home = λ i l z. dite (ℕ_discrete i k) (λ e. subst (λ (c : ℕ). (y : Option (Arc K Z))
            × (get_elem? homes' (place c) ≡ some (some y))) (sym e) (home (sym (there_now i e) ∙ z)))
            (λ e. let h = r.home i l (sym (as_was i e) ∙ z) in (h.0, beside i e ∙ h.1));
        out = λ i z. dite (ℕ_discrete i k) (λ e. subst (λ (c : ℕ). get_elem? homes' (place c) ≡ some none) (sym e)
            (out (λ h. z (there_now i e ∙ h))))
            (λ e. beside i e ∙ r.out i (λ h. z (as_was i e ∙ h)));
        shown = λ i a h. dite (ℕ_discrete i k) (λ e. shown a (ap (λ (c : ℕ). get_elem? homes' (place c)) (sym e) ∙ h))
            (λ e. r.shown i a (sym (beside i e) ∙ h));
        filled = λ h. dite (ℕ_discrete 0 k) (λ e. filled (sym e) h) (λ e. r.filled (sym (beside 0 e) ∙ h));
        named = λ i z. dite (ℕ_discrete i k)
            (λ e. let now = there_now i e in (
              d.number,
              std.0,
              subst (Names d.number) (sym now) (names (λ h. z (now ∙ h))),
              (
                w,
                subst (λ (c : ℕ). get_elem? (set s.views id w) c ≡ some w) (sym std.1) (set_here s.views id w there),
                up,
                refl,
                ap (λ (c : ℕ). get_or (set d.held k x) c 0) e
                    ∙ (get_or-set_same d.held k x 0 reach ∙ sym now),
              ),
            ))
            (λ e. let now = as_was i e in let o = r.named i (λ h. z (now ∙ h)) in (
              o.0,
              o.1,
              subst (Names o.0) (sym now) o.2,
              has s r id k x i o.0 d w refl refl refl at e (subst (Has s.views (r.seat o.0) o.0 i) (sym now) o.3),
            ));
        each = λ j v e. ⊎_elim
            (λ (t : (j ≡ id) × (w ≡ v)). subst (λ (c : ℕ × V). Known' s r (set s.words (place k) x) c.0 c.1)
            (λ q. (sym t.0 q, t.1 q)) record {
              begins = fits.begins;
              stands = λ _. (std.0, std.1, std.2, length-set d.held k x ∙ std.3, fits);
              others = mine.others;
              held = λ i n. dite (ℕ_discrete i k)
                  (λ e. let now : get_or (set d.held k x) i 0 ≡ x = ap (λ (c : ℕ). get_or (set d.held k x) c 0) e
                  ∙ get_or-set_same d.held k x 0 reach in (
                    there_now i e ∙ sym now,
                    up,
                    subst (Names d.number) (sym now) (names (λ h. n (now ∙ h))),
                  ))
                  (λ e. let now = get_or-set_other d.held k i x 0 e in let h = mine.held i (λ z. n (now ∙ z)) in (
                    as_was i e ∙ (h.0 ∙ sym now),
                    up,
                    subst (Names d.number) (sym now) h.2,
                  ));
              pin = pinned;
            })
            (λ (t : (j ≢ id) × (get_elem? s.views j ≡ some v)). others_stay s r id d.number k x j v std.1 t.0 own
            (r.each j v t.1)) (at_set s.views id j w v e);
        foreign = r.foreign;
      }
    where
      has : (s : St) (r : Rule s) (id k x i q : ℕ) (d w : V) → w.held ≡ set d.held k x → w.stands ≡ d.stands
          → w.number ≡ d.number → get_elem? s.views id ≡ some d → i ≢ k
          → Has s.views (r.seat q) q i (get_or (set s.words (place k) x) (place i) 0)
          → Has (set s.views id w) (r.seat q) q i (get_or (set s.words (place k) x) (place i) 0)
      has s r id k x i q d w helds up num at e h = dite (ℕ_discrete (r.seat q) id)
          (λ z. let v = h.0 in let one : v ≡ d = some-injective v d (sym h.1 ∙ (ap (get_elem? s.views) z ∙ at)) in (
            w,
            subst (λ (c : ℕ). get_elem? (set s.views id w) c ≡ some w) (sym z)
                (set_here s.views id w (at_inside s.views id d at)),
            up ∙ (ap (λ (c : V). c.stands) (sym one) ∙ h.2),
            num ∙ (ap (λ (c : V). c.number) (sym one) ∙ h.3),
            ap (λ (l : List ℕ). get_or l i 0) helds ∙ (get_or-set_other d.held k i x 0 e
                ∙ (ap (λ (c : V). get_or c.held i 0) (sym one) ∙ h.4)),
          ))
          (λ z. (h.0, set_else s.views id (r.seat q) w z ∙ h.1, h.2, h.3, h.4))

  -- a step that changes no word, after which the pass has noted a lane
  unmoved : (s : St) (r : Rule s) (id k busy lane word : ℕ) (d : V) → get_elem? s.views id ≡ some d
      → Rule record {
        words = set s.words (place k) (get_or s.words (place k) 0);
        homes = s.homes;
        views = set s.views id (record d { busy = busy; lane = lane; word = word });
      }
  unmoved s r id k busy lane word d at =
      let w : V = record d { busy = busy; lane = lane; word = word } in
      let there : id < length s.views = at_inside s.views id d at in
      let mine = r.each id d at in
      subst (λ (ws : List ℕ). Rule record { words = ws; homes = s.homes; views = set s.views id w })
      (sym (set-get_or s.words (place k) 0)) record {
        history = r.history;
        seat = r.seat;
        wide = r.wide;
        deep = r.deep;
        few = r.few;
        opened = r.opened;
        home = r.home;
        out = r.out;
        shown = r.shown;
        filled = r.filled;
        named = λ i z. let o = r.named i z in (o.0, o.1, o.2, has o.0 i (get_or s.words (place i) 0) there o.3);
        each = λ j v e. ⊎_elim
            (λ (t : (j ≡ id) × (w ≡ v)). subst (λ (c : ℕ × V). Known' s r s.words c.0 c.1)
            (λ q. (sym t.0 q, t.1 q)) record {
              begins = mine.begins;
              stands = mine.stands;
              others = mine.others;
              held = mine.held;
              pin = mine.pin;
            })
            (λ (t : (j ≢ id) × (get_elem? s.views j ≡ some v)). r.each j v t.1) (at_set s.views id j w v e);
        foreign = r.foreign;
      }
    where
      w : V
      w = record d { busy = busy; lane = lane; word = word }

      has : (q i n : ℕ) → id < length s.views → Has s.views (r.seat q) q i n → Has (set s.views id w) (r.seat q) q i n
      has q i n there h = dite (ℕ_discrete (r.seat q) id)
          (λ z. let v = h.0 in let one : v ≡ d = some-injective v d (sym h.1 ∙ (ap (get_elem? s.views) z ∙ at)) in (
            w,
            subst (λ (c : ℕ). get_elem? (set s.views id w) c ≡ some w) (sym z) (set_here s.views id w there),
            ap (λ (c : V). c.stands) (sym one) ∙ h.2,
            ap (λ (c : V). c.number) (sym one) ∙ h.3,
            ap (λ (c : V). get_or c.held i 0) (sym one) ∙ h.4,
          ))
          (λ z. (h.0, set_else s.views id (r.seat q) w z ∙ h.1, h.2, h.3, h.4))

  takes_it : (to_read : Bool) (s : St) (r : Rule s) (id k w : ℕ) (me : Mine K E Z) (x : Option (Arc K Z))
      → get_elem? s.views id ≡ some me.0 → me.0.stands ≡ true → Names me.0.number w → k < key.lanes
      → get_or s.words (place k) 0 ≡ 0 → get_elem? s.homes (place k) ≡ some (some x)
      → (v : V) × (a : Act (Option (Arc K Z))) × Valid s.homes me.1 a × Rule (stepped s (place k) w id me.1 v a)
      × ((y : Option (Arc K Z)) × (carried_after me.1 a ≡ (place k, y) ∷ me.1) × Takes to_read hist by me.0 k w y v
      × (get_or me.0.held k 0 ≡ 0))
  takes_it to_read s r id k w me None at up names small free here = let d : V = me.0 in let mine =
      r.each id d at in let std = mine.stands up in let deep = r.deep in let some_word = names_some d.number w names in
      let blank : get_or d.held k 0 ≡ 0 =
      dite (ℕ_discrete (get_or d.held k 0) 0) (λ z. z) (λ n. absurd (n (sym (mine.held k n).0 ∙ free))) in
      let zeroth : k ≢ 0 = λ z. r.filled (ap (λ (i : ℕ). get_elem? s.homes (place i)) (sym z) ∙ here) in (
        found_empty to_read (holding to_read d k w) k,
        takes (place k) None,
        here,
        lane_step s r id k w d.pin (if to_read then d.empty + 1 else d.empty) (if to_read then k else d.empty_lane)
            d.reads (writes_with to_read d k) d d.seen (set s.homes (place k) none) at up small (inl free)
            (λ _. names) std.4
            (λ n. let p = mine.pin n in (p.0, still_held d.held k w (d.pin - 1) some_word p.1))
            (length-set s.homes (place k) none) (λ j e. set_else s.homes (place k) j none e)
            (λ z. absurd (some_word z)) (λ _. set_here s.homes (place k) none (omega arith))
            (λ a e. absurd (gone s.homes (place k) (Some a) (omega arith) e)) (λ z. absurd (zeroth z)),
        (None, refl, (refl, zeroth), blank),
      )
  takes_it to_read s r id k w me (Some b) at up names small free here = let d : V = me.0 in let mine =
      r.each id d at in let std = mine.stands up in let deep = r.deep in let some_word = names_some d.number w names in
      let blank : get_or d.held k 0 ≡ 0 =
      dite (ℕ_discrete (get_or d.held k 0) 0) (λ z. z) (λ n. absurd (n (sym (mine.held k n).0 ∙ free))) in
      let now : hist (arc_value b) ≡ r.history =
      r.shown k b here in let held_now = get_or-set_same d.held k w 0 (let l = std.3 in omega arith) in
      let makes = std.4.makes in
      let legal : made_by by d.number (drop base (hist (arc_value b))) ≡ d.made =
      ap (λ h. made_by by d.number (drop base h)) now ∙ makes in (
        seeing to_read d k w (hist (arc_value b)),
        takes (place k) (Some b),
        here,
        lane_step s r id k w (pin_or d.pin (k + 1)) d.empty d.empty_lane (if to_read then d.reads + 1 else d.reads)
            (writes_with to_read d k) d (hist (arc_value b))
            (set s.homes (place k) none) at up small (inl free) (λ _. names)
            record { begins = ([], sym now ∙ sym (append-nil (hist (arc_value b)))); makes = makes; inside = legal }
            (λ n. (
              sym now,
              pinned_by d.held k w some_word
                  (λ z. some_word (sym held_now ∙ (ap (λ (i : ℕ). get_or (set d.held k w) i 0)
                  (let e : k ≡ (k + 1) - 1 = omega arith in e) ∙ z))) d.pin (λ q. (mine.pin q).1),
            ))
            (length-set s.homes (place k) none) (λ j e. set_else s.homes (place k) j none e)
            (λ z. absurd (some_word z)) (λ _. set_here s.homes (place k) none (omega arith))
            (λ a e. absurd (gone s.homes (place k) (Some a) (omega arith) e))
            (λ z e. absurd (gone s.homes (place k) None (omega arith)
            (ap (λ (i : ℕ). get_elem? (set s.homes (place k) none) (place i)) z ∙ e))),
        (
          Some b,
          refl,
          (
            refl,
            subst (λ h. StartsWith h d.seen) (sym now) mine.begins,
            subst (λ (o : List E). made_by by d.number (drop (length o) (hist (arc_value b))) ≡ d.made) (sym std.2.0)
                legal,
            (λ n. now ∙ (mine.pin n).0),
            subst (λ (o : List E). StartsWith (hist (arc_value b)) o) (sym std.2.0)
                (subst (λ h. StartsWith h (hist key.value.value)) (sym now) r.opened),
          ),
          blank,
        ),
      )

  takes_lane : (to_read : Bool) (slots id : ℕ) (me : Mine K E Z) (k w : ℕ) → me.0.stands ≡ true → Names me.0.number w
      → k < key.lanes
      → Allows Rule slots id me (place k) (λ n. either (eqb n 0) w n) (took to_read hist by k w me)
  takes_lane to_read slots id me k w up names small s r _ at _ = let n : ℕ = get_or s.words (place k) 0 in
      dite (ℕ_discrete n 0)
      (λ z. let h = r.home k small z in let t = takes_it to_read s r id k w me h.0 at up names small z h.1 in (
        t.0,
        t.1,
        t.2,
        subst (λ b. Rule (stepped s (place k) (either b w n) id me.1 t.0 t.1)) (sym (eq-eqb n 0 z)) t.3,
        ((λ _. t.4), λ no. absurd (no z)),
      ))
      (λ no. let o = r.named k no in let few = r.few in (
        noted me.0 k n,
        keeps,
        tt,
        subst (λ b. Rule (stepped s (place k) (either b w n) id me.1 (noted me.0 k n) keeps)) (sym (ne_eqb n 0 no))
            (unmoved s r id k (me.0.busy + 1) k n me.0 at),
        (
          (λ z. absurd (no z)),
          λ _. (
            refl,
            (o.0, (let lt = o.1 in omega arith), o.2),
            (λ mine. let there = o.3 in
                let same : o.0 ≡ me.0.number =
                names_one o.0 me.0.number n o.2 mine in let std = (r.each id me.0 at).stands up in
                let here : r.seat o.0 ≡ id = ap r.seat same ∙ std.1 in
                let one : there.0 ≡ me.0 = some-injective there.0 me.0 (sym there.1
                ∙ (ap (get_elem? s.views) here ∙ at)) in ap (λ (c : V). get_or c.held k 0) (sym one) ∙ there.4),
            λ q named. subst (λ (n : ℕ). n < me.0.passes) (names_one o.0 q n o.2 named)
                (subst (λ (m : ℕ). o.0 < m) (sym ((r.each id me.0 at).stands up).2.1) o.1),
          ),
        ),
      ))

  -- steps 1 and 3
  pub can_take : (to_read : Bool) (slots id : ℕ) (me : Mine K E Z) (i k w : ℕ) → i ≡ place k → me.0.stands ≡ true
      → Names me.0.number w → k < key.lanes
      → Allows Rule slots id me i (λ n. either (eqb n 0) w n) (took to_read hist by (lane_at i) w me)
  can_take to_read slots id me i k w at up names small = subst
      (λ (z : ℕ × ℕ). Allows Rule slots id me z.0 (λ n. either (eqb n 0) w n) (took to_read hist by z.1 w me))
      (λ j. (sym at j, sym (lane_of_place i k at) j)) (takes_lane to_read slots id me k w up names small)

  frees_it : (s : St) (r : Rule s) (id k pin : ℕ) (d : V) (x : Option (Arc K Z)) → get_elem? s.views id ≡ some d
      → d.stands ≡ true → get_or d.held k 0 ≢ 0 → IsShare hist d k x
      → (pin ≢ 0 → (pin ≡ d.pin) × (pin - 1 ≢ k))
      → Rule record {
        words = set s.words (place k) 0;
        homes = set s.homes (place k) (some x);
        views = set s.views id (freed d k pin);
      }
  frees_it s r id k pin d x at up holds share pinned =
      let mine = r.each id d at in let std = mine.stands up in let deep = r.deep in let long = std.3 in
      let mark = mine.held k holds in let small : k < key.lanes = (let i = inside d.held k holds in omega arith) in
      let back = set_here s.homes (place k) (some x) (omega arith) in
      lane_step s r id k 0 pin d.empty d.empty_lane d.reads d.writes d d.seen (set s.homes (place k) (some x)) at up
      small (inr (subst (Names d.number) (sym mark.0) mark.2)) (λ z. absurd (z refl)) std.4
      (λ n. let p = pinned n in let q = mine.pin (λ z. n (p.0 ∙ z)) in (
        q.0,
        λ z. q.1 (ap (λ (i : ℕ). get_or d.held (i - 1) 0) (sym p.0)
            ∙ (sym (get_or-set_other d.held k (pin - 1) 0 0 p.1) ∙ z)),
      ))
      (length-set s.homes (place k) (some x)) (λ j e. set_else s.homes (place k) j (some x) e) (λ _. (x, back))
      (λ z. absurd (z refl))
      (λ a e. shows x a share (some-injective x (Some a) (some-injective (some x) (some (Some a)) (sym back ∙ e))))
      (λ z e. fills x share z (some-injective x None
      (some-injective (some x) (some None) (sym back
      ∙ (ap (λ (i : ℕ). get_elem? (set s.homes (place k) (some x)) (place i)) z ∙ e)))))
    where
      shows : (x : Option (Arc K Z)) (a : Arc K Z) → IsShare hist d k x → x ≡ Some a → hist (arc_value a) ≡ r.history
      shows None a share e = cc
      shows (Some b) a share e = let same : b ≡ a =
          cc in ap (λ (c : Arc K Z). hist (arc_value c)) (sym same) ∙ (share.1 ∙ sym ((r.each id d at).pin share.0).0)

      fills : (x : Option (Arc K Z)) → IsShare hist d k x → k ≡ 0 → x ≡ None → ⊥
      fills None share z e = share z
      fills (Some b) share z e = cc

  -- steps 2, 5 and 6
  pub can_free : (slots id : ℕ) (me : Mine K E Z) (i k pin : ℕ) (x : Option (Arc K Z)) → i ≡ place k
      → me.1 ≡ (place k, x) ∷ rest me.1 → me.0.stands ≡ true → get_or me.0.held k 0 ≢ 0 → IsShare hist me.0 k x
      → (pin ≢ 0 → (pin ≡ me.0.pin) × (pin - 1 ≢ k))
      → Allows Rule slots id me i (λ _. 0) (λ _ m'. m' ≡ (freed me.0 (lane_at i) pin, rest me.1))
  can_free slots id me i k pin x there hand up holds share pinned s r _ at _ = (
    freed me.0 k pin,
    gives,
    tt,
    subst (λ (c : ℕ × List (ℕ × Option (Arc K Z))). Rule (stepped s c.0 0 id c.1 (freed me.0 k pin) gives))
        (λ j. (sym there j, sym hand j)) (frees_it s r id k pin me.0 x at up holds share pinned),
    ap (λ (l : ℕ). (freed me.0 l pin, rest me.1)) (sym (lane_of_place i k there)),
  )
