-- Step 4: the history grows by one record.
use Rattle.std.proofs.Common.{append-nil, append_assoc, ◌≡◌, ◌≢◌, ℕ, ◌+◌, ◌-◌, ◌<◌, ◌≤◌, ◌==◌, Bool, true, false, cond}
use Rattle.std.proofs.Common.{List, [], ◌∷◌, ◌++◌, length, get_or, set, drop, sym, refl, ap, ◌∙◌, subst, ⊎_elim, arith}
use Rattle.std.proofs.Common.{Option, Some, None, length-set, length-append, get_or-set_other, get_or-set_same, eq-eqb}
use Rattle.std.proofs.Common.{ne_eqb}
use Rattle.std.proofs.lemmas.List.{drop-append-le}
use Rattle.std.proofs.Math.Seq.{drop-append_seam}
use mathlib.Core.Logic.{dite}
use mathlib.Core.Option.{some, some-injective, some-ne-none}
use native.Mathlib.Decide.{ℕ_discrete, dec_le}
use lib.ListN.{get_elem?}
use Rattle.std.specs.Arc.{arc_value}
use Rattle.std.specs.declared.sync.Arc.{Arc}
use Rattle.atomic_table.specs.Table.{State, rest, gives, stepped, Allows}
use Rattle.atomic_table.proofs.Lists.{at_set, set_here, set_else}
use Rattle.lane_lock.specs.declared.table.View.{View}
use Rattle.lane_lock.specs.declared.table.Known.{Known}
use Rattle.lane_lock.specs.declared.table.Setup.{Setup}
use Rattle.lane_lock.specs.History.{StartsWith, made_by, Legal}
use Rattle.lane_lock.specs.Rule.{Names, Knows, Has, Ruled, place, lane_at}
use Rattle.lane_lock.specs.Steps.{Mine, committed, top_history}
use Rattle.lane_lock.specs.Views.{written}
use Rattle.lane_lock.proofs.Keeps.{apart_there, lane_of_place, names_one, inside, at_inside, none_here}

module _ {E : Type 0} (by : E → ℕ) where
  pub made_by-append : (p : ℕ) (xs ys : List E) → made_by by p (xs ++ ys) ≡ made_by by p xs ++ made_by by p ys
  made_by-append p [] ys = refl
  made_by-append p (x ∷ xs) ys = go (by x == p) (made_by-append p xs ys)
    where
      go : (b : Bool) → made_by by p (xs ++ ys) ≡ made_by by p xs ++ made_by by p ys
          → cond b (x ∷ made_by by p (xs ++ ys)) (made_by by p (xs ++ ys)) ≡ cond b (x ∷ made_by by p xs)
          (made_by by p xs) ++ made_by by p ys
      go true e = ap (λ l. x ∷ l) e
      go false e = e

  made_one : (p : ℕ) (r : E) → by r ≡ p → made_by by p (r ∷ []) ≡ r ∷ []
  made_one p r e = subst (λ b. cond b (r ∷ []) [] ≡ r ∷ []) (sym (eq-eqb (by r) p e)) refl

  made_none : (p : ℕ) (r : E) → by r ≢ p → made_by by p (r ∷ []) ≡ []
  made_none p r e = subst (λ b. cond b (r ∷ []) [] ≡ []) (sym (ne_eqb (by r) p e)) refl

  begins_on : (h seen : List E) (r : E) → StartsWith h seen → StartsWith (h ++ r ∷ []) seen
  begins_on h seen r b = (b.0 ++ r ∷ [], ap (λ l. l ++ r ∷ []) b.1 ∙ append_assoc seen b.0 (r ∷ []))

  pub begins_length : (h seen : List E) → StartsWith h seen → length seen ≤ length h
  begins_length h seen b =
      let e : length h ≡ length seen + length b.0 = ap length b.1 ∙ length-append seen b.0 in omega arith

  makes_on : (p base : ℕ) (h : List E) (r : E) → base ≤ length h
      → made_by by p (drop base (h ++ r ∷ [])) ≡ made_by by p (drop base h) ++ made_by by p (r ∷ [])
  makes_on p base h r le =
      ap (made_by by p) (drop-append-le base h (r ∷ []) le) ∙ made_by-append p (drop base h) (r ∷ [])

  -- the record is another pass's
  legal_on : (base p : ℕ) (h seen made : List E) (r : E) → base ≤ length h → by r ≢ p → Legal by base h p seen made
      → Legal by base (h ++ r ∷ []) p seen made
  legal_on base p h seen made r le other f = record {
    begins = begins_on h seen r f.begins;
    makes = makes_on p base h r le ∙ (ap (λ l. made_by by p (drop base h) ++ l) (made_none p r other)
        ∙ (append-nil (made_by by p (drop base h)) ∙ f.makes));
    inside = f.inside;
  }

module _ {K E : Type 0} (Z : Type 0) (hist : K → List E) (by : E → ℕ) (key : Setup K) where
  abbrev V : Type 0
  V = View E

  abbrev St : Type 0
  St = State (Option (Arc K Z)) V

  abbrev Rule : St → Type 0
  Rule = Ruled hist by key

  abbrev base : ℕ
  base = length (hist key.value.value)

  grows : (s : St) (r : Rule s) (id pin : ℕ) (d : V) (a : Arc K Z) (x : E) → get_elem? s.views id ≡ some d
      → d.stands ≡ true → d.others ≡ []
      → ((k : ℕ) → k < key.lanes → get_or d.held k 0 ≢ 0) → d.pin ≢ 0 → hist (arc_value a) ≡ d.seen ++ x ∷ []
      → by x ≡ d.number → (pin ≢ 0 → get_or (set d.held 0 0) (pin - 1) 0 ≢ 0)
      → Rule record {
        words = set s.words 0 0;
        homes = set s.homes 0 (some (Some a));
        views = set s.views id (written d 0 (hist (arc_value a)) pin);
      }
  grows s r id pin d a x at up alone all pinned grown made keeps_pin =
      let h' : List E = hist (arc_value a) in
      let w : V = written d 0 h' pin in
      let mine = r.each id d at in
      let std = mine.stands up in
      let now : r.history ≡ d.seen = (mine.pin pinned).0 in
      let next : h' ≡ r.history ++ x ∷ [] = grown ∙ ap (λ l. l ++ x ∷ []) (sym now) in
      let base_le : base ≤ length r.history = begins_length by r.history (hist key.value.value) r.opened in
      let wide = r.wide in let deep = r.deep in let few = r.few in
      let there : id < length s.views = at_inside s.views id d at in
      let zero_word : get_or (set s.words 0 0) 0 0 ≡ 0 = get_or-set_same s.words 0 0 0 (omega arith) in
      let back = set_here s.homes 0 (some (Some a)) (omega arith) in
      let zero_now : (i : ℕ) → i ≡ 0 → get_or (set s.words 0 0) (place i) 0 ≡ 0 =
      λ i e. ap (λ (c : ℕ). get_or (set s.words 0 0) (place c) 0) e ∙ zero_word in
      let as_was : (i : ℕ) → i ≢ 0 → get_or (set s.words 0 0) (place i) 0 ≡ get_or s.words (place i) 0 =
      λ i e. get_or-set_other s.words 0 (place i) 0 0 (apart_there i 0 e) in
      let beside : (i : ℕ) → i ≢ 0 → get_elem? (set s.homes 0 (some (Some a))) (place i)
      ≡ get_elem? s.homes (place i) =
      λ i e. set_else s.homes 0 (place i) (some (Some a)) (apart_there i 0 e) in
      let mine_now : made_by by d.number (drop base h') ≡ d.made ++ x ∷ [] =
      ap (λ l. made_by by d.number (drop base l)) next
      ∙ (makes_on by d.number base r.history x base_le ∙ (λ i. std.4.makes i ++ made_one by d.number x made i)) in
      let fresh : d.made ++ x ∷ [] ≡ d.made ++ drop (length d.seen) h' =
      ap (λ l. d.made ++ l) (sym (ap (drop (length d.seen)) grown ∙ drop-append_seam d.seen (x ∷ []))) in
      record {
        history = h';
        seat = r.seat;
        wide = length-set s.words 0 0 ∙ r.wide;
        deep = length-set s.homes 0 (some (Some a)) ∙ r.deep;
        few = r.few;
        opened = subst (λ l. StartsWith l (hist key.value.value)) (sym next)
            (begins_on by r.history (hist key.value.value) x r.opened);
        home = λ i l z. dite (ℕ_discrete i 0) (λ e. (
          Some a,
          ap (λ (c : ℕ). get_elem? (set s.homes 0 (some (Some a))) (place c)) e ∙ back,
        ))
            (λ e. absurd (all i l (sym (mine.held i (all i l)).0 ∙ (sym (as_was i e) ∙ z))));
        out = λ i n. dite (ℕ_discrete i 0) (λ e. absurd (n (zero_now i e)))
            (λ e. beside i e ∙ r.out i (λ z. n (as_was i e ∙ z)));
        shown = λ i b e. dite (ℕ_discrete i 0)
            (λ z. let same : Some b ≡ Some a = some-injective (Some b) (Some a)
            (some-injective (some (Some b)) (some (Some a)) (sym e
            ∙ (ap (λ (c : ℕ). get_elem? (set s.homes 0 (some (Some a))) (place c)) z ∙ back))) in let one : b ≡ a = cc in ap (λ
            (c : Arc K Z). hist (arc_value c)) one)
            (λ z. let old : get_elem? s.homes (place i) ≡ some (some (Some b)) = sym (beside i z) ∙ e in
            let lt = at_inside s.homes (place i) (some (Some b)) old in let held = all i (omega arith) in
            absurd (none_here s.homes (place i) (Some b) (r.out i (λ q. held (sym (mine.held i held).0 ∙ q))) old));
        filled = λ e. let same : Some a ≡ None =
            some-injective (Some a) None (some-injective (some (Some a)) (some None) (sym back ∙ e)) in cc;
        named = λ i n. dite (ℕ_discrete i 0) (λ e. absurd (n (zero_now i e)))
            (λ e. let same = as_was i e in let o = r.named i (λ z. n (same ∙ z)) in (
              o.0,
              o.1,
              subst (Names o.0) (sym same) o.2,
              has s r id i o.0 pin d h' at e there (subst (Has s.views (r.seat o.0) o.0 i) (sym same) o.3),
            ));
        each = λ j v e. ⊎_elim
            (λ (t : (j ≡ id) × (w ≡ v)). subst (λ (c : ℕ × V). Knows by key.lanes key.passes (hist key.value.value)
            r.seat h' (set s.words 0 0) c.0 c.1) (λ q. (sym t.0 q, t.1 q)) record {
              begins = ([], sym (append-nil h'));
              stands = λ _. (
                std.0,
                std.1,
                std.2,
                length-set d.held 0 0
                    ∙ std.3,
                record {
                  begins = ([], sym (append-nil h'));
                  makes = mine_now ∙ fresh;
                  inside = mine_now ∙ fresh;
                },
              );
              others = λ i o e. absurd (some-ne-none o (sym e ∙ ap (λ (l : List (Known E)). get_elem? l i) alone));
              held = λ i n. dite (ℕ_discrete i 0) (λ e. absurd
                  (n (ap (λ (c : ℕ). get_or (set d.held 0 0) c 0) e
                  ∙ get_or-set_same d.held 0 0 0 (let l = std.3 in omega arith))))
                  (λ e. let now = get_or-set_other d.held 0 i 0 0 e in let h = mine.held i (λ z. n (now ∙ z)) in (
                    as_was i e ∙ (h.0 ∙ sym now),
                    up,
                    subst (Names d.number) (sym now) h.2,
                  ));
              pin = λ n. (refl, keeps_pin n);
            })
            (λ (t : (j ≢ id) × (get_elem? s.views j ≡ some v)). subst
            (λ l. Knows by key.lanes key.passes (hist key.value.value) r.seat l (set s.words 0 0) j v)
            (sym next) (rests s r id j d v x at up all base_le made t.0 t.1)) (at_set s.views id j w v e);
        foreign = λ p le. ap (λ l. made_by by p (drop base l)) next
            ∙ (makes_on by p base r.history x base_le
            ∙ (λ i. r.foreign p le i ++ made_none by p x (λ e. let lt = std.0 in omega arith) i));
      }
    where
      -- no other pass holds a lane
      alone_there : (s : St) (r : Rule s) (id j i : ℕ) (d v : V) → get_elem? s.views id ≡ some d → d.stands ≡ true
          → ((k : ℕ) → k < key.lanes → get_or d.held k 0 ≢ 0) → j ≢ id → get_elem? s.views j ≡ some v
          → get_or v.held i 0 ≡ 0
      alone_there s r id j i d v at up all other there =
          dite (ℕ_discrete (get_or v.held i 0) 0) (λ z. z)
          (λ n. let theirs = (r.each j v there).held i n in let mine = r.each id d at in
          let wide = r.wide in let lt =
          inside s.words (place i) (λ z. n (sym theirs.0 ∙ z)) in let ours = mine.held i (all i (omega arith)) in
          let same : v.number ≡ d.number = names_one v.number d.number (get_or s.words (place i) 0)
          (subst (Names v.number) (sym theirs.0) theirs.2) (subst (Names d.number) (sym ours.0) ours.2) in
          absurd (other (sym ((r.each j v there).stands theirs.1).1 ∙ (ap r.seat same ∙ (mine.stands up).1))))

      rests : (s : St) (r : Rule s) (id j : ℕ) (d v : V) (x : E) → get_elem? s.views id ≡ some d → d.stands ≡ true
          → ((k : ℕ) → k < key.lanes → get_or d.held k 0 ≢ 0) → base ≤ length r.history → by x ≡ d.number
          → j ≢ id → get_elem? s.views j ≡ some v → Knows by key.lanes key.passes (hist key.value.value) r.seat
          (r.history ++ x ∷ []) (set s.words 0 0) j v
      rests s r id j d v x at up all le made other there =
          let o = r.each j v there in let std = (r.each id d at).stands up in record {
            begins = begins_on by r.history v.seen x o.begins;
            stands = λ z. let t = o.stands z in (
              t.0,
              t.1,
              t.2,
              t.3,
              legal_on by base v.number r.history v.seen v.made x le
                  (λ e. other (sym t.1 ∙ (ap r.seat (sym e ∙ made) ∙ std.1))) t.4,
            );
            others = λ i p e. let t = o.others i p e in (
              t.0,
              t.1,
              legal_on by base p.number r.history p.seen p.made x le
                  (λ e. other (sym t.1 ∙ (ap r.seat (sym e ∙ made) ∙ std.1))) t.2,
            );
            held = λ i n. absurd (n (alone_there s r id j i d v at up all other there));
            pin = λ n. absurd ((o.pin n).1 (alone_there s r id j (v.pin - 1) d v at up all other there));
          }

      has : (s : St) (r : Rule s) (id i q pin : ℕ) (d : V) (h' : List E) → get_elem? s.views id ≡ some d → i ≢ 0
          → id < length s.views
          → Has s.views (r.seat q) q i (get_or (set s.words 0 0) (place i) 0)
          → Has (set s.views id (written d 0 h' pin)) (r.seat q) q i (get_or (set s.words 0 0) (place i) 0)
      has s r id i q pin d h' at e there h = let w : V = written d 0 h' pin in dite (ℕ_discrete (r.seat q) id)
          (λ z. let v = h.0 in let one : v ≡ d = some-injective v d (sym h.1 ∙ (ap (get_elem? s.views) z ∙ at)) in (
            w,
            subst (λ (c : ℕ). get_elem? (set s.views id w) c ≡ some w) (sym z) (set_here s.views id w there),
            ap (λ (c : V). c.stands) (sym one) ∙ h.2,
            ap (λ (c : V). c.number) (sym one) ∙ h.3,
            get_or-set_other d.held 0 i 0 0 e ∙ (ap (λ (c : V). get_or c.held i 0) (sym one) ∙ h.4),
          ))
          (λ z. (h.0, set_else s.views id (r.seat q) w z ∙ h.1, h.2, h.3, h.4))

  pin_for : (lanes : ℕ) (held : List ℕ) → length held ≡ lanes → ((k : ℕ) → k < lanes → get_or held k 0 ≢ 0)
      → Dec (2 ≤ lanes) → (pin : ℕ) × (pin ≢ 0 → get_or (set held 0 0) (pin - 1) 0 ≢ 0) × (1 < lanes → pin ≡ 2)
  pin_for lanes held long all (yes l) =
      (2, (λ _ z. all 1 l (sym (get_or-set_other held 0 1 0 0 (λ e. omega arith)) ∙ z)), λ _. refl)
  pin_for lanes held long all (no n) = (0, (λ z. absurd (z refl)), λ l. absurd (n l))

  -- step 4
  pub can_commit : (slots id : ℕ) (me : Mine K E Z) (a : Arc K Z) (x : E) → me.1 ≡ (0, Some a) ∷ rest me.1
      → me.0.stands ≡ true → me.0.others ≡ [] → place key.lanes ≡ slots → length me.0.held ≡ key.lanes
      → ((k : ℕ) → k < key.lanes → get_or me.0.held k 0 ≢ 0) → me.0.pin ≢ 0 → hist (arc_value a) ≡ me.0.seen ++ x ∷ []
      → by x ≡ me.0.number
      → Allows Rule slots id me 0 (λ _. 0) (λ _. committed hist (lane_at slots) me)
  can_commit slots id me a x hand up alone count long all pinned grown made s r _ at _ =
      let p = pin_for key.lanes me.0.held long all (dec_le 2 key.lanes) in
      let top : top_history hist me.1 me.0.seen ≡ hist (arc_value a) =
      ap (λ (c : List (ℕ × Option (Arc K Z))). top_history hist c me.0.seen) hand in (
        written me.0 0 (hist (arc_value a)) p.0,
        gives,
        tt,
        subst (λ (c : List (ℕ × Option (Arc K Z))). Rule
            (stepped s 0 0 id c (written me.0 0 (hist (arc_value a)) p.0) gives)) (sym hand) (grows s r id p.0 me.0
            a x at up alone all pinned grown made p.1),
        (
          (λ i. (written me.0 0 (sym top i) p.0, rest me.1)),
          (λ l. p.2 (subst (λ (n : ℕ). 1 < n) (lane_of_place slots key.lanes (sym count)) l)),
          p.1,
        ),
      )
