-- Steps 7 and 8: views are cut and put together.
use Rattle.std.proofs.Common.{append-nil, ◌≡◌, ◌≢◌, ◌⊎◌, ℕ, zero, suc, ◌+◌, ◌<◌, ◌≤◌, ltb, Bool, true, false, cond}
use Rattle.std.proofs.Common.{List, [], ◌∷◌, ◌++◌, length, replicate, get_or, set, drop, sym, refl, ap, ◌∙◌, subst, inl}
use Rattle.std.proofs.Common.{inr, ⊎_elim, arith, Option, length-set, length-append}
use Rattle.std.proofs.lemmas.Bool.{ltb-false}
use mathlib.Core.Logic.{dite}
use mathlib.Core.Option.{some, some-injective, some-ne-none}
use native.Mathlib.Decide.{ℕ_discrete}
use lib.ListN.{get_elem?, length-replicate}
use Rattle.std.specs.declared.sync.Arc.{Arc}
use Rattle.atomic_table.specs.Table.{State, Splits, Joins}
use Rattle.atomic_table.proofs.Lists.{at_set, set_here, set_else, at_longer, set_again}
use Rattle.lane_lock.specs.declared.table.View.{View}
use Rattle.lane_lock.specs.declared.table.Known.{Known}
use Rattle.lane_lock.specs.declared.table.Setup.{Setup}
use Rattle.lane_lock.specs.History.{StartsWith, made_by, Legal, longer}
use Rattle.lane_lock.specs.Rule.{Knows, Has, Ruled, place}
use Rattle.lane_lock.specs.Views.{tail, alone, note_of, note, without_one, first_alone, learned, gathered, HasApart}
use Rattle.lane_lock.specs.Views.{IsBlank}
use Rattle.lane_lock.proofs.Keeps.{at_inside}
use Rattle.lane_lock.proofs.Grows.{made_by-append}

abbrev pick : {P : Type 0} → Dec P → ℕ → ℕ → ℕ
pick (yes _) a b = a
pick (no _) a b = b

put : (ℕ → ℕ) → ℕ → ℕ → ℕ → ℕ
put f i c j = pick (ℕ_discrete j i) c (f j)

put_here : (f : ℕ → ℕ) (i c j : ℕ) → j ≡ i → put f i c j ≡ c
unfolding put
put_here f i c j e = go (ℕ_discrete j i)
  where
    go : (d : Dec (j ≡ i)) → pick d c (f j) ≡ c
    go (yes _) = refl
    go (no n) = absurd (n e)

put_else : (f : ℕ → ℕ) (i c j : ℕ) → j ≢ i → put f i c j ≡ f j
unfolding put
put_else f i c j other = go (ℕ_discrete j i)
  where
    go : (d : Dec (j ≡ i)) → pick d c (f j) ≡ f j
    go (yes e) = absurd (other e)
    go (no _) = refl

at_end : {A : Type 0} (l : List A) (a b : A) (j : ℕ) → get_elem? (l ++ a ∷ []) j ≡ some b → (get_elem? l j ≡ some b)
    ⊎ ((j ≡ length l) × (a ≡ b))
at_end [] a b zero e = inr (refl, some-injective a b e)
at_end [] a b (suc j) e = absurd (some-ne-none b (sym e))
at_end (x ∷ xs) a b zero e = inl e
at_end (x ∷ xs) a b (suc j) e = ⊎_elim (λ (h : get_elem? xs j ≡ some b). inl h)
    (λ (t : (j ≡ length xs) × (a ≡ b)). let f = t.0 in inr (
      (let h : suc j ≡ suc (length xs) = omega arith in h
          ∙ (let q : suc (length xs) ≡ length (x ∷ xs) = omega arith in q)),
      t.1,
    )) (at_end xs a b j e)

module _ {E : Type 0} where
  nil_if_short : (more : List E) → length more ≡ 0 → more ≡ []
  nil_if_short [] e = refl
  nil_if_short (x ∷ more) e = absurd (omega arith)

  -- a beginning that is no shorter is the whole
  starts_whole : (h ys : List E) → StartsWith h ys → length h ≤ length ys → h ≡ ys
  starts_whole h ys b le = let n : length h ≡ length ys + length b.0 =
      ap length b.1 ∙ length-append ys b.0 in b.1 ∙ (ap (λ l. ys ++ l) (nil_if_short b.0 (omega arith)) ∙ append-nil ys)

  prefix_of : (xs ys t u : List E) → xs ++ t ≡ ys ++ u → length xs ≤ length ys → StartsWith ys xs
  prefix_of [] ys t u e le = (ys, refl)
  prefix_of (x ∷ xs) [] t u e le = absurd (omega arith)
  prefix_of (x ∷ xs) (y ∷ ys) t u e le = let head : x ≡ y = cc in let more : xs ++ t ≡ ys ++ u =
      cc in let r = prefix_of xs ys t u more (omega arith) in (r.0, λ i. sym head i ∷ r.1 i)

  drop_more : (n : ℕ) (a t : List E) → (m : ℕ) × (drop n (a ++ t) ≡ drop n a ++ drop m t)
  drop_more zero a t = (0, refl)
  drop_more (suc n) [] t = (suc n, refl)
  drop_more (suc n) (x ∷ a) t = drop_more n a t

  module _ (by : E → ℕ) where
    mono : (p n : ℕ) (a b : List E) → StartsWith b a → StartsWith (made_by by p (drop n b)) (made_by by p (drop n a))
    mono p n a b s = let d = drop_more n a s.0 in (
      made_by by p (drop d.0 s.0),
      ap (λ l. made_by by p (drop n l)) s.1
          ∙ (ap (made_by by p) d.1 ∙ made_by-append by p (drop n a) (drop d.0 s.0)),
    )

    no_more : (made q r : List E) → made ≡ (made ++ q) ++ r → q ≡ []
    no_more made [] r e = refl
    no_more made (x ∷ q) r e = let n : length made ≡ length ((made ++ x ∷ q) ++ r) =
        ap length e in absurd (omega (arith, length-append (made ++ x ∷ q) r, length-append made (x ∷ q)))

    pub sandwich : (p n : ℕ) (h xs ys made : List E) → length xs ≤ length ys → StartsWith h xs → StartsWith h ys
        → made_by by p (drop n xs) ≡ made → made_by by p (drop n h) ≡ made → made_by by p (drop n ys) ≡ made
    sandwich p n h xs ys made le a b low high =
        let c = prefix_of xs ys a.0 b.0 (sym a.1 ∙ b.1) le in let m = mono p n xs ys c in let o = mono p n ys h b in
        let mid : made_by by p (drop n ys) ≡ made ++ m.0 = m.1 ∙ ap (λ l. l ++ m.0) low in
        let all : made ≡ (made ++ m.0) ++ o.0 = sym high ∙ (o.1 ∙ ap (λ l. l ++ o.0) mid) in mid
        ∙ (ap (λ l. made ++ l) (no_more made m.0 o.0 all) ∙ append-nil made)

module _ {K E : Type 0} (Z : Type 0) (hist : K → List E) (by : E → ℕ) (key : Setup K) where
  abbrev V : Type 0
  V = View E

  abbrev St : Type 0
  St = State (Option (Arc K Z)) V

  abbrev Rule : St → Type 0
  Rule = Ruled hist by key

  abbrev base : ℕ
  base = length (hist key.value.value)

  -- a note comes beside
  pub tells : (id : ℕ) (v : V) → Splits Rule id v v (note v)
  tells id v s r at = record {
    history = r.history;
    seat = r.seat;
    wide = r.wide;
    deep = r.deep;
    few = r.few;
    opened = r.opened;
    home = r.home;
    out = r.out;
    shown = r.shown;
    filled = r.filled;
    named = λ k n. let o = r.named k n in let h =
        o.3 in (
          o.0,
          o.1,
          o.2,
          (
            h.0,
            at_longer (set s.views id v) (note v ∷ []) (r.seat o.0) h.0
                (ap (λ (l : List V). get_elem? l (r.seat o.0)) (set_again s.views id v at) ∙ h.1),
            h.2,
            h.3,
            h.4,
          ),
        );
    each = λ j w e. ⊎_elim (λ (h : get_elem? (set s.views id v) j ≡ some w). r.each j w
        (ap (λ (l : List V). get_elem? l j) (sym (set_again s.views id v at)) ∙ h))
        (λ (t : (j ≡ length (set s.views id v)) × (note v ≡ w)). subst
        (λ (u : V). Knows by key.lanes key.passes (hist key.value.value) r.seat r.history s.words j u)
        t.1 record {
          begins = (r.each id v at).begins;
          stands = λ z. cc;
          others = λ i o e. absurd (some-ne-none o (sym e));
          held = λ k n. absurd (n refl);
          pin = λ n. absurd (n refl);
        }) (at_end (set s.views id v) (note v) w j e);
    foreign = r.foreign;
  }

  pub deals : (id : ℕ) (v : V) → v.stands ≡ true → HasApart v → Splits Rule id v (without_one v) (first_alone v)
  deals id v up apart s r at =
      let o = apart.0 in let mine = r.each id v at in let std = mine.stands up in let n : ℕ = length s.views in
      let seat' : ℕ → ℕ = put r.seat o.number n in
      let first : get_elem? v.others 0 ≡ some o = ap (λ (l : List (Known E)). get_elem? l 0) apart.1 in
      let theirs = mine.others 0 o first in
      let fresh : first_alone v ≡ alone v.opening v.passes (length v.held) (o ∷ tail v.others) =
      ap (alone v.opening v.passes (length v.held)) apart.1 in
      let there = at_inside s.views id v at in
      let K' : ℕ → V → Type 0 = Knows by key.lanes key.passes (hist key.value.value) seat' r.history s.words in
      let alike : (q : ℕ) → q ≢ o.number → seat' q ≡ r.seat q = λ q ne. put_else r.seat o.number n q ne in
      record {
        history = r.history;
        seat = seat';
        wide = r.wide;
        deep = r.deep;
        few = r.few;
        opened = r.opened;
        home = r.home;
        out = r.out;
        shown = r.shown;
        filled = r.filled;
        named = λ k w. let p = r.named k w in let h = p.3 in
            let other : p.0 ≢ o.number = λ e. let here : r.seat p.0 ≡ id = ap r.seat e ∙ theirs.1 in let one : h.0 ≡ v =
            some-injective h.0 v (sym h.1 ∙ (ap (get_elem? s.views) here ∙ at)) in apart.2
            (ap (λ (c : V). c.number) (sym one) ∙ (h.3 ∙ e)) in (
              p.0,
              p.1,
              p.2,
              subst (λ (j : ℕ). Has (set s.views id (without_one v) ++ first_alone v ∷ []) j p.0 k
                  (get_or s.words (place k) 0)) (sym (alike p.0 other)) (moved s r id v (first_alone v) at (r.seat p.0)
                  p.0 k (get_or s.words (place k) 0) h),
            );
        each = λ j w e. ⊎_elim
            (λ (h : get_elem? (set s.views id (without_one v)) j ≡ some w). ⊎_elim
            (λ (t : (j ≡ id) × (without_one v ≡ w)). subst (λ (c : ℕ × V). K' c.0 c.1)
            (λ q. (sym t.0 q, t.1 q)) record {
              begins = mine.begins;
              stands = λ z. (std.0, alike v.number apart.2 ∙ std.1, std.2, std.3, std.4);
              others = λ i u f. let x = mine.others (i + 1) u (ap (λ (l : List (Known E)). get_elem? l (i + 1)) apart.1
                  ∙ (at_next o (tail v.others) i ∙ f)) in (x.0, alike u.number (apart.3 i u f) ∙ x.1, x.2);
              held = mine.held;
              pin = mine.pin;
            })
            (λ (t : (j ≢ id) × (get_elem? s.views j ≡ some w)). let x = r.each j w t.1 in record {
              begins = x.begins;
              stands = λ z. let y = x.stands z in (
                y.0,
                alike w.number (λ e. t.0 (sym y.1 ∙ (ap r.seat e ∙ theirs.1)))
                    ∙ y.1,
                y.2,
                y.3,
                y.4,
              );
              others = λ i u f. let y =
                  x.others i u f in (y.0, alike u.number (λ e. t.0 (sym y.1 ∙ (ap r.seat e ∙ theirs.1))) ∙ y.1, y.2);
              held = x.held;
              pin = x.pin;
            })
            (at_set s.views id j (without_one v) w h))
            (λ (t : (j ≡ length (set s.views id (without_one v))) × (first_alone v ≡ w)). subst (λ (u : V). K' j u)
            (sym fresh ∙ t.1) record {
              begins = theirs.2.begins;
              stands = λ z. (
                theirs.0,
                put_here r.seat o.number n o.number refl
                    ∙ sym (t.0 ∙ length-set s.views id (without_one v)),
                std.2,
                length-replicate (length v.held) 0
                    ∙ std.3,
                theirs.2,
              );
              others = λ i u f. absurd (some-ne-none u (sym f));
              held = λ k z. absurd (z (zeros (length v.held) k));
              pin = λ z. absurd (z refl);
            })
            (at_end (set s.views id (without_one v)) (first_alone v) w j e);
        foreign = r.foreign;
      }
    where
      at_next : (o : Known E) (l : List (Known E)) (i : ℕ) → get_elem? (o ∷ l) (i + 1) ≡ get_elem? l i
      at_next o l i = ap (get_elem? (o ∷ l)) (let e : i + 1 ≡ suc i = omega arith in e)

      zeros : (n k : ℕ) → get_or {A = ℕ} (replicate n 0) k 0 ≡ 0
      zeros zero k = refl
      zeros (suc n) zero = refl
      zeros (suc n) (suc k) = zeros n k

      moved : (s : St) (r : Rule s) (id : ℕ) (v x : V) → get_elem? s.views id ≡ some v → (j q k w : ℕ)
          → Has s.views j q k w → Has (set s.views id (without_one v) ++ x ∷ []) j q k w
      moved s r id v x at j q k w h = dite (ℕ_discrete j id)
          (λ z. let one : h.0 ≡ v = some-injective h.0 v (sym h.1 ∙ (ap (get_elem? s.views) z ∙ at)) in (
            without_one v,
            at_longer (set s.views id (without_one v)) (x ∷ []) j (without_one v)
                (subst (λ (c : ℕ). get_elem? (set s.views id (without_one v)) c ≡ some (without_one v)) (sym z)
                (set_here s.views id (without_one v) (at_inside s.views id v at))),
            ap (λ (c : V). c.stands) (sym one) ∙ h.2,
            ap (λ (c : V). c.number) (sym one) ∙ h.3,
            ap (λ (c : V). get_or c.held k 0) (sym one) ∙ h.4,
          ))
          (λ z. (
            h.0,
            at_longer (set s.views id (without_one v)) (x ∷ []) j h.0 (set_else s.views id j (without_one v) z
                ∙ h.1),
            h.2,
            h.3,
            h.4,
          ))

  -- the longer of two beginnings of one history has all that p made
  legal_longer : (p : ℕ) (h xs ys made : List E) → Legal by base h p xs made → StartsWith h ys
      → Legal by base h p (longer xs ys) made
  legal_longer p h xs ys made f b = go (ltb (length ys) (length xs)) refl
    where
      go : (t : Bool) → ltb (length ys) (length xs) ≡ t → Legal by base h p (cond t xs ys) made
      go true is = f
      go false is = record {
        begins = b;
        makes = f.makes;
        inside = sandwich by p base h xs ys made (ltb-false (length ys) (length xs) is)
            f.begins b f.inside f.makes;
      }

  pub learns : (id : ℕ) (v : V) (other : ℕ) (seen : List E) → v.stands ≡ true
      → Joins Rule id v other (note_of seen) (learned v (note_of seen)) (note_of [])
  learns id v other seen up s r at apart there = let both : V = learned v (note_of seen) in let mine = r.each id v at in
      let theirs : get_elem? s.views other ≡ some (note_of seen) = sym (set_else s.views id other both apart) ∙ there in
      let told : StartsWith r.history seen = (r.each other (note_of seen) theirs).begins in
      let inside : id < length s.views = at_inside s.views id v at in
      record {
        history = r.history;
        seat = r.seat;
        wide = r.wide;
        deep = r.deep;
        few = r.few;
        opened = r.opened;
        home = r.home;
        out = r.out;
        shown = r.shown;
        filled = r.filled;
        named = λ k n. let o = r.named k n in (
          o.0,
          o.1,
          o.2,
          has (r.seat o.0) o.0 k (get_or s.words (place k) 0) both refl refl refl inside theirs o.3,
        );
        each = λ j w e. ⊎_elim
            (λ (t : (j ≡ other) × (note_of [] ≡ w)). subst
            (λ (u : V). Knows by key.lanes key.passes (hist key.value.value) r.seat r.history s.words j u)
            t.1 record {
              begins = (r.history, refl);
              stands = λ z. cc;
              others = λ i o f. absurd (some-ne-none o (sym f));
              held = λ k n. absurd (n refl);
              pin = λ n. absurd (n refl);
            })
            (λ (t : (j ≢ other) × (get_elem? (set s.views id both) j ≡ some w)). ⊎_elim
            (λ (u : (j ≡ id) × (both ≡ w)). subst (λ (c : ℕ × V). Knows by key.lanes key.passes (hist key.value.value)
            r.seat r.history s.words c.0 c.1) (λ q. (sym u.0 q, u.1 q)) record {
              begins = (legal_longer v.number r.history v.seen seen v.made (mine.stands up).4 told).begins;
              stands = λ z. let x =
                  mine.stands z in (x.0, x.1, x.2, x.3, legal_longer v.number r.history v.seen seen v.made x.4 told);
              others = mine.others;
              held = mine.held;
              pin = λ n. let p = mine.pin n in (p.0 ∙ whole r.history v.seen seen p.0 told, p.1);
            })
            (λ (u : (j ≢ id) × (get_elem? s.views j ≡ some w)). r.each j w u.1) (at_set s.views id j both w t.1))
            (at_set (set s.views id both) other j (note_of []) w e);
        foreign = r.foreign;
      }
    where
      whole : (h xs ys : List E) → h ≡ xs → StartsWith h ys → xs ≡ longer xs ys
      whole h xs ys e b = go (ltb (length ys) (length xs)) refl
        where
          go : (t : Bool) → ltb (length ys) (length xs) ≡ t → xs ≡ cond t xs ys
          go true is = refl
          go false is = let same : length h ≡ length xs =
              ap length e in let le = ltb-false (length ys) (length xs) is in sym e ∙ starts_whole h ys b (omega arith)

      has : (j q k w : ℕ) (both : V) → both.stands ≡ v.stands → both.number ≡ v.number → both.held ≡ v.held
          → id < length s.views → get_elem? s.views other ≡ some (note_of seen) → Has s.views j q k w
          → Has (set (set s.views id both) other (note_of [])) j q k w
      has j q k w both up' num held inside theirs h = dite (ℕ_discrete j other)
          (λ z. let one : h.0 ≡ note_of seen = some-injective h.0 (note_of seen) (sym h.1
          ∙ (ap (get_elem? s.views) z ∙ theirs)) in let no : false ≡ true = sym (ap
          (λ (c : V). c.stands) one) ∙ h.2 in cc)
          (λ z. dite (ℕ_discrete j id)
          (λ y. let one : h.0 ≡ v = some-injective h.0 v (sym h.1 ∙ (ap (get_elem? s.views) y ∙ at)) in (
            both,
            set_else (set s.views id both) other j (note_of []) z
                ∙ subst (λ (c : ℕ). get_elem? (set s.views id both) c ≡ some both) (sym y)
                (set_here s.views id both inside),
            up' ∙ (ap (λ (c : V). c.stands) (sym one) ∙ h.2),
            num ∙ (ap (λ (c : V). c.number) (sym one) ∙ h.3),
            ap (λ (l : List ℕ). get_or l k 0) held ∙ (ap (λ (c : V). get_or c.held k 0) (sym one) ∙ h.4),
          ))
          (λ y. (
            h.0,
            set_else (set s.views id both) other j (note_of []) z ∙ (set_else s.views id j both y ∙ h.1),
            h.2,
            h.3,
            h.4,
          )))

  pub learns_note : (id : ℕ) (v : V) (other : ℕ) (w : V) (seen : List E) → v.stands ≡ true → w ≡ note_of seen
      → Joins Rule id v other w (learned v w) (note_of [])
  learns_note id v other w seen up is =
      subst (λ (u : V). Joins Rule id v other u (learned v u) (note_of [])) (sym is) (learns id v other seen up)

  pub gathers : (id : ℕ) (v : V) (other : ℕ) (w : V) → w.stands ≡ true → w.others ≡ [] → IsBlank w
      → Joins Rule id v other w (gathered v w) (note_of [])
  gathers id v other w up alone blank s r at apart there = let both : V = gathered v w in let mine = r.each id v at in
      let theirs : get_elem? s.views other ≡ some w = sym (set_else s.views id other both apart) ∙ there in
      let its = r.each other w theirs in let std = its.stands up in
      let seat' : ℕ → ℕ = put r.seat w.number id in
      let inside : id < length s.views = at_inside s.views id v at in
      let alike : (q : ℕ) → q ≢ w.number → seat' q ≡ r.seat q = λ q ne. put_else r.seat w.number id q ne in
      let K' : ℕ → V → Type 0 = Knows by key.lanes key.passes (hist key.value.value) seat' r.history s.words in
      let else_where : (q j : ℕ) → j ≢ other → r.seat q ≡ j → q ≢ w.number =
      λ q j ne at_j e. ne (sym at_j ∙ (ap r.seat e ∙ std.1)) in
      record {
        history = r.history;
        seat = seat';
        wide = r.wide;
        deep = r.deep;
        few = r.few;
        opened = r.opened;
        home = r.home;
        out = r.out;
        shown = r.shown;
        filled = r.filled;
        named = λ k n. let o = r.named k n in let h = o.3 in
            let there_no : r.seat o.0 ≢ other = λ z.
            (let one : h.0 ≡ w = some-injective h.0 w (sym h.1 ∙ (ap (get_elem? s.views) z ∙ theirs)) in n (sym h.4
            ∙ (ap (λ (c : V). get_or c.held k 0) one ∙ blank k))) in
            let differs : o.0 ≢ w.number = λ z. there_no (ap r.seat z ∙ std.1) in (
              o.0,
              o.1,
              o.2,
              subst (λ (c : ℕ). Has (set (set s.views id both) other (note_of [])) c o.0 k
                  (get_or s.words (place k) 0)) (sym (alike o.0 differs)) (has s r at (r.seat o.0) o.0 k
                  (get_or s.words (place k) 0) inside there_no h),
            );
        each = λ j x e. ⊎_elim
            (λ (t : (j ≡ other) × (note_of [] ≡ x)). subst (λ (u : V). K' j u) t.1 record {
              begins = (r.history, refl);
              stands = λ z. cc;
              others = λ i o f. absurd (some-ne-none o (sym f));
              held = λ k n. absurd (n refl);
              pin = λ n. absurd (n refl);
            })
            (λ (t : (j ≢ other) × (get_elem? (set s.views id both) j ≡ some x)). ⊎_elim
            (λ (u : (j ≡ id) × (both ≡ x)). subst (λ (c : ℕ × V). K' c.0 c.1) (λ q. (sym u.0 q, u.1 q)) record {
              begins = mine.begins;
              stands = λ z. let y = mine.stands z in (
                y.0,
                alike v.number (else_where v.number id (λ q. apart (sym q)) y.1) ∙ y.1,
                y.2,
                y.3,
                y.4,
              );
              others = λ i o f. ⊎_elim (λ (g : get_elem? v.others i ≡ some o). let y = mine.others i o g in (
                y.0,
                alike o.number (else_where o.number id (λ q. apart (sym q)) y.1) ∙ y.1,
                y.2,
              ))
                  (λ (g : (i ≡ length v.others) × (record { number = w.number; seen = w.seen; made = w.made } ≡ o)).
                  subst (λ (c : Known E). (c.number < key.passes) × (seat' c.number ≡ id)
                  × Legal by base r.history c.number c.seen c.made) g.1 (
                    std.0,
                    put_here r.seat w.number id w.number refl,
                    std.4,
                  )) (at_end v.others record { number = w.number; seen = w.seen; made = w.made } o i f);
              held = mine.held;
              pin = mine.pin;
            })
            (λ (u : (j ≢ id) × (get_elem? s.views j ≡ some x)). let y = r.each j x u.1 in record {
              begins = y.begins;
              stands =
                  λ z. let a = y.stands z in (a.0, alike x.number (else_where x.number j t.0 a.1) ∙ a.1, a.2, a.3, a.4);
              others =
                  λ i o f. let a = y.others i o f in (a.0, alike o.number (else_where o.number j t.0 a.1) ∙ a.1, a.2);
              held = y.held;
              pin = y.pin;
            }) (at_set s.views id j both x t.1))
            (at_set (set s.views id both) other j (note_of []) x e);
        foreign = r.foreign;
      }
    where
      has : (s : St) (r : Rule s) → get_elem? s.views id ≡ some v → (j q k n : ℕ) → id < length s.views → j ≢ other
          → Has s.views j q k n → Has (set (set s.views id (gathered v w)) other (note_of [])) j q k n
      has s r at j q k n inside z h = dite (ℕ_discrete j id)
          (λ y. let one : h.0 ≡ v = some-injective h.0 v (sym h.1 ∙ (ap (get_elem? s.views) y ∙ at)) in (
            gathered v w,
            set_else (set s.views id (gathered v w)) other j (note_of []) z
                ∙ subst (λ (c : ℕ). get_elem? (set s.views id (gathered v w)) c ≡ some (gathered v w)) (sym y)
                (set_here s.views id (gathered v w) inside),
            ap (λ (c : V). c.stands) (sym one) ∙ h.2,
            ap (λ (c : V). c.number) (sym one) ∙ h.3,
            ap (λ (c : V). get_or c.held k 0) (sym one) ∙ h.4,
          ))
          (λ y. (
            h.0,
            set_else (set s.views id (gathered v w)) other j (note_of []) z
                ∙ (set_else s.views id j (gathered v w) y ∙ h.1),
            h.2,
            h.3,
            h.4,
          ))
