-- A writer takes the lanes upwards, and puts them back downwards.
use Rattle.std.proofs.Common.{true, false, ◌≡◌, ◌≢◌, inl, inr, ⊎_elim, ℕ, zero, suc, ◌+◌, ◌-◌, ◌<◌, ◌≤◌, List, ◌∷◌}
use Rattle.std.proofs.Common.{cond, ◌==◌, length, drop}
use Rattle.std.proofs.Common.{get_or, set, length-set, sym, refl, ap, ◌∙◌, subst, arith, Option, Some, None}
use Rattle.std.proofs.Common.{get_or-set_same, get_or-set_other}
use mathlib.Core.Logic.{dite}
use native.Mathlib.Decide.{ℕ_discrete}
use Rattle.std.specs.declared.sync.Arc.{Arc}
use Rattle.atomic_table.specs.Table.{rest}
use Rattle.lane_lock.specs.declared.table.View.{View}
use Rattle.lane_lock.specs.declared.refusal.Busy.{Busy}
use Rattle.lane_lock.specs.Outcomes.{MetHeld, Stops}
use Rattle.lane_lock.specs.Rule.{Names, place}
use Rattle.lane_lock.proofs.Keeps.{names_some}
use Rattle.lane_lock.specs.Hands.{Shows, Stack, Climbed, Lowered}
use Rattle.lane_lock.specs.Steps.{Mine, Takes, IsShare, Offers}
use Rattle.lane_lock.specs.Views.{freed, noted, holding, pin_or, writes_with}
use Rattle.lane_lock.proofs.Guards.{in_front}
use Rattle.lane_lock.proofs.Writes.{last_counts, lower_counts_not, zero_there}

pin_kept : (n m : ℕ) → n ≢ 0 → pin_or n m ≡ n
pin_kept zero m q = absurd (q refl)
pin_kept (suc n) m q = refl

module _ {K E Z : Type 0} (hist : K → List E) (by : E → ℕ) where
  stacked : (h : List E) (n : ℕ) (x : Option (Arc K Z)) (hand up below : List (ℕ × Option (Arc K Z)))
      → up ≡ (place (suc n), x) ∷ hand → Shows hist h x → Stack (Shows hist h) n hand below
      → Stack (Shows hist h) (suc n) up below
  stacked h n x hand up below e s t =
      (x, e ∙ (λ i. (place (suc n), x) ∷ ap rest (sym e) i), s, subst (λ c. Stack (Shows hist h) n c below) (ap rest (sym e)) t)

  shows_it : (v v' : View E) (k w : ℕ) (x : Option (Arc K Z)) → v.pin ≢ 0 → Takes false hist by v k w x v'
      → Shows hist v.seen x × (v' ≡ holding false v k w)
  shows_it v v' k w None p t = (tt, t.0)
  shows_it v v' k w (Some a) p t = let same =
      t.3 p in (
        same,
        t.0 ∙ (λ i. record v {
          held = set v.held k w;
          seen = same i;
          pin = pin_kept v.pin (k + 1) p i;
          writes = writes_with false v k;
        }),
      )

  -- lane n + 1 was taken, which counts if it is the last
  climb_counts : (m m' m'' : Mine K E Z) (w n : ℕ) → suc n < length m.0.held → Climbed hist m w n m'
      → m''.0.writes ≡ writes_with false m'.0 (suc n)
      → m''.0.writes ≡ cond (suc n + 1 == length m.0.held) (m.0.writes + 1) m.0.writes
  climb_counts m m' m'' w n lt c grown = let before : m'.0.writes ≡ m.0.writes = c.not_all (inr (omega arith)) in
      grown ∙ (λ i. cond (suc n + 1 == c.long i) (before i + 1) (before i))

  pub climb_one : (m m' m'' : Mine K E Z) (w n : ℕ) (x : Option (Arc K Z)) → m.0.pin ≢ 0 → suc n < length m.0.held
      → Climbed hist m w n m' → m''.1 ≡ (place (suc n), x) ∷ m'.1 → Takes false hist by m'.0 (suc n) w x m''.0
      → get_or m'.0.held (suc n) 0 ≡ 0
      → Climbed hist m w (suc n) m''
  climb_one m m' m'' w n x pin lt c hand takes blank =
      let pin' : m'.0.pin ≢ 0 = λ z. pin (sym (ap (λ (v : View E). v.pin) c.view) ∙ z) in
      let t = shows_it m'.0 m''.0 (suc n) w x pin' takes in
      let seen : m'.0.seen ≡ m.0.seen = ap (λ (v : View E). v.seen) c.view in
      let held : m''.0.held ≡ set m'.0.held (suc n) w = ap (λ (v : View E). v.held) t.1 in
      let long = c.long in
      let had = climb_counts m m' m'' w n lt c (ap (λ (v : View E). v.writes) t.1) in
      let at : (k : ℕ) → k ≡ suc n → get_or m''.0.held k 0 ≡ w = λ k e. ap (λ (l : List ℕ). get_or l k 0) held
      ∙ (ap (λ (i : ℕ). get_or (set m'.0.held (suc n) w) i 0) e
      ∙ get_or-set_same m'.0.held (suc n) w 0 (omega arith)) in
      let off : (k : ℕ) → k ≢ suc n → get_or m''.0.held k 0 ≡ get_or m'.0.held k 0 =
      λ k e. ap (λ (l : List ℕ). get_or l k 0) held ∙ get_or-set_other m'.0.held (suc n) k w 0 e in
      record {
        stack = stacked m.0.seen n x m'.1 m''.1 m.1 hand (subst (λ h. Shows hist h x) seen t.0) c.stack;
        view = t.1
            ∙ ((λ i. record (c.view i) { held = set m'.0.held (suc n) w; writes = writes_with false m'.0 (suc n) })
            ∙ (λ i. record m.0 { held = sym held i; writes = sym (ap (λ (v : View E). v.writes) t.1) i }));
        not_all = λ p. had ∙ lower_counts_not (suc n) (length m.0.held) m.0.writes
            (⊎_elim (λ (z : suc n ≡ 0). λ e. omega arith) (λ (z : suc n + 1 < length m.0.held). λ e. omega arith) p);
        all = λ some e. had ∙ last_counts (suc n) (length m.0.held) m.0.writes e;
        long = ap length held ∙ (length-set m'.0.held (suc n) w ∙ c.long);
        low = λ k p le. dite (ℕ_discrete k (suc n))
            (λ e. (
              at k e,
              ap (λ (i : ℕ). get_or m.0.held i 0) e
                  ∙ (sym (c.else_same (suc n) (inr (omega arith))) ∙ blank),
            )) (λ e. let h = c.low k p (omega
            arith) in (off k e ∙ h.0, h.1));
        else_same = λ k p. off k (⊎_elim (λ (z : k ≡ 0). λ e. omega arith) (λ (z : suc n < k). λ e. omega arith) p)
            ∙ c.else_same k (⊎_elim (λ (z : k ≡ 0). inl z)
            (λ (z : suc n < k). inr (let q : n < k = omega arith in q)) p);
      }

  pub climb_none : (m : Mine K E Z) (w : ℕ) → Climbed hist m w 0 m
  climb_none m w =
      record {
        stack = refl;
        view = refl;
        not_all = λ p. refl;
        all = λ some e. absurd (omega arith);
        long = refl;
        low = λ k p le. absurd (omega arith);
        else_same = λ k p. refl;
      }

  pub climb_next : (m m' m'' : Mine K E Z) (w lane : ℕ) (x : Option (Arc K Z)) → 0 < lane → m.0.pin ≢ 0
      → lane < length m.0.held → Climbed hist m w (lane - 1) m' → m''.1 ≡ (place lane, x) ∷ m'.1
      → Takes false hist by m'.0 lane w x m''.0 → get_or m'.0.held lane 0 ≡ 0
      → Climbed hist m w ((lane + 1) - 1) m''
  climb_next m m' m'' w zero x some_lane pin lt c hand takes blank = absurd (omega arith)
  climb_next m m' m'' w (suc n) x some_lane pin lt c hand takes blank =
      let back : suc n - 1 ≡ n = omega arith in let on : suc n ≡ (suc n + 1) - 1 = omega arith in
      subst (λ (k : ℕ). Climbed hist m w k m'') on
      (climb_one m m' m'' w n x pin lt (subst (λ (k : ℕ). Climbed hist m w k m') back c) hand takes blank)

module _ {K E Z : Type 0} where
  pub lower_top : (P : Option (Arc K Z) → Type 0) (m m' : Mine K E Z) (n lane : ℕ) → 1 < lane
      → Lowered P n (lane - 1) m m' → (x : Option (Arc K Z)) × (m'.1 ≡ (place (lane - 1), x) ∷ rest m'.1) × P x
  lower_top P m m' n zero some l = absurd (omega arith)
  lower_top P m m' n (suc zero) some l = absurd (omega arith)
  lower_top P m m' n (suc (suc k)) some l = let a : suc k ≡ suc (suc k) - 1 =
      omega arith in let s = (subst (λ (j : ℕ). Lowered P n j m m') (sym a) l).stack in
      (s.0, s.1 ∙ ap (λ (j : ℕ). (place j, s.0) ∷ rest m'.1) a, s.2)

  -- a lane that is left has what it had
  pub lower_held : (P : Option (Arc K Z) → Type 0) (m m' : Mine K E Z) (n k j : ℕ) → Lowered P n k m m' → j ≤ k
      → get_or m'.0.held j 0 ≡ get_or m.0.held j 0
  lower_held P m m' n k j l le = l.else_same j (inl le)

  pub lower_pass : (P : Option (Arc K Z) → Type 0) (m m' : Mine K E Z) (n lane count : ℕ) → 1 < lane → lane ≤ count
      → Lowered P n (lane - 1) m m' → m.0.stands ≡ true
      → ((k : ℕ) → 0 < k → k < count → (get_or m.0.held k 0 ≢ 0) × (m.0.pin ≢ k + 1))
      → (m'.0.stands ≡ true) × (get_or m'.0.held (lane - 1) 0 ≢ 0) × (m'.0.pin ≢ 0 → m'.0.pin - 1 ≢ lane - 1)
  lower_pass P m m' n lane count some le l up held = let h =
      held (lane - 1) (omega arith) (omega arith) in let pin : m'.0.pin ≡ m.0.pin =
      ap (λ (v : View E). v.pin) l.view in (
        ap (λ (v : View E). v.stands) l.view ∙ up,
        (λ z. h.0 (sym (lower_held P m m' n (lane - 1) (lane - 1) l (omega arith)) ∙ z)),
        λ some_pin e. h.1 (omega arith),
      )

  pub is_share : (hist : K → List E) (v : View E) (k : ℕ) (x : Option (Arc K Z)) → k ≢ 0 → v.pin ≢ 0
      → Shows hist v.seen x → IsShare hist v k x
  is_share hist v k None some pin s = some
  is_share hist v k (Some a) some pin s = (pin, s)

  pub lower_none : (P : Option (Arc K Z) → Type 0) (m : Mine K E Z) (n : ℕ) → Stack P n m.1 (drop n m.1)
      → Lowered P n n m m
  lower_none P m n s = record {
    stack = s;
    view = refl;
    long = refl;
    high = λ j lt le. absurd (omega arith);
    else_same = λ j p. refl;
  }

  lower_one : (P : Option (Arc K Z) → Type 0) (m m' m'' : Mine K E Z) (n k : ℕ) → suc k ≤ n → Lowered P n (suc k) m m'
      → m''.0 ≡ freed m'.0 (suc k) m'.0.pin → m''.1 ≡ rest m'.1 → Lowered P n k m m''
  lower_one P m m' m'' n k within l now hand =
      let held : m''.0.held ≡ set m'.0.held (suc k) 0 = ap (λ (v : View E). v.held) now in
      let off : (j : ℕ) → j ≢ suc k → get_or m''.0.held j 0 ≡ get_or m'.0.held j 0 =
      λ j e. ap (λ (h : List ℕ). get_or h j 0) held ∙ get_or-set_other m'.0.held (suc k) j 0 0 e in
      record {
        stack = subst (λ c. Stack P k c (drop n m.1)) (sym hand) l.stack.3;
        view = now ∙ ((λ i. record (l.view i) { held = set m'.0.held (suc k) 0 })
            ∙ (λ i. record m.0 { held = sym held i }));
        long = ap length held ∙ (length-set m'.0.held (suc k) 0 ∙ l.long);
        high = λ j lt le. dite (ℕ_discrete j (suc k)) (λ e. ap (λ (h : List ℕ). get_or h j 0) held
            ∙ (ap (λ (i : ℕ). get_or (set m'.0.held (suc k) 0) i 0) e ∙ zero_there m'.0.held (suc k)))
            (λ e. off j e ∙ l.high j (omega arith) le);
        else_same = λ j p. off j (⊎_elim (λ (z : j ≤ k). λ e. omega arith) (λ (z : n < j). λ e. omega arith) p)
            ∙ l.else_same j (⊎_elim (λ (z : j ≤ k). inl (let q : j ≤ suc k = omega arith in q))
            (λ (z : n < j). inr z) p);
      }

  -- one more lane was put back
  pub lower_next : (P : Option (Arc K Z) → Type 0) (m m' m'' : Mine K E Z) (n lane : ℕ) → 1 < lane → lane - 1 ≤ n
      → Lowered P n (lane - 1) m m' → m'' ≡ (freed m'.0 (lane - 1) m'.0.pin, rest m'.1)
      → Lowered P n (lane - 1 - 1) m m''
  lower_next P m m' m'' n zero some within l now = absurd (omega arith)
  lower_next P m m' m'' n (suc zero) some within l now = absurd (omega arith)
  lower_next P m m' m'' n (suc (suc k)) some within l now =
      let a : suc (suc k) - 1 ≡ suc k = omega arith in let b : k ≡ suc (suc k) - 1 - 1 = omega arith in
      subst (λ (j : ℕ). Lowered P n j m m'') b (lower_one P m m' m'' n k (omega (arith, within))
      (subst (λ (j : ℕ). Lowered P n j m m') a l) (ap (λ (u : Mine K E Z). u.0) now
      ∙ ap (λ (j : ℕ). freed m'.0 j m'.0.pin) a) (ap (λ (u : Mine K E Z). u.1) now))

  -- the lowest lane that was not put back has a share of what was seen, or none
  pub lower_offer : (hist : K → List E) (m m' : Mine K E Z) (n lane : ℕ) → 1 < lane
      → Lowered (Shows hist m.0.seen) n (lane - 1) m m' → m.0.pin ≢ 0 → Offers hist m'.0 (lane - 1) m'.1
  lower_offer hist m m' n lane some l pin =
      let top = lower_top (Shows hist m.0.seen) m m' n lane some l in (
        top.0,
        top.1,
        is_share hist m'.0 (lane - 1) top.0 (λ z. omega arith)
            (λ z. pin (sym (ap (λ (v : View E). v.pin) l.view) ∙ z))
            (subst (λ (h : List E). Shows hist h top.0) (sym (ap (λ (v : View E). v.seen) l.view)) top.2),
      )

  -- it was put back with another share in its slot
  pub refill_next : (P : Option (Arc K Z) → Type 0) (m m' me m'' : Mine K E Z) (n lane : ℕ) (x : Option (Arc K Z))
      → 1 < lane → lane - 1 ≤ n → Lowered P n (lane - 1) m m' → me ≡ (m'.0, (place (lane - 1), x) ∷ rest m'.1)
      → m'' ≡ (freed me.0 (lane - 1) me.0.pin, rest me.1) → Lowered P n (lane - 1 - 1) m m''
  refill_next P m m' me m'' n lane x some within l filled now = lower_next P m m' m'' n lane some within l
      (now ∙ ap (λ (u : Mine K E Z). (freed u.0 (lane - 1) u.0.pin, rest u.1)) filled)

  pub refill_pass : (P : Option (Arc K Z) → Type 0) (m m' me : Mine K E Z) (n low lane count : ℕ) → low + 1 < lane
      → lane ≤ count → Lowered P n (lane - 1) m m' → me.0 ≡ m'.0 → m.0.stands ≡ true → m.0.pin ≡ low + 1
      → ((k : ℕ) → low < k → k < count → get_or m.0.held k 0 ≢ 0)
      → (me.0.stands ≡ true) × (get_or me.0.held (lane - 1) 0 ≢ 0) × (me.0.pin ≢ 0 → me.0.pin - 1 ≢ lane - 1)
  refill_pass P m m' me n low lane count some within l same up at held =
      let pin : me.0.pin ≡ low + 1 = ap (λ (v : View E). v.pin) same ∙ (ap (λ (v : View E). v.pin) l.view ∙ at) in (
        ap (λ (v : View E). v.stands) same ∙ (ap (λ (v : View E). v.stands) l.view ∙ up),
        (λ z. held (lane - 1) (omega arith) (omega arith)
            (sym (ap (λ (v : View E). get_or v.held (lane - 1) 0) same
            ∙ lower_held P m m' n (lane - 1) (lane - 1) l (omega arith)) ∙ z)),
        λ q e. omega (arith, pin, e, some),
      )

  pub refill_offer : (hist : K → List E) (P : Option (Arc K Z) → Type 0) (m m' me : Mine K E Z) (n low lane : ℕ)
      (x : Option (Arc K Z)) → low + 1 < lane → Lowered P n (lane - 1) m m'
      → me ≡ (m'.0, (place (lane - 1), x) ∷ rest m'.1) → m.0.pin ≡ low + 1 → Shows hist m.0.seen x
      → Offers hist me.0 (lane - 1) me.1
  refill_offer hist P m m' me n low lane x some l filled at shows =
      let pin : me.0.pin ≡ low + 1 =
      ap (λ (u : Mine K E Z). u.0.pin) filled ∙ (ap (λ (v : View E). v.pin) l.view ∙ at) in (
        x,
        in_front me.1 (rest m'.1) (place (lane - 1), x) (ap (λ (u : Mine K E Z). u.1) filled),
        is_share hist me.0 (lane - 1) x (λ z. omega arith) (λ z. omega (arith, pin, z))
            (subst (λ (h : List E). Shows hist h x)
            (sym (ap (λ (u : Mine K E Z). u.0.seen) filled ∙ ap (λ (v : View E). v.seen) l.view)) shows),
      )

  pub lower_all : (P : Option (Arc K Z) → Type 0) (m m' : Mine K E Z) (n low lane : ℕ) → low < lane
      → lane ≤ low + 1 → Lowered P n (lane - 1) m m' → Lowered P n low m m'
  lower_all P m m' n low lane some last l = let at : lane - 1 ≡ low = omega (arith, some, last) in
      subst (λ (k : ℕ). Lowered P n k m m') at l

-- the first lane of a take was met held
pub met : {K E Z : Type 0} (m m' : Mine K E Z) (lane found holder : ℕ) → m' ≡ (noted m.0 lane found, m.1)
    → Names holder found → (Names m.0.number found → get_or m.0.held lane 0 ≡ found)
    → ((q : ℕ) → Names q found → q < m.0.passes) → MetHeld m.0 m'.0 lane holder
met {K} {E} {Z} m m' lane found holder now names own few = record {
  counted = ap (λ (u : Mine K E Z). u.0.busy) now;
  noted = ap (λ (u : Mine K E Z). u.0.lane) now;
  by_holder = subst (Names holder) (sym (ap (λ (u : Mine K E Z). u.0.word) now)) names;
  among = few holder names;
  own = λ e z. names_some holder found names (sym (own (subst (λ (p : ℕ). Names p found) e names)) ∙ z);
}

module _ {K E Z : Type 0} (hist : K → List E) where
  pub stops : (m before m' : Mine K E Z) (w found : ℕ) (b : Busy) → 0 < b.lane → Climbed hist m w (b.lane - 1) before
      → m' ≡ (noted before.0 b.lane found, before.1) → Names b.holder.0 found
      → (Names before.0.number found → get_or before.0.held b.lane 0 ≡ found)
      → ((q : ℕ) → Names q found → q < before.0.passes) → Stops hist m w b m'
  stops m before m' w found b some c now names own few = record {
    above = some;
    before = before;
    climbed = c;
    found = found;
    noting = now;
    met = record {
      counted = ap (λ (u : Mine K E Z). u.0.busy) now ∙ ap (λ (v : View E). v.busy + 1) c.view;
      noted = ap (λ (u : Mine K E Z). u.0.lane) now;
      among = subst (λ (n : ℕ). b.holder.0 < n) (ap (λ (v : View E). v.passes) c.view) (few b.holder.0 names);
      by_holder = subst (Names b.holder.0) (sym (ap (λ (u : Mine K E Z). u.0.word) now)) names;
      own = λ e z. names_some b.holder.0 found names
          (sym (own (subst (λ (p : ℕ). Names p found) (e ∙ sym (ap (λ (v : View E). v.number) c.view)) names))
          ∙ (c.else_same b.lane (inr (omega arith)) ∙ z));
    };
  }
