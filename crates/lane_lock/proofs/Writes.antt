-- What a writer has after it took all lanes, or met one held, and after it put them back.
use Rattle.std.proofs.Common.{append-nil, ◌++◌, ◌≡◌, ◌≢◌, inl, inr, ℕ, zero, suc, ◌+◌, ◌-◌, ◌<◌, ◌≤◌, true, false, List, []}
use Rattle.std.proofs.Common.{◌∷◌, length, drop, get_or, set, length-set, sym, refl, ap, ◌∙◌, subst, arith, Option}
use Rattle.std.proofs.Common.{Some, None, get_or-set_same, get_or-set_other, cond, ◌==◌, eq-eqb, ne_eqb}
use Rattle.std.proofs.Math.Seq.{drop-append_seam}
use mathlib.Core.Logic.{dite}
use native.Mathlib.Decide.{ℕ_discrete, dec_le}
use Rattle.std.specs.Arc.{arc_value}
use Rattle.std.specs.declared.sync.Arc.{Arc}
use Rattle.atomic_table.specs.Table.{rest, turned}
use Rattle.lane_lock.specs.declared.table.View.{View}
use Rattle.lane_lock.specs.declared.refusal.Busy.{Busy}
use Rattle.lane_lock.specs.Guards.{HasAllLanes}
use Rattle.lane_lock.specs.Hands.{Shows, Anything, Stack, Climbed, Lowered, AllBack}
use Rattle.lane_lock.specs.History.{StartsWith}
use Rattle.lane_lock.specs.Outcomes.{Appends, HadAll, HadNone, KeepsLanes, MetHeld, OnlySees, Stops}
use Rattle.lane_lock.specs.Rule.{Names}
use Rattle.lane_lock.specs.Steps.{Mine, Takes, top_history}
use Rattle.lane_lock.specs.Views.{freed, seeing, written, pin_or, IsLegal}
use Rattle.lane_lock.proofs.Drops.{stack_drop, stack_on, turned_stack}
use Rattle.lane_lock.proofs.Guards.{top_is}

beyond : (l : List ℕ) (k : ℕ) → length l ≤ k → get_or l k 0 ≡ 0
beyond [] k le = refl
beyond (x ∷ l) zero le = absurd (omega arith)
beyond (x ∷ l) (suc k) le = beyond l k (omega arith)

pub zero_there : (l : List ℕ) (i : ℕ) → get_or (set l i 0) i 0 ≡ 0
zero_there [] i = refl
zero_there (y ∷ ys) zero = refl
zero_there (y ∷ ys) (suc i) = zero_there ys i

-- a pass that holds no lane has no pin
pub no_pin : (pin : ℕ) (held : List ℕ) → (pin ≢ 0 → get_or held (pin - 1) 0 ≢ 0) → ((k : ℕ) → get_or held k 0 ≡ 0)
    → pin ≡ 0
no_pin zero held pinned blank = refl
no_pin (suc n) held pinned blank = absurd (pinned (λ z. omega arith) (blank (suc n - 1)))

pin_not : (pin k : ℕ) (held : List ℕ) → (pin ≢ 0 → get_or held (pin - 1) 0 ≢ 0) → 0 < k → get_or held k 0 ≡ 0
    → pin_or pin 1 ≢ k + 1
pin_not zero k held pinned lt free e = omega arith
pin_not (suc n) k held pinned lt free e =
    let there : suc n - 1 ≡ k = omega arith in pinned (λ z. omega arith) (ap (λ (i : ℕ). get_or held i 0) there ∙ free)

pin_there : (pin : ℕ) → pin_or pin 1 ≢ 0
pin_there zero e = omega arith
pin_there (suc n) e = omega arith

-- the last lane counts
pub last_counts : (k lanes n : ℕ) → k + 1 ≡ lanes → cond (k + 1 == lanes) (n + 1) n ≡ n + 1
last_counts k lanes n e = ap (λ b. cond b (n + 1) n) (eq-eqb (k + 1) lanes e)

-- a lane below it doesn't
pub lower_counts_not : (k lanes n : ℕ) → k + 1 ≢ lanes → cond (k + 1 == lanes) (n + 1) n ≡ n
lower_counts_not k lanes n e = ap (λ b. cond b (n + 1) n) (ne_eqb (k + 1) lanes e)

module _ {K E Z : Type 0} (hist : K → List E) (by : E → ℕ) where
  -- lane 0 was taken, and its share taken out
  pub record TookFirst (m : Mine K E Z) (w : ℕ) (a : Arc K Z) (m' : Mine K E Z) : Type 0 where
    pub is : m' ≡ (seeing false m.0 0 w (hist (arc_value a)), (0, None) ∷ m.1)
    pub later : StartsWith (hist (arc_value a)) m.0.seen
    pub legal : IsLegal by (seeing false m.0 0 w (hist (arc_value a)))
    pub free : get_or m.0.held 0 0 ≡ 0
    pub opened : StartsWith (hist (arc_value a)) m.0.opening

  pub took_first : (m m' m'' : Mine K E Z) (w : ℕ) (x : Option (Arc K Z)) (a : Arc K Z) → m'.1 ≡ (0, x) ∷ m.1
      → Takes false hist by m.0 0 w x m'.0 → m'.1 ≡ (0, Some a) ∷ rest m'.1
      → m'' ≡ (m'.0, (0, None) ∷ rest m'.1) → get_or m.0.held 0 0 ≡ 0 → TookFirst m w a m''
  took_first m m' m'' w x a hand takes top now free =
      let t = subst (λ (y : Option (Arc K Z)). Takes false hist by m.0 0 w y m'.0)
      (top_is 0 x (Some a) m'.1 m.1 (rest m'.1) hand top) takes in
      record {
        is = now ∙ (λ i. (t.0 i, (0, None) ∷ ap rest hand i));
        later = t.1;
        legal = subst (IsLegal by) t.0 t.2;
        free = free;
        opened = t.4;
      }

  module _ (m m' : Mine K E Z) (w : ℕ) (a : Arc K Z) (f : TookFirst m w a m') where
    first_else : (k : ℕ) → 0 < k → get_or m'.0.held k 0 ≡ get_or m.0.held k 0
    first_else k lt =
        ap (λ (u : Mine K E Z). get_or u.0.held k 0) f.is ∙ get_or-set_other m.0.held 0 k w 0 (λ z. omega arith)

    first_here : 0 < length m.0.held → get_or m'.0.held 0 0 ≡ w
    first_here lt = ap (λ (u : Mine K E Z). get_or u.0.held 0 0) f.is ∙ get_or-set_same m.0.held 0 w 0 lt

    pub first_pass : (lanes : ℕ) → m.0.stands ≡ true → length m.0.held ≡ lanes
        → (m'.0.stands ≡ true) × (length m'.0.held ≡ lanes) × (m'.0.pin ≢ 0) × (m'.0.number ≡ m.0.number)
    first_pass lanes up long = (
      ap (λ (u : Mine K E Z). u.0.stands) f.is ∙ up,
      ap (λ (u : Mine K E Z). length u.0.held) f.is ∙ (length-set m.0.held 0 w ∙ long),
      (λ z. pin_there m.0.pin (sym (ap (λ (u : Mine K E Z). u.0.pin) f.is) ∙ z)),
      ap (λ (u : Mine K E Z). u.0.number) f.is,
    )

    -- what was seen is what lane 0 showed
    pub sees_first : (v : View E) → v.number ≡ m.0.number → v.opening ≡ m.0.opening → v.passes ≡ m.0.passes
        → v.made ≡ m.0.made → v.seen ≡ hist (arc_value a) → OnlySees m.0 v
    sees_first v number opening passes made seen = record {
      number = number;
      opening = opening;
      passes = passes;
      made = made;
      later = subst (λ (l : List E). StartsWith l m.0.seen) (sym seen) f.later;
    }

    pub climbed_sees : (m'' : Mine K E Z) (n : ℕ) → Climbed hist m' w n m'' → OnlySees m.0 m''.0
    climbed_sees m'' n c = sees_first m''.0
        (ap (λ (v : View E). v.number) c.view ∙ ap (λ (u : Mine K E Z). u.0.number) f.is)
        (ap (λ (v : View E). v.opening) c.view ∙ ap (λ (u : Mine K E Z). u.0.opening) f.is)
        (ap (λ (v : View E). v.passes) c.view ∙ ap (λ (u : Mine K E Z). u.0.passes) f.is)
        (ap (λ (v : View E). v.made) c.view ∙ ap (λ (u : Mine K E Z). u.0.made) f.is)
        (ap (λ (v : View E). v.seen) c.view ∙ ap (λ (u : Mine K E Z). u.0.seen) f.is)

    -- it met no lane held
    pub climbed_met : (m'' : Mine K E Z) (n : ℕ) → Climbed hist m' w n m'' → m''.0.busy ≡ m.0.busy
    climbed_met m'' n c = ap (λ (v : View E). v.busy) c.view ∙ ap (λ (u : Mine K E Z). u.0.busy) f.is

    first_long : length m'.0.held ≡ length m.0.held
    first_long = ap (λ (u : Mine K E Z). length u.0.held) f.is ∙ length-set m.0.held 0 w

    -- lane 0 counts where it is the last
    first_counts : m'.0.writes ≡ cond (0 + 1 == length m.0.held) (m.0.writes + 1) m.0.writes
    first_counts = ap (λ (u : Mine K E Z). u.0.writes) f.is

    -- with the last lane it had all of them, once
    pub climbed_had : (m'' : Mine K E Z) (lanes : ℕ) → Climbed hist m' w (lanes - 1) m'' → 0 < lanes
        → length m.0.held ≡ lanes → HadAll m.0 m''.0
    climbed_had m'' lanes c some long = record {
      reads = ap (λ (v : View E). v.reads) c.view ∙ ap (λ (u : Mine K E Z). u.0.reads) f.is;
      writes = dite (ℕ_discrete lanes 1)
          (λ one. c.not_all (inl (omega (arith, one)))
          ∙ (first_counts ∙ last_counts 0 (length m.0.held) m.0.writes (omega (arith, one, long))))
          (λ more. c.all (omega (arith, some, more)) (count more)
          ∙ ap (λ (n : ℕ). n + 1) (first_counts
          ∙ lower_counts_not 0 (length m.0.held) m.0.writes (λ e. more (omega (arith, e, long)))));
    }
      where
        count : lanes ≢ 1 → (lanes - 1) + 1 ≡ length m'.0.held
        count more = omega (arith, some, long, first_long)

    -- the pass held none of the lanes that it took
    pub own_free : (m'' : Mine K E Z) (n own : ℕ) → Climbed hist m' w n m'' → own ≤ n → get_or m.0.held own 0 ≡ 0
    own_free m'' n own c le = dite (ℕ_discrete own 0) (λ e. ap (λ (k : ℕ). get_or m.0.held k 0) e ∙ f.free)
        (λ e. let lt : 0 < own = omega arith in sym (first_else own lt) ∙ (c.low own lt le).1)

    pub takes_all : (m'' : Mine K E Z) (lanes : ℕ) → Climbed hist m' w (lanes - 1) m'' → w ≢ 0 → 0 < lanes
        → length m.0.held ≡ lanes → m.1 ≡ [] → m.0.pin ≡ 0 → HasAllLanes hist by lanes m'' (Some a)
    takes_all m'' lanes c word some long none pin =
        let seen : m'.0.seen ≡ hist (arc_value a) = ap (λ (u : Mine K E Z). u.0.seen) f.is in
        let same : m''.0.seen ≡ m'.0.seen = ap (λ (v : View E). v.seen) c.view in
        record {
          there = refl;
          shows = sym (same ∙ seen);
          opened = let opening : m''.0.opening ≡ m.0.opening =
              ap (λ (v : View E). v.opening) c.view ∙ ap (λ (u : Mine K E Z). u.0.opening) f.is in
              subst (λ (s : List E). StartsWith s m''.0.opening) (sym (same ∙ seen))
              (subst (StartsWith (hist (arc_value a))) (sym opening) f.opened);
          legal = subst (IsLegal by) (sym c.view) (subst
              (λ (u : Mine K E Z). IsLegal by (record u.0 { held = m''.0.held; writes = m''.0.writes }))
              (sym f.is) f.legal);
          stack = subst (λ (s : List E). Stack (Shows hist s) (lanes - 1) m''.1 ((0, None) ∷ [])) (sym same)
              (subst (Stack (Shows hist m'.0.seen) (lanes - 1) m''.1) (ap (λ (u : Mine K E Z). u.1) f.is
              ∙ ap (λ l. (0, None) ∷ l) none) c.stack);
          held = λ k lt z. dite (ℕ_discrete k 0)
              (λ e. word (sym (first_here (omega arith))
              ∙ (sym (c.else_same 0 (inl refl)) ∙ (ap (λ (i : ℕ). get_or m''.0.held i 0) (sym e) ∙ z))))
              (λ e. word (sym (c.low k (omega arith) (omega arith)).0 ∙ z));
          pinned = ap (λ (v : View E). v.pin) c.view
              ∙ (ap (λ (u : Mine K E Z). u.0.pin) f.is ∙ ap (λ (n : ℕ). pin_or n 1) pin);
        }

    module _ (m'' : Mine K E Z) (b : Busy) (s : Stops hist m' w b m'') where
      same_but_held : m''.0 ≡ record m'.0 {
        held = m''.0.held;
        busy = m''.0.busy;
        lane = m''.0.lane;
        word = m''.0.word;
        writes = m''.0.writes;
      }
      same_but_held = ap (λ (u : Mine K E Z). u.0) s.noting
          ∙ ((λ i. record (s.climbed.view i) {
            held = s.before.0.held;
            busy = s.before.0.busy + 1;
            lane = b.lane;
            word = s.found;
            writes = s.before.0.writes;
          })
          ∙ (λ i. record m'.0 {
            held = sym (ap (λ (u : Mine K E Z). u.0.held) s.noting) i;
            busy = sym (ap (λ (u : Mine K E Z). u.0.busy) s.noting) i;
            lane = sym (ap (λ (u : Mine K E Z). u.0.lane) s.noting) i;
            word = sym (ap (λ (u : Mine K E Z). u.0.word) s.noting) i;
            writes = sym (ap (λ (u : Mine K E Z). u.0.writes) s.noting) i;
          }))

      -- it never had all lanes
      stopped_writes : b.lane < length m.0.held → m''.0.writes ≡ m.0.writes
      stopped_writes lt = let above = s.above in ap (λ (u : Mine K E Z). u.0.writes) s.noting
          ∙ (s.climbed.not_all (inr (omega (arith, lt, above, first_long))) ∙ (first_counts
          ∙ lower_counts_not 0 (length m.0.held) m.0.writes (λ e. omega (arith, lt, above, e))))

      held_in : (k : ℕ) → get_or m''.0.held k 0 ≡ get_or s.before.0.held k 0
      held_in k = ap (λ (u : Mine K E Z). get_or u.0.held k 0) s.noting

      stopped_pin : m''.0.pin ≡ pin_or m.0.pin 1
      stopped_pin = ap (λ (v : View E). v.pin) same_but_held ∙ ap (λ (u : Mine K E Z). u.0.pin) f.is

      pub stopped_pass : m.0.stands ≡ true → w ≢ 0 → (m.0.pin ≢ 0 → get_or m.0.held (m.0.pin - 1) 0 ≢ 0)
          → (m''.0.stands ≡ true) × (m''.0.pin ≢ 0)
          × ((k : ℕ) → 0 < k → k < b.lane → (get_or m''.0.held k 0 ≢ 0) × (m''.0.pin ≢ k + 1))
      stopped_pass up word pinned = (
        ap (λ (v : View E). v.stands) same_but_held ∙ (ap (λ (u : Mine K E Z). u.0.stands) f.is ∙ up),
        (λ z. pin_there m.0.pin (sym stopped_pin ∙ z)),
        λ k lt below. let l = s.climbed.low k lt (omega arith) in (
          (λ z. word (sym l.0 ∙ (sym (held_in k) ∙ z))),
          λ z. pin_not m.0.pin k m.0.held pinned lt (sym (first_else k lt) ∙ l.1) (sym stopped_pin ∙ z),
        ),
      )

      pub stopped_stack : Stack (Shows hist m''.0.seen) (b.lane - 1) m''.1 (drop (b.lane - 1) m''.1)
      stopped_stack = let at : Stack (Shows hist m'.0.seen) (b.lane - 1) m''.1 m'.1 =
          subst (λ c. Stack (Shows hist m'.0.seen) (b.lane - 1) c m'.1)
          (ap (λ (u : Mine K E Z). u.1) (sym s.noting)) s.climbed.stack in
          subst (λ (l : List E). Stack (Shows hist l) (b.lane - 1) m''.1 (drop (b.lane - 1) m''.1))
          (sym (ap (λ (v : View E). v.seen) same_but_held))
          (stack_on (Shows hist m'.0.seen) (b.lane - 1) m''.1 m'.1 at)

      module _ (l4 : Mine K E Z) (P : Option (Arc K Z) → Type 0) (low : Lowered P (b.lane - 1) 0 m'' l4) where
        pub stopped_first : m.0.stands ≡ true → 0 < length m.0.held → w ≢ 0
            → (l4.0.stands ≡ true) × (get_or l4.0.held 0 0 ≢ 0)
        stopped_first up some word = (
          ap (λ (v : View E). v.stands) low.view ∙ (ap (λ (v : View E). v.stands) same_but_held
              ∙ (ap (λ (u : Mine K E Z). u.0.stands) f.is ∙ up)),
          λ z. word (sym (low.else_same 0 (inl (omega arith))
              ∙ (held_in 0 ∙ (s.climbed.else_same 0 (inl refl) ∙ first_here some))) ∙ z),
        )

        pub stopped_share : (l4.0.pin ≢ 0) × (hist (arc_value a) ≡ l4.0.seen)
        stopped_share = (
          (λ z. pin_there m.0.pin (sym (ap (λ (v : View E). v.pin) low.view ∙ stopped_pin) ∙ z)),
          sym (ap (λ (v : View E). v.seen) low.view ∙ (ap (λ (v : View E). v.seen) same_but_held
              ∙ ap (λ (u : Mine K E Z). u.0.seen) f.is)),
        )

        pub stopped_hand : l4.1 ≡ (0, None) ∷ m.1
        stopped_hand = low.stack ∙ (stack_drop (Shows hist m'.0.seen) (b.lane - 1) m''.1 m'.1
            (subst (λ c. Stack (Shows hist m'.0.seen) (b.lane - 1) c m'.1)
            (ap (λ (u : Mine K E Z). u.1) (sym s.noting)) s.climbed.stack) ∙ ap (λ (u : Mine K E Z). u.1) f.is)

        -- all lanes that were taken are home, and the others as they were
        pub stopped_lanes : (l5 : Mine K E Z) → l5.0 ≡ freed l4.0 0 0 → KeepsLanes m.0 l5.0
        stopped_lanes l5 now k = dite (ℕ_discrete k 0)
            (λ e. ap (λ (v : View E). get_or v.held k 0) now
            ∙ (ap (λ (i : ℕ). get_or (set l4.0.held 0 0) i 0) e
            ∙ (zero_there l4.0.held 0 ∙ sym (ap (λ (i : ℕ). get_or m.0.held i 0) e ∙ f.free))))
            (λ e. let lt : 0 < k = omega arith in ap (λ (v : View E). get_or v.held k 0) now
            ∙ (get_or-set_other l4.0.held 0 k 0 0 e ∙ upper k lt (dec_le k (b.lane - 1))))
          where
            upper : (k : ℕ) → 0 < k → Dec (k ≤ b.lane - 1) → get_or l4.0.held k 0 ≡ get_or m.0.held k 0
            upper k lt (yes le) = low.high k lt le ∙ sym (sym (first_else k lt) ∙ (s.climbed.low k lt le).1)
            upper k lt (no n) = let above : b.lane - 1 < k = omega arith in low.else_same k (inr above)
                ∙ (held_in k ∙ (s.climbed.else_same k (inr above) ∙ first_else k lt))

        pub stopped_long : (l5 : Mine K E Z) → l5.0 ≡ freed l4.0 0 0 → length l5.0.held ≡ length m.0.held
        stopped_long l5 now = ap (λ (v : View E). length v.held) now
            ∙ (length-set l4.0.held 0 0 ∙ (low.long ∙ (ap (λ (u : Mine K E Z). length u.0.held) s.noting
            ∙ (s.climbed.long ∙ first_long))))

        -- the rest of the view: what was seen is what lane 0 showed, and no lane pins it
        pub stopped_rest : (l5 : Mine K E Z) → l5.0 ≡ freed l4.0 0 0
            → (l5.0.stands ≡ m.0.stands) × (l5.0.number ≡ m.0.number) × (l5.0.opening ≡ m.0.opening)
            × (l5.0.others ≡ m.0.others) × (l5.0.made ≡ m.0.made) × (l5.0.seen ≡ hist (arc_value a))
            × (l5.0.pin ≡ 0) × (l5.0.passes ≡ m.0.passes)
        stopped_rest l5 now = (
          ap (λ (v : View E). v.stands) now ∙ (ap (λ (v : View E). v.stands) low.view
              ∙ (ap (λ (v : View E). v.stands) same_but_held ∙ ap (λ (u : Mine K E Z). u.0.stands) f.is)),
          ap (λ (v : View E). v.number) now ∙ (ap (λ (v : View E). v.number) low.view
              ∙ (ap (λ (v : View E). v.number) same_but_held ∙ ap (λ (u : Mine K E Z). u.0.number) f.is)),
          ap (λ (v : View E). v.opening) now ∙ (ap (λ (v : View E). v.opening) low.view
              ∙ (ap (λ (v : View E). v.opening) same_but_held ∙ ap (λ (u : Mine K E Z). u.0.opening) f.is)),
          ap (λ (v : View E). v.others) now ∙ (ap (λ (v : View E). v.others) low.view
              ∙ (ap (λ (v : View E). v.others) same_but_held ∙ ap (λ (u : Mine K E Z). u.0.others) f.is)),
          ap (λ (v : View E). v.made) now ∙ (ap (λ (v : View E). v.made) low.view
              ∙ (ap (λ (v : View E). v.made) same_but_held ∙ ap (λ (u : Mine K E Z). u.0.made) f.is)),
          ap (λ (v : View E). v.seen) now ∙ (ap (λ (v : View E). v.seen) low.view
              ∙ (ap (λ (v : View E). v.seen) same_but_held ∙ ap (λ (u : Mine K E Z). u.0.seen) f.is)),
          ap (λ (v : View E). v.pin) now,
          ap (λ (v : View E). v.passes) now ∙ (ap (λ (v : View E). v.passes) low.view
              ∙ (ap (λ (v : View E). v.passes) same_but_held ∙ ap (λ (u : Mine K E Z). u.0.passes) f.is)),
        )

        -- it had nothing
        pub stopped_had : (l5 : Mine K E Z) → l5.0 ≡ freed l4.0 0 0 → b.lane < length m.0.held → HadNone m.0 l5.0
        stopped_had l5 now lt = record {
          reads = ap (λ (v : View E). v.reads) now ∙ (ap (λ (v : View E). v.reads) low.view
              ∙ (ap (λ (v : View E). v.reads) same_but_held ∙ ap (λ (u : Mine K E Z). u.0.reads) f.is));
          writes = ap (λ (v : View E). v.writes) now ∙ (ap (λ (v : View E). v.writes) low.view
              ∙ stopped_writes lt);
        }

        pub stopped_met : (l5 : Mine K E Z) → l5.0 ≡ freed l4.0 0 0 → MetHeld m.0 l5.0 b.lane b.holder.0
        stopped_met l5 now = let met = s.met in
            let number : m'.0.number ≡ m.0.number = ap (λ (u : Mine K E Z). u.0.number) f.is in
            let view : (h : View E → ℕ) → ((v : View E) (l : List ℕ) (n : ℕ) → h (record v { held = l; pin = n }) ≡ h v)
            → h l5.0 ≡ h m''.0 = λ h same. ap h now ∙ (same l4.0 (set l4.0.held 0 0) 0
            ∙ (ap h low.view ∙ same m''.0 l4.0.held m''.0.pin)) in
            record {
              counted = view (λ v. v.busy) (λ v l n. refl) ∙ (met.counted ∙ ap (λ (u : Mine K E Z). u.0.busy + 1) f.is);
              noted = view (λ v. v.lane) (λ v l n. refl) ∙ met.noted;
              by_holder = subst (Names b.holder.0) (sym (view (λ v. v.word) (λ v l n. refl))) met.by_holder;
              among = subst (λ (n : ℕ). b.holder.0 < n) (ap (λ (u : Mine K E Z). u.0.passes) f.is) met.among;
              own = λ e z. met.own (e ∙ sym number) (first_else b.lane s.above ∙ z);
            }

module _ {K E Z : Type 0} where
  -- lane 0 was put back as the last
  pub all_home : (P : Option (Arc K Z) → Type 0) (m l4 l5 : Mine K E Z) (lanes : ℕ) → Lowered P (lanes - 1) 0 m l4
      → 0 < lanes → length m.0.held ≡ lanes → l5.0 ≡ freed l4.0 0 0 → (k : ℕ) → get_or l5.0.held k 0 ≡ 0
  all_home P m l4 l5 lanes low some long now k = dite (ℕ_discrete k 0)
      (λ e. ap (λ (v : View E). get_or v.held k 0) now
      ∙ (ap (λ (i : ℕ). get_or (set l4.0.held 0 0) i 0) e ∙ zero_there l4.0.held 0))
      (λ e. ap (λ (v : View E). get_or v.held k 0) now
      ∙ (get_or-set_other l4.0.held 0 k 0 0 e ∙ upper (dec_le k (lanes - 1)) (omega arith)))
    where
      upper : Dec (k ≤ lanes - 1) → 0 < k → get_or l4.0.held k 0 ≡ 0
      upper (yes le) lt = low.high k lt le
      upper (no n) lt = beyond l4.0.held k (let q = low.long in omega arith)

  module _ (m mt : Mine K E Z) (n : ℕ) (is : m.1 ≡ (0, None) ∷ rest m.1) (s : Stack Anything n (rest m.1) [])
      (now : mt ≡ (m.0, turned m.1)) where
    at : Stack Anything n mt.1 ((0, None) ∷ [])
    at = subst (λ c. Stack Anything n c ((0, None) ∷ [])) (sym (ap (λ (u : Mine K E Z). u.1) now))
        (turned_stack n m.1 is s)

    pub emptied_stack : Stack Anything n mt.1 (drop n mt.1)
    emptied_stack = stack_on Anything n mt.1 ((0, None) ∷ []) at

    pub emptied_hand : (l4 : Mine K E Z) → Lowered Anything n 0 mt l4 → l4.1 ≡ (0, None) ∷ []
    emptied_hand l4 low = low.stack ∙ stack_drop Anything n mt.1 ((0, None) ∷ []) at

    pub emptied_back : (l4 l5 : Mine K E Z) (lanes : ℕ) → n ≡ lanes - 1 → Lowered Anything n 0 mt l4 → 0 < lanes
        → length m.0.held ≡ lanes → l5 ≡ (freed l4.0 0 0, rest l4.1) → AllBack m m.0.seen l5
    emptied_back l4 l5 lanes count low some long back =
        let low' : Lowered Anything (lanes - 1) 0 mt l4 = subst (λ (k : ℕ). Lowered Anything k 0 mt l4) count low in
        let held : length mt.0.held ≡ length m.0.held = ap (λ (u : Mine K E Z). length u.0.held) now in
        let v0 : l5.0 ≡ freed l4.0 0 0 = ap (λ (u : Mine K E Z). u.0) back in
        record {
          view = v0 ∙ ((λ i. record (low.view i) { held = set l4.0.held 0 0; pin = 0 })
              ∙ ((λ i. record (now i).0 { held = set l4.0.held 0 0; pin = 0 })
              ∙ (λ i. record m.0 {
                held = sym (ap (λ (v : View E). v.held) v0) i;
                made = (sym (no_more m.0.made m.0.seen)) i;
                pin = sym (ap (λ (v : View E). v.pin) v0) i;
              })));
          hand = ap (λ (u : Mine K E Z). u.1) back ∙ ap rest (emptied_hand l4 low);
          long = ap (λ (v : View E). length v.held) v0 ∙ (length-set l4.0.held 0 0 ∙ (low.long ∙ held));
          blank = all_home Anything mt l4 l5 lanes low' some (held ∙ long) v0;
          unpinned = ap (λ (v : View E). v.pin) v0;
        }
      where
        drop_whole : (l : List E) → drop (length l) l ≡ []
        drop_whole [] = refl
        drop_whole (x ∷ l) = drop_whole l

        no_more : (made seen : List E) → made ++ drop (length seen) seen ≡ made
        no_more made seen = ap (λ l. made ++ l) (drop_whole seen) ∙ append-nil made

  module _ (hist : K → List E) (m m1 m2 : Mine K E Z) (lanes : ℕ) (share : Arc K Z) (is : m.1 ≡ (0, None) ∷ rest m.1)
      (s : Stack Anything (lanes - 1) (rest m.1) [])
      (now : m1 ≡ (m.0, (0, Some share) ∷ rest m.1))
      (grown : m2 ≡ (written m1.0 0 (top_history hist m1.1 m1.0.seen) m2.0.pin, rest m1.1)) where
    grown_view : m2.0 ≡ written m.0 0 (hist (arc_value share)) m2.0.pin
    grown_view = ap (λ (u : Mine K E Z). u.0) grown
        ∙ ap (λ (u : Mine K E Z). written u.0 0 (top_history hist u.1 u.0.seen) m2.0.pin) now

    grown_hand : m2.1 ≡ rest m.1
    grown_hand = ap (λ (u : Mine K E Z). u.1) grown ∙ ap (λ (u : Mine K E Z). rest u.1) now

    pub grown_stack : Stack Anything (lanes - 1) m2.1 (drop (lanes - 1) m2.1)
    grown_stack =
        stack_on Anything (lanes - 1) m2.1 [] (subst (λ c. Stack Anything (lanes - 1) c []) (sym grown_hand) s)

    grown_rest : drop (lanes - 1) m2.1 ≡ []
    grown_rest =
        stack_drop Anything (lanes - 1) m2.1 [] (subst (λ c. Stack Anything (lanes - 1) c []) (sym grown_hand) s)

    grown_held : (k : ℕ) → 0 < k → get_or m2.0.held k 0 ≡ get_or m.0.held k 0
    grown_held k lt = ap (λ (v : View E). get_or v.held k 0) grown_view
        ∙ get_or-set_other m.0.held 0 k 0 0 (λ e. omega arith)

    pub grown_pass : m.0.stands ≡ true → m2.0.pin ≡ 2 → ((k : ℕ) → k < lanes → get_or m.0.held k 0 ≢ 0)
        → (m2.0.stands ≡ true) × (m2.0.pin ≡ 2) × ((k : ℕ) → 1 < k → k < lanes → get_or m2.0.held k 0 ≢ 0)
    grown_pass up pin held = (
      ap (λ (v : View E). v.stands) grown_view ∙ up,
      pin,
      λ k some lt z. held k lt (sym (grown_held k (omega arith)) ∙ z),
    )

    -- all lanes but lane 1 were put back
    pub grown_last : (m3 : Mine K E Z) → Lowered Anything (lanes - 1) 1 m2 m3 → m.0.stands ≡ true → 1 < lanes
        → ((k : ℕ) → k < lanes → get_or m.0.held k 0 ≢ 0) → (m3.0.stands ≡ true) × (get_or m3.0.held 1 0 ≢ 0)
    grown_last m3 low up some held = (
      ap (λ (v : View E). v.stands) low.view ∙ (ap (λ (v : View E). v.stands) grown_view ∙ up),
      λ z. held 1 some (sym (low.else_same 1 (inl (omega arith)) ∙ grown_held 1 (omega arith)) ∙ z),
    )

    -- there is no other lane
    pub grown_alone : lanes ≡ 1 → length m.0.held ≡ lanes
        → (m2.0.pin ≢ 0 → get_or (set m1.0.held 0 0) (m2.0.pin - 1) 0 ≢ 0) → AllBack m (hist (arc_value share)) m2
    grown_alone one long pinned =
        let same : length (set m.0.held 0 0) ≡ length m.0.held = length-set m.0.held 0 0 in
        let blank : (k : ℕ) → get_or (set m.0.held 0 0) k 0 ≡ 0 = λ k. dite (ℕ_discrete k 0)
        (λ e. ap (λ (i : ℕ). get_or (set m.0.held 0 0) i 0) e ∙ zero_there m.0.held 0)
        (λ e. beyond (set m.0.held 0 0) k (omega (arith, same, long, one, e))) in
        record {
          view = grown_view ∙ (λ i. record m.0 {
            held = sym (ap (λ (v : View E). v.held) grown_view) i;
            seen = hist (arc_value share);
            made = m.0.made ++ drop (length m.0.seen) (hist (arc_value share));
            pin = m2.0.pin;
          });
          hand = subst (λ (n : ℕ). drop n m2.1 ≡ []) (let none : lanes - 1 ≡ 0 = omega (arith, one) in none) grown_rest;
          long = ap (λ (v : View E). length v.held) grown_view ∙ same;
          blank = λ k. ap (λ (v : View E). get_or v.held k 0) grown_view ∙ blank k;
          unpinned = no_pin m2.0.pin (set m.0.held 0 0) (subst
              (λ (u : Mine K E Z). m2.0.pin ≢ 0 → get_or (set u.0.held 0 0) (m2.0.pin - 1) 0 ≢ 0) now pinned) blank;
        }

    pub grown_back : (m3 m4 : Mine K E Z) → Lowered Anything (lanes - 1) 1 m2 m3 → 1 < lanes → length m.0.held ≡ lanes
        → m4 ≡ (freed m3.0 1 0, rest m3.1) → AllBack m (hist (arc_value share)) m4
    grown_back m3 m4 low some long back =
        let v0 : m4.0 ≡ freed m3.0 1 0 = ap (λ (u : Mine K E Z). u.0) back in
        let long2 : length m2.0.held ≡ lanes =
        ap (λ (v : View E). length v.held) grown_view ∙ (length-set m.0.held 0 0 ∙ long) in
        let same : (k : ℕ) → k ≢ 1 → get_or m4.0.held k 0 ≡ get_or m3.0.held k 0 =
        λ k ne. ap (λ (v : View E). get_or v.held k 0) v0 ∙ get_or-set_other m3.0.held 1 k 0 0 ne in
        record {
          view = v0 ∙ ((λ i. record (low.view i) { held = set m3.0.held 1 0; pin = 0 })
              ∙ ((λ i. record (grown_view i) { held = set m3.0.held 1 0; pin = 0 })
              ∙ (λ i. record m.0 {
                held = sym (ap (λ (v : View E). v.held) v0) i;
                seen = hist (arc_value share);
                made = m.0.made ++ drop (length m.0.seen) (hist (arc_value share));
                pin = sym (ap (λ (v : View E). v.pin) v0) i;
              })));
          hand = ap (λ (u : Mine K E Z). u.1) back ∙ (low.stack.3 ∙ grown_rest);
          long = ap (λ (v : View E). length v.held) v0 ∙ (length-set m3.0.held 1 0 ∙ (low.long ∙ (long2 ∙ sym long)));
          blank = λ k. dite (ℕ_discrete k 1) (λ e. ap (λ (v : View E). get_or v.held k 0) v0
              ∙ (ap (λ (i : ℕ). get_or (set m3.0.held 1 0) i 0) e ∙ zero_there m3.0.held 1))
              (λ e. same k e ∙ upper k e long2 (dec_le k (lanes - 1)));
          unpinned = ap (λ (v : View E). v.pin) v0;
        }
      where
        upper : (k : ℕ) → k ≢ 1 → length m2.0.held ≡ lanes → Dec (k ≤ lanes - 1) → get_or m3.0.held k 0 ≡ 0
        upper zero ne long2 d = low.else_same 0 (inl (omega arith))
            ∙ (ap (λ (v : View E). get_or v.held 0 0) grown_view ∙ zero_there m.0.held 0)
        upper (suc k) ne long2 (yes le) = low.high (suc k) (omega arith) le
        upper (suc k) ne long2 (no n) = beyond m3.0.held (suc k) (let q = low.long in omega arith)

-- the history has one more record than the pass had seen, which the pass made
pub appended : {K E Z : Type 0} (by : E → ℕ) (m m' : Mine K E Z) (v : View E) (h : List E) (r : E) → AllBack m h m'
    → m.0 ≡ v → h ≡ v.seen ++ r ∷ [] → by r ≡ v.number → Appends by v m'.0 r
appended {E = E} by m m' v h r back is grown maker = record {
  number = ap (λ (u : View E). u.number) back.view ∙ ap (λ (u : View E). u.number) is;
  opening = ap (λ (u : View E). u.opening) back.view ∙ ap (λ (u : View E). u.opening) is;
  passes = ap (λ (u : View E). u.passes) back.view ∙ ap (λ (u : View E). u.passes) is;
  seen = ap (λ (u : View E). u.seen) back.view ∙ grown;
  made = ap (λ (u : View E). u.made) back.view
      ∙ (ap (λ (u : View E). u.made ++ drop (length u.seen) h) is
      ∙ (ap (λ l. v.made ++ drop (length v.seen) l) grown
      ∙ ap (λ l. v.made ++ l) (drop-append_seam v.seen (r ∷ []))));
  maker = maker;
}

-- a writer that has all lanes can put lane 0 back with a record
pub recording_pass : {E : Type 0} (v w : View E) (lanes all : ℕ) → w ≡ v → lanes ≡ all
    → (v.stands ≡ true) × (v.others ≡ []) × (length v.held ≡ lanes)
    × ((k : ℕ) → k < lanes → get_or v.held k 0 ≢ 0) × (v.pin ≡ 1)
    → (w.stands ≡ true) × (w.others ≡ []) × (length w.held ≡ all)
    × ((k : ℕ) → k < all → get_or w.held k 0 ≢ 0) × (w.pin ≢ 0)
recording_pass {E} v w lanes all same count has = subst (λ (z : View E × ℕ). (z.0.stands ≡ true)
    × (z.0.others ≡ []) × (length z.0.held ≡ z.1) × ((k : ℕ) → k < z.1 → get_or z.0.held k 0 ≢ 0) × (z.0.pin ≢ 0))
    (λ i. (sym same i, count i)) (has.0, has.1, has.2, has.3, λ z. let pin = has.4 in omega (arith, pin, z))
