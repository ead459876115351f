-- The invariant of a pass, as its seat changes.
use Rattle.std.proofs.Common.{◌≡◌, ◌≢◌, ℕ, ◌+◌, ◌-◌, ◌*◌, ◌<◌, ◌≤◌, Bool, true, false, List, [], length, get_or}
use Rattle.std.proofs.Common.{length-set, sym, refl}
use Rattle.std.proofs.Common.{append-nil, ◌++◌, drop, ap, ◌∙◌, subst, arith, Option, Some, is_some}
use Rattle.std.proofs.lemmas.Bool.{false≢true}
use Rattle.std.proofs.Math.Seq.{drop-length}
use Rattle.std.specs.Arc.{arc_value}
use Rattle.std.specs.declared.alloc.Global.{Global}
use Rattle.std.specs.declared.sync.Arc.{Arc}
use Rattle.atomic_table.specs.Seated.{TableId}
use Rattle.atomic_table.specs.Table.{rest}
use Rattle.lane_lock.specs.declared.kept.Kept as kept
use Rattle.lane_lock.specs.declared.lock.LaneLock.{LaneLock}
use Rattle.lane_lock.specs.declared.pass.Pass.{Pass}
use Rattle.lane_lock.specs.declared.refusal.Busy.{Busy}
use Rattle.lane_lock.specs.declared.table.View.{View}
use Rattle.lane_lock.specs.Guards.{HasAllLanes}
use Rattle.lane_lock.specs.Hands.{AllBack, Climbed, Lowered}
use Rattle.lane_lock.specs.Outcomes.{HadNone, OnlySees, KeepsHistory, KeepsLanes, RefusesWrite, Stops}
use Rattle.lane_lock.specs.Passes.{Owns}
use Rattle.lane_lock.specs.Rule.{place}
use Rattle.lane_lock.specs.Steps.{Mine}
use Rattle.lane_lock.specs.Views.{freed, noted}
use Rattle.lane_lock.proofs.Guards.{idle_if_free}
use Rattle.lane_lock.proofs.Writes.{TookFirst, own_free, takes_all, no_pin, stopped_hand, stopped_lanes, stopped_long}
use Rattle.lane_lock.proofs.Writes.{stopped_had, stopped_rest, stopped_met, sees_first}

-- the word of a writer
pub word_some : (n : ℕ) → 2 * n + 2 ≢ 0
word_some n z = omega arith

module _ {K E Z : Type 0} (m m' : Mine K E Z) (k w : ℕ) (now : m' ≡ (noted m.0 k w, m.1)) where
  pub noted_sees : OnlySees m.0 m'.0
  noted_sees = subst (λ (u : Mine K E Z). OnlySees m.0 u.0) (sym now) record {
    number = refl;
    opening = refl;
    passes = refl;
    made = refl;
    later = ([], sym (append-nil m.0.seen));
  }

  pub noted_history : KeepsHistory m.0 m'.0
  noted_history = subst (λ (u : Mine K E Z). KeepsHistory m.0 u.0) (sym now)
      record { number = refl; opening = refl; passes = refl; made = refl; seen = refl }

  pub noted_lanes : KeepsLanes m.0 m'.0
  noted_lanes i = ap (λ (u : Mine K E Z). get_or u.0.held i 0) now

  pub noted_had : HadNone m.0 m'.0
  noted_had = record {
    reads = ap (λ (u : Mine K E Z). u.0.reads) now;
    writes = ap (λ (u : Mine K E Z). u.0.writes) now;
  }

module _ {K E : Type 0} where
  -- what a pass with this seat keeps, where it has this number, lane, count and share
  pub record Keeping (t : TableId) (m : Mine K E Global) (number lane seen : ℕ) (shared : Bool) : Type 0 where
    pub stands : (m.0.stands ≡ true) × (m.0.number ≡ number) × (m.0.others ≡ [])
    pub sized : (lane < length m.0.held) × (t.slots ≡ t.words) × (place (length m.0.held) ≡ t.words)
    pub has_seen : seen ≡ length m.0.seen
    pub idle : shared ≡ false → (m.1 ≡ []) × ((k : ℕ) → get_or m.0.held k 0 ≡ 0)
    pub pinned : m.0.pin ≢ 0 → get_or m.0.held (m.0.pin - 1) 0 ≢ 0
    pub guarded : shared ≡ true → get_or m.0.held lane 0 ≢ 0

module _ {K A S E : Type 0} {g : kept.Ghosts K A S E} where
  -- the view has as many lanes as before
  pub held_sized : (p : Pass K A S E g) (m : Mine K E Global) (t : TableId) → t ≡ p.seat.table_id
      → length m.0.held ≡ length p.seat.me.0.held
      → (p.lane < length m.0.held) × (t.slots ≡ t.words) × (place (length m.0.held) ≡ t.words)
  held_sized p m t same long = subst (λ (z : TableId × ℕ). (p.lane < z.1) × (z.0.slots ≡ z.0.words)
      × (place z.1 ≡ z.0.words)) (λ i. (sym same i, sym long i)) p.sized

  -- another take was refused
  pub noted_pass : (p : Pass K A S E g) (t : TableId) (m : Mine K E Global) (k w : ℕ) → t ≡ p.seat.table_id
      → m ≡ (noted p.seat.me.0 k w, p.seat.me.1) → Keeping t m p.number p.lane p.seen (is_some p.share)
  noted_pass p t m k w same now = subst
      (λ (x : TableId × Mine K E Global). Keeping x.0 x.1 p.number p.lane p.seen (is_some p.share))
      (λ i. (sym same i, sym now i)) record {
        stands = p.stands;
        sized = p.sized;
        has_seen = p.has_seen;
        idle = p.idle;
        pinned = p.pinned;
        guarded = p.guarded;
      }

module _ {K A S E : Type 0} {g : kept.Ghosts K A S E} (lock : LaneLock K A S E) (p : Pass K A S E g)
    (own : Owns lock p) where
  pub some_words : 0 < lock.table.shared.table_id.words
  some_words = let some = lock.few.0 in let words = lock.sized.0 in omega (arith, some, words)

  pub key_words : place lock.table.shared.key.lanes ≡ lock.table.shared.table_id.words
  key_words = ap place lock.sized.2 ∙ lock.sized.0

  pub all_held : length p.seat.me.0.held ≡ lock.lanes
  all_held = let all : place (length p.seat.me.0.held) ≡ place lock.lanes =
      p.sized.2 ∙ (ap (λ (t : TableId). t.words) own.table ∙ sym lock.sized.0) in omega (arith, all)

  pub some_held : 0 < length p.seat.me.0.held
  some_held = subst (λ (n : ℕ). 0 < n) (sym all_held) lock.few.0

  pub lane_within : p.lane < lock.lanes
  lane_within = subst (λ (n : ℕ). p.lane < n) all_held p.sized.0

  pub lane_there : place p.lane < lock.table.shared.table_id.words
  lane_there = let within = lane_within in let words = lock.sized.0 in omega (arith, within, words)

  pub dropped_pass : (share : Option (Arc K Global)) (m : Mine K E Global)
      → HasAllLanes g.history g.maker lock.lanes p.seat.me share → m.0 ≡ p.seat.me.0
      → (m.0.stands ≡ true) × (m.0.others ≡ []) × (length m.0.held ≡ lock.lanes)
      × ((k : ℕ) → k < lock.lanes → get_or m.0.held k 0 ≢ 0) × (m.0.pin ≡ 1)
  dropped_pass share m has was = subst (λ (v : View E). (v.stands ≡ true) × (v.others ≡ [])
      × (length v.held ≡ lock.lanes) × ((k : ℕ) → k < lock.lanes → get_or v.held k 0 ≢ 0) × (v.pin ≡ 1))
      (sym was) (p.stands.0, p.stands.2, all_held, has.held, has.pinned)

  module _ (m' : Mine K E Global) (w : ℕ) (a : Arc K Global)
      (f : TookFirst g.history g.maker p.seat.me w a m') where
    -- all lanes were taken
    module _ (m'' : Mine K E Global) (word : w ≢ 0) (c : Climbed g.history m' w (lock.lanes - 1) m'') where
      pub writer_has : HasAllLanes g.history g.maker lock.lanes m'' (Some a)
      writer_has = let lt = lane_within in let le : p.lane ≤ lock.lanes - 1 = omega (arith, lt) in
          let free = own_free g.history g.maker p.seat.me m' w a f m'' (lock.lanes - 1) p.lane c le in
          let idle = p.idle (idle_if_free (is_some p.share) _ p.guarded free) in
          takes_all g.history g.maker p.seat.me m' w a f m'' lock.lanes c word lock.few.0 all_held idle.0
          (no_pin _ _ p.pinned idle.1)

      pub writer_keeps : (t : TableId) (seen : ℕ) → t ≡ p.seat.table_id → seen ≡ length (g.history (arc_value a))
          → Keeping t m'' p.number p.lane seen true
      writer_keeps t seen same count =
          let v = c.view in let has = writer_has in
          record {
            stands = (
              ap (λ (v : View E). v.stands) c.view ∙ (ap (λ (u : Mine K E Global). u.0.stands) f.is ∙ p.stands.0),
              ap (λ (v : View E). v.number) c.view ∙ (ap (λ (u : Mine K E Global). u.0.number) f.is ∙ p.stands.1),
              ap (λ (v : View E). v.others) c.view ∙ (ap (λ (u : Mine K E Global). u.0.others) f.is ∙ p.stands.2),
            );
            sized = held_sized p m'' t same (c.long ∙ (ap (λ (u : Mine K E Global). length u.0.held) f.is
                ∙ length-set p.seat.me.0.held 0 w));
            has_seen = count
                ∙ ap length (sym (ap (λ (v : View E). v.seen) c.view ∙ ap (λ (u : Mine K E Global). u.0.seen) f.is));
            idle = λ e. absurd (false≢true (sym e));
            pinned = λ n. subst (λ (k : ℕ). get_or m''.0.held (k - 1) 0 ≢ 0) (sym has.pinned) (has.held 0 lock.few.0);
            guarded = λ e. has.held p.lane lane_within;
          }

    -- a lane was met held, and all that were taken were put back
    module _ (m3 : Mine K E Global) (b : Busy) (s : Stops g.history m' w b m3) (P : Option (Arc K Global) → Type 0)
        (l4 l5 : Mine K E Global) (low : Lowered P (b.lane - 1) 0 m3 l4)
        (now : l5 ≡ (freed l4.0 0 0, rest l4.1)) where
      abbrev view : l5.0 ≡ freed l4.0 0 0
      view = ap (λ (u : Mine K E Global). u.0) now

      abbrev lanes : KeepsLanes p.seat.me.0 l5.0
      lanes = stopped_lanes g.history g.maker p.seat.me m' w a f m3 b s l4 P low l5 view

      pub stopped_keeps : (t : TableId) (seen : ℕ) → t ≡ p.seat.table_id → seen ≡ length (g.history (arc_value a))
          → Keeping t l5 p.number p.lane seen (is_some p.share)
      stopped_keeps t seen same count =
          let as_was = stopped_rest g.history g.maker p.seat.me m' w a f m3 b s l4 P low l5 view in
          let hand = ap (λ (u : Mine K E Global). u.1) now
          ∙ ap rest (stopped_hand g.history g.maker p.seat.me m' w a f m3 b s l4 P low) in
          let long = stopped_long g.history g.maker p.seat.me m' w a f m3 b s l4 P low l5 view in
          record {
            stands = (as_was.0 ∙ p.stands.0, as_was.1 ∙ p.stands.1, as_was.3 ∙ p.stands.2);
            sized = held_sized p l5 t same long;
            has_seen = count ∙ ap length (sym as_was.5);
            idle = λ e. (hand ∙ (p.idle e).0, λ k. lanes k ∙ (p.idle e).1 k);
            pinned = λ n. absurd (n as_was.6);
            guarded = λ e z. p.guarded e (sym (lanes p.lane) ∙ z);
          }

      pub stopped_sees : OnlySees p.seat.me.0 l5.0
      stopped_sees = let as_was = stopped_rest g.history g.maker p.seat.me m' w a f m3 b s l4 P low l5 view in
          sees_first g.history g.maker p.seat.me m' w a f l5.0 as_was.1 as_was.2 as_was.7 as_was.4 as_was.5

      pub stopped_refuses : b.lane < lock.lanes → RefusesWrite p.seat.me.0 l5.0 lock.lanes b
      stopped_refuses lt = (
        stopped_sees,
        lanes,
        lt,
        stopped_met g.history g.maker p.seat.me m' w a f m3 b s l4 P low l5 view,
        stopped_had g.history g.maker p.seat.me m' w a f m3 b s l4 P low l5 view
            (subst (λ (n : ℕ). b.lane < n) (sym all_held) lt),
      )

-- all lanes were put back, with the history h
module _ {K A S E : Type 0} {g : kept.Ghosts K A S E} (p : Pass K A S E g) (m m' : Mine K E Global) (h : List E)
    (was : m.0 ≡ p.seat.me.0) (back : AllBack m h m') where
  pub back_keeps : (t : TableId) (seen : ℕ) (shared : Bool) → t ≡ p.seat.table_id → seen ≡ length h → shared ≡ false
      → Keeping t m' p.number p.lane seen shared
  back_keeps t seen shared same count none = record {
    stands = (
      ap (λ (v : View E). v.stands) back.view ∙ (ap (λ (v : View E). v.stands) was ∙ p.stands.0),
      ap (λ (v : View E). v.number) back.view ∙ (ap (λ (v : View E). v.number) was ∙ p.stands.1),
      ap (λ (v : View E). v.others) back.view ∙ (ap (λ (v : View E). v.others) was ∙ p.stands.2),
    );
    sized = held_sized p m' t same (back.long ∙ ap (λ (v : View E). length v.held) was);
    has_seen = count ∙ ap length (sym (ap (λ (v : View E). v.seen) back.view));
    idle = λ e. (back.hand, back.blank);
    pinned = λ n. absurd (n back.unpinned);
    guarded = λ e. absurd (false≢true (sym none ∙ e));
  }

  pub back_seen : m'.0.seen ≡ h
  back_seen = ap (λ (v : View E). v.seen) back.view

  pub back_had : HadNone p.seat.me.0 m'.0
  back_had = record {
    reads = ap (λ (v : View E). v.reads) back.view ∙ ap (λ (v : View E). v.reads) was;
    writes = ap (λ (v : View E). v.writes) back.view ∙ ap (λ (v : View E). v.writes) was;
  }

  pub back_history : h ≡ p.seat.me.0.seen → KeepsHistory p.seat.me.0 m'.0
  back_history same = let all : h ≡ m.0.seen = same ∙ sym (ap (λ (v : View E). v.seen) was) in record {
    number = ap (λ (v : View E). v.number) back.view ∙ ap (λ (v : View E). v.number) was;
    opening = ap (λ (v : View E). v.opening) back.view ∙ ap (λ (v : View E). v.opening) was;
    passes = ap (λ (v : View E). v.passes) back.view ∙ ap (λ (v : View E). v.passes) was;
    made = ap (λ (v : View E). v.made) back.view
        ∙ (ap (λ (l : List E). m.0.made ++ drop (length m.0.seen) l) all
        ∙ (ap (λ (l : List E). m.0.made ++ l) (drop-length m.0.seen)
        ∙ (append-nil m.0.made ∙ ap (λ (v : View E). v.made) was)));
    seen = ap (λ (v : View E). v.seen) back.view ∙ same;
  }
