-- A pass that reads, as its seat changes.
use Rattle.std.proofs.Common.{◌≡◌, ◌≢◌, ℕ, ◌+◌, ◌-◌, ◌*◌, true, false, List, [], ◌∷◌, length, get_or, set}
use Rattle.std.proofs.Common.{length-set, sym}
use Rattle.std.proofs.Common.{append-nil, refl, ap, ◌∙◌, subst, arith, Option, Some, None, is_some, get_or-set_same}
use Rattle.std.proofs.Common.{get_or-set_other}
use Rattle.std.proofs.lemmas.Bool.{false≢true}
use mathlib.Core.Logic.{dite}
use native.Mathlib.Decide.{ℕ_discrete}
use Rattle.std.specs.Arc.{arc_value}
use Rattle.std.specs.declared.alloc.Global.{Global}
use Rattle.std.specs.declared.sync.Arc.{Arc}
use Rattle.atomic_table.specs.Seated.{TableId}
use Rattle.atomic_table.specs.Table.{rest}
use Rattle.lane_lock.specs.declared.kept.Kept as kept
use Rattle.lane_lock.specs.declared.pass.Pass.{Pass}
use Rattle.lane_lock.specs.declared.table.View.{View}
use Rattle.lane_lock.specs.Guards.{HasOneLane}
use Rattle.lane_lock.specs.History.{StartsWith}
use Rattle.lane_lock.specs.declared.refusal.NotNow.TheVariants.{Shared}
use Rattle.lane_lock.specs.Outcomes.{HadLane, KeepsHistory, KeepsLanes, OnlySees, RefusesRead}
use Rattle.lane_lock.specs.Rule.{place}
use Rattle.lane_lock.specs.Steps.{Mine, Offers, Takes}
use Rattle.lane_lock.specs.Views.{IsLegal, found_empty, freed, holding, pin_or, seeing}
use Rattle.lane_lock.proofs.Guards.{idle_if_free, in_front, top_is}
use Rattle.lane_lock.proofs.PassKept.{Keeping, held_sized}
use Rattle.lane_lock.proofs.Writes.{no_pin, zero_there}

-- the word of a reader
pub odd_some : (n : ℕ) → 2 * n + 1 ≢ 0
odd_some n z = omega arith

-- the pass takes its lane by the word w
module _ {K A S E : Type 0} {g : kept.Ghosts K A S E} (p : Pass K A S E g) (w : ℕ) (word : w ≢ 0)
    (x : Option (Arc K Global)) (m1 m2 : Mine K E Global) (hand : m1.1 ≡ (place p.lane, x) ∷ p.seat.me.1)
    (takes : Takes true g.history g.maker p.seat.me.0 p.lane w x m1.0)
    (free : get_or p.seat.me.0.held p.lane 0 ≡ 0) where
  abbrev v : View E
  v = p.seat.me.0

  abbrev l : ℕ
  l = p.lane

  not_shared : is_some p.share ≡ false
  not_shared = idle_if_free (is_some p.share) _ p.guarded free

  unpinned : v.pin ≡ 0
  unpinned = no_pin _ _ p.pinned (p.idle not_shared).1

  here : get_or (set v.held l w) l 0 ≢ 0
  here z = word (sym (get_or-set_same v.held l w 0 p.sized.0) ∙ z)

  -- whose slot was empty
  module _ (top : m1.1 ≡ (place l, None) ∷ rest m1.1) (now : m2 ≡ (m1.0, (place l, None) ∷ rest m1.1)) where
    empty : (m1.0 ≡ found_empty true (holding true v l w) l) × (l ≢ 0)
    empty = subst (λ (y : Option (Arc K Global)). Takes true g.history g.maker v l w y m1.0)
        (top_is (place l) x None m1.1 p.seat.me.1 (rest m1.1) hand top) takes

    is : m2 ≡ (found_empty true (holding true v l w) l, (place l, None) ∷ p.seat.me.1)
    is = now ∙ (λ i. (empty.0 i, (place l, None) ∷ ap rest hand i))

    pub empty_pass : (m2.0.stands ≡ true) × (get_or m2.0.held l 0 ≢ 0)
    empty_pass = (
      ap (λ (u : Mine K E Global). u.0.stands) is ∙ p.stands.0,
      λ z. here (sym (ap (λ (u : Mine K E Global). get_or u.0.held l 0) is) ∙ z),
    )

    pub empty_offer : Offers g.history m2.0 l m2.1
    empty_offer = (None, in_front _ _ _ (ap (λ (u : Mine K E Global). u.1) is), empty.1)

    module _ (m3 : Mine K E Global) (back : m3 ≡ (freed m2.0 l 0, rest m2.1)) where
      was : m3 ≡ (freed (found_empty true (holding true v l w) l) l 0, p.seat.me.1)
      was = back ∙ ap (λ (u : Mine K E Global). (freed u.0 l 0, rest u.1)) is

      lanes : KeepsLanes v m3.0
      lanes k = ap (λ (u : Mine K E Global). get_or u.0.held k 0) was ∙ dite (ℕ_discrete k l)
          (λ e. ap (λ (i : ℕ). get_or (set (set v.held l w) l 0) i 0) e
          ∙ (zero_there (set v.held l w) l ∙ sym (ap (λ (i : ℕ). get_or v.held i 0) e ∙ free)))
          (λ n. get_or-set_other (set v.held l w) l k 0 0 n ∙ get_or-set_other v.held l k w 0 n)

      history : KeepsHistory v m3.0
      history = subst (λ (u : Mine K E Global). KeepsHistory v u.0) (sym was)
          record { number = refl; opening = refl; passes = refl; made = refl; seen = refl }

      pub empty_keeps : (t : TableId) → t ≡ p.seat.table_id → Keeping t m3 p.number p.lane p.seen (is_some p.share)
      empty_keeps t same = record {
        stands = (
          ap (λ (u : Mine K E Global). u.0.stands) was ∙ p.stands.0,
          ap (λ (u : Mine K E Global). u.0.number) was ∙ p.stands.1,
          ap (λ (u : Mine K E Global). u.0.others) was ∙ p.stands.2,
        );
        sized = held_sized p m3 t same (ap (λ (u : Mine K E Global). length u.0.held) was
            ∙ (length-set (set v.held l w) l 0 ∙ length-set v.held l w));
        has_seen = p.has_seen ∙ ap (λ (u : Mine K E Global). length u.0.seen) (sym was);
        idle = λ e. (ap (λ (u : Mine K E Global). u.1) was ∙ (p.idle e).0, λ k. lanes k ∙ (p.idle e).1 k);
        pinned = λ n. absurd (n (ap (λ (u : Mine K E Global). u.0.pin) was));
        guarded = λ e z. p.guarded e (sym (lanes p.lane) ∙ z);
      }

      pub empty_sees : OnlySees v m3.0
      empty_sees = let h = history in record {
        number = h.number;
        opening = h.opening;
        passes = h.passes;
        made = h.made;
        later = ([], h.seen ∙ sym (append-nil v.seen));
      }

      pub empty_refuses : RefusesRead v m3.0 l Shared
      empty_refuses = (
        history,
        lanes,
        record {
          counted = ap (λ (u : Mine K E Global). u.0.empty) was;
          noted = ap (λ (u : Mine K E Global). u.0.empty_lane) was;
          upper = empty.1;
        },
        ap (λ (u : Mine K E Global). u.0.busy) was,
        record {
          reads = ap (λ (u : Mine K E Global). u.0.reads) was;
          writes = ap (λ (u : Mine K E Global). u.0.writes) was;
        },
      )

  -- whose slot had a share
  module _ (a : Arc K Global) (top : m1.1 ≡ (place l, Some a) ∷ rest m1.1)
      (now : m2 ≡ (m1.0, (place l, None) ∷ rest m1.1)) where
    abbrev seen : List E
    seen = g.history (arc_value a)

    full : Takes true g.history g.maker v l w (Some a) m1.0
    full = subst (λ (y : Option (Arc K Global)). Takes true g.history g.maker v l w y m1.0)
        (top_is (place l) x (Some a) m1.1 p.seat.me.1 (rest m1.1) hand top) takes

    shows : m2 ≡ (seeing true v l w seen, (place l, None) ∷ p.seat.me.1)
    shows = now ∙ (λ i. (full.0 i, (place l, None) ∷ ap rest hand i))

    shown : m2.0.seen ≡ seen
    shown = ap (λ (u : Mine K E Global). u.0.seen) shows

    held : get_or m2.0.held l 0 ≢ 0
    held z = here (sym (ap (λ (u : Mine K E Global). get_or u.0.held l 0) shows) ∙ z)

    pin : m2.0.pin ≡ l + 1
    pin = ap (λ (u : Mine K E Global). u.0.pin) shows ∙ ap (λ (n : ℕ). pin_or n (l + 1)) unpinned

    pub reader_sees : OnlySees v m2.0
    reader_sees = record {
      number = ap (λ (u : Mine K E Global). u.0.number) shows;
      opening = ap (λ (u : Mine K E Global). u.0.opening) shows;
      passes = ap (λ (u : Mine K E Global). u.0.passes) shows;
      made = ap (λ (u : Mine K E Global). u.0.made) shows;
      later = subst (λ (h : List E). StartsWith h v.seen) (sym shown) full.1;
    }

    pub reader_met : m2.0.busy ≡ v.busy
    reader_met = ap (λ (u : Mine K E Global). u.0.busy) shows

    pub reader_had : HadLane v m2.0
    reader_had = record {
      reads = ap (λ (u : Mine K E Global). u.0.reads) shows;
      writes = ap (λ (u : Mine K E Global). u.0.writes) shows;
    }

    pub reader_has : HasOneLane g.history g.maker m2 p.lane (Some a)
    reader_has = record {
      there = refl;
      shows = sym shown;
      opened = subst (λ (z : List E × List E). StartsWith z.0 z.1)
          (λ i. (sym shown i, sym (ap (λ (u : Mine K E Global). u.0.opening) shows) i)) full.4;
      legal = subst (IsLegal g.maker) (sym (ap (λ (u : Mine K E Global). u.0) now)) full.2;
      hand = ap (λ (u : Mine K E Global). u.1) shows ∙ ap (λ hs. (place l, None) ∷ hs) (p.idle not_shared).0;
      held = held;
      alone = λ i n. ap (λ (u : Mine K E Global). get_or u.0.held i 0) shows
          ∙ (get_or-set_other v.held l i w 0 n ∙ (p.idle not_shared).1 i);
      pinned = λ z. (let none = pin in omega (arith, z, none));
    }

    pub reader_keeps : (t : TableId) (count : ℕ) → t ≡ p.seat.table_id → count ≡ length seen
        → Keeping t m2 p.number p.lane count true
    reader_keeps t count same long = let at : l ≡ (l + 1) - 1 = omega arith in record {
      stands = (
        ap (λ (u : Mine K E Global). u.0.stands) shows ∙ p.stands.0,
        ap (λ (u : Mine K E Global). u.0.number) shows ∙ p.stands.1,
        ap (λ (u : Mine K E Global). u.0.others) shows ∙ p.stands.2,
      );
      sized = held_sized p m2 t same (ap (λ (u : Mine K E Global). length u.0.held) shows ∙ length-set v.held l w);
      has_seen = long ∙ ap length (sym shown);
      idle = λ e. absurd (false≢true (sym e));
      pinned = λ n. subst (λ (k : ℕ). get_or m2.0.held (k - 1) 0 ≢ 0) (sym pin)
          (subst (λ (k : ℕ). get_or m2.0.held k 0 ≢ 0) at held);
      guarded = λ e. held;
    }
