use Rattle.std.proofs.Common.{ℕ, ◌<◌, ◌≤◌, [], vec_capacity, refl, sym, ap, ◌∙◌, subst}
use Rattle.lane_lock.specs.Rule.{place, starting}
use Rattle.lane_lock.proofs.lock.LaneLock.new.Goals as goal

pub returns-in-Err-clause-refused : goal.returns-in-Err-clause-refused
returns-in-Err-clause-refused g c = c.in-Err.ensures.value_returned

pub returns-in_default-clause-refused : goal.returns-in_default-clause-refused
returns-in_default-clause-refused g c = c.in-Ok.ensures.ok

pub share_out-requires : goal.share_out-requires
share_out-requires g c = c.requires.lanes.0

pub returns-in_default-share_out-clause-refused : goal.returns-in_default-share_out-clause-refused
returns-in_default-share_out-clause-refused g c = c.in-Ok.ensures.ok

pub home_words-requires : goal.home_words-requires
home_words-requires g c = c.requires.lanes.1

pub open_table-requires : goal.open_table-requires
open_table-requires g c = let shares = c.in-Some.ensures in let passes = c.requires.passes in record {
  wide = c.home_words.ensures.0 ∙ ap place (sym c.from-2.ensures);
  deep = shares.count ∙ ap place (sym c.from-2.ensures);
  few = (
    subst (λ (n : ℕ). 0 < n) (sym c.from-2.ensures) c.requires.lanes.0,
    subst (λ (n : ℕ). n ≤ 1024) (sym c.from-3.ensures) passes.1,
  );
  some_pass = subst (λ (n : ℕ). 0 < n) (sym c.from-3.ensures) passes.0;
  blank = c.home_words.ensures.1;
  shares = λ k a e. ap g.K.Kept.history (shares.shares k a e ∙ sym (c.of.ensures ∙ c.deref.ensures));
  first = shares.filled;
}

pub invariant_of-lock : goal.invariant_of-lock
invariant_of-lock g c = let opened = c.in-Ok-open_table.ensures in
    let words = opened.0 ∙ c.home_words.ensures.0 in record {
      sized = (
        sym words,
        opened.1 ∙ (c.in-Some.ensures.count ∙ sym words),
        ap (λ s. s.lanes) opened.4 ∙ c.from-2.ensures,
      );
      counted = sym (ap (λ s. s.passes) opened.4 ∙ c.from-3.ensures);
      few = (c.requires.lanes.0, c.requires.lanes.1, c.requires.passes.0, c.requires.passes.1);
    }

pub deal_passes-dealt-requires-clause-seat : goal.deal_passes-dealt-requires-clause-seat
deal_passes-dealt-requires-clause-seat g c = let opened = c.in-Ok-open_table.ensures in
    (opened.2, opened.3 ∙ ap (λ s. (starting g.K.Kept.history s, [])) (sym opened.4))

pub deal_passes-dealt-requires-clause-room : goal.deal_passes-dealt-requires-clause-room
deal_passes-dealt-requires-clause-room g c = let made = c.in-Ok-with_capacity in (
  made.ensures.items,
  subst (λ (n : ℕ). n ≤ vec_capacity made.dealt) c.from.ensures made.ensures.capacity,
)

pub returns-in-Ok-open_table-clause-sizes : goal.returns-in-Ok-open_table-clause-sizes
returns-in-Ok-open_table-clause-sizes g c = (refl, refl)

pub returns-in-Ok-open_table-clause-opening : goal.returns-in-Ok-open_table-clause-opening
returns-in-Ok-open_table-clause-opening g c = ap (λ s. g.K.Kept.history s.value.value) c.in-Ok-open_table.ensures.4
    ∙ ap g.K.Kept.history (c.of.ensures ∙ (c.deref.ensures ∙ c.in-Ok.ensures.ok))

pub returns-in-Ok-open_table-clause-dealt : goal.returns-in-Ok-open_table-clause-dealt
returns-in-Ok-open_table-clause-dealt g c = c.deal_passes-dealt.ensures

pub returns-in-Err-open_table-clause-refused : goal.returns-in-Err-open_table-clause-refused
returns-in-Err-open_table-clause-refused g c = c.in-Ok.ensures.ok
