use Rattle.std.proofs.Common.{◌≡◌, true, refl, sym, ◌∙◌}
use Rattle.iofd_words.specs.Rights.{is_fixed}
use Rattle.event_map.proofs.placing.refusal.Goals as goal

pub returns-then-is_unusable : goal.returns-then-is_unusable
returns-then-is_unusable g c =
    let fixed : is_fixed c.args.request.flags ≡ true = sym c.is_fixed.ensures ∙ c.if-not-is_fixed.false in
    rw (fixed, sym (rw c.in_ok-span.ensures at c.is_unusable.ensures) ∙ c.if-is_unusable.true) refl

pub returns-then-meets : goal.returns-then-meets
returns-then-meets g c =
    let fixed : is_fixed c.args.request.flags ≡ true = sym c.is_fixed.ensures ∙ c.if-not-is_fixed.false in
    rw (
      fixed,
      c.requires.here,
      sym (rw c.in_ok-span.ensures at c.is_unusable.ensures) ∙ c.if-is_unusable.false,
      sym (rw c.in_ok-span.ensures at c.meets.ensures) ∙ c.if-meets.true,
    ) refl

pub returns-then-is_full-2 : goal.returns-then-is_full-2
returns-then-is_full-2 g c =
    let fixed : is_fixed c.args.request.flags ≡ true = sym c.is_fixed.ensures ∙ c.if-not-is_fixed.false in
    rw (
      fixed,
      c.requires.here,
      sym (rw c.in_ok-span.ensures at c.is_unusable.ensures) ∙ c.if-is_unusable.false,
      sym (rw c.in_ok-span.ensures at c.meets.ensures) ∙ c.if-meets.false,
      sym c.is_full-2.ensures ∙ c.if-is_full-2.true,
    ) refl

pub returns : goal.returns
returns g c =
    let fixed : is_fixed c.args.request.flags ≡ true = sym c.is_fixed.ensures ∙ c.if-not-is_fixed.false in
    rw (
      fixed,
      c.requires.here,
      sym (rw c.in_ok-span.ensures at c.is_unusable.ensures) ∙ c.if-is_unusable.false,
      sym (rw c.in_ok-span.ensures at c.meets.ensures) ∙ c.if-meets.false,
      sym c.is_full-2.ensures ∙ c.if-is_full-2.false,
    ) refl
