use Rattle.std.proofs.Common.{ℕ, ◌-◌, ◌≤◌, slice_get, sym, ap, ◌∙◌, subst}
use Rattle.iofd_words.specs.Files.{numbered}
use Rattle.iofd_words.proofs.Numbered.{looked_up, numbered_at, numbered_none}
use Rattle.iofd_words.proofs.config.Config.user_of.Goals as goal

pub returns-in_err-place : goal.returns-in_err-place
returns-in_err-place g c = c.from_residual.ensures
    ∙ sym (numbered_none c.args.self.now.files c.args.file.0
    (subst (λ (n : ℕ). 1 ≤ n → ⊥) c.from.ensures c.in_err-place.ensures))

pub returns : goal.returns
returns g c = let e = c.in_ok-place.ensures in let number = c.args.file.0 in
    c.copied.ensures ∙ (looked_up c.deref.result.now c.in_ok-place.place c.get.result c.get.ensures.lookup
    ∙ (ap (λ xs. slice_get xs c.in_ok-place.place) c.deref.ensures.value
    ∙ (ap (λ k. slice_get c.self.inside.files.items k) (e.1 ∙ ap (λ n. n - 1) c.from.ensures)
    ∙ (sym (numbered_at c.self.inside.files.items number (subst (λ (n : ℕ). 1 ≤ n) c.from.ensures e.0))
    ∙ ap (λ s. numbered s.files number) c.self.view_is))))
