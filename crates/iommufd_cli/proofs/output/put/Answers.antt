use Rattle.std.proofs.Common.{◌≡◌, ℕ, ◌-◌, List, ◌++◌, length, take, drop, sym, ap, ◌∙◌, append_assoc, take-append-drop}
use Rattle.std.proofs.lemmas.List.{take_rest}
use Rattle.std.proofs.KnownBytes.{Appends-trans}
use Rattle.iommufd_cli.proofs.output.put.Goals as goal

moves_front : (all done rest : List ℕ) (n : ℕ) → all ≡ done ++ rest
    → all ≡ (done ++ take n rest) ++ take (length rest - n) (drop n rest)
moves_front all done rest n e =
    e ∙ ap (λ l. done ++ l) (sym (take-append-drop n rest)) ∙ sym (append_assoc done (take n rest) (drop n rest))
    ∙ ap (λ l. (done ++ take n rest) ++ l) (sym (take_rest rest n))

pub loop-rest-preserved : goal.loop-rest-preserved
loop-rest-preserved g c =
    let (done, split, written) = c.loop-rest.invariant in
    let rest = c.loop-rest.rest.now in
    let n = c.in_ok-count.count in
    (done ++ take n rest, moves_front _ done rest n split, Appends-trans _ _ _ _ _ written c.in_ok-count.ensures.ok)
