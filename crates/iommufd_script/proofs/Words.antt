-- A word of a step is none of the head.
use Rattle.std.proofs.Common.{◌≡◌, ℕ, Bool, true, false, cond, List, ◌∷◌, codes, Option, Some, None, refl}
use Rattle.std.proofs.Common.{sym, ap, ◌∙◌}
use Rattle.std.proofs.lemmas.Slice.Eq.{bytes_eq-Decides}
use Rattle.std.specs.Str.{bytes_eq}
use Rattle.iommufd_script.specs.Grammar.{head_keyword, step_keyword}
use Rattle.iommufd_script.specs.Lines.{head_or_step, step_line, worded}
use Rattle.iommufd_script.specs.declared.keyword.HeadKeyword.{HeadKeyword}
use Rattle.iommufd_script.specs.declared.keyword.HeadKeyword.TheVariants as head
use Rattle.iommufd_script.specs.declared.keyword.StepKeyword.{StepKeyword}

-- a word that isn't this one leaves the others
passed : (same : Bool) (x : HeadKeyword) (others : Option HeadKeyword) (o : Option StepKeyword) (k : StepKeyword)
    → o ≡ None → (same ≡ true → o ≡ Some k) → others ≡ None → cond same (Some x) others ≡ None
passed true x others o k none some e = let found = sym none ∙ some refl in absurd cc
passed false x others o k none some e = e

-- a word of the head that is no step's
another : (word name : List ℕ) (k : StepKeyword) → step_keyword word ≡ Some k → bytes_eq word name ≡ true
    → step_keyword name ≡ Some k
another word name k is same = ap step_keyword (sym ((bytes_eq-Decides word name).0 same)) ∙ is

no_heading : (word : List ℕ) (k : StepKeyword) → step_keyword word ≡ Some k → head_keyword word ≡ None
no_heading word k is =
    passed (bytes_eq word (codes "pool")) head.Pool _ _ k refl (another word (codes "pool") k is)
    (passed (bytes_eq word (codes "user")) head.User _ _ k refl (another word (codes "user") k is)
    (passed (bytes_eq word (codes "file")) head.File _ _ k refl (another word (codes "file") k is)
    (passed (bytes_eq word (codes "device")) head.Device _ _ k refl (another word (codes "device") k is)
    (passed (bytes_eq word (codes "begin")) head.Begin _ _ k refl (another word (codes "begin") k is) refl))))

-- so a line that begins with it is a step
pub step_is_worded : (word : List ℕ) (texts : List (List ℕ)) (k : StepKeyword) → step_keyword word ≡ Some k
    → worded (word ∷ texts) ≡ step_line (Some k) texts
step_is_worded word texts k is =
    ap (λ (o : Option HeadKeyword). head_or_step word o texts) (no_heading word k is)
    ∙ ap (λ (o : Option StepKeyword). step_line o texts) is
