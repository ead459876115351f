-- What is appended after something else was.
use Rattle.std.proofs.Common.{◌≡◌, ℕ, ◌+◌, ◌<◌, List, [], ◌∷◌, ◌++◌, length, get_or, take, refl, sym, ap, ◌∙◌}
use Rattle.std.proofs.Common.{append_assoc, append-nil, subst}
use Rattle.std.proofs.lemmas.List.{take_more}
use Rattle.std.specs.List.{AllByRecursion}
use Rattle.journal_audit_bytes.specs.Head.{all_spelled}
use Rattle.journal_audit_writing.specs.Writing.{Keeps}

pub keeps_then : (a b c : List ℕ) → Keeps a b → Keeps b c → Keeps a c
keeps_then a b c p q =
    (p.0 ++ q.0, q.1 ∙ ap (λ (x : List ℕ). x ++ q.0) p.1 ∙ append_assoc a p.0 q.0)

pub then : (a b c x y : List ℕ) → b ≡ a ++ x → c ≡ b ++ y → c ≡ a ++ (x ++ y)
then a b c x y p q = q ∙ ap (λ (t : List ℕ). t ++ y) p ∙ append_assoc a x y

pub take_next : {X : Type 0} (xs : List X) (i : ℕ) (x : X) → i < length xs → x ≡ get_or xs i x
    → take (i + 1) xs ≡ take i xs ++ x ∷ []
take_next xs i x less is = rw is (take_more xs i x less)

pub all_spelled-append : {X : Type 0} (text : X → List ℕ) (xs ys : List X)
    → all_spelled text (xs ++ ys) ≡ all_spelled text xs ++ all_spelled text ys
all_spelled-append text [] ys = refl
all_spelled-append text (x ∷ xs) ys =
    ap (λ (t : List ℕ). text x ++ t) (all_spelled-append text xs ys)
    ∙ sym (append_assoc (text x) (all_spelled text xs) (all_spelled text ys))

pub All-append : {X : Type 0} (P : X → Type 0) (xs ys : List X) → AllByRecursion P xs → AllByRecursion P ys
    → AllByRecursion P (xs ++ ys)
All-append P [] ys p q = q
All-append P (x ∷ xs) ys p q = (p.0, All-append P xs ys p.1 q)

-- the next of a list was appended behind those before it
pub all_more : {X : Type 0} (text : X → List ℕ) (old now new : List ℕ) (xs : List X) (i : ℕ) (x : X) → i < length xs
    → x ≡ get_or xs i x → now ≡ old ++ all_spelled text (take i xs) → new ≡ now ++ text x
    → new ≡ old ++ all_spelled text (take (i + 1) xs)
all_more text old now new xs i x less is before after =
    let more : all_spelled text (take (i + 1) xs) ≡ all_spelled text (take i xs) ++ text x =
    ap (λ (ys : List _). all_spelled text ys) (take_next xs i x less is)
    ∙ all_spelled-append text (take i xs) (x ∷ [])
    ∙ ap (λ (t : List ℕ). all_spelled text (take i xs) ++ t) (append-nil (text x)) in
    then old now new (all_spelled text (take i xs)) (text x) before after
    ∙ ap (λ (t : List ℕ). old ++ t) (sym more)

pub All_more : {X : Type 0} (P : X → Type 0) (xs : List X) (i : ℕ) (x : X) → i < length xs → x ≡ get_or xs i x
    → AllByRecursion P (take i xs) → P x → AllByRecursion P (take (i + 1) xs)
All_more {X} P xs i x less is before holds =
    subst (λ (ys : List X). AllByRecursion P ys) (sym (take_next xs i x less is))
    (All-append P (take i xs) (x ∷ []) before (holds, tt))
