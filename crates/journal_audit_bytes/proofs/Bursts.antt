-- The bytes of an access, cut off as one slice.
use Rattle.std.proofs.Common.{◌≡◌, ℕ, zero, suc, ◌<◌, ◌≤◌, Bool, true, false, ltb, leb, ◌&&◌, List, [], ◌∷◌, length}
use Rattle.std.proofs.Common.{take, drop}
use Rattle.std.proofs.Common.{Option, Some, None, refl, sym, ap, ◌∙◌, arith, cond}
use Rattle.std.proofs.lemmas.Bool.{le-leb, le-ltb, leb-true}
use Rattle.iofd_words.specs.Settings.{is_between}
use Rattle.std.specs.Int.{byte_len, w8}
use Rattle.journal_audit_bytes.specs.Format.{burst}
use Rattle.journal_audit_bytes.specs.Reading.{◌>>=◌, elements_at, fields_at, list_at, number_at, singles}
use Rattle.journal_audit_bytes.proofs.Elements.{sizes_1, too_few}

one_more : (b : ℕ) (bytes : List ℕ) → number_at w8 (b ∷ bytes) ≡ Some (b, bytes)
one_more b bytes =
    let long : ltb (length (b ∷ bytes)) (byte_len w8) ≡ false = le-ltb _ _ (omega arith) in
    rw long refl

taken : (n : ℕ) (bytes : List ℕ) → n ≤ length bytes
    → elements_at n (w8 ∷ []) bytes ≡ Some (singles (take n bytes), drop n bytes)
taken zero bytes enough = refl
taken (suc n) [] enough = absurd (omega (arith, enough))
taken (suc n) (b ∷ bytes) enough =
    let one : fields_at (w8 ∷ []) (b ∷ bytes) ≡ Some (b ∷ [], bytes) =
    ap (λ (o : Option (ℕ × List ℕ)). o >>= λ x. fields_at [] x.1 >>= λ ns. Some (x.0 ∷ ns.0, ns.1))
    (one_more b bytes) in
    ap (λ (o : Option (List ℕ × List ℕ)). o >>= λ e. elements_at n (w8 ∷ []) e.1 >>= λ es. Some (e.0 ∷ es.0, es.1)) one
    ∙ ap (λ (o : Option (List (List ℕ) × List ℕ)). o >>= λ es. Some ((b ∷ []) ∷ es.0, es.1))
    (taken n bytes (omega (arith, enough)))

pub few : (n : ℕ) → 0 < n → n ≤ 64 → is_between 1 64 n ≡ true
few n some most = rw (le-leb 1 n (omega (arith, some)), le-leb n 64 most) refl

pub not_few : (n : ℕ) → ((0 < n) × (n ≤ 64) → false ≡ true) → is_between 1 64 n ≡ false
not_few n beyond_it = by_tests (leb 1 n) (leb n 64) refl refl
  where
    by_tests : (a b : Bool) → leb 1 n ≡ a → leb n 64 ≡ b → (leb 1 n && leb n 64) ≡ false
    by_tests true true least most =
        rw (least, most) (sym (beyond_it (omega (arith, leb-true 1 n least), leb-true n 64 most)))
    by_tests false b least most = rw least refl
    by_tests true false least most = rw (least, most) refl

behind : (bytes : List ℕ) (n : ℕ) (rest : List ℕ) → number_at w8 bytes ≡ Some (n, rest)
    → list_at burst bytes ≡ cond (is_between 1 64 n) (elements_at n (w8 ∷ []) rest) None
unfolding list_at
behind bytes n rest is = ap (λ (o : Option (ℕ × List ℕ)). o >>= λ n.
    cond (is_between 1 64 n.0) (elements_at n.0 (w8 ∷ []) n.1) None) is

pub no_number : (bytes : List ℕ) → number_at w8 bytes ≡ None → list_at burst bytes ≡ None
unfolding list_at
no_number bytes is = ap (λ (o : Option (ℕ × List ℕ)). o >>= λ n.
    cond (is_between 1 64 n.0) (elements_at n.0 (w8 ∷ []) n.1) None) is

pub cut : (bytes : List ℕ) (n : ℕ) (rest : List ℕ) → number_at w8 bytes ≡ Some (n, rest) → length rest < n
    → list_at burst bytes ≡ None
cut bytes n rest is few =
    let none : elements_at n (w8 ∷ []) rest ≡ None = too_few n (w8 ∷ []) rest (omega (arith, few, sizes_1 n)) in
    behind bytes n rest is ∙ either (is_between 1 64 n) (elements_at n (w8 ∷ []) rest) none
  where
    either : (test : Bool) (o : Option (List (List ℕ) × List ℕ)) → o ≡ None → cond test o None ≡ None
    either true o none = none
    either false o none = refl

pub whole : (bytes : List ℕ) (n : ℕ) (rest : List ℕ) → number_at w8 bytes ≡ Some (n, rest) → n ≤ length rest
    → is_between 1 64 n ≡ true → list_at burst bytes ≡ Some (singles (take n rest), drop n rest)
whole bytes n rest is enough fits =
    behind bytes n rest is ∙ ap (λ (test : Bool). cond test (elements_at n (w8 ∷ []) rest) None) fits
    ∙ taken n rest enough

pub beyond : (bytes : List ℕ) (n : ℕ) (rest : List ℕ) → number_at w8 bytes ≡ Some (n, rest)
    → is_between 1 64 n ≡ false → list_at burst bytes ≡ None
beyond bytes n rest is not =
    behind bytes n rest is ∙ ap (λ (test : Bool). cond test (elements_at n (w8 ∷ []) rest) None) not
