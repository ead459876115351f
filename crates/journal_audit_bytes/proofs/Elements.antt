-- Lists of elements: read, written, and read one after the other, as a loop does.
use Rattle.std.proofs.Common.{◌≡◌, ℕ, zero, suc, ◌+◌, ◌-◌, ◌*◌, ◌/◌, ◌≤◌, ◌<◌, List, [], ◌∷◌, ◌++◌, length, drop, ltb}
use Rattle.std.proofs.Common.{Option, Result, Ok, Err, Some, None, refl, sym, ap, subst, ◌∙◌, append_assoc}
use Rattle.std.proofs.Common.{Bool, IsErrAnd, append-nil, arith, cond}
use Rattle.std.proofs.lemmas.Bool.{le-ltb, ltb-false}
use Rattle.std.proofs.lemmas.List.{length-drop}
use Rattle.std.specs.Int.{Width, w32, w64, byte_len, from_le_bytes}
use Rattle.std.proofs.Common.{take}
use Rattle.journal_audit_bytes.specs.Format.{ElementsFit, elements_spelled, spelled}
use Rattle.journal_audit_bytes.specs.declared.spelled.ReadError.{ReadError}
use Rattle.journal_audit_bytes.specs.declared.spelled.ReadError.TheVariants.{Memory, Torn}
use Rattle.journal_audit_bytes.specs.Reading.{◌>>=◌, Fails, Gives, IfMemory, OnMemory, elements_at, fields_at}
use Rattle.journal_audit_bytes.specs.Reading.{number_at}
use Rattle.journal_audit_bytes.proofs.Fields.{AreWide, IsBytes, Takes, Takes-then, bind_some, fields_again}
use Rattle.journal_audit_bytes.proofs.Fields.{fields_take, guard_none, some_is}

pub elements_take : (n : ℕ) (ws : List Width) → AreWide ws → (bytes : List ℕ) (x : List (List ℕ) × List ℕ)
    → IsBytes bytes → elements_at n ws bytes ≡ Some x
    → Takes bytes (elements_spelled ws x.0) x.1 × (ElementsFit ws x.0 × (n ≡ length x.0))
elements_take zero ws wide bytes x fits is =
    subst (λ (y : List (List ℕ) × List ℕ). Takes bytes (elements_spelled ws y.0) y.1
    × (ElementsFit ws y.0 × (0 ≡ length y.0))) (some_is ([], bytes) x is)
    (record { parts = refl; rest_fits = fits }, (tt, refl))
elements_take (suc n) ws wide bytes x fits is =
    let a = bind_some (fields_at ws bytes) (λ e. elements_at n ws e.1 >>= λ es. Some (e.0 ∷ es.0, es.1)) x is in
    let b = bind_some (elements_at n ws a.0.1) (λ es. Some (a.0.0 ∷ es.0, es.1)) x a.2 in
    let first = fields_take ws wide bytes a.0 fits a.1 in
    let others = elements_take n ws wide a.0.1 b.0 first.0.rest_fits b.1 in
    let made : List (List ℕ) × List ℕ = (a.0.0 ∷ b.0.0, b.0.1) in
    subst (λ (y : List (List ℕ) × List ℕ). Takes bytes (elements_spelled ws y.0) y.1
    × (ElementsFit ws y.0 × (suc n ≡ length y.0))) (some_is made x b.2) (
      Takes-then bytes (spelled ws a.0.0) a.0.1 (elements_spelled ws b.0.0) b.0.1 first.0 others.0,
      ((first.1, others.1.0), ap suc others.1.1),
    )

pub elements_again : (ws : List Width) → AreWide ws → (es : List (List ℕ)) (rest : List ℕ) → ElementsFit ws es
    → elements_at (length es) ws (elements_spelled ws es ++ rest) ≡ Some (es, rest)
elements_again ws wide [] rest fits = refl
elements_again ws wide (e ∷ es) rest fits =
    ap (λ (bytes : List ℕ). elements_at (suc (length es)) ws bytes)
    (append_assoc (spelled ws e) (elements_spelled ws es) rest)
    ∙ ap (λ (o : Option (List ℕ × List ℕ)). o >>= λ e. elements_at (length es) ws e.1
    >>= λ es. Some (e.0 ∷ es.0, es.1)) (fields_again ws wide e (elements_spelled ws es ++ rest) fits.0)
    ∙ ap (λ (o : Option (List (List ℕ) × List ℕ)). o >>= λ es. Some (e ∷ es.0, es.1))
    (elements_again ws wide es rest fits.1)

-- ---- how many bytes they need

abbrev pub size_of : List Width → ℕ
size_of [] = 0
size_of (w ∷ ws) = byte_len w + size_of ws

pub number_left : (w : Width) (bytes : List ℕ) (x : ℕ × List ℕ) → number_at w bytes ≡ Some x
    → length x.1 + byte_len w ≡ length bytes
number_left w bytes x is =
    let g = guard_none (ltb (length bytes) (byte_len w))
    (from_le_bytes w (take (byte_len w) bytes), drop (byte_len w) bytes) x is in
    let long : byte_len w ≤ length bytes = ltb-false _ _ g.0 in
    let rest : drop (byte_len w) bytes ≡ x.1 = ap (λ (p : ℕ × List ℕ). p.1) g.1 in
    omega (arith, long, length-drop (byte_len w) bytes, ap length rest)

fields_left : (ws : List Width) (bytes : List ℕ) (x : List ℕ × List ℕ) → fields_at ws bytes ≡ Some x
    → length x.1 + size_of ws ≡ length bytes
fields_left [] bytes x is = ap (λ (y : List ℕ × List ℕ). length y.1 + 0) (sym (some_is ([], bytes) x is))
    ∙ omega arith
fields_left (w ∷ ws) bytes x is =
    let a = bind_some (number_at w bytes) (λ n. fields_at ws n.1 >>= λ ns. Some (n.0 ∷ ns.0, ns.1)) x is in
    let b = bind_some (fields_at ws a.0.1) (λ ns. Some (a.0.0 ∷ ns.0, ns.1)) x a.2 in
    let same : b.0.1 ≡ x.1 = ap (λ (y : List ℕ × List ℕ). y.1) (some_is (a.0.0 ∷ b.0.0, b.0.1) x b.2) in
    omega (arith, number_left w bytes a.0 a.1, fields_left ws a.0.1 b.0 b.1, ap length same)

abbrev pub sizes : ℕ → ℕ → ℕ
sizes zero size = 0
sizes (suc n) size = size + sizes n size

elements_left : (n : ℕ) (ws : List Width) (bytes : List ℕ) (x : List (List ℕ) × List ℕ)
    → elements_at n ws bytes ≡ Some x → length x.1 + sizes n (size_of ws) ≡ length bytes
elements_left zero ws bytes x is =
    ap (λ (y : List (List ℕ) × List ℕ). length y.1 + 0) (sym (some_is ([], bytes) x is)) ∙ omega arith
elements_left (suc n) ws bytes x is =
    let a = bind_some (fields_at ws bytes) (λ e. elements_at n ws e.1 >>= λ es. Some (e.0 ∷ es.0, es.1)) x is in
    let b = bind_some (elements_at n ws a.0.1) (λ es. Some (a.0.0 ∷ es.0, es.1)) x a.2 in
    let same : b.0.1 ≡ x.1 = ap (λ (y : List (List ℕ) × List ℕ). y.1) (some_is (a.0.0 ∷ b.0.0, b.0.1) x b.2) in
    omega (arith, fields_left ws bytes a.0 a.1, elements_left n ws a.0.1 b.0 b.1, ap length same)

pub too_few : (n : ℕ) (ws : List Width) (bytes : List ℕ) → length bytes < sizes n (size_of ws)
    → elements_at n ws bytes ≡ None
too_few n ws bytes few = by_case (elements_at n ws bytes) refl
  where
    by_case : (o : Option (List (List ℕ) × List ℕ)) → elements_at n ws bytes ≡ o → o ≡ None
    by_case None is = refl
    by_case (Some x) is = absurd (omega (arith, few, elements_left n ws bytes x is))

-- as many bytes as a number has are one
pub number_enough : (w : Width) (bytes : List ℕ) → byte_len w ≤ length bytes
    → (x : ℕ × List ℕ) × (number_at w bytes ≡ Some x) × (length x.1 + byte_len w ≡ length bytes)
number_enough w bytes long =
    let x : ℕ × List ℕ = (from_le_bytes w (take (byte_len w) bytes), drop (byte_len w) bytes) in
    let is : number_at w bytes ≡ Some x =
    ap (λ (few : Bool). (let o : Option (ℕ × List ℕ) = cond few None (Some x) in o)) (le-ltb _ _ long) in
    (x, is, number_left w bytes x is)

fields_enough : (ws : List Width) (bytes : List ℕ) → size_of ws ≤ length bytes
    → (x : List ℕ × List ℕ) × (fields_at ws bytes ≡ Some x)
fields_enough [] bytes long = (([], bytes), refl)
fields_enough (w ∷ ws) bytes long =
    let a = number_enough w bytes (omega (arith, long)) in
    let b = fields_enough ws a.0.1 (omega (arith, long, a.2)) in (
      (a.0.0 ∷ b.0.0, b.0.1),
      ap (λ (o : Option (ℕ × List ℕ)). o >>= λ n. fields_at ws n.1 >>= λ ns. Some (n.0 ∷ ns.0, ns.1)) a.1
          ∙ ap (λ (o : Option (List ℕ × List ℕ)). o >>= λ ns. Some (a.0.0 ∷ ns.0, ns.1)) b.1,
    )

pub elements_enough : (n : ℕ) (ws : List Width) (bytes : List ℕ) → sizes n (size_of ws) ≤ length bytes
    → (x : List (List ℕ) × List ℕ) × (elements_at n ws bytes ≡ Some x) × (length x.0 ≡ n)
elements_enough zero ws bytes long = (([], bytes), refl, refl)
elements_enough (suc n) ws bytes long =
    let a = fields_enough ws bytes (omega (arith, long)) in
    let b = elements_enough n ws a.0.1 (omega (arith, long, fields_left ws bytes a.0 a.1)) in (
      (a.0.0 ∷ b.0.0, b.0.1),
      ap (λ (o : Option (List ℕ × List ℕ)). o >>= λ e. elements_at n ws e.1 >>= λ es. Some (e.0 ∷ es.0, es.1)) a.1
          ∙ ap (λ (o : Option (List (List ℕ) × List ℕ)). o >>= λ es. Some (a.0.0 ∷ es.0, es.1)) b.1,
      ap suc b.2,
    )

pub sizes_1 : (n : ℕ) → sizes n 1 ≡ n
sizes_1 zero = refl
sizes_1 (suc n) = omega (arith, sizes_1 n)

pub sizes_4 : (n : ℕ) → sizes n 4 ≡ 4 * n
sizes_4 zero = refl
sizes_4 (suc n) = omega (arith, sizes_4 n)

pub sizes_16 : (n : ℕ) → sizes n 16 ≡ 16 * n
sizes_16 zero = refl
sizes_16 (suc n) = omega (arith, sizes_16 n)

-- the bytes are too few for so many of them
pub too_few_frames : (n : ℕ) (bytes : List ℕ) → length bytes / 4 < n → elements_at n (w32 ∷ []) bytes ≡ None
too_few_frames n bytes few = too_few n (w32 ∷ []) bytes (omega (arith, few, sizes_4 n))

pub too_few_entries : (n : ℕ) (bytes : List ℕ) → length bytes / 16 < n
    → elements_at n (w64 ∷ w64 ∷ []) bytes ≡ None
too_few_entries n bytes few = too_few n (w64 ∷ w64 ∷ []) bytes (omega (arith, few, sizes_16 n))

-- ---- a loop

-- what was read before, and what is still read
abbrev pub with_front : List (List ℕ) → Option (List (List ℕ) × List ℕ) → Option (List (List ℕ) × List ℕ)
with_front front read = read >>= λ x. Some (front ++ x.0, x.1)

regroup : (front : List (List ℕ)) (e : List ℕ) (read : Option (List (List ℕ) × List ℕ))
    → with_front front (read >>= λ x. Some (e ∷ x.0, x.1)) ≡ with_front (front ++ e ∷ []) read
regroup front e (Some x) = ap (λ (es : List (List ℕ)). Some (es, x.1)) (simp append_assoc)
regroup front e None = refl

pub goes_on : (ws : List Width) (front : List (List ℕ)) (count i : ℕ) (bytes : List ℕ) (e : List ℕ) (after : List ℕ)
    (total : Option (List (List ℕ) × List ℕ)) → i < count → fields_at ws bytes ≡ Some (e, after)
    → with_front front (elements_at (count - i) ws bytes) ≡ total
    → with_front (front ++ e ∷ []) (elements_at (count - (i + 1)) ws after) ≡ total
goes_on ws front count i bytes e after total less is before =
    let k : count - i ≡ suc (count - (i + 1)) = omega arith in
    let one : with_front front (elements_at (count - i) ws bytes)
    ≡ with_front (front ++ e ∷ []) (elements_at (count - (i + 1)) ws after) =
    ap (λ (m : ℕ). with_front front (elements_at m ws bytes)) k
    ∙ ap (λ (o : Option (List ℕ × List ℕ)). with_front front (o >>= λ x. elements_at (count - (i + 1)) ws x.1
    >>= λ es. Some (x.0 ∷ es.0, es.1))) is
    ∙ regroup front e (elements_at (count - (i + 1)) ws after) in
    sym one ∙ before

pub ends : (ws : List Width) (front : List (List ℕ)) (count i : ℕ) (bytes : List ℕ)
    (total : Option (List (List ℕ) × List ℕ)) → i < count → fields_at ws bytes ≡ None
    → with_front front (elements_at (count - i) ws bytes) ≡ total → total ≡ None
ends ws front count i bytes total less is before =
    let k : count - i ≡ suc (count - (i + 1)) = omega arith in
    sym before
    ∙ ap (λ (m : ℕ). with_front front (elements_at m ws bytes)) k
    ∙ ap (λ (o : Option (List ℕ × List ℕ)). with_front front (o >>= λ x. elements_at (count - (i + 1)) ws x.1
    >>= λ es. Some (x.0 ∷ es.0, es.1))) is

-- none need no memory
pub some_elements : (n : ℕ) → (n ≡ 0 → ⊥) → 0 < n
some_elements zero none = absurd (none refl)
some_elements (suc n) none = omega arith

pub is_done : (ws : List Width) (front : List (List ℕ)) (count i : ℕ) (bytes : List ℕ)
    (total : Option (List (List ℕ) × List ℕ)) → count ≤ i
    → with_front front (elements_at (count - i) ws bytes) ≡ total → total ≡ Some (front, bytes)
is_done ws front count i bytes total past before =
    let k : count - i ≡ 0 = omega arith in
    sym before
    ∙ ap (λ (m : ℕ). with_front front (elements_at m ws bytes)) k
    ∙ ap (λ (es : List (List ℕ)). Some (es, bytes)) (append-nil front)

pub on_memory : {X : Type 0} {P : Type 0} (r : Result X ReadError) → P → OnMemory r P
on_memory (Ok x) holds = tt
on_memory (Err Torn) holds = tt
on_memory (Err Memory) holds = holds

-- an error of this kind is handed on
pub passed_on : {X Y : Type 0} (view : X → Y) (r : Result X ReadError) (e : ReadError) (read : Option Y)
    → IsErrAnd r (λ y. y ≡ e) → Fails e read → Gives view r read
passed_on view (Ok x) e read is fails = absurd is
passed_on view (Err y) e read is fails = subst (λ (x : ReadError). Fails x read) {x = e} {y = y} (sym is) fails

-- memory was refused
pub memory_ends : {X Y : Type 0} (view : X → Y) (r : Result X ReadError) (read : Option Y)
    → IsErrAnd r (λ y. y ≡ Memory) → Gives view r read
memory_ends view r read is = passed_on view r Memory read is tt

-- an error of this kind is handed on, and so is what holds where memory was refused
pub memory_passed : {X : Type 0} {P Q : Type 0} (r : Result X ReadError) (e : ReadError)
    → IsErrAnd r (λ y. y ≡ e) → IfMemory e P → (P → Q) → OnMemory r Q
memory_passed (Ok x) e is holds then = tt
memory_passed (Err Torn) e is holds then = tt
memory_passed {X} {P} {Q} (Err Memory) e is holds then =
    then (subst (λ (x : ReadError). IfMemory x P) {x = e} {y = Memory} (sym is) holds)

pub memory_more : {X : Type 0} {P Q : Type 0} (r : Result X ReadError) → OnMemory r P → (P → Q) → OnMemory r Q
memory_more (Ok x) holds then = tt
memory_more (Err Torn) holds then = tt
memory_more (Err Memory) holds then = then holds
