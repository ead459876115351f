-- Where leaving areas lie.
use Rattle.std.proofs.Common.{◌≡◌, ℕ, ◌≤◌, min, max, Bool, true, false, cond, ltb, Option, Some, None, List, [], ◌∷◌}
use Rattle.std.proofs.Common.{map, refl, sym, ap, ◌∙◌, arith, ⊎_elim}
use Rattle.std.specs.List.{filter, fold}
use Rattle.std.proofs.lemmas.Bool.{cases_Bool}
use Rattle.std.proofs.lemmas.Bool.Decides.{nat_tests}
use Rattle.iofd_words.specs.Bounds.{Bounds}
use Rattle.iofd_words.specs.Span.{lies_in}
use Rattle.iofd_words.specs.declared.numbers.DeviceNo.{DeviceNo}
use Rattle.iofd_words.specs.declared.rows.Area.{Area}
use Rattle.iofd_words.specs.declared.rows.Phase.{Phase}
use Rattle.iofd_words.specs.declared.rows.Phase.TheVariants.{Live, Leaving}
use Rattle.iofd_words.specs.Areas.{leaving, paid, with_tries}
use Rattle.area_map_rows.specs.Areas.{areas_outside, areas_within, marked, without_debt, tried, with_area}
use Rattle.area_map_rows.specs.Rows.{is_leaving, LeavesIn, LeaveIn}
use Rattle.area_map.specs.Kept.{joined, leaving_span, with_leaving}

-- a span that holds another has what lies in that
lies_wider : (inner hull outer : Bounds) → outer.first ≤ hull.first → hull.last ≤ outer.last → lies_in inner hull ≡ true
    → lies_in inner outer ≡ true
lies_wider inner hull outer first last lies = grind (arith, nat_tests)

pub leaves-joined : (hull : Option Bounds) (span : Bounds) (a : Area) → LeavesIn hull a → LeavesIn (joined hull span) a
leaves-joined None span a leaves = λ is. cc
leaves-joined (Some hull) span a leaves =
    λ is. lies_wider a.span hull (record { first = min hull.first span.first; last = max hull.last span.last })
    (omega arith) (omega arith) (leaves is)

lies-joined : (hull : Option Bounds) (span : Bounds) (a : Area) → lies_in a.span span ≡ true
    → LeavesIn (joined hull span) a
lies-joined None span a lies = λ is. lies
lies-joined (Some hull) span a lies = λ is. lies_wider a.span span (record {
  first = min hull.first span.first;
  last = max hull.last span.last;
}) (omega arith) (omega arith) lies

-- ---- the span holds all leaving areas

leaves_more : (hull : Option Bounds) (a b : Area) → LeavesIn hull a → LeavesIn (with_leaving hull b) a
leaves_more hull a b leaves = by_test (is_leaving b.phase)
  where
    by_test : (p : Bool) → LeavesIn (cond p (joined hull b.span) hull) a
    by_test true = leaves-joined hull b.span a leaves
    by_test false = leaves

leaves_itself : (hull : Option Bounds) (a : Area) → LeavesIn (with_leaving hull a) a
leaves_itself hull a =
    ⊎_elim
    (λ (is : is_leaving a.phase ≡ true). rw is (lies-joined hull a.span a (lies_itself a.span)))
    (λ (live : is_leaving a.phase ≡ false). rw live (never hull live))
    (cases_Bool (is_leaving a.phase))
  where
    lies_itself : (span : Bounds) → lies_in span span ≡ true
    lies_itself span = grind (arith, nat_tests)

    never : (hull : Option Bounds) → is_leaving a.phase ≡ false → LeavesIn hull a
    never None live = live
    never (Some span) live = λ is. cc

leaves_all : (xs : List Area) (hull : Option Bounds) (a : Area) → LeavesIn hull a
    → LeavesIn (fold with_leaving hull xs) a
leaves_all [] hull a leaves = leaves
leaves_all (x ∷ xs) hull a leaves = leaves_all xs (with_leaving hull x) a (leaves_more hull a x leaves)

leave_all : (xs : List Area) (hull : Option Bounds) → LeaveIn (fold with_leaving hull xs) xs
leave_all [] hull = tt
leave_all (x ∷ xs) hull =
    (leaves_all xs (with_leaving hull x) x (leaves_itself hull x), leave_all xs (with_leaving hull x))

pub leave_in : (hull : Option Bounds) (xs : List Area) → hull ≡ leaving_span xs → LeaveIn hull xs
leave_in hull xs is = rw is (leave_all xs None)

-- ---- in whichever order they are joined

bounds_eq : (a b c d : ℕ) → a ≡ c → b ≡ d
    → ◌≡◌ {A = Option Bounds} (Some (record { first = a; last = b })) (Some (record { first = c; last = d }))
bounds_eq a b c d first last = λ i. Some (record { first = first i; last = last i })

joined_twice : (hull : Option Bounds) (s : Bounds) → joined (joined hull s) s ≡ joined hull s
joined_twice None s = bounds_eq (min s.first s.first) (max s.last s.last) s.first s.last (omega arith) (omega arith)
joined_twice (Some h) s =
    bounds_eq (min (min h.first s.first) s.first) (max (max h.last s.last) s.last) (min h.first s.first)
    (max h.last s.last) (omega arith) (omega arith)

joined_swap : (hull : Option Bounds) (s t : Bounds) → joined (joined hull s) t ≡ joined (joined hull t) s
joined_swap None s t =
    bounds_eq (min s.first t.first) (max s.last t.last) (min t.first s.first) (max t.last s.last) (omega arith)
    (omega arith)
joined_swap (Some h) s t =
    bounds_eq (min (min h.first s.first) t.first) (max (max h.last s.last) t.last)
    (min (min h.first t.first) s.first) (max (max h.last t.last) s.last) (omega arith) (omega arith)

with_swap : (hull : Option Bounds) (a b : Area)
    → with_leaving (with_leaving hull a) b ≡ with_leaving (with_leaving hull b) a
with_swap hull a b = by_tests (is_leaving a.phase) (is_leaving b.phase)
  where
    by_tests : (p q : Bool)
        → cond q (joined (cond p (joined hull a.span) hull) b.span) (cond p (joined hull a.span) hull)
        ≡ cond p (joined (cond q (joined hull b.span) hull) a.span) (cond q (joined hull b.span) hull)
    by_tests true true = joined_swap hull a.span b.span
    by_tests true false = refl
    by_tests false true = refl
    by_tests false false = refl

fold_with : (xs : List Area) (hull : Option Bounds) (a : Area)
    → fold with_leaving (with_leaving hull a) xs ≡ with_leaving (fold with_leaving hull xs) a
fold_with [] hull a = refl
fold_with (x ∷ xs) hull a =
    ap (λ (h : Option Bounds). fold with_leaving h xs) (with_swap hull a x) ∙ fold_with xs (with_leaving hull x) a

-- one more area, wherever it comes
span_more : (xs : List Area) (hull : Option Bounds) (a : Area)
    → fold with_leaving hull (with_area a xs) ≡ with_leaving (fold with_leaving hull xs) a
span_more [] hull a = refl
span_more (x ∷ xs) hull a =
    ⊎_elim (λ (before : ltb a.span.first x.span.first ≡ true). rw before (fold_with (x ∷ xs) hull a))
    (λ (behind : ltb a.span.first x.span.first ≡ false). rw behind (span_more xs (with_leaving hull x) a))
    (cases_Bool (ltb a.span.first x.span.first))

pub span_with : (a : Area) (xs : List Area) (hull : Option Bounds) → hull ≡ leaving_span xs
    → with_leaving hull a ≡ leaving_span (with_area a xs)
span_with a xs hull is = ap (λ (h : Option Bounds). with_leaving h a) is ∙ sym (span_more xs None a)

-- ---- where as many leave, in the same spans

with_same : (hull : Option Bounds) (a b : Area) → b.span ≡ a.span → is_leaving b.phase ≡ is_leaving a.phase
    → with_leaving hull b ≡ with_leaving hull a
with_same hull a b span phase = rw (phase, span) refl

span_map : (f : Area → Area) → ((a : Area) → (f a).span ≡ a.span)
    → ((a : Area) → is_leaving (f a).phase ≡ is_leaving a.phase) → (xs : List Area) (hull : Option Bounds)
    → fold with_leaving hull (map f xs) ≡ fold with_leaving hull xs
span_map f span phase [] hull = refl
span_map f span phase (x ∷ xs) hull =
    ap (λ (h : Option Bounds). fold with_leaving h (map f xs)) (with_same hull x (f x) (span x) (phase x))
    ∙ span_map f span phase xs (with_leaving hull x)

paid_leaves : (device : DeviceNo) (phase : Phase) → is_leaving (paid device phase) ≡ is_leaving phase
paid_leaves device Live = refl
paid_leaves device (Leaving owed tries) = refl

pub span_paid : (device : DeviceNo) (hull : Option Bounds) (xs : List Area) → hull ≡ leaving_span xs
    → hull ≡ leaving_span (map (without_debt device) xs)
span_paid device hull xs is =
    is ∙ sym (span_map (without_debt device) (λ a. refl) (λ a. paid_leaves device a.phase) xs None)

tried_leaves : (tries : ℕ) (phase : Phase) → is_leaving (with_tries tries phase) ≡ is_leaving phase
tried_leaves tries Live = refl
tried_leaves tries (Leaving owed old) = refl

tried_area : (span : Bounds) (tries : ℕ) (a : Area) → is_leaving (tried span tries a).phase ≡ is_leaving a.phase
tried_area span tries a =
    ⊎_elim (λ (inside : lies_in a.span span ≡ true). rw inside (tried_leaves tries a.phase))
    (λ (outside : lies_in a.span span ≡ false). rw outside refl)
    (cases_Bool (lies_in a.span span))

pub span_tried : (span : Bounds) (tries : ℕ) (hull : Option Bounds) (xs : List Area) → hull ≡ leaving_span xs
    → hull ≡ leaving_span (map (tried span tries) xs)
span_tried span tries hull xs is =
    is ∙ sym (span_map (tried span tries) (λ a. refl) (λ a. tried_area span tries a) xs None)

-- ---- those of a span leave

leaving_leaves : (owed : List ℕ) (phase : Phase) → is_leaving (leaving owed phase) ≡ true
leaving_leaves owed Live = refl
leaving_leaves owed (Leaving old tries) = refl

-- one that may leave already, and leaves now
with_again : (hull : Option Bounds) (a b : Area) → b.span ≡ a.span → is_leaving b.phase ≡ true
    → with_leaving (with_leaving hull a) b ≡ with_leaving hull b
with_again hull a b span leaves = rw (leaves, span) (by_test (is_leaving a.phase))
  where
    by_test : (p : Bool) → joined (cond p (joined hull a.span) hull) a.span ≡ joined hull a.span
    by_test true = joined_twice hull a.span
    by_test false = refl

span_left : (span : Bounds) (owed : List ℕ) (xs : List Area) (hull : Option Bounds)
    → fold with_leaving (fold with_leaving hull xs) (areas_within span (map (marked span owed) xs))
    ≡ fold with_leaving hull (map (marked span owed) xs)
span_left span owed [] hull = refl
span_left span owed (x ∷ xs) hull =
    ⊎_elim
    (λ (inside : lies_in x.span span ≡ true).
    let leaves : is_leaving (marked span owed x).phase ≡ true = rw inside (leaving_leaves owed x.phase) in
    let again = with_again hull x (marked span owed x) refl leaves in
    let first = sym (fold_with xs (with_leaving hull x) (marked span owed x))
    ∙ ap (λ (h : Option Bounds). fold with_leaving h xs) again in
    let rest = span_left span owed xs (with_leaving hull (marked span owed x)) in
    let front = within_first span (marked span owed x) (map (marked span owed) xs) inside in
    ap (fold with_leaving (fold with_leaving hull (x ∷ xs))) front
    ∙ ap (λ (h : Option Bounds). fold with_leaving h (areas_within span (map (marked span owed) xs))) first
    ∙ rest)
    (λ (outside : lies_in x.span span ≡ false).
    let phase : is_leaving (marked span owed x).phase ≡ is_leaving x.phase = rw outside refl in
    let same = with_same hull x (marked span owed x) refl phase in
    let front = within_not_first span (marked span owed x) (map (marked span owed) xs) outside in
    ap (fold with_leaving (fold with_leaving hull (x ∷ xs))) front
    ∙ span_left span owed xs (with_leaving hull x)
    ∙ ap (λ (h : Option Bounds). fold with_leaving h (map (marked span owed) xs)) (sym same))
    (cases_Bool (lies_in x.span span))
  where
    within_first : (span : Bounds) (y : Area) (ys : List Area) → lies_in y.span span ≡ true
        → areas_within span (y ∷ ys) ≡ y ∷ areas_within span ys
    within_first span y ys inside = rw inside refl

    within_not_first : (span : Bounds) (y : Area) (ys : List Area) → lies_in y.span span ≡ false
        → areas_within span (y ∷ ys) ≡ areas_within span ys
    within_not_first span y ys outside = rw outside refl

pub span_marked : (span : Bounds) (owed : List ℕ) (hull : Option Bounds) (xs : List Area) → hull ≡ leaving_span xs
    → fold with_leaving hull (areas_within span (map (marked span owed) xs))
    ≡ leaving_span (map (marked span owed) xs)
span_marked span owed hull xs is =
    ap (λ (h : Option Bounds). fold with_leaving h (areas_within span (map (marked span owed) xs))) is
    ∙ span_left span owed xs None

-- ---- some go

pub leave-filter : (p : Area → Bool) (hull : Option Bounds) (xs : List Area) → LeaveIn hull xs
    → LeaveIn hull (filter p xs)
leave-filter p hull [] leave = tt
leave-filter p hull (x ∷ xs) leave =
    ⊎_elim (λ (passes : p x ≡ true). rw passes (leave.0, leave-filter p hull xs leave.1))
    (λ (fails : p x ≡ false). rw fails (leave-filter p hull xs leave.1)) (cases_Bool (p x))

live_from : (a : Area) → (is_leaving a.phase ≡ true → ⊥) → is_leaving a.phase ≡ false
live_from a never = ⊎_elim (λ (is : is_leaving a.phase ≡ true). absurd (never is))
    (λ (is : is_leaving a.phase ≡ false). is) (cases_Bool (is_leaving a.phase))

-- without the areas of a span that holds theirs, none is leaving
pub leave-gone : (hull span : Bounds) (xs : List Area) → lies_in hull span ≡ true → LeaveIn (Some hull) xs
    → LeaveIn None (areas_outside span xs)
leave-gone hull span [] inside leave = tt
leave-gone hull span (x ∷ xs) inside leave =
    let rest = leave-gone hull span xs inside leave.1 in
    ⊎_elim
    (λ (lies : lies_in x.span span ≡ true). rw lies rest)
    (λ (outside : lies_in x.span span ≡ false).
    let live = live_from x (λ is. let lies : lies_in x.span hull ≡ true = leave.0 is in grind (arith, nat_tests)) in
    rw outside (live, rest))
    (cases_Bool (lies_in x.span span))

with_live : (hull : Option Bounds) (a : Area) → is_leaving a.phase ≡ false → with_leaving hull a ≡ hull
with_live hull a live = rw live refl

-- where none is leaving there is no span
pub none_leaving : (xs : List Area) (hull : Option Bounds) → LeaveIn None xs → fold with_leaving hull xs ≡ hull
none_leaving [] hull leave = refl
none_leaving (x ∷ xs) hull leave =
    none_leaving xs (with_leaving hull x) leave.1 ∙ with_live hull x leave.0
