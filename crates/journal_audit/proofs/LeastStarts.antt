-- The least of the addresses that are tried, found one after the other.
use Rattle.std.proofs.Common.{◌≡◌, ℕ, ◌+◌, ◌-◌, ◌<◌, ◌≤◌, get_or, Bool, true, false, cond, ◌&&◌, ◌||◌, not, ltb, min}
use Rattle.std.proofs.Common.{Option, Some, None, is_none, is_some, List, [], ◌∷◌, ◌++◌, length, map, take, drop}
use Rattle.std.proofs.Common.{refl, sym, ap, ◌∙◌, arith}
use Rattle.std.specs.List.{filter, list_any}
use Rattle.std.proofs.lemmas.Bool.Decides.{nat_tests}
use Rattle.std.proofs.lemmas.List.{at_drop_all, at_drop_more, take-append-drop, take_rest}
use Rattle.std.proofs.lemmas.List.Folds.{list_any-append}
use Rattle.iofd_words.specs.Bounds.{Bounds}
use Rattle.iofd_refusals.specs.Checks.{choices, has_choice, lacks_choice, least, mapped_start, may_choose, taken_spans}
use Rattle.iofd_words.specs.Fits.{whole_from}
use Rattle.iofd_words.specs.Ranges.{meets_some}
use Rattle.iofd_words.specs.Room.{starts_to_try}
use Rattle.iofd_words.specs.Rights.{is_fixed}
use Rattle.iofd_words.specs.Span.{meets}
use Rattle.iofd_words.specs.View.{View}
use Rattle.iofd_words.specs.declared.event.MapRequest.{MapRequest}
use Rattle.iofd_words.specs.declared.numbers.FileNo.{FileNo}
use Rattle.journal_audit_maps.specs.Newly.{lesser}
use Rattle.journal_audit.specs.Starts.{passing}

-- ---- the lesser of two

lesser_assoc : (a b c : Option ℕ) → lesser (lesser a b) c ≡ lesser a (lesser b c)
lesser_assoc None b c = refl
lesser_assoc (Some a) None c = refl
lesser_assoc (Some a) (Some b) None = refl
lesser_assoc (Some a) (Some b) (Some c) =
    let same : min (min a b) c ≡ min a (min b c) = omega arith in ap (λ (n : ℕ). Some n) same

none_less : (o : Option ℕ) → lesser o None ≡ o
none_less None = refl
none_less (Some n) = refl

-- ---- the least of a list

least_cons : (n : ℕ) (numbers : List ℕ) → least (n ∷ numbers) ≡ lesser (Some n) (least numbers)
least_cons n numbers = by_rest (least numbers)
  where
    by_rest : (o : Option ℕ) → elim o as (λ _. Option ℕ)
        [ Some other ↦ Some (cond (ltb other n) other n) | None ↦ Some n ] ≡ lesser (Some n) o
    by_rest None = refl
    by_rest (Some other) =
        let same : cond (ltb other n) other n ≡ min n other = grind (arith, nat_tests) in ap (λ (n : ℕ). Some n) same

-- one number more in front
least_first : (p : ℕ → Bool) (n : ℕ) (numbers : List ℕ)
    → least (filter p (n ∷ numbers)) ≡ lesser (passing p n) (least (filter p numbers))
least_first p n numbers = by_test (p n)
  where
    by_test : (b : Bool) → least (cond b (n ∷ filter p numbers) (filter p numbers))
        ≡ lesser (cond b (Some n) None) (least (filter p numbers))
    by_test true = least_cons n (filter p numbers)
    by_test false = refl

least-append : (p : ℕ → Bool) (xs ys : List ℕ)
    → least (filter p (xs ++ ys)) ≡ lesser (least (filter p xs)) (least (filter p ys))
least-append p [] ys = refl
least-append p (x ∷ xs) ys =
    least_first p x (xs ++ ys)
    ∙ ap (λ o. lesser (passing p x) o) (least-append p xs ys)
    ∙ sym (lesser_assoc (passing p x) (least (filter p xs)) (least (filter p ys)))
    ∙ ap (λ o. lesser o (least (filter p ys))) (sym (least_first p x xs))

-- ---- one address after the other

-- one more is tried
pub one_tried : {X : Type 0} (p : ℕ → Bool) (f : X → ℕ) (xs : List X) (i : ℕ) (d : X) (old new total : Option ℕ)
    → i < length xs → new ≡ lesser old (passing p (f (get_or xs i d)))
    → lesser old (least (filter p (map f (drop i xs)))) ≡ total
    → lesser new (least (filter p (map f (drop (i + 1) xs)))) ≡ total
one_tried p f xs i d old new total within is before =
    ap (λ o. lesser o (least (filter p (map f (drop (i + 1) xs))))) is
    ∙ lesser_assoc old (passing p (f (get_or xs i d))) (least (filter p (map f (drop (i + 1) xs))))
    ∙ ap (lesser old) (sym (least_first p (f (get_or xs i d)) (map f (drop (i + 1) xs))))
    ∙ sym (at_drop_more (λ l. lesser old (least (filter p (map f l)))) xs i d within)
    ∙ before

-- all are tried
pub all_tried : {X : Type 0} (p : ℕ → Bool) (f : X → ℕ) (xs : List X) (i : ℕ) (old total : Option ℕ)
    → length xs ≤ i → lesser old (least (filter p (map f (drop i xs)))) ≡ total → old ≡ total
all_tried p f xs i old total past before =
    sym (none_less old) ∙ sym (at_drop_all (λ l. lesser old (least (filter p (map f l)))) xs i past) ∙ before

-- there is a least one just where there is one
some_least : (p : ℕ → Bool) (numbers : List ℕ) → not (list_any p numbers) ≡ is_none (least (filter p numbers))
some_least p [] = refl
some_least p (n ∷ numbers) = by_test (p n) (some_least p numbers)
  where
    by_test : (b : Bool) → not (list_any p numbers) ≡ is_none (least (filter p numbers))
        → not (b || list_any p numbers) ≡ is_none (least (cond b (n ∷ filter p numbers) (filter p numbers)))
    by_test false rest = rest
    by_test true rest = sym (ap is_none (least_cons n (filter p numbers)) ∙ told (least (filter p numbers)))
      where
        told : (o : Option ℕ) → is_none (lesser (Some n) o) ≡ false
        told None = refl
        told (Some other) = refl

pub choice_lacks : (v : View) (file : FileNo) (request : MapRequest) (found : Option ℕ) (b : Bool)
    → found ≡ mapped_start v file request → is_some found ≡ not b → b ≡ lacks_choice v file request
choice_lacks v file request found b is told =
    flipped found b told ∙ ap (λ (o : Option ℕ). is_none o) is ∙ sym (by_flag (is_fixed request.flags))
  where
    flipped : (o : Option ℕ) (b : Bool) → is_some o ≡ not b → b ≡ is_none o
    flipped None true told = refl
    flipped None false told = cc
    flipped (Some n) true told = cc
    flipped (Some n) false told = refl

    by_flag : (b : Bool) → (not b && not (has_choice v file request))
        ≡ is_none (cond b (Some request.iova.0) (least (filter (may_choose v file request)
        (starts_to_try (choices v file request) (taken_spans v file request)))))
    by_flag true = refl
    by_flag false = some_least (may_choose v file request)
        (starts_to_try (choices v file request) (taken_spans v file request))

-- of what ranges and what is taken give
pub starts_are : (p : ℕ → Bool) (choices taken : List Bounds) (first all : Option ℕ)
    → first ≡ least (filter p (map (λ (range : Bounds). whole_from range.first) choices))
    → all ≡ lesser first (least (filter p (map (λ (span : Bounds). whole_from (span.last + 1)) taken)))
    → all ≡ least (filter p (starts_to_try choices taken))
starts_are p choices taken first all is told =
    told
    ∙ ap (λ o. lesser o (least (filter p (map (λ (span : Bounds). whole_from (span.last + 1)) taken)))) is
    ∙ sym (least-append p (map (λ (range : Bounds). whole_from range.first) choices)
    (map (λ (span : Bounds). whole_from (span.last + 1)) taken))

-- ---- what is taken, from a place on

met_from : (taken : List Bounds) (place : ℕ) (span : Bounds)
    → (meets_some (drop place taken) span || meets_some (take place taken) span) ≡ meets_some taken span
met_from taken place span =
    turned (meets_some (drop place taken) span) (meets_some (take place taken) span)
    ∙ sym (list_any-append (λ one. meets one span) (take place taken) (drop place taken))
    ∙ ap (λ (spans : List Bounds). meets_some spans span) (take-append-drop place taken)
  where
    turned : (a b : Bool) → (a || b) ≡ (b || a)
    turned true true = refl
    turned true false = refl
    turned false true = refl
    turned false false = refl

-- as the slice of the rest is told
later_is : (taken : List Bounds) (place : ℕ) → take (length taken - place) (drop place taken) ≡ drop place taken
later_is taken place = take_rest taken place

pub met_first : (taken : List Bounds) (place : ℕ) (span : Bounds) (a : Bool) → a ≡ true
    → a ≡ meets_some (take (length taken - place) (drop place taken)) span → a ≡ meets_some taken span
met_first taken place span a holds is =
    holds
    ∙ ap (λ (b : Bool). b || meets_some (take place taken) span) (sym holds ∙ is
    ∙ ap (λ (l : List Bounds). meets_some l span) (later_is taken place))
    ∙ met_from taken place span

pub met_rest : (taken : List Bounds) (place : ℕ) (span : Bounds) (a b : Bool) → a ≡ false
    → a ≡ meets_some (take (length taken - place) (drop place taken)) span
    → b ≡ meets_some (take place taken) span → b ≡ meets_some taken span
met_rest taken place span a b fails is rest =
    rest
    ∙ ap (λ (x : Bool). x || meets_some (take place taken) span) (sym fails ∙ is
    ∙ ap (λ (l : List Bounds). meets_some l span) (later_is taken place))
    ∙ met_from taken place span
