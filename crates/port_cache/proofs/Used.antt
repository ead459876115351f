-- What a cache is once a page was put into it.
use Rattle.std.proofs.Common.{◌≡◌, ℕ, ◌+◌, ◌-◌, ◌≤◌, zero, suc, Bool, true, false, nat_eq, List, [], ◌∷◌, take, length}
use Rattle.std.proofs.Common.{Contains, Option, Some, None, Result, Ok, Err, OnOk, OnErr, IsOk, IsSome, refl, sym, ap, subst}
use Rattle.std.proofs.Common.{◌∙◌, inl, inr, arith}
use Rattle.std.proofs.lemmas.Bool.{eqb-true}
use Rattle.std.specs.Option.{option_map_or}
use Rattle.std.specs.Map.{lookup, lookup_entry, remove_entry}
use Rattle.lru.specs.LruCache.{LruCache, lru_cache, put_entries}
use Rattle.lru.proofs.CallerLemmas.{Contains-lookup_entry}
use Rattle.iofd_words.specs.declared.query.Translation.{Translation}
use Rattle.port_cache.specs.Cached.{IsUsed, Translations, used}

take-all : {X : Type 0} (n : ℕ) (xs : List X) → length xs ≤ n → take n xs ≡ xs
take-all zero [] fits = refl
take-all zero (x ∷ xs) fits = absurd (omega arith)
take-all (suc n) [] fits = refl
take-all (suc n) (x ∷ xs) fits = let less : length xs ≤ n = omega arith in ap (λ l. x ∷ l) (take-all n xs less)

module _ {K V : Type 0} (test : K → Bool) where
  remove_entry-absent : (es : List (K × V)) → lookup_entry test es ≡ None → remove_entry test es ≡ es
  remove_entry-absent [] none = refl
  remove_entry-absent (f ∷ es) none =
      (elim (test f.0) as (λ y. test f.0 ≡ y → remove_entry test (f ∷ es) ≡ f ∷ es) [
        | true ↦ λ t. let some = rw t at none in cc
        | false ↦ λ t. rw t (ap (λ l. f ∷ l) (remove_entry-absent es (rw t at none)))
      ]) refl

  length-remove_entry : (es : List (K × V)) (e : K × V) → lookup_entry test es ≡ Some e
      → length (remove_entry test es) + 1 ≡ length es
  length-remove_entry [] e there = cc
  length-remove_entry (f ∷ es) e there =
      (elim (test f.0) as (λ y. test f.0 ≡ y → length (remove_entry test (f ∷ es)) + 1 ≡ length (f ∷ es)) [
        | true ↦ λ t. rw t (omega arith)
        | false ↦ λ t. let on = length-remove_entry es e (rw t at there) in rw t (omega arith)
      ]) refl

  lookup_entry-there : (es : List (K × V)) (v : V) → lookup test es ≡ Some v
      → (k : K) × (lookup_entry test es ≡ Some (k, v))
  lookup_entry-there [] v there = cc
  lookup_entry-there (f ∷ es) v there =
      (elim (test f.0) as (λ y. test f.0 ≡ y → (k : K) × (lookup_entry test (f ∷ es) ≡ Some (k, v))) [
        | true ↦ λ t. let here = rw t at there in
            let same : f.1 ≡ v = cc in (f.0, rw t (ap (λ w. Some (f.0, w)) same))
        | false ↦ λ t. let on = lookup_entry-there es v (rw t at there) in (on.0, rw t on.1)
      ]) refl

-- the entry that a look-up of a page finds is of that page
page_found : (page : ℕ) (kept : Translations) (e : ℕ × Translation) → lookup_entry (nat_eq page) kept ≡ Some e
    → page ≡ e.0
page_found page kept e there = eqb-true page e.0 (Contains-lookup_entry (nat_eq page) kept e there).1

pub contains_page : (page : ℕ) (kept : Translations) (t : Translation) → lookup (nat_eq page) kept ≡ Some t
    → Contains kept (page, t)
contains_page page kept t there =
    let entry = lookup_entry-there (nat_eq page) kept t there in
    subst (λ p. Contains kept (p, t)) (sym (page_found page kept (entry.0, t) entry.1))
    (Contains-lookup_entry (nat_eq page) kept (entry.0, t) entry.1).0

others_fit : (most page : ℕ) (kept : Translations) (e : ℕ × Translation) → length kept ≤ most
    → lookup_entry (nat_eq page) kept ≡ Some e
    → take (most - 1) (remove_entry (nat_eq page) kept) ≡ remove_entry (nat_eq page) kept
others_fit most page kept e fits there =
    let len = length-remove_entry (nat_eq page) kept e there in
    let less : length (remove_entry (nat_eq page) kept) ≤ most - 1 = omega arith in
    take-all (most - 1) (remove_entry (nat_eq page) kept) less

module _ (c : LruCache ℕ Translation) (page : ℕ) (t : Translation) (fits : length c.entries ≤ c.cap) where
  by_entry : (o : Option (ℕ × Translation)) → lookup_entry (nat_eq page) c.entries ≡ o
      → option_map_or (λ e. (e.0, t) ∷ remove_entry (nat_eq page) c.entries) o ((page, t) ∷ take (c.cap - 1) c.entries)
      ≡ used c.cap page t c.entries
  by_entry None none = rw (remove_entry-absent (nat_eq page) c.entries none) refl
  by_entry (Some e) there =
      let key = page_found page c.entries e there in
      rw (others_fit c.cap page c.entries e fits there)
      (ap (λ k. (k, t) ∷ remove_entry (nat_eq page) c.entries) (sym key))

  -- a page that was put, new or not
  put_used : put_entries nat_eq c page t ≡ used c.cap page t c.entries
  put_used = by_entry (lookup_entry (nat_eq page) c.entries) refl

  absent : (o : Option Translation) → lookup (nat_eq page) c.entries ≡ o
      → (IsSome (lookup (nat_eq page) c.entries) → false ≡ true) → lookup (nat_eq page) c.entries ≡ None
  absent None is never = is
  absent (Some x) is never = let bad : false ≡ true = never (rw is refl) in cc

  -- or wasn't, for want of memory
  pub put_is_used : {T E : Type 0} (r : Result T E) (new : LruCache ℕ Translation)
      → OnOk r (new ≡ lru_cache (put_entries nat_eq c page t) c.cap) → OnErr r (new ≡ c)
      → (IsSome (lookup (nat_eq page) c.entries) → IsOk r) → IsUsed c.cap page t c.entries new.entries
  put_is_used (Ok x) new ok err done = inl (ap (λ x. x.entries) ok ∙ put_used)
  put_is_used (Err x) new ok err done =
      inr (ap (λ x. x.entries) err, absent (lookup (nat_eq page) c.entries) refl (λ s. done s))
