-- Page tables that are told anew one after the other.
use Rattle.std.proofs.Common.{◌≡◌, ℕ, zero, suc, ◌+◌, ◌<◌, ◌≤◌, Bool, true, false, cond, ◌||◌, Option, List, [], ◌∷◌}
use Rattle.std.proofs.Common.{get_or, length, take, refl, ap, sym, ◌∙◌, inl, inr, arith}
use Rattle.std.specs.List.{list_any}
use Rattle.std.proofs.Math.Seq.{take-suc}
use Rattle.std.proofs.lemmas.List.Folds.{list_any-append}
use Rattle.iofd_rows.proofs.Bools.{both_false, or_none}
use Rattle.iofd_rows.proofs.Each.{IsIn}
use Rattle.iofd_rows.specs.Ids.{have_own_ids}
use Rattle.iofd_words.specs.Objects.{is_object}
use Rattle.iofd_words.specs.declared.rows.Object.{Object}
use Rattle.iofd_words.specs.declared.rows.TableFrame.{TableFrame}
use Rattle.frame_memory.specs.Pool.{FramePool}
use Rattle.page_table_words.specs.Rows.{MappedPage}
use Rattle.page_table_set.proofs.Changed.{retold}
use Rattle.page_table_set.proofs.OwnIds.{first_alone, is_object-same, objects, own_parts, the_only}
use Rattle.page_table_set.proofs.Staying.{all_told}
use Rattle.page_table_set.specs.PageTables.{AllStand, Hwpt}

abbrev pub Leads : Type 0
Leads = Object → ℕ → Option MappedPage

-- the object is one of these page tables
abbrev pub is_among : List Hwpt → Object → Bool
is_among done object = list_any (λ h. is_object h.object.file h.object.id object) done

-- those that are done lead in another way
abbrev pub partly : List Hwpt → Leads → Leads → Leads
partly done leads others object = cond (is_among done object) (others object) (leads object)

pub at_in : (tables : List Hwpt) (n : ℕ) (d : Hwpt) → n < length tables → IsIn tables (get_or tables n d)
at_in [] n d within = absurd (omega arith)
at_in (t ∷ tables) zero d within = inl refl
at_in (t ∷ tables) (suc n) d within = inr (at_in tables n d (omega (arith, within)))

-- none before it has its id
pub not_before : (tables : List Hwpt) (n : ℕ) (d : Hwpt) → have_own_ids (objects tables) ≡ true → n < length tables
    → is_among (take n tables) (get_or tables n d).object ≡ false
not_before [] n d own within = absurd (omega arith)
not_before (t ∷ tables) zero d own within = refl
not_before (t ∷ tables) (suc n) d own within =
    let less : n < length tables = omega (arith, within) in
    both_false _ _ (first_alone t tables own (get_or tables n d) (at_in tables n d less))
    (not_before tables n d (own_parts t tables own).1 less)

among_all : (tables : List Hwpt) (x : Hwpt) → IsIn tables x → is_among tables x.object ≡ true
among_all [] x within = absurd within
among_all (t ∷ tables) x (inl same) =
    let own : is_object t.object.file t.object.id x.object ≡ true =
    ap (λ (h : Hwpt). is_object t.object.file t.object.id h.object) (sym same) ∙ is_object-same t.object in
    rw own refl
among_all (t ∷ tables) x (inr later) = either (is_object t.object.file t.object.id x.object) (among_all tables x later)
  where
    either : (b : Bool) → is_among tables x.object ≡ true → (b || is_among tables x.object) ≡ true
    either true rest = refl
    either false rest = rest

-- one more is done
pub one_more_done : (tables : List Hwpt) (n : ℕ) (d : Hwpt) (object : Object) → n < length tables
    → is_among (take (n + 1) tables) object ≡ (is_among (take n tables) object
    || is_object (get_or tables n d).object.file (get_or tables n d).object.id object)
one_more_done tables n d object within =
    let next : n + 1 ≡ suc n = omega arith in
    ap (λ (k : ℕ). is_among (take k tables) object) next
    ∙ ap (λ (l : List Hwpt). is_among l object) (take-suc tables n d within)
    ∙ list_any-append (λ h. is_object h.object.file h.object.id object) (take n tables) (get_or tables n d ∷ [])
    ∙ ap (λ (b : Bool). is_among (take n tables) object || b)
    (or_none (is_object (get_or tables n d).object.file (get_or tables n d).object.id object))

module _ (pool : FramePool) (frames : List TableFrame) (leads others : Leads) (tables : List Hwpt) (n : ℕ) (d : Hwpt)
    (within : n < length tables) where
  abbrev one : Hwpt
  one = get_or tables n d

  -- it is told anew
  pub told_then : AllStand pool frames (retold one.object (others one.object) (partly (take n tables) leads others))
      tables
      → AllStand pool frames (partly (take (n + 1) tables) leads others) tables
  told_then stand =
      all_told pool frames (retold one.object (others one.object) (partly (take n tables) leads others))
      (partly (take (n + 1) tables) leads others) tables stand
      (λ x inside page. same x inside page (is_object one.object.file one.object.id x.object) refl)
    where
      same : (x : Hwpt) → IsIn tables x → (page : ℕ) (b : Bool) → is_object one.object.file one.object.id x.object ≡ b
          → partly (take (n + 1) tables) leads others x.object page ≡ retold one.object (others one.object)
          (partly (take n tables) leads others) x.object page
      same x inside page true is =
          let it : one ≡ x = the_only tables stand.own one x (at_in tables n d within) inside is in
          let done : is_among (take (n + 1) tables) x.object ≡ true = one_more_done tables n d x.object within
          ∙ ap (λ (b : Bool). is_among (take n tables) x.object || b) is
          ∙ or_true (is_among (take n tables) x.object) in
          ap (λ (b : Bool). cond b (others x.object) (leads x.object) page) done
          ∙ ap (λ (h : Hwpt). others h.object page) (sym it)
          ∙ sym (ap (λ (b : Bool). cond b (others one.object) (partly (take n tables) leads others x.object) page) is)
        where
          or_true : (b : Bool) → (b || true) ≡ true
          or_true true = refl
          or_true false = refl
      same x inside page false is =
          let done : is_among (take (n + 1) tables) x.object ≡ is_among (take n tables) x.object =
          one_more_done tables n d x.object within ∙ ap (λ (b : Bool). is_among (take n tables) x.object || b) is
          ∙ or_none (is_among (take n tables) x.object) in
          ap (λ (b : Bool). cond b (others x.object) (leads x.object) page) done
          ∙ sym (ap (λ (b : Bool). cond b (others one.object) (partly (take n tables) leads others x.object) page) is)

  -- it leads as it did
  pub same_then : ((page : ℕ) → others one.object page ≡ leads one.object page)
      → AllStand pool frames (partly (take n tables) leads others) tables
      → AllStand pool frames (partly (take (n + 1) tables) leads others) tables
  same_then still stand =
      all_told pool frames (partly (take n tables) leads others)
      (partly (take (n + 1) tables) leads others) tables stand
      (λ x inside page. same x inside page (is_object one.object.file one.object.id x.object) refl)
    where
      either : (x : Hwpt) (page : ℕ) → others x.object page ≡ leads x.object page → (a b : Bool)
          → cond a (others x.object) (leads x.object) page ≡ cond b (others x.object) (leads x.object) page
      either x page is true true = refl
      either x page is true false = is
      either x page is false true = sym is
      either x page is false false = refl

      same : (x : Hwpt) → IsIn tables x → (page : ℕ) (b : Bool) → is_object one.object.file one.object.id x.object ≡ b
          → partly (take (n + 1) tables) leads others x.object page ≡ partly (take n tables) leads others x.object page
      same x inside page true is =
          let it : one ≡ x = the_only tables stand.own one x (at_in tables n d within) inside is in
          either x page (ap (λ (h : Hwpt). others h.object page) (sym it) ∙ still page
          ∙ ap (λ (h : Hwpt). leads h.object page) it)
          (is_among (take (n + 1) tables) x.object) (is_among (take n tables) x.object)
      same x inside page false is =
          let done : is_among (take (n + 1) tables) x.object ≡ is_among (take n tables) x.object =
          one_more_done tables n d x.object within ∙ ap (λ (b : Bool). is_among (take n tables) x.object || b) is
          ∙ or_none (is_among (take n tables) x.object) in
          ap (λ (b : Bool). cond b (others x.object) (leads x.object) page) done

pub all_taken : (tables : List Hwpt) (n : ℕ) → length tables ≤ n → take n tables ≡ tables
all_taken [] zero all = refl
all_taken [] (suc n) all = refl
all_taken (x ∷ xs) zero all = absurd (omega arith)
all_taken (x ∷ xs) (suc n) all = ap (λ (l : List Hwpt). x ∷ l) (all_taken xs n (omega (arith, all)))

-- none is done, and all are
pub none_done : (pool : FramePool) (frames : List TableFrame) (leads others : Leads) (tables : List Hwpt)
    → AllStand pool frames leads tables
    → AllStand pool frames (partly (take 0 tables) leads others) tables
none_done pool frames leads others tables stand = stand

pub all_done : (pool : FramePool) (frames : List TableFrame) (leads others : Leads) (tables : List Hwpt) (n : ℕ)
    → length tables ≤ n
    → AllStand pool frames (partly (take n tables) leads others) tables → AllStand pool frames others tables
all_done pool frames leads others tables n all stand =
    all_told pool frames (partly (take n tables) leads others) others tables stand
    (λ x inside page. sym (ap (λ (b : Bool). cond b (others x.object) (leads x.object) page)
    (ap (λ (l : List Hwpt). is_among l x.object) (all_taken tables n all) ∙ among_all tables x inside)))
