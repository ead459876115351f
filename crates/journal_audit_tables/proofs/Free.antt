-- Frames as a set of numbers, and which of them are free.
use Rattle.std.proofs.Common.{◌≡◌, ◌<◌, ℕ, ◌+◌, Bool, true, false, cond, ◌&&◌, ◌||◌, not, eqb, ltb, List, [], ◌∷◌}
use Rattle.std.proofs.Common.{length, get_or, drop, refl, sym, ap, subst, ◌∙◌, arith, Less, Equal, Greater}
use Rattle.std.specs.BTreeMap.{is_at}
use Rattle.std.specs.List.{list_all, list_any}
use Rattle.std.specs.Ordering.{nat_cmp}
use Rattle.std.proofs.lemmas.Bool.Decides.{nat_tests}
use Rattle.std.proofs.lemmas.List.{drop_more}
use Rattle.iofd_rows.proofs.Bools.{and_true}
use Rattle.iofd_rows.proofs.Found.{all_weaker}
use Rattle.iofd_words.specs.Frames.{is_free}
use Rattle.iofd_words.specs.Tables.{are_different, is_among}
use Rattle.iofd_words.specs.World.{World}
use Rattle.iofd_words.specs.declared.numbers.FrameNo.{FrameNo}
use Rattle.iofd_words.specs.declared.rows.Pin.{Pin}
use Rattle.iofd_words.specs.declared.rows.TableFrame.{TableFrame}
use Rattle.iofd_words.specs.declared.rows.UserPage.{UserPage}
use Rattle.journal_audit_world.proofs.Swapped.{any_alike, any_swapped}
use Rattle.journal_audit_tables.specs.Numbers.{has_number}

-- ---- one number more

same_number : (n k : ℕ) → is_at (λ x. nat_cmp n x) k ≡ eqb n k
same_number n k = by_tests (ltb n k) (eqb n k) apart
  where
    apart : ltb n k ≡ true → eqb n k ≡ false
    apart is = grind (arith, nat_tests)

    by_tests : (a b : Bool) → (a ≡ true → b ≡ false) → is_at (λ (x : ℕ). cond a Less (cond b Equal Greater)) k ≡ b
    by_tests true true x = let never = x refl in cc
    by_tests true false x = refl
    by_tests false true x = refl
    by_tests false false x = refl

abbrev pub holds_number : List ℕ → ℕ → Bool
holds_number keys n = list_any (is_at (λ x. nat_cmp n x)) keys

pub number_is : (keys : List ℕ) (n : ℕ) → holds_number keys n ≡ has_number keys n
number_is [] n = refl
number_is (k ∷ keys) n = rw (same_number n k, number_is keys n) refl

abbrev pub HoldsMore : List ℕ → List ℕ → ℕ → Type 0
HoldsMore old new n = (q : ℕ) → holds_number new q ≡ cond (is_at (λ x. nat_cmp n x) q) true (holds_number old q)

pub number_added : (old new : List ℕ) (n : ℕ) → HoldsMore old new n → (q : ℕ)
    → has_number new q ≡ (has_number old q || eqb n q)
number_added old new n more q =
    sym (number_is new q) ∙ more q ∙ ap (λ b. cond b true (holds_number old q)) (same_number n q)
    ∙ ap (λ b. cond (eqb n q) true b) (number_is old q) ∙ flipped (eqb n q) (has_number old q)
  where
    flipped : (a b : Bool) → cond a true b ≡ (b || a)
    flipped true true = refl
    flipped true false = refl
    flipped false true = refl
    flipped false false = refl

-- ---- frames

pub frame_known : (frames : List FrameNo) (old new : List ℕ) (i : ℕ) (d : FrameNo) → i < length frames
    → HoldsMore old new (get_or frames i d).0
    → ((frame : FrameNo) → (has_number old frame.0 || is_among (drop i frames) frame) ≡ is_among frames frame)
    → (frame : FrameNo) → (has_number new frame.0 || is_among (drop (i + 1) frames) frame) ≡ is_among frames frame
frame_known frames old new i d within more before frame =
    ap (λ b. b || is_among (drop (i + 1) frames) frame) (number_added old new (get_or frames i d).0 more frame.0)
    ∙ tidy (has_number old frame.0) (eqb (get_or frames i d).0 frame.0) (is_among (drop (i + 1) frames) frame)
    ∙ ap (λ rows. has_number old frame.0 || is_among rows frame) (sym (drop_more frames i d within))
    ∙ before frame
  where
    tidy : (a b c : Bool) → ((a || b) || c) ≡ (a || (b || c))
    tidy true b c = refl
    tidy false b c = refl

-- ---- each once

-- none of the frames is of these, and each is there once
abbrev pub are_apart : List ℕ → List FrameNo → Bool
are_apart keys frames = list_all (λ frame. not (has_number keys frame.0)) frames && are_different frames

pub none_apart : (frames : List FrameNo) → are_different frames ≡ are_apart [] frames
none_apart frames = sym (ap (λ b. b && are_different frames) (all frames))
  where
    all : (fs : List FrameNo) → list_all (λ frame. not (has_number [] frame.0)) fs ≡ true
    all [] = refl
    all (f ∷ fs) = all fs

split : (old new : List ℕ) (f : FrameNo) (rest : List FrameNo)
    → ((q : ℕ) → has_number new q ≡ (has_number old q || eqb f.0 q))
    → list_all (λ (g : FrameNo). not (has_number new g.0)) rest
    ≡ (list_all (λ (g : FrameNo). not (has_number old g.0)) rest && not (is_among rest f))
split old new f [] more = refl
split old new f (g ∷ rest) more =
    let flip : eqb f.0 g.0 ≡ eqb g.0 f.0 = grind (arith, nat_tests) in
    rw (more g.0, flip, split old new f rest more)
    (tidy (has_number old g.0) (eqb g.0 f.0) (list_all (λ (h : FrameNo). not (has_number old h.0)) rest)
    (is_among rest f))
  where
    tidy : (a b c d : Bool) → (not (a || b) && (c && not d)) ≡ ((not a && c) && not (b || d))
    tidy true b c d = refl
    tidy false true true d = refl
    tidy false true false d = refl
    tidy false false c d = refl

pub apart_on : (frames : List FrameNo) (old new : List ℕ) (i : ℕ) (d : FrameNo) (all : Bool) → i < length frames
    → HoldsMore old new (get_or frames i d).0 → holds_number old (get_or frames i d).0 ≡ false
    → all ≡ are_apart old (drop i frames) → all ≡ are_apart new (drop (i + 1) frames)
apart_on frames old new i d all within more isnt before =
    before ∙ ap (are_apart old) (drop_more frames i d within)
    ∙ one (get_or frames i d) (drop (i + 1) frames) (sym (number_is old (get_or frames i d).0) ∙ isnt)
    (number_added old new (get_or frames i d).0 more)
  where
    one : (f : FrameNo) (rest : List FrameNo) → has_number old f.0 ≡ false
        → ((q : ℕ) → has_number new q ≡ (has_number old q || eqb f.0 q))
        → are_apart old (f ∷ rest) ≡ are_apart new rest
    one f rest isnt more =
        rw (isnt, split old new f rest more)
        (tidy (list_all (λ (g : FrameNo). not (has_number old g.0)) rest) (is_among rest f) (are_different rest))
      where
        tidy : (a b c : Bool) → (a && (not b && c)) ≡ ((a && not b) && c)
        tidy true b c = refl
        tidy false b c = refl

pub apart_off : (frames : List FrameNo) (old : List ℕ) (i : ℕ) (d : FrameNo) (all : Bool) → i < length frames
    → holds_number old (get_or frames i d).0 ≡ true → all ≡ are_apart old (drop i frames) → false ≡ all
apart_off frames old i d all within is before =
    sym (before ∙ ap (are_apart old) (drop_more frames i d within)
    ∙ rw (sym (number_is old (get_or frames i d).0) ∙ is) refl)

-- ---- free ones

-- rows that name one of the frames
rows_named : {X : Type 0} (of : X → ℕ) (rows : List X) (frames : List FrameNo) (keys : List ℕ)
    → ((frame : FrameNo) → has_number keys frame.0 ≡ is_among frames frame)
    → list_any (λ row. has_number keys (of row)) rows
    ≡ list_any (λ (f : FrameNo). list_any (λ row. eqb (of row) f.0) rows) frames
rows_named of rows frames keys are =
    any_alike (λ row. has_number keys (of row)) (λ row. list_any (λ (f : FrameNo). eqb (of row) f.0) frames) rows
    (λ row. are (record { 0 = of row }) ∙ any_alike (λ (f : FrameNo). eqb f.0 (of row)) (λ (f : FrameNo). eqb
    (of row) f.0)
    frames (λ f. flip f.0 (of row)))
    ∙ any_swapped (λ (f : FrameNo) row. eqb (of row) f.0) frames rows
  where
    flip : (m n : ℕ) → eqb m n ≡ eqb n m
    flip m n = grind (arith, nat_tests)

pub free_is : (pool : ℕ) (pages : List UserPage) (pins : List Pin) (tables : List TableFrame) (frames : List FrameNo)
    (keys : List ℕ) → ((frame : FrameNo) → has_number keys frame.0 ≡ is_among frames frame)
    → list_all (λ (f : FrameNo). ltb f.0 pool) frames ≡ true
    → not (list_any (λ (page : UserPage). has_number keys page.frame.0) pages
    || list_any (λ (pin : Pin). has_number keys pin.frame.0) pins
    || list_any (λ (table : TableFrame). has_number keys table.frame.0) tables)
    ≡ list_all (λ (f : FrameNo). is_free pool pages pins tables f.0) frames
free_is pool pages pins tables frames keys are within =
    rw (
      rows_named (λ (p : UserPage). p.frame.0) pages frames keys are,
      rows_named (λ (p : Pin). p.frame.0) pins frames keys are,
      rows_named (λ (t : TableFrame). t.frame.0) tables frames keys are,
    ) (none frames within)
  where
    a : FrameNo → Bool
    a f = list_any (λ (p : UserPage). eqb p.frame.0 f.0) pages

    b : FrameNo → Bool
    b f = list_any (λ (p : Pin). eqb p.frame.0 f.0) pins

    c : FrameNo → Bool
    c f = list_any (λ (t : TableFrame). eqb t.frame.0 f.0) tables

    tidy : (x y z r s t : Bool) → not ((x || r) || (y || s) || (z || t)) ≡ (not (x || y || z) && not (r || s || t))
    tidy true y z r s t = refl
    tidy false true z true s t = refl
    tidy false true z false s t = refl
    tidy false false true true s t = refl
    tidy false false true false true t = refl
    tidy false false true false false t = refl
    tidy false false false r s t = refl

    none : (fs : List FrameNo) → list_all (λ (f : FrameNo). ltb f.0 pool) fs ≡ true
        → not (list_any a fs || list_any b fs || list_any c fs)
        ≡ list_all (λ (f : FrameNo). is_free pool pages pins tables f.0) fs
    none [] within = refl
    none (f ∷ fs) within =
        let parts = and_true (ltb f.0 pool) (list_all (λ (f : FrameNo). ltb f.0 pool) fs) within in
        tidy (a f) (b f) (c f) (list_any a fs) (list_any b fs) (list_any c fs)
        ∙ rw (none fs parts.1, parts.0) refl

pub not_within : (pool : ℕ) (pages : List UserPage) (pins : List Pin) (tables : List TableFrame)
    (frames : List FrameNo) (different : Bool) → list_all (λ (f : FrameNo). ltb f.0 pool) frames ≡ false
    → false ≡ (list_all (λ (f : FrameNo). is_free pool pages pins tables f.0) frames && different)
not_within pool pages pins tables frames different none =
    by_test (list_all (λ (f : FrameNo). is_free pool pages pins tables f.0) frames) refl
  where
    by_test : (b : Bool) → list_all (λ (f : FrameNo). is_free pool pages pins tables f.0) frames ≡ b
        → false ≡ (b && different)
    by_test true is =
        let all = all_weaker (λ (f : FrameNo). is_free pool pages pins tables f.0) (λ
        (f : FrameNo). ltb f.0 pool) frames
        (λ f free. (and_true (ltb f.0 pool) _ free).0) is in cc
    by_test false is = refl

pub all_free : (a b c : Bool) → a ≡ b → c ≡ true → a ≡ (b && c)
all_free a true true same is = same
all_free a false true same is = same
all_free a b false same is = cc

-- ---- in a world

pub world_not_within : (v w : World) (pool : ℕ) (frames : List FrameNo) (different b : Bool) → v ≡ w
    → pool ≡ v.settings.pool → b ≡ list_all (λ (f : FrameNo). ltb f.0 pool) frames → b ≡ false
    → false ≡ (list_all (λ (f : FrameNo). is_free w.settings.pool w.user_pages w.pins w.table_frames f.0) frames
    && different)
world_not_within v w pool frames different b same at is none =
    subst (λ (x : World). false
    ≡ (list_all (λ (f : FrameNo). is_free x.settings.pool x.user_pages x.pins x.table_frames f.0) frames && different))
    same (not_within v.settings.pool v.user_pages v.pins v.table_frames frames different
    (ap (λ n. list_all (λ (f : FrameNo). ltb f.0 n) frames) (sym at) ∙ sym is ∙ none))

pub world_free : (w : World) (pool : ℕ) (frames : List FrameNo) (keys : List ℕ) (different b reached : Bool)
    → pool ≡ w.settings.pool → b ≡ list_all (λ (f : FrameNo). ltb f.0 pool) frames → b ≡ true → different ≡ true
    → ((frame : FrameNo) → has_number keys frame.0 ≡ is_among frames frame)
    → reached ≡ (list_any (λ (page : UserPage). has_number keys page.frame.0) w.user_pages
    || list_any (λ (pin : Pin). has_number keys pin.frame.0) w.pins
    || list_any (λ (table : TableFrame). has_number keys table.frame.0) w.table_frames)
    → not reached ≡ (list_all (λ (f : FrameNo). is_free w.settings.pool w.user_pages w.pins w.table_frames f.0) frames
    && different)
world_free w pool frames keys different b reached at is within differ are named =
    ap not named
    ∙ all_free _ _ different (free_is w.settings.pool w.user_pages w.pins w.table_frames frames keys are
    (ap (λ n. list_all (λ (f : FrameNo). ltb f.0 n) frames) (sym at) ∙ sym is ∙ within)) differ
