-- Pages under their keys.
use Rattle.std.proofs.Common.{◌≡◌, ◌<◌, ℕ, ◌+◌, Bool, true, false, cond, ◌&&◌, ◌||◌, eqb, is_some, Option, Some, None}
use Rattle.std.proofs.Common.{List, [], ◌∷◌, length, find, get_or, drop, refl, sym, ap, ◌∙◌}
use Rattle.std.specs.BTreeMap.{BTreeMap, get_by, is_at}
use Rattle.std.specs.List.{list_any}
use Rattle.std.specs.Ordering.{nat_cmp, ordering_then}
use Rattle.std.proofs.lemmas.Bool.{eqb-true}
use Rattle.std.proofs.lemmas.List.{drop_more}
use Rattle.iofd_rows.proofs.Bools.{and_true}
use Rattle.iofd_words.specs.Frames.{frame_at}
use Rattle.iofd_words.specs.Pins.{ObjectPage, is_page, page_of_pin, pinned_frame}
use Rattle.iofd_words.specs.declared.numbers.FrameNo.{FrameNo}
use Rattle.iofd_words.specs.declared.numbers.UserNo.{UserNo}
use Rattle.iofd_words.specs.declared.rows.Pin.{Pin}
use Rattle.iofd_words.specs.declared.rows.UserPage.{UserPage}
use Rattle.journal_audit_world.proofs.Keyed.{pair_added, same_pair}
use Rattle.journal_audit_world.specs.Keys.{has_pair}
use Rattle.journal_audit_page_tables.specs.PageSets.{frame_in, frame_of_row, or_else}

-- ---- pinned pages

abbrev pub is_pinned_in : List Pin → ObjectPage → Bool
is_pinned_in pins page = list_any (λ (pin : Pin). is_page (page_of_pin pin) page) pins

pub pinned_is : (pins : List Pin) (page : ObjectPage) → is_pinned_in pins page ≡ is_some (pinned_frame pins page)
pinned_is [] page = refl
pinned_is (pin ∷ pins) page = by_test (is_page (page_of_pin pin) page) (pinned_is pins page)
  where
    by_test : (b : Bool) → is_pinned_in pins page ≡ is_some (pinned_frame pins page)
        → (b || is_pinned_in pins page)
        ≡ is_some (elim (cond b (Some pin) (find (λ (pin : Pin). is_page (page_of_pin pin) page) pins))
        as (λ _. Option FrameNo) [ Some pin ↦ Some pin.frame | None ↦ None ])
    by_test true rest = refl
    by_test false rest = rest

pub none_pinned : (pins : List Pin) (keys : List (ℕ × ℕ)) → keys ≡ [] → (page : ObjectPage)
    → (has_pair keys page.memory page.index || is_pinned_in pins page) ≡ is_some (pinned_frame pins page)
none_pinned pins keys none page =
    ap (λ (ks : List (ℕ × ℕ)). has_pair ks page.memory page.index || is_pinned_in pins page) none ∙ pinned_is pins page

pub pin_known : (pins : List Pin) (old new : List (ℕ × ℕ)) (i : ℕ) (d : Pin) → i < length pins
    → ((q : ℕ × ℕ) → list_any (is_at (λ (x : ℕ × ℕ). ordering_then (nat_cmp q.0 x.0) (nat_cmp q.1 x.1))) new
    ≡ cond (is_at (λ (x : ℕ × ℕ). ordering_then (nat_cmp (get_or pins i d).memory x.0)
    (nat_cmp (get_or pins i d).index x.1)) q) true
    (list_any (is_at (λ (x : ℕ × ℕ). ordering_then (nat_cmp q.0 x.0) (nat_cmp q.1 x.1))) old))
    → ((page : ObjectPage) → (has_pair old page.memory page.index || is_pinned_in (drop i pins) page)
    ≡ is_some (pinned_frame pins page))
    → (page : ObjectPage) → (has_pair new page.memory page.index || is_pinned_in (drop (i + 1) pins) page)
    ≡ is_some (pinned_frame pins page)
pin_known pins old new i d within more before page =
    ap (λ b. b || is_pinned_in (drop (i + 1) pins) page)
    (pair_added old new (get_or pins i d).memory (get_or pins i d).index more page.memory page.index)
    ∙ tidy (has_pair old page.memory page.index)
    (eqb (get_or pins i d).memory page.memory && eqb (get_or pins i d).index page.index)
    (is_pinned_in (drop (i + 1) pins) page)
    ∙ ap (λ rows. has_pair old page.memory page.index || is_pinned_in rows page) (sym (drop_more pins i d within))
    ∙ before page
  where
    tidy : (a b c : Bool) → ((a || b) || c) ≡ (a || (b || c))
    tidy true b c = refl
    tidy false b c = refl

-- ---- users' pages

-- one row, and then the others
first_row : (row : UserPage) (rows : List UserPage) (user : UserNo) (page : ℕ)
    → frame_at (row ∷ rows) user page ≡ or_else (frame_of_row row user page) (frame_at rows user page)
first_row row rows user page = by_test (eqb row.user.0 user.0 && eqb row.page page)
  where
    by_test : (b : Bool) → elim (cond b (Some row) (find (λ (p : UserPage). eqb p.user.0 user.0
        && eqb p.page page) rows))
        as (λ _. Option FrameNo) [ Some p ↦ Some p.frame | None ↦ None ]
        ≡ or_else (cond b (Some row.frame) None) (frame_at rows user page)
    by_test true = refl
    by_test false = refl

pub row_added : (rows : List UserPage) (old new : BTreeMap (ℕ × ℕ) FrameNo) (i : ℕ) (d : UserPage) → i < length rows
    → ((user : UserNo) (page : ℕ) → frame_in new user page
    ≡ or_else (frame_in old user page) (frame_of_row (get_or rows i d) user page))
    → ((user : UserNo) (page : ℕ) → or_else (frame_in old user page) (frame_at (drop i rows) user page)
    ≡ frame_at rows user page)
    → (user : UserNo) (page : ℕ) → or_else (frame_in new user page) (frame_at (drop (i + 1) rows) user page)
    ≡ frame_at rows user page
row_added rows old new i d within more before user page =
    ap (λ o. or_else o (frame_at (drop (i + 1) rows) user page)) (more user page)
    ∙ tidy (frame_in old user page) (frame_of_row (get_or rows i d) user page) (frame_at (drop (i + 1) rows) user page)
    ∙ ap (or_else (frame_in old user page)) (sym (ap (λ ps. frame_at ps user page) (drop_more rows i d within)
    ∙ first_row (get_or rows i d) (drop (i + 1) rows) user page))
    ∙ before user page
  where
    tidy : (a b c : Option FrameNo) → or_else (or_else a b) c ≡ or_else a (or_else b c)
    tidy (Some f) b c = refl
    tidy None b c = refl

pub no_row : (o : Option FrameNo) → or_else o None ≡ o
no_row (Some f) = refl
no_row None = refl

-- a page that has a frame keeps it
pub row_kept : (index : BTreeMap (ℕ × ℕ) FrameNo) (row : UserPage) → is_some (frame_in index row.user row.page) ≡ true
    → (user : UserNo) (page : ℕ)
    → frame_in index user page ≡ or_else (frame_in index user page) (frame_of_row row user page)
row_kept index row some user page = by_test (eqb row.user.0 user.0 && eqb row.page page) refl
  where
    kept : (o : Option FrameNo) → is_some o ≡ true → o ≡ or_else o (Some row.frame)
    kept (Some f) is = refl
    kept None is = cc

    by_test : (b : Bool) → (eqb row.user.0 user.0 && eqb row.page page) ≡ b
        → frame_in index user page ≡ or_else (frame_in index user page) (cond b (Some row.frame) None)
    by_test false is = sym (no_row (frame_in index user page))
    by_test true is =
        let parts = and_true (eqb row.user.0 user.0) (eqb row.page page) is in
        let same : frame_in index row.user row.page ≡ frame_in index user page =
        ap (λ (n : ℕ). frame_in index (record { 0 = n }) row.page) (eqb-true row.user.0 user.0 parts.0)
        ∙ ap (frame_in index user) (eqb-true row.page page parts.1) in
        kept (frame_in index user page) (ap is_some (sym same) ∙ some)

-- one that has none gets it
pub row_new : (old new : BTreeMap (ℕ × ℕ) FrameNo) (row : UserPage)
    → is_some (frame_in old row.user row.page) ≡ false
    → ((q : ℕ × ℕ) → get_by (λ key. ordering_then (nat_cmp q.0 key.0) (nat_cmp q.1 key.1)) new
    ≡ cond (is_at (λ (key : ℕ × ℕ). ordering_then (nat_cmp row.user.0 key.0) (nat_cmp row.page key.1)) q)
    (Some row.frame)
    (get_by (λ key. ordering_then (nat_cmp q.0 key.0) (nat_cmp q.1 key.1)) old))
    → (user : UserNo) (page : ℕ)
    → frame_in new user page ≡ or_else (frame_in old user page) (frame_of_row row user page)
row_new old new row none updates user page =
    updates (user.0, page)
    ∙ ap (λ b. cond b (Some row.frame) (frame_in old user page)) (same_pair row.user.0 row.page (user.0, page))
    ∙ by_test (eqb row.user.0 user.0 && eqb row.page page) refl
  where
    absent : (o : Option FrameNo) → is_some o ≡ false → o ≡ None
    absent None is = refl
    absent (Some f) is = cc

    by_test : (b : Bool) → (eqb row.user.0 user.0 && eqb row.page page) ≡ b
        → cond b (Some row.frame) (frame_in old user page) ≡ or_else (frame_in old user page) (cond b
        (Some row.frame) None)
    by_test false is = sym (no_row (frame_in old user page))
    by_test true is =
        let parts = and_true (eqb row.user.0 user.0) (eqb row.page page) is in
        let same : frame_in old row.user row.page ≡ frame_in old user page =
        ap (λ (n : ℕ). frame_in old (record { 0 = n }) row.page) (eqb-true row.user.0 user.0 parts.0)
        ∙ ap (frame_in old user) (eqb-true row.page page parts.1) in
        ap (λ o. or_else o (Some row.frame)) (sym (sym same ∙ absent (frame_in old row.user row.page) none))
