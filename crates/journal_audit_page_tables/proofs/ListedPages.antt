-- Pages listed one after the other.
use Rattle.std.proofs.Common.{◌≡◌, ◌<◌, ◌≤◌, ℕ, ◌+◌, ◌-◌, suc, Bool, true, false, cond, ◌&&◌, not, is_some, Option}
use Rattle.std.proofs.Common.{Some, None, List, [], ◌∷◌, ◌++◌, map, append_assoc, append-nil, refl, sym, ap, subst}
use Rattle.std.proofs.Common.{◌∙◌, arith}
use Rattle.std.specs.List.{cons_option, filter_map, range_with_len}
use Rattle.std.proofs.lemmas.List.Folds.{list_all-append}
use Rattle.iofd_words.specs.Pins.{ObjectPage, are_present, pages_of}
use Rattle.iofd_words.specs.declared.numbers.FrameNo.{FrameNo}
use Rattle.iofd_words.specs.declared.rows.MemoryObject.{MemoryObject}
use Rattle.iofd_words.specs.declared.rows.Pin.{Pin}
use Rattle.journal_audit_world.specs.Keys.{has_pair}
use Rattle.journal_audit_page_tables.specs.Listed.{Listed, pin_at, unpinned}

pins-append : (f : ObjectPage → Option Pin) (xs ys : List ObjectPage)
    → filter_map f (xs ++ ys) ≡ filter_map f xs ++ filter_map f ys
pins-append f [] ys = refl
pins-append f (x ∷ xs) ys = by_pin (f x) (pins-append f xs ys)
  where
    by_pin : (o : Option Pin) → filter_map f (xs ++ ys) ≡ filter_map f xs ++ filter_map f ys
        → cons_option o (filter_map f (xs ++ ys)) ≡ cons_option o (filter_map f xs) ++ filter_map f ys
    by_pin (Some pin) rest = ap (λ ps. pin ∷ ps) rest
    by_pin None rest = rest

module _ (now : ObjectPage → Option FrameNo) where
  pub listed_none : (pins : List Pin) → Listed now pins pins true []
  listed_none pins = record { present = refl; pins = λ holds. sym (append-nil pins) }

  pub listed_more : (a b c : List Pin) (whole : Bool) (xs ys : List ObjectPage) → Listed now a b true xs
      → Listed now b c whole ys → Listed now a c whole (xs ++ ys)
  listed_more a b c whole xs ys first rest = record {
    present =
        rest.present
        ∙ sym (list_all-append (λ page. is_some (now page)) xs ys
        ∙ ap (λ t. t && are_present now ys) (sym first.present));
    pins = λ holds.
        rest.pins holds
        ∙ ap (λ ps. ps ++ filter_map (pin_at now) ys) (first.pins refl)
        ∙ append_assoc a (filter_map (pin_at now) xs) (filter_map (pin_at now) ys)
        ∙ ap (λ ps. a ++ ps) (sym (pins-append (pin_at now) xs ys));
  }

  pub listed_stop : (a b : List Pin) (xs ys : List ObjectPage) → Listed now a b false xs
      → Listed now a b false (xs ++ ys)
  listed_stop a b xs ys first = record {
    present =
        sym (list_all-append (λ page. is_some (now page)) xs ys
        ∙ ap (λ t. t && are_present now ys) (sym first.present));
    pins = λ holds. cc;
  }

-- the frame that was looked up is the page's
pub one_listed : (now : ObjectPage → Option FrameNo) (frame : Option FrameNo) (page : ObjectPage) (old new : List Pin)
    (whole is_pinned : Bool) → frame ≡ now page → Listed (λ p. frame) old new whole (cond is_pinned [] (page ∷ []))
    → Listed now old new whole (cond is_pinned [] (page ∷ []))
one_listed now frame page old new whole true is listed = record { present = listed.present; pins = listed.pins }
one_listed now frame page old new whole false is listed = record {
  present = listed.present ∙ ap (λ o. is_some o && true) is;
  pins = λ holds. listed.pins holds ∙ ap (λ (o : Option FrameNo). old ++ cons_option (elim o as (λ _. Option Pin) [
    | Some frame ↦ Some (record { memory = page.memory; index = page.index; frame = frame })
    | None ↦ None
  ]) []) is;
}

-- ---- the pages of one object

abbrev pub pages_left : MemoryObject → ℕ → ℕ → List ObjectPage
pages_left m index count = map (λ i. let page : ObjectPage = record { memory = m.number; index = i } in page)
    (range_with_len index count)

first_left : (keys : List (ℕ × ℕ)) (m : MemoryObject) (index : ℕ) → index < m.count
    → unpinned keys (pages_left m index (m.count - index))
    ≡ cond (has_pair keys m.number index) [] (record { memory = m.number; index = index } ∷ [])
    ++ unpinned keys (pages_left m (index + 1) (m.count - (index + 1)))
first_left keys m index less =
    let k : m.count - index ≡ suc (m.count - (index + 1)) = omega (arith, less) in
    ap (λ n. unpinned keys (pages_left m index n)) k ∙ by_test (has_pair keys m.number index)
  where
    by_test : (b : Bool)
        → cond (not b) (record { memory = m.number; index = index }
        ∷ unpinned keys (pages_left m (index + 1) (m.count - (index + 1))))
        (unpinned keys (pages_left m (index + 1) (m.count - (index + 1))))
        ≡ cond b [] (record { memory = m.number; index = index } ∷ [])
        ++ unpinned keys (pages_left m (index + 1) (m.count - (index + 1)))
    by_test true = refl
    by_test false = refl

abbrev pub Lists : (ObjectPage → Option FrameNo) → List (ℕ × ℕ) → MemoryObject → ℕ → List Pin → List Pin → Type 0
Lists now keys m index here all = (end : List Pin) (whole : Bool)
    → Listed now here end whole (unpinned keys (pages_left m index (m.count - index)))
    → Listed now all end whole (unpinned keys (pages_of m))

pub page_listed : (now : ObjectPage → Option FrameNo) (keys : List (ℕ × ℕ)) (m : MemoryObject) (index : ℕ)
    (frame : Option FrameNo) (all old new : List Pin) (whole is_pinned : Bool) → index < m.count
    → is_pinned ≡ has_pair keys m.number index → frame ≡ now (record { memory = m.number; index = index })
    → Listed (λ p. frame) old new whole (cond is_pinned [] (record { memory = m.number; index = index } ∷ []))
    → whole ≡ true → Lists now keys m index old all → Lists now keys m (index + 1) new all
page_listed now keys m index frame all old new whole is_pinned less pinned is one holds before end last rest =
    before end last (subst (Listed now old end last) (sym (first_left keys m index less))
    (listed_more now old new end last (cond (has_pair keys m.number index) []
    (record { memory = m.number; index = index } ∷ [])) _
    (subst (λ b. Listed now old new b (cond (has_pair keys m.number index) []
    (record { memory = m.number; index = index } ∷ []))) holds
    (subst (λ b. Listed now old new whole (cond b [] (record { memory = m.number; index = index } ∷ []))) pinned
    (one_listed now frame (record { memory = m.number; index = index }) old new whole is_pinned is one))) rest))

pub page_absent : (now : ObjectPage → Option FrameNo) (keys : List (ℕ × ℕ)) (m : MemoryObject) (index : ℕ)
    (frame : Option FrameNo) (all old new : List Pin) (whole is_pinned : Bool) → index < m.count
    → is_pinned ≡ has_pair keys m.number index → frame ≡ now (record { memory = m.number; index = index })
    → Listed (λ p. frame) old new whole (cond is_pinned [] (record { memory = m.number; index = index } ∷ []))
    → whole ≡ false → Lists now keys m index old all → Listed now all new false (unpinned keys (pages_of m))
page_absent now keys m index frame all old new whole is_pinned less pinned is one fails before =
    before new false (subst (Listed now old new false) (sym (first_left keys m index less))
    (listed_stop now old new (cond (has_pair keys m.number index) []
    (record { memory = m.number; index = index } ∷ [])) _
    (subst (λ b. Listed now old new b (cond (has_pair keys m.number index) []
    (record { memory = m.number; index = index } ∷ []))) fails
    (subst (λ b. Listed now old new whole (cond b [] (record { memory = m.number; index = index } ∷ []))) pinned
    (one_listed now frame (record { memory = m.number; index = index }) old new whole is_pinned is one)))))

pub pages_end : (now : ObjectPage → Option FrameNo) (keys : List (ℕ × ℕ)) (m : MemoryObject) (index : ℕ)
    (all here : List Pin) → m.count ≤ index → Lists now keys m index here all
    → Listed now all here true (unpinned keys (pages_of m))
pages_end now keys m index all here past before =
    let no : m.count - index ≡ 0 = omega (arith, past) in
    before here true (subst (λ n. Listed now here here true (unpinned keys (pages_left m index n))) (sym no)
    (listed_none now here))
