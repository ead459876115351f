-- The two laws of a record: what is read is spelled so, and what is spelled so is read.
use Rattle.std.proofs.Common.{◌≡◌, ℕ, ◌*◌, ◌^◌, ◌<◌, Bool, true, false, cond, eqb, ltb, List, [], ◌∷◌, ◌++◌, length}
use Rattle.std.proofs.Common.{Option, Some, None, Result, Ok, Err, IfOk, refl, sym, ap, subst, ◌∙◌, append_assoc}
use Rattle.std.specs.Int.{Width, w8, w16, w32, w64, byte_len, to_le_bytes}
use Rattle.std.proofs.lemmas.Bool.{eqb-true, ltb-true, lt-ltb}
use Rattle.journal_audit_bytes.specs.Format.{ElementsFit, ListFits, Listed, Raw, Row, Spells, SpellsTagged, Tagged}
use Rattle.journal_audit_bytes.specs.Format.{TailFits, dirty_event_rows, dirty_reply_rows, elements_spelled, event_rows}
use Rattle.journal_audit_bytes.specs.Format.{events_of, frames, list_spelled, replies_of, reply_rows, row_of, spelled}
use Rattle.journal_audit_bytes.specs.Format.{tail_spelled}
use Rattle.journal_audit_bytes.specs.Reading.{◌>>=◌, Gives, elements_at, fields_at, fields_of_row, fields_of_tag}
use Rattle.journal_audit_bytes.specs.Reading.{list_at, number_at, record_at, some_if, tagged_at, tail_at}
use Rattle.journal_audit_bytes.specs.declared.spelled.ReadError.{ReadError}
use Rattle.journal_audit_bytes.specs.declared.version.Version.{Version}
use Rattle.journal_audit_bytes.specs.declared.version.Version.TheVariants.{One, Two}
use Rattle.journal_audit_bytes.proofs.Elements.{elements_again, elements_take}
use Rattle.journal_audit_bytes.proofs.Fields.{AreWide, IsBytes, IsWide, Takes, Takes-then, bind_some, fields_again}
use Rattle.journal_audit_bytes.proofs.Fields.{fields_take, number_again, number_takes, some_is, wide8, wide16, wide32}
use Rattle.journal_audit_bytes.proofs.Fields.{wide64}

pub guard_some : {A : Type 0} (b : Bool) (x y : A) → cond b (Some x) None ≡ Some y → (b ≡ true) × (x ≡ y)
guard_some true x y is = (refl, cc)
guard_some false x y is = absurd cc

guard_else : {X : Type 0} (b : Bool) (o : Option X) (y : X) → cond b o None ≡ Some y → (b ≡ true) × (o ≡ Some y)
guard_else true o y is = (refl, is)
guard_else false o y is = absurd cc

-- ---- rows have the format's widths

pub record IsListWide (l : Listed) : Type 0 where
  pub count : IsWide l.count
  pub element : AreWide l.element

abbrev pub TailWide : Option Listed → Type 0
TailWide None = Unit {0}
TailWide (Some l) = IsListWide l

pub record RowWide (row : Row) : Type 0 where
  pub numbers : AreWide row.numbers
  pub list : TailWide row.list

abbrev pub AllWide : List Row → Type 0
AllWide [] = Unit {0}
AllWide (row ∷ rows) = RowWide row × AllWide rows

pub frames_wide : IsListWide frames
frames_wide = record { count = wide16; element = (wide32, tt) }

found_row : (rows : List Row) (tag : ℕ) (row : Row) → AllWide rows → row_of rows tag ≡ Some row
    → RowWide row × (row.tag ≡ tag)
found_row [] tag row wide is = absurd cc
found_row (r ∷ rows) tag row wide is =
    by_test (eqb r.tag tag) refl (λ later. found_row rows tag row wide.1 later) is
  where
    by_test : (test : Bool) → eqb r.tag tag ≡ test
        → (row_of rows tag ≡ Some row → RowWide row × (row.tag ≡ tag))
        → cond test (Some r) (row_of rows tag) ≡ Some row → RowWide row × (row.tag ≡ tag)
    by_test true e later is =
        subst (λ (x : Row). RowWide x × (x.tag ≡ tag)) (some_is r row is) (wide.0, eqb-true r.tag tag e)
    by_test false e later is = later is

plain_wide : {tag : ℕ} {ws : List Width} {allows : List ℕ → Bool} → AreWide ws
    → RowWide (record { tag = tag; numbers = ws; list = None; allows = allows })
plain_wide wide = record { numbers = wide; list = tt }

access_wide : {tag : ℕ} {allows : List ℕ → Bool} {may_be : ℕ → Bool}
    → RowWide (record {
      tag = tag;
      numbers = w16 ∷ w64 ∷ [];
      list = Some (record { count = w8; may_be = may_be; element = w8 ∷ [] });
      allows = allows;
    })
access_wide = record { numbers = (wide16, (wide64, tt)); list = record { count = wide8; element = (wide8, tt) } }

written_wide : {tag : ℕ} {allows : List ℕ → Bool} {may_be : ℕ → Bool}
    → RowWide (record {
      tag = tag;
      numbers = w16 ∷ w32 ∷ w64 ∷ [];
      list = Some (record { count = w8; may_be = may_be; element = w8 ∷ [] });
      allows = allows;
    })
written_wide = record {
  numbers = (wide16, (wide32, (wide64, tt)));
  list = record { count = wide8; element = (wide8, tt) };
}

ranges_wide : {tag : ℕ} {allows : List ℕ → Bool} {may_be : ℕ → Bool}
    → RowWide (record {
      tag = tag;
      numbers = w16 ∷ w32 ∷ [];
      list = Some (record { count = w32; may_be = may_be; element = w64 ∷ w64 ∷ [] });
      allows = allows;
    })
ranges_wide = record {
  numbers = (wide16, (wide32, tt));
  list = record { count = wide32; element = (wide64, (wide64, tt)) };
}

replies_wide : AllWide reply_rows
replies_wide = (
  plain_wide tt,
  (
    plain_wide (wide32, tt),
    (
      plain_wide (wide64, tt),
      (
        plain_wide (wide64, tt),
        (
          plain_wide (wide8, tt),
          (
            plain_wide (wide32, tt),
            (
              plain_wide (wide32, tt),
              (
                plain_wide (wide8, tt),
                (plain_wide (wide8, tt), tt),
              ),
            ),
          ),
        ),
      ),
    ),
  ),
)

events_wide : AllWide event_rows
events_wide =
    let file : AreWide (w16 ∷ []) = (wide16, tt) in
    let user_va : AreWide (w16 ∷ w64 ∷ []) = (wide16, (wide64, tt)) in
    let two : AreWide (w16 ∷ w16 ∷ []) = (wide16, (wide16, tt)) in
    let id : AreWide (w16 ∷ w32 ∷ []) = (wide16, (wide32, tt)) in
    let copied : AreWide (w16 ∷ w32 ∷ w32 ∷ w32 ∷ w64 ∷ w64 ∷ w64 ∷ []) =
    (wide16, (wide32, (wide32, (wide32, (wide64, (wide64, (wide64, tt))))))) in
    let mapped : AreWide (w16 ∷ w32 ∷ w32 ∷ w64 ∷ w64 ∷ w64 ∷ []) =
    (wide16, (wide32, (wide32, (wide64, (wide64, (wide64, tt)))))) in
    let unmapped : AreWide (w16 ∷ w32 ∷ w64 ∷ w64 ∷ []) = (wide16, (wide32, (wide64, (wide64, tt)))) in
    let pinned : AreWide (w16 ∷ w32 ∷ w64 ∷ w64 ∷ w8 ∷ []) = (wide16, (wide32, (wide64, (wide64, (wide8, tt))))) in
    let two_ids : AreWide (w16 ∷ w32 ∷ w32 ∷ []) = (wide16, (wide32, (wide32, tt))) in (
      plain_wide file,
      (
        plain_wide user_va,
        (
          plain_wide user_va,
          (
            access_wide,
            (
              plain_wide two,
              (
                plain_wide id,
                (
                  plain_wide id,
                  (
                    plain_wide file,
                    (
                      plain_wide file,
                      (
                        access_wide,
                        (
                          plain_wide file,
                          (
                            plain_wide two_ids,
                            (
                              plain_wide id,
                              (
                                plain_wide pinned,
                                (
                                  plain_wide pinned,
                                  (
                                    written_wide,
                                    (
                                      plain_wide id,
                                      (
                                        plain_wide file,
                                        (
                                          ranges_wide,
                                          (
                                            plain_wide copied,
                                            (plain_wide mapped, (plain_wide unmapped, (plain_wide two_ids, tt))),
                                          ),
                                        ),
                                      ),
                                    ),
                                  ),
                                ),
                              ),
                            ),
                          ),
                        ),
                      ),
                    ),
                  ),
                ),
              ),
            ),
          ),
        ),
      ),
    )

switch_wide : {tag : ℕ} {allows : List ℕ → Bool}
    → RowWide (record { tag = tag; numbers = w16 ∷ w32 ∷ w8 ∷ []; list = None; allows = allows })
switch_wide = record { numbers = (wide16, (wide32, (wide8, tt))); list = tt }

dirty_events_wide : AllWide dirty_event_rows
dirty_events_wide = (switch_wide, (plain_wide (wide16, (wide32, (wide64, (wide64, tt)))), tt))

dirty_replies_wide : AllWide dirty_reply_rows
dirty_replies_wide = (plain_wide (wide64, (wide64, (wide64, (wide64, tt)))), tt)

wide_too : (rows more : List Row) → AllWide rows → AllWide more → AllWide (rows ++ more)
wide_too [] more wide also = also
wide_too (row ∷ rows) more wide also = (wide.0, wide_too rows more wide.1 also)

pub events_of_wide : (version : Version) → AllWide (events_of version)
events_of_wide One = events_wide
events_of_wide Two = wide_too event_rows dirty_event_rows events_wide dirty_events_wide

pub replies_of_wide : (version : Version) → AllWide (replies_of version)
replies_of_wide One = replies_wide
replies_of_wide Two = wide_too reply_rows dirty_reply_rows replies_wide dirty_replies_wide

-- ---- lists behind their number

pub list_takes : (l : Listed) → IsListWide l → (bytes : List ℕ) (x : List (List ℕ) × List ℕ) → IsBytes bytes
    → list_at l bytes ≡ Some x → Takes bytes (list_spelled l x.0) x.1 × ListFits l x.0
unfolding list_at
list_takes l wide bytes x fits is =
    let a = bind_some (number_at l.count bytes) (λ n. cond (l.may_be n.0) (elements_at n.0 l.element n.1) None) x is in
    let g = guard_else (l.may_be a.0.0) (elements_at a.0.0 l.element a.0.1) x a.2 in
    let first = number_takes l.count wide.count bytes a.0.0 a.0.1 fits a.1 in
    let second = elements_take a.0.0 l.element wide.element a.0.1 x first.0.rest_fits g.1 in
    subst (λ (n : ℕ). Takes bytes (to_le_bytes l.count n ++ elements_spelled l.element x.0) x.1
    × ((n < 2 ^ (8 * byte_len l.count)) × ((l.may_be n ≡ true) × FitsAll x.0))) second.1.1 (
      Takes-then bytes (to_le_bytes l.count a.0.0) a.0.1 (elements_spelled l.element x.0) x.1 first.0 second.0,
      (first.1, (g.0, second.1.0)),
    )
  where
    FitsAll : List (List ℕ) → Type 0
    FitsAll es = ElementsFit l.element es

list_again : (l : Listed) → IsListWide l → (es : List (List ℕ)) (rest : List ℕ) → ListFits l es
    → list_at l (list_spelled l es ++ rest) ≡ Some (es, rest)
unfolding list_at
list_again l wide es rest fits =
    ap (λ (bytes : List ℕ). number_at l.count bytes >>= λ n. cond (l.may_be n.0) (elements_at n.0 l.element n.1) None)
    (append_assoc (to_le_bytes l.count (length es)) (elements_spelled l.element es) rest)
    ∙ ap (λ (o : Option (ℕ × List ℕ)). o >>= λ n. cond (l.may_be n.0) (elements_at n.0 l.element n.1) None)
    (number_again l.count wide.count (length es) (elements_spelled l.element es ++ rest) fits.0)
    ∙ ap (λ (test : Bool). cond test (elements_at (length es) l.element (elements_spelled l.element es ++ rest)) None)
    fits.1.0
    ∙ elements_again l.element wide.element es rest fits.1.1

tail_takes : (list : Option Listed) → TailWide list → (bytes : List ℕ) (x : List (List ℕ) × List ℕ) → IsBytes bytes
    → tail_at list bytes ≡ Some x → Takes bytes (tail_spelled list x.0) x.1 × TailFits list x.0
tail_takes None wide bytes x fits is =
    subst (λ (y : List (List ℕ) × List ℕ). Takes bytes [] y.1 × (y.0 ≡ [])) (some_is ([], bytes) x is)
    (record { parts = refl; rest_fits = fits }, refl)
tail_takes (Some l) wide bytes x fits is = list_takes l wide bytes x fits is

tail_again : (list : Option Listed) → TailWide list → (es : List (List ℕ)) (rest : List ℕ) → TailFits list es
    → tail_at list (tail_spelled list es ++ rest) ≡ Some (es, rest)
tail_again None wide es rest fits = ap (λ (es : List (List ℕ)). Some (es, rest)) (sym fits)
tail_again (Some l) wide es rest fits = list_again l wide es rest fits

-- ---- a tag and its fields

pub record IsTagged (rows : List Row) (t : Tagged) (bytes rest : List ℕ) : Type 0 where
  pub text : List ℕ
  pub spells : SpellsTagged rows t text
  pub takes : Takes bytes text rest

module _ (rows : List Row) (wide : AllWide rows) where
  pub tagged_takes : (bytes : List ℕ) (x : Tagged × List ℕ) → IsBytes bytes → tagged_at rows bytes ≡ Some x
      → IsTagged rows x.0 bytes x.1
  unfolding tagged_at fields_of_tag fields_of_row
  tagged_takes bytes x fits is =
      let a = bind_some (number_at w8 bytes) (λ tag. row_of rows tag.0 >>= λ row. fields_at row.numbers tag.1
      >>= λ numbers. tail_at row.list numbers.1 >>= λ list. some_if (row.allows numbers.0)
      (record { tag = row.tag; numbers = numbers.0; list = list.0 }, list.1)) x is in
      let r = bind_some (row_of rows a.0.0) (λ row. fields_at row.numbers a.0.1
      >>= λ numbers. tail_at row.list numbers.1 >>= λ list. some_if (row.allows numbers.0)
      (record { tag = row.tag; numbers = numbers.0; list = list.0 }, list.1)) x a.2 in
      let n = bind_some (fields_at r.0.numbers a.0.1)
      (λ numbers. tail_at r.0.list numbers.1 >>= λ list. some_if (r.0.allows numbers.0)
      (record { tag = r.0.tag; numbers = numbers.0; list = list.0 }, list.1)) x r.2 in
      let l = bind_some (tail_at r.0.list n.0.1) (λ list. some_if (r.0.allows n.0.0)
      (record { tag = r.0.tag; numbers = n.0.0; list = list.0 }, list.1)) x n.2 in
      let made : Tagged × List ℕ = (record { tag = r.0.tag; numbers = n.0.0; list = l.0.0 }, l.0.1) in
      let g = guard_some (r.0.allows n.0.0) made x l.2 in
      let found = found_row rows a.0.0 r.0 wide r.1 in
      let tag : a.0.0 ≡ r.0.tag = sym found.1 in
      let first = number_takes w8 wide8 bytes a.0.0 a.0.1 fits a.1 in
      let second = fields_take r.0.numbers found.0.numbers a.0.1 n.0 first.0.rest_fits n.1 in
      let third = tail_takes r.0.list found.0.list n.0.1 l.0 second.0.rest_fits l.1 in
      let text : List ℕ = to_le_bytes w8 r.0.tag ++ (spelled r.0.numbers n.0.0 ++ tail_spelled r.0.list l.0.0) in
      let tag_takes : Takes bytes (to_le_bytes w8 r.0.tag) a.0.1 =
      subst (λ (t : ℕ). Takes bytes (to_le_bytes w8 t) a.0.1) tag first.0 in
      subst (λ (y : Tagged × List ℕ). IsTagged rows y.0 bytes y.1) {x = made} {y = x} g.1 (record {
        text = text;
        spells = record {
          row = r.0;
          known = subst (λ (t : ℕ). row_of rows t ≡ Some r.0) tag r.1;
          tag_fits = subst (λ (t : ℕ). t < 2 ^ (8 * byte_len w8)) tag first.1;
          numbers_fit = second.1;
          list_fits = third.1;
          allowed = g.0;
          bytes_are = refl {a = text};
        };
        takes = Takes-then bytes (to_le_bytes w8 r.0.tag) a.0.1
            (spelled r.0.numbers n.0.0 ++ tail_spelled r.0.list l.0.0) l.0.1 tag_takes
            (Takes-then a.0.1 (spelled r.0.numbers n.0.0) n.0.1 (tail_spelled r.0.list l.0.0) l.0.1 second.0 third.0);
      })

  tagged_again : (t : Tagged) (text rest : List ℕ) → SpellsTagged rows t text
      → tagged_at rows (text ++ rest) ≡ Some (t, rest)
  unfolding tagged_at fields_of_tag fields_of_row
  tagged_again t text rest s =
      let found = found_row rows t.tag s.row wide s.known in
      let tail : List ℕ = tail_spelled s.row.list t.list in
      let numbers : List ℕ = spelled s.row.numbers t.numbers in
      let grouped : text ++ rest ≡ to_le_bytes w8 t.tag ++ (numbers ++ (tail ++ rest)) =
      rw s.bytes_are (simp append_assoc) in
      ap (tagged_at rows) grouped
      ∙ ap (λ (o : Option (ℕ × List ℕ)). o >>= λ tag. row_of rows tag.0 >>= λ row. fields_at row.numbers tag.1
      >>= λ numbers. tail_at row.list numbers.1 >>= λ list. some_if (row.allows numbers.0)
      (record { tag = row.tag; numbers = numbers.0; list = list.0 }, list.1))
      (number_again w8 wide8 t.tag (numbers ++ (tail ++ rest)) s.tag_fits)
      ∙ ap (λ (o : Option Row). o >>= λ row. fields_at row.numbers (numbers ++ (tail ++ rest))
      >>= λ numbers. tail_at row.list numbers.1 >>= λ list. some_if (row.allows numbers.0)
      (record { tag = row.tag; numbers = numbers.0; list = list.0 }, list.1)) s.known
      ∙ ap (λ (o : Option (List ℕ × List ℕ)). o >>= λ numbers. tail_at s.row.list numbers.1 >>= λ list.
      some_if (s.row.allows numbers.0) (record { tag = s.row.tag; numbers = numbers.0; list = list.0 }, list.1))
      (fields_again s.row.numbers found.0.numbers t.numbers (tail ++ rest) s.numbers_fit)
      ∙ ap (λ (o : Option (List (List ℕ) × List ℕ)). o >>= λ list. some_if (s.row.allows t.numbers)
      (record { tag = s.row.tag; numbers = t.numbers; list = list.0 }, list.1))
      (tail_again s.row.list found.0.list t.list rest s.list_fits)
      ∙ ap (λ (test : Bool). some_if test
      (record { tag = s.row.tag; numbers = t.numbers; list = t.list }, rest)) s.allowed
      ∙ ap (λ (n : ℕ). Some (record { tag = n; numbers = t.numbers; list = t.list }, rest)) found.1

-- ---- whole records

pub record_takes : (version : Version) (passes : ℕ) (bytes : List ℕ) (x : Raw × List ℕ) → IsBytes bytes
    → record_at version passes bytes ≡ Some x
    → (text : List ℕ) × Spells version passes x.0 text × (bytes ≡ text ++ x.1)
unfolding record_at
record_takes version passes bytes x fits is =
    let p =
    bind_some (number_at w16 bytes) (λ pass. cond (ltb pass.0 passes) (tagged_at (events_of version) pass.1) None
    >>= λ e. tagged_at (replies_of version) e.1 >>= λ a. list_at frames a.1 >>= λ taken. list_at frames taken.1 >>=
    λ given.
    Some (record { pass = pass.0; event = e.0; reply = a.0; taken = taken.0; given = given.0 }, given.1)) x is in
    let e = bind_some (cond (ltb p.0.0 passes) (tagged_at (events_of version) p.0.1) None)
    (λ e. tagged_at (replies_of version) e.1 >>= λ a. list_at frames a.1 >>= λ taken. list_at frames taken.1 >>=
    λ given.
    Some (record { pass = p.0.0; event = e.0; reply = a.0; taken = taken.0; given = given.0 }, given.1)) x p.2 in
    let a = bind_some (tagged_at (replies_of version) e.0.1)
    (λ a. list_at frames a.1 >>= λ taken. list_at frames taken.1 >>= λ given.
    Some (record { pass = p.0.0; event = e.0.0; reply = a.0; taken = taken.0; given = given.0 }, given.1)) x e.2 in
    let t = bind_some (list_at frames a.0.1) (λ taken. list_at frames taken.1 >>= λ given.
    Some (record { pass = p.0.0; event = e.0.0; reply = a.0.0; taken = taken.0; given = given.0 }, given.1)) x a.2 in
    let v = bind_some (list_at frames t.0.1) (λ given.
    Some (record { pass = p.0.0; event = e.0.0; reply = a.0.0; taken = t.0.0; given = given.0 }, given.1)) x t.2 in
    let g = guard_else (ltb p.0.0 passes) (tagged_at (events_of version) p.0.1) e.0 e.1 in
    let pt = number_takes w16 wide16 bytes p.0.0 p.0.1 fits p.1 in
    let et = tagged_takes (events_of version) (events_of_wide version) p.0.1 e.0 pt.0.rest_fits g.1 in
    let at = tagged_takes (replies_of version) (replies_of_wide version) e.0.1 a.0 et.takes.rest_fits a.1 in
    let tt' = list_takes frames frames_wide a.0.1 t.0 at.takes.rest_fits t.1 in
    let gt = list_takes frames frames_wide t.0.1 v.0 tt'.0.rest_fits v.1 in
    let made : Raw × List ℕ =
    (record { pass = p.0.0; event = e.0.0; reply = a.0.0; taken = t.0.0; given = v.0.0 }, v.0.1) in
    let taken = list_spelled frames t.0.0 in
    let given = list_spelled frames v.0.0 in
    let last = Takes-then a.0.1 taken t.0.1 given v.0.1 tt'.0 gt.0 in
    let behind = Takes-then e.0.1 at.text a.0.1 (taken ++ given) v.0.1 at.takes last in
    let later = Takes-then p.0.1 et.text e.0.1 (at.text ++ (taken ++ given)) v.0.1 et.takes behind in
    let text : List ℕ = to_le_bytes w16 p.0.0 ++ (et.text ++ (at.text ++ (taken ++ given))) in
    let whole = Takes-then bytes (to_le_bytes w16 p.0.0) p.0.1 (et.text ++ (at.text ++ (taken ++ given))) v.0.1
    pt.0 later in
    subst (λ (y : Raw × List ℕ). (text : List ℕ) × Spells version passes y.0 text × (bytes ≡ text ++ y.1))
    {x = made} {y = x} (some_is made x v.2) (
      text,
      record {
        pass = ltb-true _ _ g.0;
        pass_fits = pt.1;
        event = et.text;
        event_is = et.spells;
        reply = at.text;
        reply_is = at.spells;
        taken_fit = tt'.1;
        given_fit = gt.1;
        bytes_are = refl {a = text};
      },
      whole.parts,
    )

pub record_again : (version : Version) (passes : ℕ) (r : Raw) (text rest : List ℕ) → Spells version passes r text
    → record_at version passes (text ++ rest) ≡ Some (r, rest)
unfolding record_at
record_again version passes r text rest s =
    let after_reply : List ℕ = list_spelled frames r.taken ++ (list_spelled frames r.given ++ rest) in
    let after_pass : List ℕ = s.event ++ (s.reply ++ after_reply) in
    let grouped : text ++ rest ≡ to_le_bytes w16 r.pass ++ after_pass = rw s.bytes_are (simp append_assoc) in
    let below : ltb r.pass passes ≡ true = lt-ltb _ _ s.pass in
    ap (record_at version passes) grouped
    ∙ rw (
      number_again w16 wide16 r.pass after_pass s.pass_fits,
      below,
      tagged_again (events_of version) (events_of_wide version) r.event s.event (s.reply ++ after_reply) s.event_is,
      tagged_again (replies_of version) (replies_of_wide version) r.reply s.reply after_reply s.reply_is,
      list_again frames frames_wide r.taken (list_spelled frames r.given ++ rest) s.taken_fit,
      list_again frames frames_wide r.given rest s.given_fit,
    ) refl

-- what a reader answers
pub is_found : {X : Type 0} (view : X → Raw × List ℕ) (version : Version) (passes : ℕ) (bytes : List ℕ)
    (r : Result X ReadError)
    → IsBytes bytes → Gives view r (record_at version passes bytes)
    → IfOk r (λ x. (text : List ℕ) × Spells version passes (view x).0 text × (bytes ≡ text ++ (view x).1))
is_found view version passes bytes (Ok x) fits given = record_takes version passes bytes (view x) fits given
is_found view version passes bytes (Err e) fits given = tt

-- ---- one spelling

one_tagged : (rows : List Row) (t : Tagged) (a b : List ℕ) → SpellsTagged rows t a → SpellsTagged rows t b → a ≡ b
one_tagged rows t a b p q =
    let same : p.row ≡ q.row = some_is p.row q.row (sym p.known ∙ q.known) in
    p.bytes_are
    ∙ ap (λ (row : Row). to_le_bytes w8 t.tag ++ (spelled row.numbers t.numbers ++ tail_spelled row.list t.list)) same
    ∙ sym q.bytes_are

pub one_spelling : (version : Version) (passes : ℕ) (r : Raw) (a b : List ℕ) → Spells version passes r a
    → Spells version passes r b → a ≡ b
one_spelling version passes r a b p q =
    let lists : List ℕ = list_spelled frames r.taken ++ list_spelled frames r.given in
    p.bytes_are
    ∙ ap (λ (x : List ℕ). to_le_bytes w16 r.pass ++ (x ++ (p.reply ++ lists)))
    (one_tagged (events_of version) r.event p.event q.event p.event_is q.event_is)
    ∙ ap (λ (x : List ℕ). to_le_bytes w16 r.pass ++ (q.event ++ (x ++ lists)))
    (one_tagged (replies_of version) r.reply p.reply q.reply p.reply_is q.reply_is)
    ∙ sym q.bytes_are
