-- One change of pins by accesses after another.
use Rattle.std.proofs.Common.{◌≡◌, ℕ, ◌+◌, ◌≤◌, Bool, true, false, ◌||◌, ltb, None, List, refl}
use Rattle.std.proofs.Common.{ap, sym, ◌∙◌, arith}
use Rattle.std.specs.Prelude.{if◌then◌else◌}
use Rattle.std.proofs.lemmas.Bool.Decides.{nat_tests}
use Rattle.frame_memory.specs.Pool.{FramePool}
use Rattle.iofd_rows.proofs.Bools.{and_true, both_true, clash}
use Rattle.iofd_words.specs.Pins as pin
use Rattle.iofd_words.specs.Pins.{ObjectPage}
use Rattle.iofd_words.specs.declared.rows.MemoryObject.{MemoryObject}
use Rattle.iofd_words.specs.declared.rows.UserPage.{UserPage}
use Rattle.user_memory.specs.Changes.{HoldsFollow, Settles}
use Rattle.user_memory.specs.Memory.{Memory, access_pins, frame_now, is_pinned, pinned_frame, rows_of, table_pins}
use Rattle.user_memory_rows.specs.Shown.{has_page}

-- the frames that pages are now depend on the objects and the users' pages alone
pub now_same : (a b : Memory) (page : ObjectPage) → rows_of b ≡ rows_of a → b.pages ≡ a.pages
    → frame_now b page ≡ frame_now a page
now_same a b page rows pages =
    ap (λ (l : List MemoryObject). pin.frame_now l b.pages page) rows
    ∙ ap (λ (l : List UserPage). pin.frame_now (rows_of a) l page) pages

-- where a pin stood, one stands when none has gone
pub still_pinned : (a b : Memory) (page : ObjectPage) → rows_of b ≡ rows_of a
    → table_pins a page.memory ≤ table_pins b page.memory → access_pins a page ≤ access_pins b page
    → is_pinned a page ≡ true → is_pinned b page ≡ true
still_pinned a b page rows tables accesses is =
    let parts = and_true (has_page (rows_of a) page) (ltb 0 (table_pins a page.memory) || ltb 0 (access_pins a page)) is
    in
    both_true _ _ (ap (λ (l : List MemoryObject). has_page l page) rows ∙ parts.0)
    (more (table_pins a page.memory) (table_pins b page.memory) (access_pins a page) (access_pins b page) tables
    accesses parts.1)
  where
    more : (t u k l : ℕ) → t ≤ u → k ≤ l → (ltb 0 t || ltb 0 k) ≡ true → (ltb 0 u || ltb 0 l) ≡ true
    more t u k l first second some = grind (arith, nat_tests)

module _ (a b c : Memory) (p q r : FramePool) where
  holds_through : HoldsFollow a b p q → HoldsFollow b c q r → HoldsFollow a c p r
  holds_through one two = record {
    count = two.count ∙ one.count;
    holds = λ frame. added _ _ _ _ _ _ (one.holds frame) (two.holds frame);
    backed = λ is. two.backed (one.backed is);
  }
    where
      added : (h1 h2 h3 r1 r2 r3 : ℕ) → h2 + r1 ≡ h1 + r2 → h3 + r2 ≡ h2 + r3 → h3 + r1 ≡ h1 + r3
      added h1 h2 h3 r1 r2 r3 one two = omega (arith, one, two)

  -- a page that is pinned before and after both is pinned between them
  pub settles_through : rows_of c ≡ rows_of b → Settles a b p q → Settles b c q r
      → ((page : ObjectPage) → is_pinned a page ≡ true → is_pinned c page ≡ true → is_pinned b page ≡ true)
      → Settles a c p r
  settles_through rows one two between = record {
    pages = two.pages ∙ one.pages;
    limits = two.limits ∙ one.limits;
    frames = λ page. two.frames page
        ∙ by_pins page (is_pinned a page) (is_pinned b page) (is_pinned c page) refl refl refl
        (one.frames page) (now_same b c page rows two.pages) (between page);
    holds = holds_through one.holds two.holds;
    bytes = two.bytes ∙ one.bytes;
    kept = two.kept;
  }
    where
      by_pins : (page : ObjectPage) (x y z : Bool) → is_pinned a page ≡ x → is_pinned b page ≡ y → is_pinned c page ≡ z
          → pinned_frame b page ≡ (if is_pinned b page
          then (if is_pinned a page then pinned_frame a page else frame_now b page) else None)
          → frame_now c page ≡ frame_now b page
          → (is_pinned a page ≡ true → is_pinned c page ≡ true → is_pinned b page ≡ true)
          → (if is_pinned c page then (if is_pinned b page then pinned_frame b page else frame_now c page) else None)
          ≡ (if is_pinned c page then (if is_pinned a page then pinned_frame a page else frame_now c page) else None)
      by_pins page x y false is_x is_y is_z told now through = rw is_z refl
      by_pins page true true true is_x is_y is_z told now through =
          let here : pinned_frame b page ≡ pinned_frame a page = rw (is_y, is_x) at told in rw (is_z, is_y, is_x) here
      by_pins page false true true is_x is_y is_z told now through =
          let here : pinned_frame b page ≡ frame_now b page = rw (is_y, is_x) at told in
          rw (is_z, is_y, is_x) (here ∙ sym now)
      by_pins page true false true is_x is_y is_z told now through =
          absurd (clash _ is_y (through is_x is_z))
      by_pins page false false true is_x is_y is_z told now through = rw (is_z, is_y, is_x) refl
