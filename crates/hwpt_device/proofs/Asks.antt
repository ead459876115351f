-- What a page table that comes asks of the users' memory.
use Rattle.std.proofs.Common.{◌≡◌, ℕ, ◌+◌, ◌≤◌, Bool, true, false, cond, ◌&&◌, not, eqb, ltb, Option, Some, None, inl}
use Rattle.std.proofs.Common.{inr, List, [], ◌∷◌, length, map, refl, sym, ◌∙◌, ap, arith}
use Rattle.std.specs.Prelude.{is_none}
use Rattle.std.specs.List.{filter, list_any}
use Rattle.std.proofs.Math.Path.{fun_ext}
use Rattle.std.proofs.lemmas.Bool.Decides.{nat_tests}
use Rattle.iofd_rows.proofs.Bools.{both_true}
use Rattle.iofd_rows.proofs.Each.{IsIn}
use Rattle.iofd_runs.proofs.KeepsOwned.{owner}
use Rattle.iofd_runs.specs.Owned.{AreasOwned}
use Rattle.iofd_words.specs.Areas.{areas_of}
use Rattle.iofd_words.specs.Files.{is_user, limit_of, user_of}
use Rattle.iofd_words.specs.Objects.{has_hwpt, with_object}
use Rattle.iofd_words.specs.Pins.{unpinned_pages}
use Rattle.iofd_words.specs.Settings.{Settings}
use Rattle.iofd_words.specs.World.{World}
use Rattle.iofd_words.specs.declared.numbers.FileNo.{FileNo}
use Rattle.iofd_words.specs.declared.numbers.ObjId.{ObjId}
use Rattle.iofd_words.specs.declared.numbers.UserNo.{UserNo}
use Rattle.iofd_words.specs.declared.rows.Area.{Area}
use Rattle.iofd_words.specs.declared.rows.MemoryObject.{MemoryObject}
use Rattle.iofd_words.specs.declared.rows.Object.{Object}
use Rattle.iofd_words.specs.declared.width.Width.{Width}
use Rattle.iofd_words.specs.declared.width.Width.TheVariants.{Bits39}
use Rattle.page_table_set.specs.PageTables.{Hwpt, objects_of}
use Rattle.hwpt_device.proofs.Gained.{table_gained}
use Rattle.hwpt_device.specs.Making.{IsRoomy, made_object}
use Rattle.iofd_words.specs.View.{View, view}
use Rattle.server_state.proofs.ViewShown.{same_view}
use Rattle.user_memory_rows.proofs.Gone.{few_translated}
use Rattle.user_memory_rows.specs.Moves.{numbers_of}
use Rattle.user_memory_rows.specs.Shown.{over, translated}
use Rattle.user_memory.proofs.NewPages.{lacking_pages}
use Rattle.user_memory.specs.Invariant.{ObjectsTell}
use Rattle.user_memory.specs.Memory.{Memory, are_of, frame_now, lacks_page, newly_pinned, pinned_frame, rows_at}
use Rattle.user_memory.specs.Memory.{rows_of}
use Rattle.std.proofs.Common.{subst}
use Rattle.iofd_rows.specs.Ids.{have_own_ids}
use Rattle.iofd_refusals.specs.Checks.{passes_limit, passes_limit_attached}
use Rattle.user_memory_rows.proofs.FramesFollow.{is_backed}
use Rattle.user_memory_rows.proofs.PinsFollow.{only_kept}
use Rattle.user_memory_rows.specs.Moves.{MayPin, PinsAreKnown}
use Rattle.user_memory.specs.Memory.{has_room}
use Rattle.server_state.proofs.AreasBecome.{own_at}
use Rattle.server_state.proofs.Orderly.{orderly}
use Rattle.server_state.proofs.PageTables.{has_hwpt_kept, tables_shown}
use Rattle.server_state.proofs.Limits.{room_there}
use Rattle.server_state.specs.Held.{areas_at, object_of, objects_in}
use Rattle.server_state.specs.Mapping.{own_areas}
use Rattle.server_state.specs.Seen.{seen}
use Rattle.server_state.specs.Shows.{Shows}
use Rattle.server_state.specs.Spaces.{IsOrderly}
use Rattle.server_state.specs.Step.{IsTidy}
use Rattle.server_state.specs.declared.held.Held.{Held}
use Rattle.server_state.specs.declared.state.State.{State}
use Rattle.object_table.proofs.Lists.{list_any-map}
use Rattle.object_table.specs.Table.{Row, Table}

-- ---- the numbers of areas

-- the rows of their objects, as the definitions have them
pub rows_under : (m : Memory) (areas : List Area)
    → rows_at m (numbers_of areas) ≡ filter (λ row. list_any (λ area. eqb area.memory row.number) areas) (rows_of m)
rows_under m areas = ap (λ (p : MemoryObject → Bool). filter p (rows_of m))
    (fun_ext (λ (row : MemoryObject). list_any-map (λ n. eqb n row.number) (λ (area : Area). area.memory) areas))

-- a page of theirs that is to be pinned isn't there
pub lacks_under : (m : Memory) (areas : List Area) → ObjectsTell m.objects
    → list_any (λ (area : Area). lacks_page m area.memory) areas ≡ list_any (λ page. is_none (frame_now m page))
    (unpinned_pages (pinned_frame m) (filter
    (λ row. list_any (λ area. eqb area.memory row.number) areas) (rows_of m)))
lacks_under m areas facts =
    sym (list_any-map (lacks_page m) (λ (area : Area). area.memory) areas) ∙ lacking_pages m (numbers_of areas) facts
    ∙ ap (λ (rows : List MemoryObject). list_any (λ page. is_none (frame_now m page))
    (unpinned_pages (pinned_frame m) rows)) (rows_under m areas)

-- ---- how many may be pinned

-- where so many may, fewer may
pub fewer_pass : (v : View) (user : Option UserNo) (few most : ℕ) → few ≤ most → passes_limit v user most ≡ false
    → passes_limit v user few ≡ false
fewer_pass v None few most less none = refl
fewer_pass v (Some user) few most less none = by_limit (limit_of v.settings user) none
  where
    by_limit : (o : Option ℕ) → elim o [ Some limit ↦ ltb limit (v.held_by user + most) | None ↦ false ] ≡ false
        → elim o [ Some limit ↦ ltb limit (v.held_by user + few) | None ↦ false ] ≡ false
    by_limit None none = refl
    by_limit (Some limit) none = grind (arith, nat_tests)

-- the first page table of an address space asks it of the pages under these areas, each once
pub asked_of : {A : Type 0} (s : State A) (file : FileNo) (ioas : ObjId) (areas : List Area)
    → has_hwpt (objects_in s.objects) file ioas ≡ false → areas_at s.objects.rows file ioas ≡ areas
    → passes_limit (seen s) (user_of s.config file) (newly_pinned s.memory (numbers_of areas))
    ≡ passes_limit_attached (seen s) file ioas
asked_of s file ioas areas none are =
    ap (λ (rows : List MemoryObject). passes_limit (seen s) (user_of s.config file)
    (length (unpinned_pages (pinned_frame s.memory) rows))) (rows_under s.memory areas)
    ∙ ap (λ (areas : List Area). passes_limit (seen s) (user_of s.config file)
    (length (unpinned_pages (pinned_frame s.memory)
    (filter (λ row. list_any (λ area. eqb area.memory row.number) areas) (rows_of s.memory))))) (sym are)
    ∙ untranslated (has_hwpt (objects_in s.objects) file ioas) _ none
  where
    untranslated : (has passes : Bool) → has ≡ false → passes ≡ (not has && passes)
    untranslated true passes none = cc
    untranslated false passes none = refl

-- ---- whose they are

pub all_own : (w : World) (file : FileNo) (ioas : ObjId) (user : UserNo) (rows : List MemoryObject) → AreasOwned w
    → user_of w.settings file ≡ Some user
    → ((m : MemoryObject) → IsIn rows m → IsIn w.memory m)
    → are_of user (filter (λ row. list_any (λ area. eqb area.memory row.number) (areas_of w.areas file ioas)) rows)
    ≡ true
all_own w file ioas user [] owned is within = refl
all_own w file ioas user (m ∷ rows) owned is within =
    by_test (list_any (λ (area : Area). eqb area.memory m.number) (areas_of w.areas file ioas)) refl
    (all_own w file ioas user rows owned is (λ x later. within x (inr later)))
  where
    turned : (a b : ℕ) → eqb a b ≡ true → eqb b a ≡ true
    turned a b same = grind (arith, nat_tests)

    by_user : (o : Option UserNo) → o ≡ Some user → elim o [ Some u ↦ eqb u.0 m.user.0 | None ↦ false ] ≡ true
        → eqb m.user.0 user.0 ≡ true
    by_user None found of_user = cc
    by_user (Some u) found of_user = let same : u ≡ user = cc in turned user.0 m.user.0 (rw same at of_user)

    by_test : (b : Bool) → list_any (λ (area : Area). eqb area.memory m.number) (areas_of w.areas file ioas) ≡ b
        → are_of user (filter (λ row. list_any (λ area. eqb area.memory row.number) (areas_of w.areas file ioas)) rows)
        ≡ true
        → are_of user (cond b (m ∷ filter (λ row. list_any (λ area. eqb area.memory row.number)
        (areas_of w.areas file ioas)) rows) (filter (λ row. list_any (λ area. eqb area.memory row.number)
        (areas_of w.areas file ioas)) rows)) ≡ true
    by_test true there rest = both_true _ _ (by_user (user_of w.settings file) is
        (owner w file ioas m owned (within m (inl refl)) there)) rest
    by_test false there rest = rest

-- ---- no areas

none_left : {X : Type 0} (xs : List X) → filter (λ (x : X). false) xs ≡ []
none_left [] = refl
none_left (x ∷ xs) = none_left xs

pub none_under : (m : Memory) → unpinned_pages (pinned_frame m)
    (filter (λ row. list_any (λ (area : Area). eqb area.memory row.number) []) (rows_of m)) ≡ []
none_under m = ap (unpinned_pages (pinned_frame m)) (none_left (rows_of m))

-- ---- the space is the areas'

-- the translated areas and those of a space without a page table are some of all
pub room_for_pins : (objects : List Object) (areas : List Area) (file : FileNo) (ioas : ObjId)
    → has_hwpt objects file ioas ≡ false → (n : ℕ)
    → translated objects areas n + over (areas_of areas file ioas) n ≤ over areas n
room_for_pins objects areas file ioas none n =
    let gained = table_gained objects areas file ioas (record { 0 = 0 }) Bits39 true none n in
    let few = few_translated (with_object (made_object file ioas (record { 0 = 0 }) Bits39 true) objects) areas n in
    omega (arith, gained, few)

-- ---- where nothing refuses

-- whether an address space is translated is known of the page tables that are kept
pub translated_space : {A : Type 0} (w : World) (s : State A) (table : Table (Held A)) (tables : List Hwpt)
    (file : FileNo) (ioas : ObjId) → Shows w s → tables ≡ s.page_tables.tables → table.rows ≡ s.objects.rows
    → has_hwpt (map (λ (h : Hwpt). h.object) tables) file ioas ≡ has_hwpt (objects_in table) file ioas
translated_space w s table tables file ioas shows is rows =
    ap (λ (l : List Hwpt). has_hwpt (map (λ (h : Hwpt). h.object) l) file ioas) is
    ∙ has_hwpt_kept (objects_of s.page_tables) (objects_in s.objects) (tables_shown w s shows) file ioas
    ∙ ap (λ (rows : List (Row (Held _))). has_hwpt (map object_of rows) file ioas) (sym rows)

module _ {A : Type 0} where
  -- the pins that are known
  pub pins_known : (at : ℕ) (w : World) (s : State A) → IsTidy at w → Shows w s → PinsAreKnown s.memory
  pins_known at w s tidy shows =
      record { invariant = shows.pins.invariant; only = only_kept at w s.memory tidy.pins shows.pins }

  -- the areas of the address space may be pinned, where it has no page table
  pub may_pin : (at : ℕ) (w : World) (s : State A) (table : Table (Held A)) (file : FileNo) (ioas : ObjId)
      (width : Width) (user : UserNo) → IsTidy at w → Shows w s → IsRoomy (view w) file ioas width
      → user_of s.config file ≡ Some user → is_user s.config user ≡ true
      → table.rows ≡ s.objects.rows → has_hwpt (objects_in table) file ioas ≡ false
      → MayPin user (own_areas table file ioas) s.memory s.pool.holds
  may_pin at w s table file ioas width user tidy shows roomy is_user_of known same none =
      subst (λ (areas : List Area). MayPin user areas s.memory s.pool.holds) (sym space) (record {
        own = ap (are_of user) (rows_under s.memory (areas_of w.areas file ioas))
            ∙ ap (λ (rows : List MemoryObject). are_of user
            (filter (λ row. list_any (λ area. eqb area.memory row.number) (areas_of w.areas file ioas)) rows)) (sym
            shows.pins.rows)
            ∙ all_own w file ioas user w.memory tidy.owned
            (ap (λ (settings : Settings). user_of settings file) shows.settings ∙ is_user_of) (λ m within. within);
        present = ap (λ (rows : List MemoryObject). list_any (λ page. is_none (frame_now s.memory page))
            (unpinned_pages (pinned_frame s.memory) rows)) (rows_under s.memory (areas_of w.areas file ioas))
            ∙ ap (λ (areas : List Area). list_any (λ page. is_none (frame_now s.memory page))
            (unpinned_pages (pinned_frame s.memory) (filter
            (λ row. list_any (λ area. eqb area.memory row.number) areas) (rows_of s.memory))))
            (shows.objects.spaces file ioas)
            ∙ rest _ _ unused asks.present;
        room = ap (has_room s.memory user) (ap (λ (rows : List MemoryObject). length
            (unpinned_pages (pinned_frame s.memory) rows)) (rows_under s.memory (areas_of w.areas file ioas))
            ∙ ap (λ (areas : List Area). length (unpinned_pages (pinned_frame s.memory)
            (filter (λ row. list_any (λ area. eqb area.memory row.number) areas) (rows_of s.memory))))
            (shows.objects.spaces file ioas))
            ∙ room_there w s user _ shows known (ap (λ (o : Option UserNo). passes_limit (seen s) o
            (length (unpinned_pages (pinned_frame s.memory)
            (filter (λ row. list_any (λ area. eqb area.memory row.number)
            (areas_at s.objects.rows file ioas)) (rows_of s.memory))))) (sym is_user_of)
            ∙ rest _ _ unused asks.within_limit);
        areas = λ n. let all = room_for_pins w.objects w.areas file ioas unused_w n in let pins =
            shows.pins.tables n in let areas = shows.pins.areas n in omega (arith, all, pins, areas);
        backed = is_backed w.settings.pool w.writes w.table_frames s.memory s.pool shows.frames;
        invariant = shows.pins.invariant;
        only = only_kept at w s.memory tidy.pins shows.pins;
      })
    where
      objects : objects_in table ≡ objects_in s.objects
      objects = ap (map object_of) same

      unused : has_hwpt (objects_in s.objects) file ioas ≡ false
      unused = ap (λ (rows : List Object). has_hwpt rows file ioas) (sym objects) ∙ none

      unused_w : has_hwpt w.objects file ioas ≡ false
      unused_w = ap (λ (rows : List Object). has_hwpt rows file ioas) shows.objects.rows ∙ unused

      asks : IsRoomy (seen s) file ioas width
      asks = subst (λ (v : View). IsRoomy v file ioas width) (sym (same_view w s shows tidy.tabled.owned)) roomy

      rest : (b c : Bool) → b ≡ false → (not b && c) ≡ false → c ≡ false
      rest true c is both = cc
      rest false c is both = both

      is_orderly : IsOrderly table
      is_orderly = record { ids = ap have_own_ids objects ∙ (orderly at w s tidy shows).ids }

      space : own_areas table file ioas ≡ areas_of w.areas file ioas
      space = own_at table file ioas is_orderly ∙ ap (λ (rows : List (Row (Held A))). areas_at rows file ioas) same
          ∙ sym (shows.objects.spaces file ioas)
