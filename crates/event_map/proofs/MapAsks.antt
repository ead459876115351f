-- What a MAP that nothing refuses asks of the users' memory.
use Rattle.std.proofs.Common.{eqb, ◌≡◌, ℕ, ◌+◌, ◌*◌, ◌≤◌, ◌/◌, Bool, true, false, ◌&&◌, not, ltb, Option, Some, None}
use Rattle.std.proofs.Common.{refl, sym, ◌∙◌, ap, arith}
use Rattle.std.specs.List.{list_all}
use Rattle.std.proofs.Math.Nat.{div-mul-le_self}
use Rattle.std.proofs.lemmas.Bool.Decides.{nat_tests}
use Rattle.iofd_runs.proofs.NotRefused.{MapPassed, PlacePassed, map_passed, map_place}
use Rattle.iofd_refusals.specs.Checks.{passes_limit}
use Rattle.iofd_words.specs.Files.{is_user, user_of}
use Rattle.iofd_words.specs.Frames.{frame_at, has_pages}
use Rattle.iofd_words.specs.Objects.{has_hwpt}
use Rattle.iofd_words.specs.Pages.{is_whole, page_of}
use Rattle.iofd_words.specs.declared.event.Event.TheVariants as event
use Rattle.iofd_words.specs.declared.event.MapRequest.{MapRequest}
use Rattle.iofd_words.specs.declared.numbers.FileNo.{FileNo}
use Rattle.iofd_words.specs.declared.numbers.UserNo.{UserNo}
use Rattle.iofd_words.specs.declared.rows.MemoryObject.{MemoryObject}
use Rattle.user_memory.specs.Memory.{has_room, rows_of}
use Rattle.server_state.proofs.ViewShown.{same_refusal}
use Rattle.server_state.specs.Held.{objects_in}
use Rattle.server_state.specs.Seen.{seen}
use Rattle.server_state.specs.Step.{IsGrantedAt}
use Rattle.server_state.specs.declared.state.State.{State}
use Rattle.server_state.proofs.Limits.{room_there}

module _ {A : Type 0} where
  module _ (at : ℕ) (s : State A) (file : FileNo) (request : MapRequest) (user : UserNo)
      (granted : IsGrantedAt at (event.Map file request) s) (is_user_of : user_of s.config file ≡ Some user) where
    rows : MapPassed (seen s) file request
    rows = map_passed (seen s) file request (same_refusal granted.world s granted.shows granted.tidy.tabled.owned
        {E = A} (event.Map file request) ∙ granted.none)

    pub placed : PlacePassed (seen s) file request
    placed = map_place (seen s) file request
        (same_refusal granted.world s granted.shows granted.tidy.tabled.owned {E = A} (event.Map file request)
        ∙ granted.none)

    pub some_length : eqb request.length 0 ≡ false
    some_length = rows.some

    pub whole_va : is_whole request.user_va ≡ true
    whole_va = rows.whole_user

    pub within_user : request.user_va + request.length / 4096 * 4096 ≤ 281474976710656
    within_user =
        let less = div-mul-le_self request.length 4096 in
        let most : request.user_va + request.length ≤ 281474976710656 =
        let is = rows.in_user in grind (arith, nat_tests) in
        omega (arith, less, most)

    pub rising : list_all (λ (other : MemoryObject). ltb other.number at) (rows_of s.memory) ≡ true
    rising = ap (list_all (λ (other : MemoryObject). ltb other.number at)) (sym granted.shows.pins.rows)
        ∙ granted.tidy.pins.made

    pub pages_there : (pinned : Bool) → pinned ≡ has_hwpt (objects_in s.objects) file request.ioas → pinned ≡ true
        → has_pages (frame_at s.memory.pages) user (page_of request.user_va) (request.length / 4096) ≡ true
    pages_there pinned is translated = by_user (user_of s.config file) is_user_of
        (rest (has_hwpt (objects_in s.objects) file request.ioas) _ (sym is ∙ translated) rows.present)
      where
        rest : (b c : Bool) → b ≡ true → (b && c) ≡ false → c ≡ false
        rest true c is both = both
        rest false c is both = cc

        by_user : (o : Option UserNo) → o ≡ Some user
            → elim o [
              | Some u ↦ not (has_pages (frame_at s.memory.pages) u (page_of request.user_va)
                  (request.length / 4096))
              | None ↦ true
            ] ≡ false
            → has_pages (frame_at s.memory.pages) user (page_of request.user_va) (request.length / 4096) ≡ true
        by_user None is lacks = cc
        by_user (Some u) is lacks = let same : u ≡ user = cc in twice _ (rw same at lacks)
          where
            twice : (b : Bool) → not b ≡ false → b ≡ true
            twice true is = refl
            twice false is = cc

    pub limit_kept : is_user s.config user ≡ true → (pinned : Bool)
        → pinned ≡ has_hwpt (objects_in s.objects) file request.ioas → pinned ≡ true
        → has_room s.memory user (request.length / 4096) ≡ true
    limit_kept known pinned is translated =
        room_there granted.world s user (request.length / 4096) granted.shows known
        (ap (λ (o : Option UserNo). passes_limit (seen s) o (request.length / 4096)) (sym is_user_of)
        ∙ rest (has_hwpt (objects_in s.objects) file request.ioas) _ (sym is ∙ translated) rows.within_limit)
      where
        rest : (b c : Bool) → b ≡ true → (b && c) ≡ false → c ≡ false
        rest true c is both = both
        rest false c is both = cc
