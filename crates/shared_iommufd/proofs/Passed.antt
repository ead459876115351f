-- Pieces that have passed, and one more.
use Rattle.std.proofs.Common.{◌≡◌, ℕ, ◌+◌, ◌-◌, ◌<◌, ◌≤◌, min, Option, List, [], ◌∷◌, ◌++◌, length, length-append, append-nil}
use Rattle.std.proofs.Common.{append_assoc, refl, sym, ap, ◌∙◌, subst, arith}
use Rattle.std.proofs.Math.Nat.{min-le_left}
use Rattle.iofd_words.specs.Pages.{offset_of}
use Rattle.lane_lock.specs.Outcomes.{OnlySees}
use Rattle.lane_lock.specs.Passes.{SamePass, view_of}
use Rattle.lane_lock.proofs.Retries.{same_then, sees_same, sees_then}
use Rattle.guarded_core.specs.Passes.{CoreGhosts}
use Rattle.shared_iommufd.specs.Pieces.{Follow, HavePassed, Piece, bytes_of, last_place, standing_after, piece_len}
use Rattle.shared_iommufd.specs.Ports.{KeepsSame, Standing}
use Rattle.shared_iommufd.proofs.Shown.{same_pass}

module _ {A : Type 0} {g : CoreGhosts A} where
  pub keeps_same : (p : Standing A g) → KeepsSame p p
  keeps_same p = record { turns = refl; kept = refl }

  pub keeps_then : (p q r : Standing A g) → KeepsSame p q → KeepsSame q r → KeepsSame p r
  keeps_then p q r a b = record { turns = b.turns ∙ a.turns; kept = b.kept ∙ a.kept }

  pub standing_more : (p : Standing A g) (pieces : List (Piece A g)) (piece : Piece A g)
      → standing_after p (pieces ++ piece ∷ []) ≡ piece.after
  standing_more p [] piece = refl
  standing_more p (x ∷ xs) piece = standing_more x.after xs piece

  pub bytes_more : (pieces : List (Piece A g)) (piece : Piece A g)
      → bytes_of (pieces ++ piece ∷ []) ≡ bytes_of pieces ++ piece.bytes
  bytes_more [] piece = append-nil piece.bytes
  bytes_more (x ∷ xs) piece =
      ap (λ l. x.bytes ++ l) (bytes_more xs piece) ∙ sym (append_assoc x.bytes (bytes_of xs) piece.bytes)

  pub place_more : (place : Option ℕ) (pieces : List (Piece A g)) (piece : Piece A g)
      → last_place place (pieces ++ piece ∷ []) ≡ piece.at
  place_more place [] piece = refl
  place_more place (x ∷ xs) piece = place_more x.at xs piece

module _ {A : Type 0} {g : CoreGhosts A} (IsPiece : ℕ → Standing A g → Piece A g → Type 0) where
  -- one that begins where the others end
  follow_more : (address left : ℕ) (p : Standing A g) (pieces : List (Piece A g)) (piece : Piece A g) (at rest : ℕ)
      → Follow IsPiece address left p pieces → at ≡ address + length (bytes_of pieces)
      → rest ≡ left - length (bytes_of pieces) → 0 < rest → length piece.bytes ≡ piece_len at rest
      → SamePass (standing_after p pieces).pass piece.after.pass → IsPiece at (standing_after p pieces) piece
      → Follow IsPiece address left p (pieces ++ piece ∷ [])
  follow_more address left p [] piece at rest follow there less some len same is =
      let here : at ≡ address = omega (arith, there) in
      let all : rest ≡ left = omega (arith, less) in (
        omega (arith, some, all),
        len ∙ (λ i. piece_len (here i) (all i)),
        same,
        subst (λ (n : ℕ). IsPiece n p piece) here is,
        tt,
      )
  follow_more address left p (x ∷ xs) piece at rest follow there less some len same is =
      let more : length (x.bytes ++ bytes_of xs) ≡ length x.bytes + length (bytes_of xs) =
      length-append x.bytes (bytes_of xs) in (
        follow.0,
        follow.1,
        follow.2,
        follow.3,
        follow_more (address + length x.bytes) (left - length x.bytes) x.after xs piece at rest follow.4
            (omega (arith, there, more)) (omega (arith, less, more)) some len same is,
      )

  pub none_passed : (address left : ℕ) (p : Standing A g) → HavePassed IsPiece address left p [] 0 p
  none_passed address left p = record {
    follow = tt;
    count = refl;
    within = omega arith;
    same = same_pass p.pass;
    sees = sees_same (view_of p.pass);
    keeps = keeps_same p;
  }

  pub one_passed : (address left done : ℕ) (p q : Standing A g) (pieces : List (Piece A g)) (piece : Piece A g)
      → HavePassed IsPiece address left p pieces done q → done < left
      → length piece.bytes ≡ piece_len (address + done) (left - done) → SamePass q.pass piece.after.pass
      → IsPiece (address + done) (standing_after p pieces) piece
      → HavePassed IsPiece address left p (pieces ++ piece ∷ []) (done + length piece.bytes) piece.after
  one_passed address left done p q pieces piece passed less len same is =
      let count = passed.count in
      let within = passed.within in
      let few : length piece.bytes ≤ left - done = subst (λ (n : ℕ). n ≤ left - done) (sym len)
      (min-le_left (left - done) (min (4096 - offset_of (address + done)) 64)) in
      let more : length (bytes_of pieces ++ piece.bytes) ≡ length (bytes_of pieces) + length piece.bytes =
      length-append (bytes_of pieces) piece.bytes in
      let last : standing_after p (pieces ++ piece ∷ []) ≡ piece.after = standing_more p pieces piece in
      record {
        follow = follow_more address left p pieces piece (address + done) (left - done) passed.follow
            (omega (arith, count)) (omega (arith, count)) (omega (arith, less)) len
            (same_then (standing_after p pieces).pass q.pass piece.after.pass passed.same same) is;
        count = ap length (bytes_more pieces piece)
            ∙ (more ∙ ap (λ n. n + length piece.bytes) count);
        within = omega (arith, few, within);
        same = subst (λ (r : Standing A g). SamePass r.pass piece.after.pass) (sym last) (same_pass piece.after.pass);
        sees = subst (λ (r : Standing A g). OnlySees (view_of r.pass) (view_of piece.after.pass)) (sym last)
            (sees_same (view_of piece.after.pass));
        keeps = subst (λ (r : Standing A g). KeepsSame r piece.after) (sym last) (keeps_same piece.after);
      }

  -- and after that the pass has only seen more
  pub passed_later : (address left done : ℕ) (p q r : Standing A g) (pieces : List (Piece A g))
      → HavePassed IsPiece address left p pieces done q → SamePass q.pass r.pass
      → OnlySees (view_of q.pass) (view_of r.pass) → KeepsSame q r → HavePassed IsPiece address left p pieces done r
  passed_later address left done p q r pieces passed same sees keeps = record {
    follow = passed.follow;
    count = passed.count;
    within = passed.within;
    same = same_then (standing_after p pieces).pass q.pass r.pass passed.same same;
    sees = sees_then (view_of (standing_after p pieces).pass) (view_of q.pass) (view_of r.pass) passed.sees sees;
    keeps = keeps_then (standing_after p pieces) q r passed.keeps keeps;
  }
