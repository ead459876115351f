-- Words behind a structure.
use Rattle.std.proofs.Common.{◌≡◌, ℕ, zero, suc, ◌+◌, ◌*◌, ◌<◌, ◌≤◌, List, [], ◌∷◌, ◌++◌, length}
use Rattle.std.proofs.Common.{take, drop, sym, ap, ◌∙◌, append_assoc, add-one, get_or, arith}
use Rattle.std.specs.Int.{w64, to_le_bytes}
use Rattle.std.proofs.lemmas.List.{append-nil, drop_at, drop-drop, length-append, length-take, take_at}
use Rattle.ioctl_codec.specs.Spelling.{words_bytes}

words_bytes_suc : (i : ℕ) (words : List ℕ) → i < length words
    → words_bytes (take (suc i) words) ≡ words_bytes (take i words) ++ to_le_bytes w64 (get_or words i 0)
words_bytes_suc i [] lt = let no : ⊥ = omega (arith, lt) in absurd no
words_bytes_suc zero (word ∷ words) lt = append-nil (to_le_bytes w64 word)
words_bytes_suc (suc i) (word ∷ words) lt =
    ap (λ (xs : List ℕ). to_le_bytes w64 word ++ xs) (words_bytes_suc i words (omega (arith, lt)))
    ∙ sym (append_assoc (to_le_bytes w64 word) (words_bytes (take i words)) (to_le_bytes w64 (get_or words i 0)))

-- the first words are written from a place on, and the buffer is as before behind them
pub record AreWritten (words : List ℕ) (i at : ℕ) (before now : List ℕ) (place : ℕ) : Type 0 where
  pub place_is : place ≡ at + 8 * i
  pub written : take place now ≡ take at before ++ words_bytes (take i words)
  pub rest : drop place now ≡ drop place before

pub word_more : {words : List ℕ} {i at : ℕ} {before now : List ℕ} {place : ℕ} (next : List ℕ) (after : ℕ)
    → AreWritten words i at before now place → i < length words → place ≤ length now
    → next ≡ take place now ++ (to_le_bytes w64 (get_or words i 0) ++ drop (place + 8) now) → after ≡ place + 8
    → AreWritten words (i + 1) at before next after
word_more {words} {i} {at} {before} {now} {place} next after h lt enough e place-is =
    let ahead = take place now in
    let word = to_le_bytes w64 (get_or words i 0) in
    let apart : next ≡ (ahead ++ word) ++ drop (place + 8) now =
    e ∙ sym (append_assoc ahead word (drop (place + 8) now)) in
    let len : length (ahead ++ word) ≡ after =
    omega (arith, length-append ahead word, length-take place now, place-is, enough) in
    record {
      place_is = omega (arith, place-is, h.place_is);
      written = ap (take after) apart ∙ take_at (ahead ++ word) (drop (place + 8) now) after len
          ∙ ap (λ (xs : List ℕ). xs ++ word) h.written
          ∙ append_assoc (take at before) (words_bytes (take i words)) word
          ∙ ap (λ (xs : List ℕ). take at before ++ xs) (rw add-one (sym (words_bytes_suc i words lt)));
      rest = rw (
        apart,
        drop_at (ahead ++ word) (drop (place + 8) now) after len,
        place-is,
        ← drop-drop 8 place now,
        h.rest,
      ) (drop-drop 8 place before);
    }

-- words are written behind a structure
pub behind_structure : (structure words before middle after : List ℕ) (place end count : ℕ)
    → place ≡ length structure → middle ≡ structure ++ drop place before → end ≡ place + count
    → after ≡ take place middle ++ (words ++ drop end middle) → after ≡ (structure ++ words) ++ drop end before
behind_structure structure words before middle after place end count len front next written =
    let ahead : take place middle ≡ structure =
    ap (take place) front ∙ take_at structure (drop place before) place (sym len) in
    let behind : drop place middle ≡ drop place before =
    ap (drop place) front ∙ drop_at structure (drop place before) place (sym len) in
    let rest : drop end middle ≡ drop end before =
    ap (λ (n : ℕ). drop n middle) next ∙ (sym (drop-drop count place middle) ∙ (ap (drop count) behind
    ∙ (drop-drop count place before ∙ ap (λ (n : ℕ). drop n before) (sym next)))) in
    written ∙ rw (ahead, rest) (sym (append_assoc structure words (drop end before)))
