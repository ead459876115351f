-- Lists behind their number, as the format has them.
use Rattle.std.proofs.Common.{◌≡◌, ℕ, ◌^◌, ◌<◌, true, List, [], ◌∷◌, ◌++◌, length, map, refl, ap, subst}
use Rattle.std.proofs.Common.{◌∙◌, ◌≤◌, suc, append_assoc, Result, Ok, Err, OnOk, arith}
use Rattle.std.proofs.lemmas.Bool.{le-leb}
use Rattle.iofd_words.specs.Settings.{is_between}
use Rattle.std.specs.Int.{Width, w8, w16, w32, w64, to_le_bytes}
use Rattle.std.specs.List.{AllByRecursion, slice_index}
use Rattle.iofd_words.specs.Bounds.{Bounds}
use Rattle.iofd_words.specs.declared.numbers.FrameNo.{FrameNo}
use Rattle.journal_audit_bytes.specs.Format.{ElementsFit, FitWidths, ListFits, burst, elements_spelled, entries}
use Rattle.journal_audit_bytes.specs.Format.{frames, list_spelled, spelled}
use Rattle.journal_audit_bytes.specs.Head.{CountedFit, all_spelled, counted}
use Rattle.journal_audit_bytes.specs.Reading.{of_frames, pairs, singles}
use Rattle.journal_audit_writing.specs.Texts.{ByteFits, FrameFits, RangeFits, byte_text, frame_text, numbers_text}
use Rattle.journal_audit_writing.specs.Texts.{range_text}
use Rattle.journal_audit_writing.specs.declared.number.Number.TheVariants.{U8, U64}
use Rattle.journal_audit_writing.specs.Writing.{Appends}
use Rattle.journal_audit_writing.proofs.Appended.{keeps_then, then}

-- what is appended behind what was appended
pub appended_then : {X E : Type 0} (r : Result X E) (old mid new front back : List ℕ) → mid ≡ old ++ front
    → Appends r mid new back → Appends r old new (front ++ back)
appended_then (Ok x) old mid new front back p q = then old mid new front back p q
appended_then (Err e) old mid new front back p q = keeps_then old mid new (front, p) q

pub on_ok : {X E : Type 0} {P Q : Type 0} (r : Result X E) → OnOk r P → (P → Q) → OnOk r Q
on_ok (Ok x) p f = f p
on_ok (Err e) p f = tt

module _ {X : Type 0} (ws : List Width) (numbers : X → List ℕ) (text : X → List ℕ)
    (same : (x : X) → text x ≡ spelled ws (numbers x)) (Fits : X → Type 0)
    (fit : (x : X) → Fits x → FitWidths ws (numbers x)) where
  pub same_elements : (xs : List X) → all_spelled text xs ≡ elements_spelled ws (map numbers xs)
  same_elements [] = refl
  same_elements (x ∷ xs) =
      ap (λ (t : List ℕ). t ++ all_spelled text xs) (same x)
      ∙ ap (λ (t : List ℕ). spelled ws (numbers x) ++ t) (same_elements xs)

  pub elements_fit : (xs : List X) → AllByRecursion Fits xs → ElementsFit ws (map numbers xs)
  elements_fit [] fits = tt
  elements_fit (x ∷ xs) fits = (fit x fits.0, elements_fit xs fits.1)

  pub same_count : (xs : List X) → length xs ≡ length (map numbers xs)
  same_count [] = refl
  same_count (x ∷ xs) = ap (λ (n : ℕ). suc n) (same_count xs)

range_same : (range : Bounds) → range_text range ≡ spelled (w64 ∷ w64 ∷ []) (range.first ∷ range.last ∷ [])
range_same range = refl

-- ---- the lists of the format

pub ranges_text : (ranges : List Bounds)
    → to_le_bytes w32 (length ranges) ++ all_spelled range_text ranges ≡ list_spelled entries (pairs ranges)
ranges_text ranges =
    let ws : List Width = w64 ∷ w64 ∷ [] in
    let numbers : Bounds → List ℕ = λ range. range.first ∷ range.last ∷ [] in
    ap (λ (n : ℕ). to_le_bytes w32 n ++ all_spelled range_text ranges)
    (same_count ws numbers range_text range_same RangeFits (λ x fits. (fits.0, (fits.1, tt))) ranges)
    ∙ ap (λ (t : List ℕ). to_le_bytes w32 (length (pairs ranges)) ++ t)
    (same_elements ws numbers range_text range_same RangeFits (λ x fits. (fits.0, (fits.1, tt))) ranges)

pub ranges_fit : (ranges : List Bounds) → length ranges < 2 ^ 32 → AllByRecursion RangeFits ranges
    → ListFits entries (pairs ranges)
ranges_fit ranges few fits =
    let ws : List Width = w64 ∷ w64 ∷ [] in
    let numbers : Bounds → List ℕ = λ range. range.first ∷ range.last ∷ [] in (
      subst (λ (n : ℕ). n < 2 ^ 32)
          (same_count ws numbers range_text range_same RangeFits (λ x fits. (fits.0, (fits.1, tt))) ranges) few,
      (
        refl,
        elements_fit ws numbers range_text range_same RangeFits (λ x fits. (fits.0, (fits.1, tt))) ranges fits,
      ),
    )

byte_same : (byte : ℕ) → byte_text byte ≡ spelled (w8 ∷ []) (byte ∷ [])
byte_same byte = refl

pub burst_text : (bytes : List ℕ)
    → to_le_bytes w8 (length bytes) ++ all_spelled byte_text bytes ≡ list_spelled burst (singles bytes)
burst_text bytes =
    let ws : List Width = w8 ∷ [] in
    let numbers : ℕ → List ℕ = λ n. n ∷ [] in
    ap (λ (n : ℕ). to_le_bytes w8 n ++ all_spelled byte_text bytes)
    (same_count ws numbers byte_text byte_same ByteFits (λ x fits. (fits, tt)) bytes)
    ∙ ap (λ (t : List ℕ). to_le_bytes w8 (length (singles bytes)) ++ t)
    (same_elements ws numbers byte_text byte_same ByteFits (λ x fits. (fits, tt)) bytes)

pub burst_fits : (bytes : List ℕ) → 0 < length bytes → length bytes ≤ 64 → AllByRecursion ByteFits bytes
    → ListFits burst (singles bytes)
burst_fits bytes some most fits =
    let ws : List Width = w8 ∷ [] in
    let numbers : ℕ → List ℕ = λ n. n ∷ [] in
    let count = same_count ws numbers byte_text byte_same ByteFits (λ x fits. (fits, tt)) bytes in (
      omega (arith, count, most),
      (
        subst (λ (n : ℕ). is_between 1 64 n ≡ true) count
            (rw (le-leb 1 (length bytes) (omega (arith, some)), le-leb (length bytes) 64 most) refl),
        elements_fit ws numbers byte_text byte_same ByteFits (λ x fits. (fits, tt)) bytes fits,
      ),
    )

frame_same : (frame : FrameNo) → frame_text frame ≡ spelled (w32 ∷ []) (frame.0 ∷ [])
frame_same frame = refl

pub frames_text : (numbers : List FrameNo) → counted frame_text numbers ≡ list_spelled frames (of_frames numbers)
frames_text fs =
    let ws : List Width = w32 ∷ [] in
    let numbers : FrameNo → List ℕ = λ f. f.0 ∷ [] in
    ap (λ (n : ℕ). to_le_bytes w16 n ++ all_spelled frame_text fs)
    (same_count ws numbers frame_text frame_same FrameFits (λ x fits. (fits, tt)) fs)
    ∙ ap (λ (t : List ℕ). to_le_bytes w16 (length (of_frames fs)) ++ t)
    (same_elements ws numbers frame_text frame_same FrameFits (λ x fits. (fits, tt)) fs)

pub frames_fit : (numbers : List FrameNo) → CountedFit FrameFits numbers → ListFits frames (of_frames numbers)
frames_fit fs fits =
    let ws : List Width = w32 ∷ [] in
    let numbers : FrameNo → List ℕ = λ f. f.0 ∷ [] in (
      subst (λ (n : ℕ). n < 2 ^ 16)
          (same_count ws numbers frame_text frame_same FrameFits (λ x fits. (fits, tt)) fs) fits.0,
      (refl, elements_fit ws numbers frame_text frame_same FrameFits (λ x fits. (fits, tt)) fs fits.1),
    )

pub always_ok : {X E : Type 0} {P : Type 0} (r : Result X E) → P → OnOk r P
always_ok (Ok x) p = p
always_ok (Err e) p = tt

-- the parts of a head, one behind the other
pub head_appended : {X E : Type 0} (r : Result X E) (old a b c d e f new m p u l n v q : List ℕ) → a ≡ old ++ m
    → b ≡ a ++ p → c ≡ b ++ u → d ≡ c ++ l → e ≡ d ++ n → f ≡ e ++ v → Appends r f new q
    → Appends r old new (m ++ (p ++ (u ++ (l ++ ((n ++ v) ++ q)))))
head_appended (Ok x) old a b c d e f new m p u l n v q h1 h2 h3 h4 h5 h6 h7 =
    rw (h7, h6, h5, h4, h3, h2, h1) (simp append_assoc)
head_appended (Err e') old a b c d e f new m p u l n v q h1 h2 h3 h4 h5 h6 h7 =
    keeps_then old a new (m, h1) (keeps_then a b new (p, h2) (keeps_then b c new (u, h3)
    (keeps_then c d new (l, h4) (keeps_then d e new (n, h5) (keeps_then e f new (v, h6) h7)))))

-- the tag and the words of a report
pub words_text : (words : List ℕ) → length words ≡ 4
    → numbers_text (U8 0x09 ∷ U64 (slice_index words 0) ∷ U64 (slice_index words 1) ∷ U64 (slice_index words 2)
    ∷ U64 (slice_index words 3) ∷ []) ≡ numbers_text (U8 0x09 ∷ map (λ word. U64 word) words)
words_text (a ∷ b ∷ c ∷ d ∷ []) four = refl
words_text [] four = absurd cc
words_text (a ∷ []) four = absurd cc
words_text (a ∷ b ∷ []) four = absurd cc
words_text (a ∷ b ∷ c ∷ []) four = absurd cc
words_text (a ∷ b ∷ c ∷ d ∷ e ∷ more) four = absurd (omega (arith, four))
