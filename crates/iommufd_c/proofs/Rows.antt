-- Rows as C has them: what a loop over them has put, or listed, and one more.
use Rattle.std.proofs.Common.{◌≡◌, ◌==◌, ◌∙◌, ◌+◌, ◌<◌, ◌≤◌, ℕ, List, [], ◌∷◌, ◌++◌, ap, append_assoc, arith, drop}
use Rattle.std.proofs.Common.{Bool, append-nil, cond, false, get_or, inl, inr, length, map, min, sym, take, true}
use Rattle.std.proofs.Math.ListN.{drop_of_length-le, set}
use Rattle.std.proofs.Math.Seq.{set-append_seam}
use Rattle.std.proofs.lemmas.Bool.{cases_lt, eq-eqb, ne_eqb}
use Rattle.std.proofs.lemmas.List.{drop_more, length-map, length-take-le, map-append, map_more, take-map, take_all}
use Rattle.std.proofs.lemmas.List.{take_min, take_more}
use Rattle.std.proofs.lemmas.List.Elements.{filter_more}
use Rattle.std.specs.List.{enumerate_from}
use Rattle.iofd_words.specs.Bounds.{Bounds}
use Rattle.iofd_words.specs.Settings.{DeviceSettings}
use Rattle.iommufd_c.specs.Configured.{device_settings, devices_of_rows, reserved_for, rows_for, span_of}
use Rattle.iommufd_c.specs.Exports.{over}
use Rattle.iommufd_c.specs.declared.configuring.DeviceRow.{DeviceRow}
use Rattle.iommufd_c.specs.declared.reserving.ReservedRow.{ReservedRow}

module _ {X Y : Type 0} (f : X → Y) where
  -- one more item stands over the front
  pub put_more : (xs : List X) (old rows : List Y) (i : ℕ) (x : X) → i < length xs → i < length old
      → rows ≡ map f (take i xs) ++ drop i old → x ≡ get_or xs i x
      → set rows i (f x) ≡ map f (take (i + 1) xs) ++ drop (i + 1) old
  put_more xs old rows i x here there is at =
      let front = map f (take i xs) in
      let rest = drop (i + 1) old in
      let few : i ≤ length xs = omega arith in
      let long : length front ≡ i = length-map (take i xs) f ∙ length-take-le i xs few in
      let so_far : rows ≡ front ++ (get_or old i (f x) ∷ rest) =
      is ∙ ap (λ (l : List Y). front ++ l) (drop_more old i (f x) there) in
      let more : front ++ (f x ∷ []) ≡ map f (take (i + 1) xs) =
      ap (λ (y : X). front ++ (f y ∷ [])) at ∙ sym (map_more f xs i x here) in
      (λ j. set (so_far j) (sym long j) (f x))
      ∙ (set-append_seam front (get_or old i (f x)) rest (f x)
      ∙ (sym (append_assoc front (f x ∷ []) rest) ∙ ap (λ (l : List Y). l ++ rest) more))

  -- and all for which there is place
  pub all_put : (xs : List X) (old rows : List Y) (front : List X) (place : ℕ)
      → front ≡ take (min (length old) (length xs)) xs → place ≡ length front
      → rows ≡ map f (take place front) ++ drop place old → rows ≡ over old (map f xs)
  all_put xs old rows front place is end put = put ∙ (λ i. shown i ++ rest i)
    where
      count : place ≡ min (length old) (length xs)
      count = end ∙ (ap length is ∙ (let few : min (length old) (length xs) ≤ length xs = omega arith in
          length-take-le (min (length old) (length xs)) xs few))

      shown : map f (take place front) ≡ take (length old) (map f xs)
      shown = let all : length front ≤ place = omega (arith, end) in
          ap (map f) (take_all place front all ∙ (is ∙ take_min (length old) xs)) ∙ sym (take-map f (length old) xs)

      rest : drop place old ≡ drop (length (map f xs)) old
      rest = let long : length (map f xs) ≡ length xs = length-map xs f in elim (cases_lt (length xs) (length old)) [
        | inl few ↦ let same : place ≡ length (map f xs) = omega (arith, count, long, few) in
            ap (λ (n : ℕ). drop n old) same
        | inr many ↦ let here : length old ≤ place = omega (arith, count, many) in
            let there : length old ≤ length (map f xs) = omega (arith, long, many) in
            drop_of_length-le old here ∙ sym (drop_of_length-le old there)
      ]

module _ {X : Type 0} where
  enumerate_from-append : (n : ℕ) (xs ys : List X)
      → enumerate_from n (xs ++ ys) ≡ enumerate_from n xs ++ enumerate_from (n + length xs) ys
  enumerate_from-append n [] ys =
      let same : n ≡ n + 0 = omega arith in ap (λ (m : ℕ). enumerate_from m ys) same
  enumerate_from-append n (x ∷ xs) ys =
      let same : n + 1 + length xs ≡ n + length (x ∷ xs) = omega arith in
      ap (λ (l : List (ℕ × X)). (n, x) ∷ l) (enumerate_from-append (n + 1) xs ys
      ∙ ap (λ (m : ℕ). enumerate_from (n + 1) xs ++ enumerate_from m ys) same)

  -- one item more, with its number
  numbered_more : (xs : List X) (i : ℕ) (d : X) → i < length xs
      → enumerate_from 1 (take (i + 1) xs) ≡ enumerate_from 1 (take i xs) ++ (i + 1, get_or xs i d) ∷ []
  numbered_more xs i d here =
      let few : i ≤ length xs = omega arith in
      let long : length (take i xs) ≡ i = length-take-le i xs few in
      let count : 1 + length (take i xs) ≡ i + 1 = omega (arith, long) in
      ap (enumerate_from 1) (take_more xs i d here)
      ∙ (enumerate_from-append 1 (take i xs) (get_or xs i d ∷ [])
      ∙ ap (λ (n : ℕ). enumerate_from 1 (take i xs) ++ (n, get_or xs i d) ∷ []) count)

-- the spans of one row more
module _ (rows : List ReservedRow) (device place : ℕ) (d : ReservedRow) (here : place < length rows) where
  abbrev row : ReservedRow
  row = get_or rows place d

  more : (b : Bool) → (row.device == device) ≡ b → reserved_for (take (place + 1) rows) device
      ≡ map span_of (rows_for (take place rows) device ++ cond b (row ∷ []) [])
  more b is = ap (map span_of) (filter_more (λ (r : ReservedRow). r.device == device) rows place d here
      ∙ (λ j. rows_for (take place rows) device ++ cond (is j) (row ∷ []) []))

  -- which names the device
  pub one_span_more : (spans : List Bounds) → spans ≡ reserved_for (take place rows) device → row.device ≡ device
      → spans ++ span_of row ∷ [] ≡ reserved_for (take (place + 1) rows) device
  one_span_more spans is named =
      ap (λ (l : List Bounds). l ++ span_of row ∷ []) is
      ∙ (sym (map-append span_of (rows_for (take place rows) device) (row ∷ []))
      ∙ sym (more true (eq-eqb row.device device named)))

  -- or doesn't
  pub no_span_more : (row.device ≡ device → ⊥)
      → reserved_for (take place rows) device ≡ reserved_for (take (place + 1) rows) device
  no_span_more other =
      ap (map span_of) (sym (append-nil (rows_for (take place rows) device)))
      ∙ sym (more false (ne_eqb row.device device other))

-- the device of one row more
pub device_more : (reserved : List ReservedRow) (rows : List DeviceRow) (devices : List DeviceSettings) (place : ℕ)
    (d : DeviceRow) → place < length rows → devices ≡ devices_of_rows reserved (take place rows)
    → devices ++ device_settings (get_or rows place d) (reserved_for reserved (place + 1)) ∷ []
    ≡ devices_of_rows reserved (take (place + 1) rows)
device_more reserved rows devices place d here is =
    let of_number : ℕ × DeviceRow → DeviceSettings =
    λ numbered. device_settings numbered.1 (reserved_for reserved numbered.0) in
    let row = get_or rows place d in
    ap (λ (l : List DeviceSettings). l ++ of_number (place + 1, row) ∷ []) is
    ∙ (sym (map-append of_number (enumerate_from 1 (take place rows)) ((place + 1, row) ∷ []))
    ∙ ap (map of_number) (sym (numbered_more rows place d here)))
