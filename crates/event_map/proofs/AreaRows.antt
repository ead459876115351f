-- The last rows of a refusal, of a MAP and of a COPY: those behind the rows that ask for a place.
use Rattle.std.proofs.Common.{◌≡◌, Bool, true, false, cond, Option, Some, None, List, [], ◌∷◌, ◌++◌, refl, sym, ◌∙◌, ap}
use Rattle.std.specs.Option.{option_or}
use Rattle.iofd_words.specs.FirstTrue.{first_true}
use Rattle.iofd_words.specs.declared.refusal.Cause.{Cause}
use Rattle.iofd_words.specs.declared.refusal.Cause.TheVariants as cause

-- a table behind another is asked where no row of that one holds
joined : (rows behind : List (Cause × Bool))
    → first_true (rows ++ behind) ≡ option_or (first_true rows) (first_true behind)
joined [] behind = refl
joined (row ∷ rows) behind = by_test row.1 (joined rows behind)
  where
    by_test : (b : Bool) → first_true (rows ++ behind) ≡ option_or (first_true rows) (first_true behind)
        → cond b (Some row.0) (first_true (rows ++ behind))
        ≡ option_or (cond b (Some row.0) (first_true rows)) (first_true behind)
    by_test true rest = refl
    by_test false rest = rest

-- each where none before it holds
module _ (before : List (Cause × Bool)) (absent above lacking : Bool) where
  abbrev last_rows : List (Cause × Bool)
  last_rows = (cause.Absent, absent) ∷ (cause.Account, above) ∷ (cause.Frames, lacking) ∷ []

  told : (o : Option Cause) → o ≡ first_true before
      → option_or o (first_true last_rows) ≡ first_true (before ++ last_rows)
  told o is = ap (λ (o : Option Cause). option_or o (first_true last_rows)) is ∙ sym (joined before last_rows)

  pub row_before : (name : Cause) → Some name ≡ first_true before → Some name ≡ first_true (before ++ last_rows)
  row_before name is = told (Some name) is

  module _ (passed : None ≡ first_true before) where
    behind : (o : Option Cause) → o ≡ first_true last_rows → o ≡ first_true (before ++ last_rows)
    behind o is = is ∙ told None passed

    pub absent_row : absent ≡ true → Some cause.Absent ≡ first_true (before ++ last_rows)
    absent_row is = behind (Some cause.Absent) (rw is refl)

    module _ (present : absent ≡ false) where
      pub account_row : above ≡ true → Some cause.Account ≡ first_true (before ++ last_rows)
      account_row is = behind (Some cause.Account) (rw (present, is) refl)

      module _ (within : above ≡ false) where
        pub frames_row : lacking ≡ true → Some cause.Frames ≡ first_true (before ++ last_rows)
        frames_row is = behind (Some cause.Frames) (rw (present, within, is) refl)

        pub no_row : lacking ≡ false → None ≡ first_true (before ++ last_rows)
        no_row enough = behind None (rw (present, within, enough) refl)
