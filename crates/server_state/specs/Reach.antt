-- A span among others.
use Rattle.std.specs.Prelude.{◌≡◌, Bool, true, List}
use Rattle.std.specs.List.{list_any}
use Rattle.iofd_words.specs.Bounds.{Bounds}
use Rattle.iofd_words.specs.Span.{meets}

-- it meets the span, and is one of them: each test that it passes some of them passes
pub record IsOneOf (spans : List Bounds) (span one : Bounds) : Type 0 where
  pub met : meets one span ≡ true
  pub among : (test : Bounds → Bool) → test one ≡ true → list_any test spans ≡ true
