-- Which questions the core answers, by what it keeps.
use Rattle.std.specs.Prelude.{Bool, true}
use Rattle.std.specs.List.{list_any}
use Rattle.iofd_words.specs.Policy.{access_outcomes, is_pass_at}
use Rattle.iofd_words.specs.View.{View}
use Rattle.iofd_words.specs.declared.fault.AccessKind.TheVariants.{Read}
use Rattle.iofd_words.specs.declared.query.Query.{Query}
use Rattle.iofd_words.specs.declared.query.Query.TheVariants.{CachedRead}

-- the policy lets a read at a kept frame pass there; any other question may be asked
abbrev pub may_ask : View → Query → Bool
may_ask v (CachedRead device iova len frame) = list_any (is_pass_at frame) (access_outcomes v device iova.0 Read)
may_ask v query = true
