use Rattle.std.proofs.Common.{◌≡◌, ℕ, true, List, [], ◌∷◌, ◌∙◌, Option, Some, None, refl, ap, ap₂, subst, sym, codes, map, rules}
use Rattle.std.specs.Option.{option_map}
use Rattle.clap.proofs.OnLiterals.{clap_on_literals}
use Rattle.clap.specs.Words.{App, HasKind, HasMatchesOf, Text, fault_of, found_of, is_simple, is_simple_and_free, kind_of}
use Rattle.clap.specs.Words.{rows_of, subcommand_of, subcommand_rows_of, takes}
use Rattle.clap.specs.declared.parser.matches.ArgMatches.{ArgMatches}
use Rattle.clap.specs.declared.error.Error.{Error}
use Rattle.clap.specs.declared.error.ErrorKind.TheVariants.{OutOfMemory}
use Rattle.iommufd_cli.specs.CommandLine.{program}
use Rattle.iommufd_cli.proofs.command_line.choose.Goals as goal

session_is_taken : (name : List ℕ) → takes program (name ∷ codes "session" ∷ []) ≡ true
unfolding clap_on_literals
session_is_taken name = refl

journal_is_taken : (name : List ℕ) → takes program (name ∷ codes "session" ∷ codes "--journal" ∷ []) ≡ true
unfolding clap_on_literals
journal_is_taken name = refl

audit_is_taken : (name : List ℕ) → takes program (name ∷ codes "audit" ∷ []) ≡ true
unfolding clap_on_literals
audit_is_taken name = refl

is_free : is_simple_and_free program ≡ true
unfolding clap_on_literals
is_free = refl

-- what holds of a simple command's faults holds of this program's
taken_by : (app : App) (words : List Text) → app ≡ program
    → (is_simple_and_free app ≡ true → fault_of app words ≡ []) → fault_of program words ≡ []
taken_by app words is taken =
    subst (λ (a : App). fault_of a words ≡ []) is (taken (ap is_simple_and_free is ∙ is_free))

refused_by : (app : App) (words : List Text) (error : Error) → app ≡ program
    → (is_simple_and_free app ≡ true → HasKind (fault_of app words) error) → HasKind (fault_of program words) error
refused_by app words error is refused =
    subst (λ (a : App). HasKind (fault_of a words) error) is (refused (ap is_simple_and_free is ∙ is_free))

pub returns-in_err-matches-clause-session : goal.returns-in_err-matches-clause-session
returns-in_err-matches-clause-session g c = λ name words.
    let taken = ap₂ takes c.in_ok-iommufd.ensures words ∙ session_is_taken name in
    let memory : kind_of c.in_err-matches.field-0.0 ≡ OutOfMemory = c.in_err-matches.ensures.passes taken in
    search (rules, memory)

pub returns-in_err-matches-clause-journal : goal.returns-in_err-matches-clause-journal
returns-in_err-matches-clause-journal g c = λ name words.
    let taken = ap₂ takes c.in_ok-iommufd.ensures words ∙ journal_is_taken name in
    let memory : kind_of c.in_err-matches.field-0.0 ≡ OutOfMemory = c.in_err-matches.ensures.passes taken in
    search (rules, memory)

pub returns-in_err-matches-clause-audit : goal.returns-in_err-matches-clause-audit
returns-in_err-matches-clause-audit g c = λ name words.
    let taken = ap₂ takes c.in_ok-iommufd.ensures words ∙ audit_is_taken name in
    let memory : kind_of c.in_err-matches.field-0.0 ≡ OutOfMemory = c.in_err-matches.ensures.passes taken in
    search (rules, memory)

pub returns-in_err-matches-clause-refused : goal.returns-in_err-matches-clause-refused
returns-in_err-matches-clause-refused g c =
    let words = map g.S.AsStr.text c.args.words.now in
    let error = c.in_err-matches.field-0.0 in
    let has : HasKind (fault_of program words) error =
    refused_by _ words error c.in_ok-iommufd.ensures c.in_err-matches.ensures.kinds in
    search (rules, has)

pub returns-in-Some-session-default-clause-taken : goal.returns-in-Some-session-default-clause-taken
returns-in-Some-session-default-clause-taken g c =
    taken_by _ (map g.S.AsStr.text c.args.words.now) c.in_ok-iommufd.ensures c.in_ok-matches.ensures.kinds

is_plain : is_simple program ≡ true
unfolding clap_on_literals
is_plain = refl

-- what a simple command's matches tell of this program's
met_by : (app : App) (words : List Text) (m : ArgMatches) → app ≡ program → HasMatchesOf app words m
    → subcommand_rows_of m ≡ subcommand_of program words
met_by app words m is has = (subst (λ (a : App). HasMatchesOf a words m) is has is_plain).1

-- the name and the rows of a subcommand are those of one that was met
paired : {X Y Z : Type 0} (o : Option Z) (f : Z → X) (h : Z → Y) (x : X) (y : Y) → Some x ≡ option_map f o
    → Some y ≡ option_map (λ (p : X × Y). p.1) (option_map {U = X × Y} (λ (z : Z). (f z, h z)) o)
    → option_map {U = X × Y} (λ (z : Z). (f z, h z)) o ≡ Some (x, y)
paired None f h x y named rowed = cc
paired (Some z) f h x y named rowed = cc

pub returns-in-Some-session-default-clause-chosen : goal.returns-in-Some-session-default-clause-chosen
returns-in-Some-session-default-clause-chosen g c =
    let met = met_by _ (map g.S.AsStr.text c.args.words.now) c.in_ok-matches.matches c.in_ok-iommufd.ensures
    c.in_ok-matches.ensures.matches in
    let rows = rows_of (found_of c.in-Some-session-default.found.now) in (
      rows,
      sym met ∙ paired _ _ _ _ _ c.in-Some-session-default.ensures.name c.in-Some-session-default.ensures.rows
          ∙ ap (λ (name : Text). Some (name, rows)) c.in-Some-session-default.is-session,
      c.is_set.ensures,
    )
