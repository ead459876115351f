-- What is written in turn.
use Rattle.std.proofs.Common.{◌≡◌, ℕ, zero, suc, ◌<◌, ◌≤◌, ◌^◌, Bool, true, false, Option, Some, None, List, [], ◌∷◌}
use Rattle.std.proofs.Common.{◌++◌, length, take, Result, Ok, Err, IfErr, IfOk, MatchResult, OnErr, OnOk, inl, inr}
use Rattle.std.proofs.Common.{refl, sym, ◌∙◌, ap, subst, arith}
use Rattle.std.proofs.lemmas.List.{append_assoc, append-nil}
use Rattle.std.specs.Io.KnownBytes.{Appends}
use Rattle.std.specs.Option.{IfSome, option_map, option_or}
use Rattle.std.specs.Result.{IsErrAnd}
use Rattle.std.specs.declared.io.Error.{Error}
use Rattle.iofd_words.specs.Record.{Record}
use Rattle.iofd_words.specs.Settings.{Settings}
use Rattle.iommufd_cli.specs.Failures.{BeginsEnd, BeginsLines, BeginsRunText, BeginsSteps, BeginsText, IsWithin}
use Rattle.iommufd_cli.specs.Journal.{EndText}
use Rattle.iommufd_cli.specs.Leaving.{LeavesServer, last_of_lines, server_of, server_of_begun}
use Rattle.iommufd_cli.specs.Leaving.{server_of_begun_run, server_of_run}
use Rattle.iommufd_cli.specs.Output.{IsFinal, IsFront, Writes}
use Rattle.iommufd_cli.specs.Replies.{line, no_memory_text}
use Rattle.iommufd_cli.specs.Session.{IsReadText, IsRunText, IsText, StepsLines, StepsText}
use Rattle.iommufd_cli.specs.Steps.{IsAnswered}
use Rattle.iommufd_cli.specs.declared.fault.CliFault.{CliFault}
use Rattle.iommufd_cli.specs.declared.fault.CliFault.TheVariants as fault
use Rattle.iommufd_core.specs.Server.{Server}
use Rattle.iommufd_script.specs.Opening.{script_of}
use Rattle.iommufd_script.specs.declared.line.Step.{Step}

-- bytes, and then more
pub appends_more : (old mid new : Option (List ℕ)) (first second : List ℕ) → Appends old mid first
    → Appends mid new second → Appends old new (first ++ second)
appends_more None mid new first second begin more = tt
appends_more (Some xs) None new first second begin more = absurd begin
appends_more (Some xs) (Some ys) None first second begin more = absurd more
appends_more (Some xs) (Some ys) (Some zs) first second begin more =
    more ∙ ap (λ l. l ++ second) begin ∙ append_assoc xs first second

-- no bytes
pub appends_none : (known : Option (List ℕ)) → Appends known known []
appends_none None = tt
appends_none (Some xs) = sym (append-nil xs)

-- a front of what stands behind other bytes, and of what has more behind it
pub front_behind : (before front all : List ℕ) → IsFront front all → IsFront (before ++ front) (before ++ all)
front_behind before front all (rest, some, is) =
    (rest, some, ap (λ l. before ++ l) is ∙ sym (append_assoc before front rest))

none_in_front : (xs ys : List ℕ) → xs ++ ys ≡ [] → xs ≡ []
none_in_front [] ys none = refl
none_in_front (x ∷ xs) ys none = absurd cc

pub front_of_more : (front all more : List ℕ) → IsFront front all → IsFront front (all ++ more)
front_of_more front all more (rest, some, is) = (
  rest ++ more,
  λ none. some (none_in_front rest more none),
  ap (λ l. l ++ more) is ∙ append_assoc front rest more,
)

-- behind what was written, bytes that were kept and handed on
pub kept_on : (out handed kept old line : List ℕ) → handed ++ kept ≡ old ++ line
    → (out ++ old) ++ line ≡ (out ++ handed) ++ kept
kept_on out handed kept old line is =
    append_assoc out old line ∙ ap (λ l. out ++ l) (sym is) ∙ sym (append_assoc out handed kept)

pub on_err : {T E P : Type 0} (r : Result T E) → P → OnErr r P
on_err (Ok x) p = tt
on_err (Err e) p = p

pub split_on : (steps first left others : List Step) (step : Step) → steps ≡ first ++ left → left ≡ step ∷ others
    → steps ≡ (first ++ step ∷ []) ++ others
split_on steps first left others step split next =
    split ∙ ap (λ l. first ++ l) next ∙ sym (append_assoc first (step ∷ []) others)

-- lines from one server to another
module _ {A : Type 0} where
  pub lines_on : (s now after : Server A) (first : List Step) (step : Step) (out line : List ℕ)
      → StepsLines s first out now → IsAnswered now step line after
      → StepsLines s (first ++ step ∷ []) (out ++ line) after
  lines_on s now after [] step out line lines answered = (
    line,
    after,
    [],
    subst (λ (x : Server A). IsAnswered x step line after) lines.1 answered,
    (refl, refl),
    ap (λ l. l ++ line) lines.0 ∙ sym (append-nil line),
  )
  lines_on s now after (one ∷ first) step out line (text, next, rest, is, lines, whole) answered = (
    text,
    next,
    rest ++ line,
    is,
    lines_on next now after first step rest line lines answered,
    ap (λ l. l ++ line) whole ∙ append_assoc text rest line,
  )

  -- no step is left
  pub all_lines : (s now : Server A) (steps first left : List Step) (out : List ℕ) → StepsLines s first out now
      → steps ≡ first ++ left → left ≡ [] → StepsLines s steps out now
  all_lines s now steps first left out lines split none =
      let all : first ≡ steps = sym (split ∙ ap (λ l. first ++ l) none ∙ append-nil first) in
      subst (λ (l : List Step). StepsLines s l out now) all lines

  -- the lines of the first steps are written, but for those at the end that are kept in a page
  abbrev pub AreKept : Server A → List Step → Option (List ℕ) → List Step → Option (List ℕ) → List ℕ → Server A → Type 0
  AreKept s steps old left new page now =
      (first : List Step) × (out : List ℕ) × (steps ≡ first ++ left) × Appends old new out
      × StepsLines s first (out ++ page) now

  module _ (s now after : Server A) (steps left others : List Step) (step : Step) (old mid new : Option (List ℕ))
      (page line : List ℕ) (kept : AreKept s steps old left mid page now) (next : left ≡ step ∷ others)
      (answered : IsAnswered now step line after) where
    -- the next step's line is kept behind them, where as much is handed on as is needed for it
    pub kept_more : (handed behind : List ℕ) → Appends mid new handed → handed ++ behind ≡ page ++ line
        → AreKept s steps old others new behind after
    kept_more handed behind more is =
        let (first, out, split, written, lines) = kept in (
          first ++ step ∷ [],
          out ++ handed,
          split_on steps first left others step split next,
          appends_more old mid new out handed written more,
          subst (λ (l : List ℕ). StepsLines s (first ++ step ∷ []) l after) (kept_on out handed behind page line is)
              (lines_on s now after first step (out ++ page) line lines answered),
        )

    -- or a front is written of them all
    pub begun_more : Writes (λ out. IsFront out (page ++ line)) mid new
        → Writes (λ out. (begun : BeginsSteps s steps out) × (after ≡ begun.last)) old new
    begun_more (front, short, more) =
        let (first, out, split, written, lines) = kept in (
          out ++ front,
          (
            record {
              first = first ++ step ∷ [];
              others = others;
              split = split_on steps first left others step split next;
              last = after;
              text = out ++ (page ++ line);
              lines = subst (λ (l : List ℕ). StepsLines s (first ++ step ∷ []) l after) (append_assoc out page line)
                  (lines_on s now after first step (out ++ page) line lines answered);
              front = front_behind out front (page ++ line) short;
            },
            refl,
          ),
          appends_more old mid new out front written more,
        )

  module _ (s now : Server A) (steps left : List Step) (old mid new : Option (List ℕ)) (page : List ℕ)
      (kept : AreKept s steps old left mid page now) where
    -- no step is left, and the page is written
    pub written_last : left ≡ [] → Appends mid new page → Writes (λ out. StepsLines s steps out now) old new
    written_last none more =
        let (first, out, split, written, lines) = kept in (
          out ++ page,
          all_lines s now steps first left (out ++ page) lines split none,
          appends_more old mid new out page written more,
        )

    -- or a front of it is
    pub begun_last : Writes (λ out. IsFront out page) mid new
        → Writes (λ out. (begun : BeginsSteps s steps out) × (now ≡ begun.last)) old new
    begun_last (front, short, more) =
        let (first, out, split, written, lines) = kept in (
          out ++ front,
          (
            record {
              first = first;
              others = left;
              split = split;
              last = now;
              text = out ++ page;
              lines = lines;
              front = front_behind out front page short;
            },
            refl,
          ),
          appends_more old mid new out front written more,
        )

  -- the text of the steps by which this server comes of that one
  abbrev pub TextTo : Bool → Settings → Server A → List Step → Server A → List ℕ → Type 0
  TextTo journal settings s steps now out = (text : StepsText journal settings s steps out) × (now ≡ text.last)

  -- and a beginning of it
  abbrev pub BeginsTo : Bool → Settings → Server A → List Step → Server A → List ℕ → Type 0
  BeginsTo journal settings s steps now out =
      (begun : BeginsLines journal settings s steps out) × (now ≡ last_of_lines begun)

  -- nothing is asked for behind the lines
  pub plain_text : (settings : Settings) (s now : Server A) (steps : List Step) (out : List ℕ)
      → StepsLines s steps out now → TextTo false settings s steps now out
  plain_text settings s now steps out lines = (
    record { last = now; lines = out; lines_are = lines; end = []; end_is = refl; out_is = sym (append-nil out) },
    refl,
  )

  -- the journal stands there
  pub journal_text : (settings : Settings) (s now : Server A) (steps : List Step) (out end : List ℕ)
      → StepsLines s steps out now → EndText true settings now.history.records end
      → TextTo true settings s steps now (out ++ end)
  journal_text settings s now steps out end lines is =
      (record { last = now; lines = out; lines_are = lines; end = end; end_is = is; out_is = refl }, refl)

  -- a front of the first lines is written
  pub lines_begun : (journal : Bool) (settings : Settings) (s now : Server A) (steps : List Step) (out : List ℕ)
      (begun : BeginsSteps s steps out) → now ≡ begun.last → BeginsTo journal settings s steps now out
  lines_begun journal settings s now steps out begun is = (inl begun, is)

  -- or all of them, and a front of the journal
  pub journal_begun : (settings : Settings) (s now : Server A) (steps : List Step) (out front : List ℕ)
      → StepsLines s steps out now → BeginsEnd true settings now.history.records front
      → BeginsTo true settings s steps now (out ++ front)
  journal_begun settings s now steps out front lines (end, is, short) =
      let (text, last) = journal_text settings s now steps out end lines is in
      let rest_is = ap (λ l. out ++ l) short.2 ∙ sym (append_assoc out front short.0) in
      (inr (out ++ end, text, (short.0, short.1, rest_is)), last)

  -- a beginning of what is written for a head and steps is one of the script's text, and tells the same server
  pub begins_text : (input out : List ℕ) (journal : Bool) (settings : Settings) (steps : List Step)
      → script_of input ≡ Ok (settings, steps) → (begun : BeginsRunText A settings steps journal out)
      → (text : BeginsText A input journal out) × (server_of_begun_run begun ≡ server_of_begun text)
  begins_text input out journal settings steps good (inl lines) =
      (inr (inl (record { settings = settings; steps = steps; good = good; lines = lines })), refl)
  begins_text input out journal settings steps good (inr front) = (inr (inr front), refl)

module _ {A : Type 0} where
  -- what is written for a head and steps is a text of the script that says them, and tells the same server
  pub read_text : (input out : List ℕ) (journal : Bool) (status : ℕ) (settings : Settings) (steps : List Step)
      → script_of input ≡ Ok (settings, steps) → (text : IsRunText A settings steps journal out status)
      → (whole : IsReadText A input journal out status) × (server_of_run text ≡ server_of whole)
  read_text input out journal status settings steps good (inl lines) = (
    inr (inl (record {
      settings = settings;
      steps = steps;
      good = good;
      lines = lines.0;
      status_is = lines.1;
    })),
    refl,
  )
  read_text input out journal status settings steps good (inr without) =
      (inr (inr (without, (settings, steps), good)), refl)

  -- and so is what is written for a script whose bytes were read
  pub whole_text : (input out : List ℕ) (journal : Bool) (status : ℕ)
      → (text : IsReadText A input journal out status)
      → (whole : IsText A input journal out status) × (server_of text ≡ server_of whole)
  whole_text input out journal status (inl bad) = (inl bad, refl)
  whole_text input out journal status (inr (inl good)) = (inr (inl good), refl)
  whole_text input out journal status (inr (inr without)) = (inr (inr without.0), refl)

  module _ (settings : Settings) (steps : List Step) (journal : Bool) (s last : Server A) (before : Option (Server A))
      (out : List ℕ) (opened : s.history ≡ record { settings = settings; records = [] }) where
    -- the lines of the steps, from a server on that was just opened, are what is written for a head and steps
    pub run_text : (status : ℕ) → (text : StepsText journal settings s steps out) × (status ≡ 0) × (last ≡ text.last)
        → (whole : IsRunText A settings steps journal out status) × (Some last ≡ option_or (server_of_run whole) before)
    run_text status (text, good, is) = (inl ((s, opened, text), good), ap Some is)

    pub begins_run_text : BeginsTo journal settings s steps last out
        → (begun : BeginsRunText A settings steps journal out)
        × (Some last ≡ option_or (server_of_begun_run begun) before)
    begins_run_text (begun, is) = (inl (s, opened, begun), ap Some is)

pub if_ok_weaker : {T E : Type 0} (r : Result T E) (P Q : T → Type 0) → ((x : T) → P x → Q x) → IfOk r P → IfOk r Q
if_ok_weaker (Ok x) P Q more p = more x p
if_ok_weaker (Err e) P Q more p = tt

-- the text of the end is written, or a front of it
module _ {A T E : Type 0} where
  pub end_written : (r : Result T E) (settings : Settings) (records : List (Record A)) (text : List ℕ)
      (old new : Option (List ℕ)) → EndText true settings records text → OnOk r (Appends old new text)
      → OnOk r (Writes (EndText true settings records) old new)
  end_written (Ok x) settings records text old new is written = (text, is, written)
  end_written (Err e) settings records text old new is written = tt

  pub end_begun : (r : Result T E) (settings : Settings) (records : List (Record A)) (text : List ℕ)
      (old new : Option (List ℕ)) → EndText true settings records text
      → OnErr r (Writes (λ front. IsFront front text) old new)
      → OnErr r (Writes (BeginsEnd true settings records) old new)
  end_begun (Ok x) settings records text old new is written = tt
  end_begun (Err e) settings records text old new is (front, short, written) = (front, (text, is, short), written)

-- ---- told by who serves a session

-- what was written for the bytes that were read is a text of the reader's, where its bytes are known
pub served_text : {A : Type 0} (known : Option (List ℕ)) (journal : Bool) (bytes items : List ℕ) (status : ℕ)
    (old new : Option (List ℕ)) (before was after : Option (Server A)) → bytes ≡ items
    → IfSome known (λ input. items ≡ input) → length items ≤ 2 ^ 24 → was ≡ before
    → Writes (λ out. (text : IsReadText A bytes journal out status)
    × (after ≡ option_or (server_of text) was)) old new
    → IfSome known (λ input. Writes (λ out. (text : IsText A input journal out status) × IsWithin input out status
    × (after ≡ option_or (server_of text) before)) old new)
served_text None journal bytes items status old new before was after same read short is text = tt
served_text {A = A} (Some input) journal bytes items status old new before was after same read short is written =
    let (out, text, appended) = written in
    let (text, left) = subst (λ (l : List ℕ). (text : IsReadText A l journal out status)
    × (after ≡ option_or (server_of text) was)) (same ∙ read) text in
    let (whole, tells) = whole_text input out journal status text in
    let left : after ≡ option_or (server_of whole) before =
    left ∙ ap (λ s. option_or s was) tells ∙ ap (λ s. option_or (server_of whole) s) is in
    (out, (whole, inl (subst (λ (l : List ℕ). length l ≤ 2 ^ 24) read short), left), appended)

-- and a beginning of it one of the reader's
pub served_begun : {A : Type 0} (known : Option (List ℕ)) (journal : Bool) (bytes items : List ℕ)
    (old new : Option (List ℕ)) (before was after : Option (Server A)) (error : Error) → IsFinal error
    → bytes ≡ items → IfSome known (λ input. items ≡ input) → length items ≤ 2 ^ 24 → was ≡ before
    → Writes (λ out. (begun : BeginsText A bytes journal out)
    × (after ≡ option_or (server_of_begun begun) was)) old new
    → LeavesServer A (fault.Output error) known journal old new before after
served_begun None journal bytes items old new before was after error final same read short is begun = (final, tt)
served_begun {A = A} (Some input) journal bytes items old new before was after error final same read short is begun =
    let (out, begun, appended) = begun in
    let (begun, left) = subst (λ (l : List ℕ). (begun : BeginsText A l journal out)
    × (after ≡ option_or (server_of_begun begun) was)) (same ∙ read) begun in
    let left = left ∙ ap (λ s. option_or (server_of_begun begun) s) is in
    (final, (out, (begun, inl (subst (λ (l : List ℕ). length l ≤ 2 ^ 24) read short), left), appended))

-- of a script for which there was no memory
pub unread_begun : {A : Type 0} (known : Option (List ℕ)) (journal : Bool) (told : List ℕ)
    (old new : Option (List ℕ)) (before : Option (Server A)) (error : Error) → IsFinal error
    → told ≡ line no_memory_text → Writes (λ out. IsFront out told) old new
    → LeavesServer A (fault.Output error) known journal old new before before
unread_begun None journal told old new before error final is begun = (final, tt)
unread_begun (Some input) journal told old new before error final is (out, front, appended) =
    let front = subst (λ (text : List ℕ). IsFront out text) is front in
    (final, (out, (inr (inr front), inr front, refl), appended))

-- what two clauses say of an error together
pub both_on_err : {T E P : Type 0} {Q R : E → Type 0} (r : Result T E) → ((e : E) → Q e → P → R e) → IfErr r Q
    → OnErr r P → IfErr r R
both_on_err (Ok x) both q p = tt
both_on_err (Err e) both q p = both e q p

-- what is said of an option's value, where that is known
pub if_some_at : {T : Type 0} (P : T → Type 0) {o : Option T} {x : T} → o ≡ Some x → IfSome o P → P x
if_some_at P is p = subst (λ o. IfSome o P) is p

-- a status is told as it is, and a fault of the writer as one of the output
module _ {T : Type 0} where
  pub told_status : (r : Result T Error) (told : Result T CliFault) (P : T → Type 0)
      → MatchResult r (λ x. told ≡ Ok x) (λ e. IsErrAnd told (λ f. f ≡ fault.Output e)) → IfOk r P → IfOk told P
  told_status (Ok x) told P is p = subst (λ t. IfOk t P) (sym is) p
  told_status (Err e) (Ok x) P is p = absurd is
  told_status (Err e) (Err f) P is p = tt

  pub told_fault : (r : Result T Error) (told : Result T CliFault) (P : CliFault → Type 0)
      → MatchResult r (λ x. told ≡ Ok x) (λ e. IsErrAnd told (λ f. f ≡ fault.Output e))
      → IfErr r (λ e. P (fault.Output e)) → IfErr told P
  told_fault (Ok x) told P is p = subst (λ t. IfErr t P) (sym is) tt
  told_fault (Err e) (Ok x) P is p = absurd is
  told_fault (Err e) (Err f) P is p = subst P (sym is) p

-- ---- reading

take_short : (limit : ℕ) (xs : List ℕ) → length (take limit xs) < limit → take limit xs ≡ xs
take_short zero xs short = absurd (omega (arith, short))
take_short (suc limit) [] short = refl
take_short (suc limit) (x ∷ xs) short = ap (λ l. x ∷ l) (take_short limit xs (omega (arith, short)))

-- what was read is all that there was, where it's fewer bytes than were asked for
pub all_read : (known : Option (List ℕ)) (limit : ℕ) (before items : List ℕ) → before ≡ []
    → IfSome (option_map (take limit) known) (λ xs. items ≡ before ++ xs) → length items < limit
    → IfSome known (λ input. items ≡ input)
all_read None limit before items none read short = tt
all_read (Some xs) limit before items none read short =
    let is : items ≡ take limit xs = read ∙ ap (λ l. l ++ take limit xs) none in
    is ∙ take_short limit xs (rw is at short)

take_fewer : (limit : ℕ) (xs : List ℕ) → length (take limit xs) ≤ length xs
take_fewer zero xs = omega arith
take_fewer (suc limit) [] = omega arith
take_fewer (suc limit) (x ∷ xs) = omega (arith, take_fewer limit xs)

-- and where more bytes were read than a script may have, there were more
pub long_read : (known : Option (List ℕ)) (limit most : ℕ) (before items : List ℕ) → before ≡ []
    → IfSome (option_map (take limit) known) (λ xs. items ≡ before ++ xs) → most < length items
    → IfSome known (λ input. most < length input)
long_read None limit most before items none read long = tt
long_read (Some xs) limit most before items none read long =
    let is : items ≡ take limit xs = read ∙ ap (λ l. l ++ take limit xs) none in
    omega (arith, take_fewer limit xs, ap length is, long)
