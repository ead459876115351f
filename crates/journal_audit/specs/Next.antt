-- What comes of one record: whether it goes on with the run, in the world that the run has left.
use Rattle.std.specs.Prelude.{◌≡◌, ℕ, Bool, true, false, Some, List, ◌++◌}
use Rattle.iofd_steps.specs.Run.{Lawful, after}
use Rattle.iofd_words.specs.Record.{Record}
use Rattle.iofd_words.specs.Settings.{Settings}
use Rattle.iofd_words.specs.World.{World}
use Rattle.journal_audit.specs.Verdict.{BeginNoRecord}
use Rattle.journal_audit.specs.declared.next.Next.{Next}
use Rattle.journal_audit.specs.declared.next.Next.TheVariants as next
use Rattle.journal_audit_bytes.specs.Format.{Raw, Spells}
use Rattle.journal_audit_bytes.specs.Journal.{SpellsRecord, raw_record}
use Rattle.journal_audit_bytes.specs.Replies.{reply_of}
use Rattle.journal_audit_bytes.specs.declared.spelled.SpelledReply.{SpelledReply}
use Rattle.journal_audit_bytes.specs.declared.version.Version.{Version}
use Rattle.journal_audit_world.specs.Unwritten.{unwritten}

module _ {A : Type 0} where
  -- these tags and fields tell the record
  pub record Tells (s : Settings) (raw : Raw) (r : Record A) : Type 0 where
    pub reply : SpelledReply
    pub gives : reply_of s r.event reply ≡ Some r.reply
    pub is : raw ≡ raw_record r reply

-- they tell a lawful record, and the world becomes the one after it; or none that they tell is lawful
abbrev pub IsJudged : Type 0 → ℕ → World → World → Raw → Bool → Type 0
IsJudged A at old new raw true =
    (r : Record A) × Tells old.settings raw r × Lawful at old r × (unwritten new ≡ unwritten (after at old r))
IsJudged A at old new raw false = (r : Record A) → Tells old.settings raw r → Lawful at old r → ⊥

abbrev pub next_of : Bool → Next
next_of true = next.Follows
next_of false = next.Not

-- the bytes, of a journal of this version, begin with a lawful record, and the world becomes the one after it; or with
-- a record that is none; or with no record, and all of them are left
abbrev pub IsNext : Type 0 → Version → ℕ → World → World → List ℕ → List ℕ → Next → Type 0
IsNext A version at old new bytes rest next.Follows =
    (r : Record A) × (text : List ℕ) × SpellsRecord version old.settings r text × (bytes ≡ text ++ rest)
    × Lawful at old r × (unwritten new ≡ unwritten (after at old r))
IsNext A version at old new bytes rest next.Not =
    (raw : Raw) × (text : List ℕ) × Spells version old.settings.passes raw text × (bytes ≡ text ++ rest)
    × ((r : Record A) → SpellsRecord version old.settings r text → Lawful at old r → ⊥)
IsNext A version at old new bytes rest next.Torn = BeginNoRecord version old.settings.passes bytes × (rest ≡ bytes)
