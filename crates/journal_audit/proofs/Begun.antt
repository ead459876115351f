-- Where a head stands, what is before the first list that takes memory does.
use Rattle.std.proofs.Common.{◌≡◌, ℕ, List, ◌++◌, Result, Ok, Err, ap, ◌∙◌, append_assoc}
use Rattle.std.specs.Prelude.{OnErr}
use Rattle.std.specs.Int.{w16, w32, to_le_bytes}
use Rattle.iofd_words.specs.Settings.{Settings}
use Rattle.journal_audit_bytes.specs.Head.{BeginWithUsers, SpellsHead, counted, device_spelled, limit_spelled}
use Rattle.journal_audit_bytes.specs.Head.{user_spelled}
use Rattle.journal_audit_bytes.specs.Version.{mark}
use Rattle.journal_audit_bytes.specs.declared.version.Version.{Version}

three : (a b c d rest : List ℕ) → (a ++ (b ++ (c ++ d))) ++ rest ≡ a ++ (b ++ (c ++ (d ++ rest)))
three a b c d rest = simp append_assoc

-- where a head stands, the limits of its users do
pub head_users : (version : Version) (s : Settings) (bytes text rest : List ℕ) → SpellsHead version s text
    → bytes ≡ text ++ rest → BeginWithUsers bytes
head_users version s bytes text rest head is =
    let last : List ℕ = counted user_spelled s.files ++ (counted device_spelled s.devices ++ to_le_bytes w16 s.passes) in
    record {
      version = version;
      pool = s.pool;
      pool_fits = head.pool_fits;
      users = s.users;
      users_fit = head.users_fit;
      rest = last ++ rest;
      bytes_are = is ∙ ap (λ (t : List ℕ). t ++ rest) head.bytes_are
          ∙ three (mark version) (to_le_bytes w32 s.pool) (counted limit_spelled s.users) last rest;
    }

pub on_err : {T E P : Type 0} (r : Result T E) → P → OnErr r P
on_err (Ok x) holds = tt
on_err (Err e) holds = holds
