use Rattle.std.proofs.Common.{◌≡◌, ℕ, [], ◌∷◌, length, sym, ap, ◌∙◌}
use Rattle.ioctl_codec.proofs.EntriesBytes.{length-entries_at}
use Rattle.ioctl_codec.proofs.decoding.ioas_allow_iovas_of.Goals as goal

pub returns-in-Ok-read_entries-clause-values : goal.returns-in-Ok-read_entries-clause-values
returns-in-Ok-read_entries-clause-values g c =
    let len : length c.new.result ≡ c.in-Ok.count =
    ap length (c.new.ensures ∙ c.in-Ok-read_entries.ensures.entries)
    ∙ length-entries_at c.in-Ok.count c.in-Ok.entries.now in
    ap (λ (n : ℕ). c.in-Ok.ioas.0 ∷ n ∷ []) len ∙ sym c.in-Ok.ensures.values
