use Rattle.std.proofs.Common.{◌≡◌, List, ℕ, length, rules, subst}
use Rattle.journal_audit_writing.specs.Writing.{Appends}
use Rattle.journal_audit_writing.proofs.Lists.{words_text}
use Rattle.journal_audit_writing.proofs.events.spell_words.Goals as goal

pub returns-clause-bytes : goal.returns-clause-bytes
returns-clause-bytes g c =
    let four : length c.args.words.now ≡ 4 = search rules in
    subst (λ (text : List ℕ). Appends c.spell_all.result c.args.out.now.items c.spell_all.new.out.items text)
    (words_text c.args.words.now four) c.spell_all.ensures.bytes
