use Rattle.std.proofs.Common.{◌≡◌, ℕ, Option, sym, subst, rules, arith}
use Rattle.std.proofs.lemmas.Bool.Decides.{nat_tests}
use Rattle.iofd_words.specs.Pages.{page_of}
use Rattle.iofd_words.specs.declared.query.Translation.{Translation}
use Rattle.port_cache.specs.Cached.{IsUsed, Leaves, Translations, compared}
use Rattle.port_cache.proofs.Used.{put_is_used}
use Rattle.port_cache.proofs.cache.PortCache.keep.Goals.{else-self-found, then-self-found}
use Rattle.port_cache.proofs.cache.PortCache.keep.Goals as goal

pub returns-in-Some-clause-leaves : goal.returns-in-Some-clause-leaves
returns-in-Some-clause-leaves g c =
    let a = c.args in
    let mid = c.if-self-found.self in
    let most : mid.pages.cap ≡ a.self.now.pages.cap = elim c.if-self-found.branch [
      | then-self-found w ↦ search rules
      | else-self-found w ↦ search rules
    ] in
    let left : mid.pages.entries ≡ compared a.self.now.turns a.found.now.turns a.self.now.pages.entries =
    elim c.if-self-found.branch [
      | then-self-found w ↦ grind (rules, arith, nat_tests)
      | else-self-found w ↦ grind (rules, arith, nat_tests)
    ] in
    let is : IsUsed mid.pages.cap c.page_of.result c.in-Some.translation mid.pages.entries c.put.new.self.entries =
    put_is_used mid.pages c.page_of.result c.in-Some.translation c.len-len.ensures.valid.1 c.put.result c.put.new.self
    c.put.ensures.entries c.put.ensures.err c.put.ensures.succeeds in
    let used : IsUsed a.self.now.pages.cap (page_of a.iova.0) c.in-Some.translation
    (compared a.self.now.turns a.found.now.turns a.self.now.pages.entries) c.put.new.self.entries =
    subst (λ (x : ℕ × ℕ × Translations). IsUsed x.0 x.1 c.in-Some.translation x.2 c.put.new.self.entries)
    (λ i. (most i, c.page_of.ensures i, left i)) is in
    subst (λ (o : Option Translation). Leaves a.self.now.pages.cap (page_of a.iova.0) o
    (compared a.self.now.turns a.found.now.turns a.self.now.pages.entries) c.put.new.self.entries) (sym c.in-Some.is) used
