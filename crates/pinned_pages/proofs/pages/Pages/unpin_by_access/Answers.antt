use Rattle.std.proofs.Common.{◌≡◌, ◌+◌, ap, subst, sym, arith}
use Rattle.mem_account.specs.Accounts.{held_by}
use Rattle.pinned_pages.specs.Accesses.{gone_count, gone_frames}
use Rattle.pinned_pages.specs.Holds.{times}
use Rattle.pinned_pages.specs.Kept.{AreKept}
use Rattle.pinned_pages.specs.Pages.{MemoryPages, ObjectPages, held_frames, pinned_count}
use Rattle.pinned_pages.proofs.AccessRuns.{gone_counted, gone_few, gone_held}
use Rattle.pinned_pages.proofs.pages.Pages.unpin_by_access.Goals as goal

pub unpin_pages-gone-requires-clause-holds : goal.unpin_pages-gone-requires-clause-holds
unpin_pages-gone-requires-clause-holds g c frame =
    let few = gone_few c.args.first c.args.count c.args.self.now.pages c.requires.run frame in
    let all = c.requires.holds frame in
    omega (arith, few, all)

pub refund-requires-clause-held : goal.refund-requires-clause-held
refund-requires-clause-held g c =
    let K : MemoryPages → Type 0 = λ v. AreKept v.pages in
    let old = c.args.self.now.pages in
    let counts = gone_counted c.args.first c.args.count old c.unpin_pages-gone.new.self.pages
    (subst K c.self.view_is c.self.invariant) c.requires.run c.requires.pins c.unpin_pages-gone.ensures.pages in
    let user = ap (λ (v : MemoryPages). held_by c.args.accounts.now v.pages.user.0) c.self.view_is in
    omega (arith, counts, user, c.requires.held, c.unpin_pages-gone.ensures.gone)

pub returns-clause-held : goal.returns-clause-held
returns-clause-held g c frame =
    let K : MemoryPages → Type 0 = λ v. AreKept v.pages in
    let old = c.args.self.now.pages in
    let P : ObjectPages → Type 0 = λ p. times frame (held_frames old)
    ≡ times frame (held_frames p) + times frame (gone_frames old c.args.first c.args.count) in
    subst P (sym c.free_rows.ensures.pages) (gone_held c.args.first c.args.count old
    c.unpin_pages-gone.new.self.pages (subst K c.self.view_is c.self.invariant) c.requires.run c.requires.pins
    c.unpin_pages-gone.ensures.pages frame)

pub returns-clause-count : goal.returns-clause-count
returns-clause-count g c =
    let K : MemoryPages → Type 0 = λ v. AreKept v.pages in
    let old = c.args.self.now.pages in
    let P : ObjectPages → Type 0 = λ p. pinned_count old
    ≡ pinned_count p + gone_count old c.args.first c.args.count in
    subst P (sym c.free_rows.ensures.pages) (gone_counted c.args.first c.args.count old
    c.unpin_pages-gone.new.self.pages (subst K c.self.view_is c.self.invariant) c.requires.run c.requires.pins
    c.unpin_pages-gone.ensures.pages)
