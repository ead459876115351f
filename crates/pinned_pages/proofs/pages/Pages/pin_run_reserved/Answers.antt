use Rattle.pinned_pages.proofs.AccessRuns.{run_counted, run_held}
use Rattle.pinned_pages.proofs.FirstPin.{run_granted}
use Rattle.pinned_pages.proofs.pages.Pages.pin_run_reserved.Goals as goal

pub returns-clause-held : goal.returns-clause-held
returns-clause-held g c =
    run_held c.args.first c.args.count c.args.users.now.pages c.args.self.now.pages c.pin_pages-new.new.self.pages
    c.requires.run c.pin_pages-new.ensures.pages

pub returns-clause-count : goal.returns-clause-count
returns-clause-count g c =
    run_counted c.args.first c.args.count c.args.users.now.pages c.args.self.now.pages c.pin_pages-new.new.self.pages
    c.requires.run c.pin_pages-new.ensures.pages
    (run_granted c.args.self.now.pages c.args.users.now.pages c.args.accounts.now c.args.first c.args.count
    c.requires.granted).0
