use Rattle.std.proofs.Common.{arith}
use Rattle.journal_audit.proofs.ListedPins.{absent_listed, none_shared, pages_end, shared_listed, whole_listed}
use Rattle.journal_audit.proofs.pinning.pins_of_shared.Goals as goal

pub returns-in_default : goal.returns-in_default
returns-in_default g c =
    none_shared c.args.pins.now c.args.memory.now c.args.user_pages.now c.args.source.now.memory _ _ c.object_of.ensures
    c.in_default.is c.new.ensures.items

pub list_pages-requires : goal.list_pages-requires
list_pages-requires g c =
    pages_end c.args.memory.now c.args.source.now c.in-Some.object _ c.last-last.result c.requires.numbers
    c.requires.sized c.object_of.ensures c.in-Some.is c.last-last.ensures.value (omega arith) (omega arith)

pub returns-then-not-branch : goal.returns-then-not-branch
returns-then-not-branch g c =
    absent_listed _ _ _ _ _ c.if-not-branch.true
    (shared_listed c.in_ok-frames.frames c.args.user_pages.now _ _ _ c.args.pins.now _ _ c.args.memory.now
    c.args.source.now.memory c.in-Some.object _ _ _ _ c.requires.numbers c.object_of.ensures c.in-Some.is
    c.new-found.ensures.items c.in_ok-own.ensures c.deref.ensures.value c.in_ok-pinned.ensures c.in_ok-rows.ensures
    c.deref-2.ensures.value c.in_ok-frames.ensures c.in_ok-list_pages.ensures)

pub returns : goal.returns
returns g c =
    whole_listed _ _ _ _ _ c.if-not-branch.false
    (shared_listed c.in_ok-frames.frames c.args.user_pages.now _ _ _ c.args.pins.now _ _ c.args.memory.now
    c.args.source.now.memory c.in-Some.object _ _ _ _ c.requires.numbers c.object_of.ensures c.in-Some.is
    c.new-found.ensures.items c.in_ok-own.ensures c.deref.ensures.value c.in_ok-pinned.ensures c.in_ok-rows.ensures
    c.deref-2.ensures.value c.in_ok-frames.ensures c.in_ok-list_pages.ensures)
