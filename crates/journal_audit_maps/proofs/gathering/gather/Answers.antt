use Rattle.std.proofs.Common.{false}
use Rattle.iofd_words.specs.declared.rows.MemoryObject.{MemoryObject}
use Rattle.journal_audit_maps.proofs.Gathered.{all_fails, all_over, all_step}
use Rattle.journal_audit_maps.proofs.Unspanned.{unspanned}
use Rattle.journal_audit_maps.proofs.gathering.gather.Goals as goal

-- what stands for a memory object where there is none
no_object : MemoryObject
no_object = record { number = 0; user = record { 0 = 0 }; va = 0; count = 0; writable = false }

pub gather_asked-requires : goal.gather_asked-requires
unfolding no_object
gather_asked-requires g c =
    unspanned c.args.memory.now c.args.areas.now c.args.file c.args.ioas c.args.asked c.in_ok-numbers.numbers
    c.loop-object.object-index no_object c.has-is_asked.result c.loop-object-test.true c.requires.own c.requires.sizes
    c.in_ok-numbers.ensures c.has-is_asked.ensures

pub returns-then-not-branch : goal.returns-then-not-branch
unfolding no_object
returns-then-not-branch g c =
    all_fails c.args.memory.now c.args.user_pages.now c.args.pins.now c.args.areas.now c.args.file c.args.ioas c.args.asked
    c.loop-object.object-index no_object c.loop-object.found.items c.loop-object.invariant _ _ c.loop-object-test.true
    c.if-not-branch.true c.in_ok-gather_asked.ensures

pub loop-object-preserved : goal.loop-object-preserved
unfolding no_object
loop-object-preserved g c =
    all_step c.args.memory.now c.args.user_pages.now c.args.pins.now c.args.areas.now c.args.file c.args.ioas c.args.asked
    c.loop-object.object-index no_object c.loop-object.found.items c.loop-object.invariant _ _ c.loop-object-test.true
    c.if-not-branch.false c.in_ok-gather_asked.ensures

pub returns : goal.returns
returns g c =
    all_over c.args.memory.now c.args.user_pages.now c.args.pins.now c.args.areas.now c.args.file c.args.ioas c.args.asked
    c.loop-object.object-index no_object c.loop-object.found.items c.loop-object.invariant c.loop-object-test.false
