use Rattle.std.proofs.Common.{false}
use Rattle.iofd_words.specs.declared.rows.MemoryObject.{MemoryObject}
use Rattle.journal_audit_page_tables.specs.PageSets.{frame_in}
use Rattle.journal_audit_page_tables.proofs.ListedObjects.{ends_in_time, object_absent, object_listed, objects_end}
use Rattle.journal_audit_page_tables.proofs.pinning.list_objects.Goals as goal

-- what stands for a memory object where there is none
no_object : MemoryObject
no_object = record { number = 0; user = record { 0 = 0 }; va = 0; count = 0; writable = false }

pub list_object-requires : goal.list_object-requires
unfolding no_object
list_object-requires g c =
    ends_in_time c.args.memory.now c.loop-object.object-index no_object c.loop-object-test.true c.requires.few

pub returns-then-not-branch : goal.returns-then-not-branch
unfolding no_object
returns-then-not-branch g c =
    object_absent (frame_in c.args.frames.now) c.args.numbers.now c.args.pinned.now.keys c.args.memory.now
    c.loop-object.object-index no_object c.loop-object-test.true c.requires.own c.loop-object.pins.items _ _
    c.has-is_asked.result c.has-is_asked.ensures c.in_ok-list_object.ensures c.if-not-branch.true
    c.loop-object.invariant

pub loop-object-preserved : goal.loop-object-preserved
unfolding no_object
loop-object-preserved g c =
    object_listed (frame_in c.args.frames.now) c.args.numbers.now c.args.pinned.now.keys c.args.memory.now
    c.loop-object.object-index no_object c.loop-object-test.true c.requires.own c.loop-object.pins.items _ _
    c.has-is_asked.result c.has-is_asked.ensures c.in_ok-list_object.ensures c.if-not-branch.false
    c.loop-object.invariant

pub returns : goal.returns
returns g c =
    objects_end (frame_in c.args.frames.now) c.args.numbers.now c.args.pinned.now.keys c.args.memory.now
    c.loop-object.object-index c.loop-object.pins.items c.loop-object-test.false c.loop-object.invariant
