use Rattle.std.proofs.Common.{◌∷◌, ◌+◌, List, ℕ, get_or, drop, ap, subst, arith}
use Rattle.std.proofs.Math.ListN.{drop_of_length-le}
use Rattle.std.proofs.lemmas.List.{at_drop_more, drop_more}
use Rattle.ioctl_codec.specs.Layout.{Field}
use Rattle.ioctl_codec.specs.Table.{fields_in, structure_in}
use Rattle.ioctl_codec.specs.declared.structure.Field.TheVariants as field
use Rattle.ioctl_codec.specs.declared.structure.Role.TheVariants as role
use Rattle.ioctl_codec.proofs.Rows.{IsWriting, write_more, all_written}
use Rattle.ioctl_codec.proofs.fields.put_structure.Goals as goal

pub put_number-at-requires : goal.put_number-at-requires
put_number-at-requires c =
    let now = c.loop-index in
    let next = at_drop_more fields_in c.args.structure.fields.now now.index (field.U32 (role.Flags 0))
    c.loop-index-test.true in
    omega (arith, rw next at now.invariant.writing.place, c.requires.known, c.requires.room)

pub loop-index-preserved : goal.loop-index-preserved
loop-index-preserved c =
    let now = c.loop-index in
    let numbers = c.args.numbers.now in
    let rows = c.args.structure.fields.now in
    let s = structure_in c.args.structure in
    let put = c.put_number-at in
    let next = at_drop_more fields_in rows now.index (field.U32 (role.Flags 0)) c.loop-index-test.true in
    let number = drop_more numbers now.index 0 (omega (arith, c.requires.numbers, c.loop-index-test.true)) in
    let others = drop now.index numbers in
    let here = subst (λ (left : List Field). IsWriting s numbers left others c.args.out.now now.out now.at) next
    now.invariant.writing in
    let there = subst (λ (xs : List ℕ). IsWriting s numbers
    (fields_in (get_or rows now.index (field.U32 (role.Flags 0)) ∷ drop (now.index + 1) rows)) xs c.args.out.now
    now.out now.at) number here in
    record {
      writing = write_more (get_or numbers now.index 0) put.new.out put.result there
          (omega (
            arith,
            now.invariant.whole,
            rw next at now.invariant.writing.place,
            c.requires.known,
            c.requires.room,
          )) put.ensures.written put.ensures.next;
      whole = put.array_long;
    }

pub returns-clause-count : goal.returns-clause-count
returns-clause-count c =
    let written = all_written c.loop-index.invariant.writing
    (ap fields_in (drop_of_length-le c.args.structure.fields.now c.loop-index-test.false)) in
    written.0

pub returns-clause-bytes : goal.returns-clause-bytes
returns-clause-bytes c =
    let written = all_written c.loop-index.invariant.writing
    (ap fields_in (drop_of_length-le c.args.structure.fields.now c.loop-index-test.false)) in
    written.1
