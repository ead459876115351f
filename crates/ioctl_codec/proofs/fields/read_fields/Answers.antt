use Rattle.std.proofs.Common.{◌≡◌, ◌&&◌, List, ℕ, Bool, length, take, ap, subst, ◌∙◌, arith}
use Rattle.std.proofs.Math.ListN.{drop_of_length-le}
use Rattle.std.proofs.lemmas.List.{at_drop_more, take_more_set, length-set}
use Rattle.ioctl_codec.specs.Layout.{Field}
use Rattle.ioctl_codec.specs.Table.{fields_in}
use Rattle.ioctl_codec.specs.declared.structure.Field.TheVariants as field
use Rattle.ioctl_codec.specs.declared.structure.Role.TheVariants as role
use Rattle.ioctl_codec.proofs.Rows.{IsReading, read_more, placed_are, AreOfWidth-numbers_at, length-fields_in, all_read}
use Rattle.ioctl_codec.proofs.fields.read_fields.Goals as goal

pub number_at-number-requires : goal.number_at-number-requires
number_at-number-requires c =
    let now = c.loop-index in
    let next = at_drop_more fields_in c.args.fields.now now.index (field.U32 (role.Flags 0)) c.loop-index-test.true in
    omega (arith, rw next at now.invariant.reading.enough)

pub loop-index-preserved : goal.loop-index-preserved
loop-index-preserved c =
    let now = c.loop-index in
    let fields = c.args.fields.now in
    let read = c.number_at-number in
    let next = at_drop_more fields_in fields now.index (field.U32 (role.Flags 0)) c.loop-index-test.true in
    let here = subst (λ (left : List Field). IsReading (fields_in fields) c.args.bytes.now left now.rest.now
    (take now.index now.numbers) now.allowed) next now.invariant.reading in
    record {
      reading = read_more read.result.0 read.result.1.now _ _ here read.ensures.value read.ensures.rest
          (take_more_set now.numbers now.index read.result.0 (omega (
            arith,
            now.invariant.places,
            c.requires.few,
            c.loop-index-test.true,
          )))
          (ap (λ (b : Bool). now.allowed && b) c.allows-allowed.ensures);
      places = length-set now.numbers now.index read.result.0 ∙ now.invariant.places;
    }

pub returns-clause-numbers : goal.returns-clause-numbers
returns-clause-numbers c =
    let now = c.loop-index in
    let fields = c.args.fields.now in
    let read = all_read now.invariant.reading (ap fields_in (drop_of_length-le fields c.loop-index-test.false)) in
    let count : length (fields_in fields) ≡ now.index =
    omega (arith, length-fields_in fields, c.loop-index-test.false, now.auto.index-end) in
    placed_are 0 (fields_in fields) now.numbers _
    (AreOfWidth-numbers_at (fields_in fields) c.args.bytes.now (λ i. omega (arith, c.type_inv.bytes i)))
    (ap (λ (n : ℕ). take n now.numbers) count ∙ read.0)

pub returns-clause-allowed : goal.returns-clause-allowed
returns-clause-allowed c =
    let read = all_read c.loop-index.invariant.reading
    (ap fields_in (drop_of_length-le c.args.fields.now c.loop-index-test.false)) in
    read.1
