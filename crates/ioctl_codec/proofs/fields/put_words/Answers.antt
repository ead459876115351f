use Rattle.std.proofs.Common.{arith}
use Rattle.ioctl_codec.proofs.Words.{word_more}
use Rattle.ioctl_codec.proofs.fields.put_words.Goals as goal

pub loop-word-preserved : goal.loop-word-preserved
loop-word-preserved c =
    let now = c.loop-word in
    let put = c.put_number-place in
    record {
      writing = word_more put.new.out put.result now.invariant.writing c.loop-word-test.true
          (omega (
            arith,
            now.invariant.whole,
            now.invariant.writing.place_is,
            c.loop-word-test.true,
            c.requires,
          )) put.ensures.written put.ensures.next;
      whole = put.array_long;
    }
