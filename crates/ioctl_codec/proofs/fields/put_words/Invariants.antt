use Rattle.std.proofs.Common.{◌≡◌, length}
use Rattle.ioctl_codec.proofs.Words.{AreWritten}
use Rattle.ioctl_codec.proofs.fields.put_words.Given as goal

-- the words so far are written
abbrev pub invariant-loop-word : goal.invariant-loop-word
invariant-loop-word l = record {
  writing : AreWritten l.words l.word-index l.initial.at l.initial.out l.out l.place;
  whole : length l.out ≡ 64;
}
