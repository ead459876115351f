use Rattle.std.proofs.Common.{◌≡◌, ℕ, ◌+◌, ◌*◌, ◌≤◌, List, [], ◌++◌, length, drop, Option, Some, None, sym, ap, ◌∙◌}
use Rattle.std.proofs.Common.{arith}
use Rattle.std.proofs.lemmas.List.{length-append, length-drop}
use Rattle.iofd_words.specs.declared.reply.Reply.{Reply}
use Rattle.ioctl_codec.specs.Layout.{structure_bytes}
use Rattle.ioctl_codec.specs.Spelling.{answer_of, told_words, words_bytes, written_back}
use Rattle.ioctl_codec.specs.Structures.{structure_of, values_of}
use Rattle.ioctl_codec.specs.declared.command.Command.{Command}
use Rattle.ioctl_codec.specs.declared.command.Command.TheVariants.{Destroy, IoasAlloc, IoasAllowIovas, IoasCopy}
use Rattle.ioctl_codec.specs.declared.command.Command.TheVariants.{IoasIovaRanges, IoasMap, IoasUnmap, HwptAlloc}
use Rattle.ioctl_codec.specs.declared.command.Command.TheVariants.{DirtyEnable, DirtyReport}
use Rattle.ioctl_codec.proofs.Words.{behind_structure}
use Rattle.ioctl_codec.proofs.encoding.encode_reply_to.Goals as goal

-- what is written back, by what the answer is
back : {A : Type 0} → Command A → Reply → Option (Option ℕ) → List ℕ
back c r outcome = elim outcome as (λ _. List ℕ) [
  | None ↦ []
  | Some answer ↦ structure_bytes (structure_of c) (values_of c) answer ++ words_bytes (told_words c r)
]

nothing_back : {A : Type 0} (c : Command A) (r : Reply) → answer_of c r ≡ None → written_back c r ≡ []
unfolding back
nothing_back c r is = ap (back c r) is

untold : (place : ℕ) (words : List ℕ) → words ≡ [] → place ≤ 40 → place + 8 * length words ≤ 64
untold place words none most = let none : length words ≡ 0 = ap length none in omega arith

told : (place count : ℕ) → place ≡ 32 → count ≤ 4 → place + 8 * count ≤ 64
told place count is few = omega arith

-- words are told of a report alone, and four have room behind its structure
room : {A : Type 0} (c : Command A) (r : Reply) (answer : Option ℕ) (place : ℕ) (words : List ℕ)
    → place ≡ length (structure_bytes (structure_of c) (values_of c) answer) → place ≤ 40 → words ≡ told_words c r
    → length words ≤ 4 → place + 8 * length words ≤ 64
unfolding structure_bytes
room (Destroy id) r answer place words is most words_are few = untold place words words_are most
room IoasAlloc r answer place words is most words_are few = untold place words words_are most
room (IoasAllowIovas ioas ranges) r answer place words is most words_are few = untold place words words_are most
room (IoasCopy copy) r answer place words is most words_are few = untold place words words_are most
room (IoasIovaRanges request) r answer place words is most words_are few = untold place words words_are most
room (IoasMap map) r answer place words is most words_are few = untold place words words_are most
room (IoasUnmap unmap) r answer place words is most words_are few = untold place words words_are most
room (HwptAlloc request) r answer place words is most words_are few = untold place words words_are most
room (DirtyEnable hwpt on) r answer place words is most words_are few = untold place words words_are most
room (DirtyReport request clears) r answer place words is most words_are few = told place (length words) is few

-- the place behind what is written to the front of a buffer
end_is : (written before after : List ℕ) (end : ℕ) → after ≡ written ++ drop end before → length before ≡ 64
    → length after ≡ 64 → end ≤ 64 → end ≡ length written
end_is written before after end is long still within =
    omega (arith, ap length is, length-append written (drop end before), length-drop end before)

pub returns-in_default-clause-count : goal.returns-in_default-clause-count
returns-in_default-clause-count g c =
    sym (ap length (nothing_back c.args.command.now c.args.reply.now (sym c.answer_of.ensures ∙ c.in_default.is)))

pub returns-in_default-clause-bytes : goal.returns-in_default-clause-bytes
returns-in_default-clause-bytes g c =
    sym (ap (λ (bytes : List ℕ). bytes ++ c.args.buffer.now)
    (nothing_back c.args.command.now c.args.reply.now (sym c.answer_of.ensures ∙ c.in_default.is)))

pub put_words-requires : goal.put_words-requires
put_words-requires g c =
    room c.args.command.now c.args.reply.now c.in-Some.answer c.put_command-place.result c.told_words.result.now
    c.put_command-place.ensures.count c.put_command-place.ensures.most c.told_words.ensures.words
    c.told_words.ensures.few

pub returns-clause-at_most : goal.returns-clause-at_most
returns-clause-at_most g c =
    rw c.put_words.ensures.next (room c.args.command.now c.args.reply.now c.in-Some.answer c.put_command-place.result
    c.told_words.result.now c.put_command-place.ensures.count c.put_command-place.ensures.most
    c.told_words.ensures.words c.told_words.ensures.few)

pub returns-clause-bytes : goal.returns-clause-bytes
unfolding back
returns-clause-bytes g c =
    let command = c.args.command.now in
    let reply = c.args.reply.now in
    let put = c.put_command-place in
    let told = c.told_words in
    let behind = c.put_words in
    let words = told.result.now in
    let structure = structure_bytes (structure_of command) (values_of command) c.in-Some.answer in
    let good : answer_of command reply ≡ Some c.in-Some.answer = sym c.answer_of.ensures ∙ c.in-Some.is in
    let whole : written_back command reply ≡ structure ++ words_bytes words =
    ap (back command reply) good ∙ ap (λ (told : List ℕ). structure ++ words_bytes told) (sym told.ensures.words) in
    rw whole (behind_structure structure (words_bytes words) c.args.buffer.now put.new.out behind.new.out put.result
    behind.result (8 * length words) put.ensures.count put.ensures.bytes behind.ensures.next behind.ensures.written)

pub returns-clause-count : goal.returns-clause-count
returns-clause-count g c =
    end_is (written_back c.args.command.now c.args.reply.now) c.args.buffer.now c.put_words.new.out c.put_words.result
    (returns-clause-bytes g c) c.told-buffer c.put_words.array_long (returns-clause-at_most g c)
