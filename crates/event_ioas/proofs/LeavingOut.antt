-- Sets of addresses from which the objects of a list take some away, one after the other.
use Rattle.std.proofs.Common.{◌≡◌, ℕ, Bool, true, false, ◌&&◌, ◌||◌, not, List, [], refl, sym, ◌∙◌, ap, subst}
use Rattle.std.specs.List.{list_any}
use Rattle.std.specs.Prelude.{◌^◌, nat_lt}
use Rattle.iofd_rows.proofs.Unusable.{by_rows}
use Rattle.iofd_rows.specs.Reached.{ends_in, keeps_of}
use Rattle.iofd_words.specs.Bounds.{Bounds}
use Rattle.iofd_steps.specs.Look.{AreUsableRanges}
use Rattle.iofd_words.specs.Ranges.{AreMerged, in_spans}
use Rattle.iofd_words.specs.View.{View}
use Rattle.iofd_words.specs.declared.numbers.FileNo.{FileNo}
use Rattle.iofd_words.specs.declared.numbers.ObjId.{ObjId}
use Rattle.iofd_words.specs.declared.rows.Attachment.{Attachment}
use Rattle.event_ioas.specs.LeftOut.{LeavesOut, only}

-- some of the list's objects have had their numbers taken away, and those left have still to
pub record IsLeaving {X : Type 0} (test : ℕ → X → Bool) (all left : List X) (before now : List Bounds) : Type 0 where
  pub numbers : (n : ℕ) → (in_spans now n && not (list_any (test n) left)) ≡ (in_spans before n
      && not (list_any (test n) all))
  pub merged : AreMerged before → AreMerged now

module _ {X : Type 0} (test : ℕ → X → Bool) (all : List X) (before : List Bounds) where
  pub all_left_out : (now : List Bounds) → IsLeaving test all [] before now
      → LeavesOut (λ n. list_any (test n) all) before now
  all_left_out now leaving = record {
    numbers = λ n. and_true_right (in_spans now n) ∙ leaving.numbers n;
    merged = leaving.merged;
  }
    where
      and_true_right : (b : Bool) → b ≡ (b && true)
      and_true_right true = refl
      and_true_right false = refl

-- tests that say the same leave out the same
pub out_by_alike : {first second : ℕ → Bool} {before after : List Bounds} → ((n : ℕ) → first n ≡ second n)
    → LeavesOut first before after → LeavesOut second before after
out_by_alike {before = before} alike out = record {
  numbers = λ n. out.numbers n ∙ ap (λ b. in_spans before n && not b) (alike n);
  merged = out.merged;
}

-- ---- the usable ranges

both_out : (all ends keeps first then : Bool) → first ≡ (all && not ends) → then ≡ (first && not keeps)
    → then ≡ (all && not (ends || keeps))
both_out true true keeps first then is_first is_then = is_then ∙ ap (λ b. b && not keeps) is_first
both_out true false keeps first then is_first is_then = is_then ∙ ap (λ b. b && not keeps) is_first
both_out false ends keeps first then is_first is_then = is_then ∙ ap (λ b. b && not keeps) is_first

-- all addresses, without those that a page table doesn't translate, and then without those that devices keep
pub usable_left : (v : View) (file : FileNo) (ioas : ObjId) (attachments : List Attachment) (all first
    then : List Bounds) → attachments ≡ v.attachments → ((n : ℕ) → in_spans all n ≡ nat_lt n (2 ^ 64))
    → AreMerged all
    → LeavesOut (λ n. list_any (ends_in file ioas (only n)) v.objects) all first
    → LeavesOut (λ n. list_any (keeps_of v.settings v.objects file ioas (only n)) attachments) first then
    → AreUsableRanges v file ioas then
usable_left v file ioas attachments all first then are is merged ends kept = record {
  merged = keeps.merged (ends.merged merged);
  set = λ n.
      both_out (nat_lt n (2 ^ 64)) (list_any (ends_in file ioas (only n)) v.objects)
      (list_any (keeps_of v.settings v.objects file ioas (only n)) v.attachments)
      (in_spans first n) (in_spans then n)
      (ends.numbers n ∙ ap (λ b. b && not (list_any (ends_in file ioas (only n)) v.objects)) (is n)) (keeps.numbers n)
      ∙ ap (λ b. nat_lt n (2 ^ 64) && not b) (sym (by_rows v.settings v.objects v.attachments file ioas (only n)));
}
  where
    keeps : LeavesOut (λ n. list_any (keeps_of v.settings v.objects file ioas (only n)) v.attachments) first then
    keeps = subst (λ (rows : List Attachment). LeavesOut
        (λ n. list_any (keeps_of v.settings v.objects file ioas (only n)) rows) first then) are kept
