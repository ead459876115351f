use Rattle.std.proofs.Common.{◌≡◌, ℕ, zero, suc, ◌<◌, ◌≤◌, eqb, List, [], ◌∷◌, Some, None, refl, ap, ◌∙◌, arith}
use Rattle.std.proofs.lemmas.Bool.{le-ltb, lt-ltb}
use Rattle.std.specs.Int.{w8, w32, w64}
use Rattle.std.specs.Prelude.{nat_lt}
use Rattle.journal_audit_bytes.specs.Format.{Tagged, pin}
use Rattle.journal_audit_bytes.specs.Reading.{number_at, plainly, purpose_number, row_behind, some_if}
use Rattle.journal_audit_bytes.proofs.steps.pin_at.Goals as goal

-- 1 for writes too, 0 for reads alone
purpose_is : (n : ℕ) → n ≤ 1 → n ≡ purpose_number (eqb n 1)
purpose_is zero small = refl
purpose_is (suc zero) small = refl
purpose_is (suc (suc n)) small = absurd (omega (arith, small))

-- what the row of a pin gives behind its file, where its other four numbers are read
module _ (tag file : ℕ) {id iova length write : ℕ} (bytes : List ℕ) {b c d e : List ℕ}
    (i : number_at w32 bytes ≡ Some (id, b)) (v : number_at w64 b ≡ Some (iova, c))
    (l : number_at w64 c ≡ Some (length, d)) (w : number_at w8 d ≡ Some (write, e)) where
  row_reads : row_behind (pin tag) file bytes
      ≡ some_if (nat_lt write 2) (plainly tag (file ∷ id ∷ iova ∷ length ∷ write ∷ []), e)
  unfolding row_behind
  row_reads = rw (i, v, l, w) refl

  gives : write ≤ 1 → row_behind (pin tag) file bytes
      ≡ Some (plainly tag (file ∷ id ∷ iova ∷ length ∷ purpose_number (eqb write 1) ∷ []), e)
  gives small = row_reads
      ∙ ap (λ b. some_if {A = Tagged × List ℕ} b (plainly tag (file ∷ id ∷ iova ∷ length ∷ write ∷ []), e))
      (lt-ltb write 2 (omega (arith, small)))
      ∙ ap (λ (n : ℕ). Some (plainly tag (file ∷ id ∷ iova ∷ length ∷ n ∷ []), e)) (purpose_is write small)

  refuses : 1 < write → row_behind (pin tag) file bytes ≡ None
  refuses large = row_reads
      ∙ ap (λ b. some_if {A = Tagged × List ℕ} b (plainly tag (file ∷ id ∷ iova ∷ length ∷ write ∷ []), e))
      (le-ltb write 2 (omega (arith, large)))

pub returns : goal.returns
returns c = record {
  pinned = gives 0x0e c.args.file.0 c.args.bytes.now c.in_ok-id.ensures
      c.in_ok-iova.ensures c.in_ok-length.ensures c.in_ok-write.ensures c.if-write-gt1.false;
  unpinned = gives 0x0f c.args.file.0 c.args.bytes.now c.in_ok-id.ensures
      c.in_ok-iova.ensures c.in_ok-length.ensures c.in_ok-write.ensures c.if-write-gt1.false;
}

pub returns-then-write-gt1 : goal.returns-then-write-gt1
returns-then-write-gt1 c = record {
  pinned = refuses 0x0e c.args.file.0 c.args.bytes.now c.in_ok-id.ensures
      c.in_ok-iova.ensures c.in_ok-length.ensures c.in_ok-write.ensures c.if-write-gt1.true;
  unpinned = refuses 0x0f c.args.file.0 c.args.bytes.now c.in_ok-id.ensures
      c.in_ok-iova.ensures c.in_ok-length.ensures c.in_ok-write.ensures c.if-write-gt1.true;
}
