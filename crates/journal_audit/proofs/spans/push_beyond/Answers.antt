use Rattle.std.proofs.Common.{◌≡◌, ◌∙◌, Bool, true, false, ◌==◌, ◌&&◌, ◌∷◌, [], ◌++◌, refl, sym, ap}
use Rattle.std.proofs.lemmas.Bool.{eq-eqb, ne_eqb}
use Rattle.iofd_rows.proofs.Bools.{both_true}
use Rattle.iofd_words.specs.Objects.{is_hwpt_over}
use Rattle.iofd_words.specs.Usable.{beyond_table, beyond_tables}
use Rattle.iofd_words.specs.declared.numbers.ObjId.{ObjId}
use Rattle.iofd_words.specs.declared.rows.ObjectKind.{ObjectKind}
use Rattle.iofd_words.specs.declared.rows.ObjectKind.TheVariants as kind
use Rattle.iofd_words.specs.declared.width.Width.{Width}
use Rattle.journal_audit_world.proofs.Pushed.{kept_added, kept_passed, none_left}
use Rattle.journal_audit.proofs.spans.push_beyond.Goals.{then-object-file+then-is_hwpt_over+in-Hwpt+in_ok-push}
use Rattle.journal_audit.proofs.spans.push_beyond.Goals.{then-object-file+then-is_hwpt_over+in_default}
use Rattle.journal_audit.proofs.spans.push_beyond.Goals.{else-object-file}
use Rattle.journal_audit.proofs.spans.push_beyond.Goals.{
  else-object-file-via-then-object-file+else-is_hwpt_over,
}
use Rattle.journal_audit.proofs.spans.push_beyond.Goals.{else-object-file-via-else-object-file}
use Rattle.journal_audit.proofs.spans.push_beyond.Goals as goal

-- only a page table is over an address space
never : (ioas : ObjId) (k : ObjectKind) → is_hwpt_over ioas k ≡ true
    → ((over : ObjId) (width : Width) (automatic : Bool) → k ≡ kind.Hwpt over width automatic → ⊥) → ⊥
never ioas kind.Ioas is none = absurd cc
never ioas (kind.Hwpt over width automatic) is none = none over width automatic refl
never ioas (kind.Device device) is none = absurd cc
never ioas (kind.Access attached) is none = absurd cc

not_both : (a b : Bool) → b ≡ false → (a && b) ≡ false
not_both true b is = is
not_both false b is = refl

not_first : (a b : Bool) → a ≡ false → (a && b) ≡ false
not_first a b is = ap (λ x. x && b) is

pub loop-object-preserved : goal.loop-object-preserved
loop-object-preserved g c =
    elim c.if-object-file.branch [
      | then-object-file+then-is_hwpt_over+in-Hwpt+in_ok-push w ↦ kept_added (λ object. beyond_table object.kind)
          (λ object. object.file.0 == c.args.file.0 && is_hwpt_over c.args.ioas object.kind) c.args.objects.now
          c.loop-object.object-index _ c.loop-object.spans.items c.if-object-file.spans.items _ c.loop-object-test.true
          (both_true _ _ (eq-eqb _ _ w.if-object-file.true) (sym w.is_hwpt_over.ensures ∙ w.if-is_hwpt_over.true))
          (rw w.spans-is (w.in_ok-push.ensures.items
          ∙ ap (λ b. c.loop-object.spans.items ++ b ∷ []) w.beyond.ensures
          ∙ ap (λ k. c.loop-object.spans.items ++ beyond_table k) (sym w.in-Hwpt.is))) c.loop-object.invariant
      | then-object-file+then-is_hwpt_over+in_default w ↦ absurd (never c.args.ioas _
          (sym w.is_hwpt_over.ensures ∙ w.if-is_hwpt_over.true) w.in_default.not-Hwpt)
      | else-object-file w ↦ kept_passed (λ object. beyond_table object.kind)
          (λ object. object.file.0 == c.args.file.0 && is_hwpt_over c.args.ioas object.kind) c.args.objects.now
          c.loop-object.object-index (record { file = record { 0 = 0 }; id = record { 0 = 0 }; kind = kind.Ioas })
          c.loop-object.spans.items c.if-object-file.spans.items _ c.loop-object-test.true
          (elim w.else-object-file.branch [
            | else-object-file-via-then-object-file+else-is_hwpt_over v ↦ not_both _ _
                (sym v.is_hwpt_over.ensures ∙ v.if-is_hwpt_over.false)
            | else-object-file-via-else-object-file v ↦ not_first _ _
                (ne_eqb _ _ v.if-object-file.false)
          ]) (rw w.spans-is refl) c.loop-object.invariant
    ]

pub returns : goal.returns
returns g c =
    none_left (λ objects. beyond_tables objects c.args.file c.args.ioas) c.args.objects.now c.loop-object.object-index
    c.loop-object.spans.items _ refl c.loop-object-test.false c.loop-object.invariant
