-- The areas of an address space may be cleared in its page tables: they begin at pages, and end below the end of each.
use Rattle.std.proofs.Common.{◌≡◌, ℕ, true, false, eqb, List, refl, ap, subst, sym, ◌∙◌}
use Rattle.std.specs.List.{list_all, list_any}
use Rattle.area_map_rows.specs.Areas.{areas_within}
use Rattle.page_table_set.specs.OverSpans.{is_over}
use Rattle.page_table_set.specs.PageTables.{Hwpt}
use Rattle.iofd_rows.proofs.Widths.{same_width}
use Rattle.iofd_rows.proofs.Bools.{and_true, both_true, clash, not_true, or_false, or_none}
use Rattle.iofd_rows.proofs.Each.{IsIn, in_filter, of_any, of_each}
use Rattle.iofd_rows.proofs.Found.{all_filter}
use Rattle.iofd_rows.proofs.ListTests.{false_else}
use Rattle.iofd_rows.proofs.Named.{file_is, id_is}
use Rattle.iofd_rows.proofs.Unusable.{by_rows, none_of}
use Rattle.iofd_rows.specs.Reached.{ends_in, keeps_of}
use Rattle.iofd_runs.specs.Fits.{begins_at_page}
use Rattle.iofd_runs.specs.InUsable.{is_in_usable}
use Rattle.iofd_words.specs.Areas.{areas_of, is_of}
use Rattle.iofd_words.specs.Bounds.{Bounds}
use Rattle.iofd_words.specs.Objects.{is_hwpt, is_hwpt_over}
use Rattle.iofd_words.specs.Ranges.{meets_some}
use Rattle.iofd_words.specs.Span.{lies_in, meets}
use Rattle.iofd_words.specs.Usable.{beyond, beyond_table, unusable}
use Rattle.iofd_words.specs.World.{World}
use Rattle.iofd_words.specs.declared.numbers.FileNo.{FileNo}
use Rattle.iofd_words.specs.declared.numbers.ObjId.{ObjId}
use Rattle.iofd_words.specs.declared.rows.Area.{Area}
use Rattle.iofd_words.specs.declared.rows.Object.{Object}
use Rattle.iofd_words.specs.declared.rows.ObjectKind.{ObjectKind}
use Rattle.iofd_words.specs.declared.rows.ObjectKind.TheVariants as kind
use Rattle.iofd_words.specs.declared.width.Width.{Width}
use Rattle.server_state.proofs.TablesUnreached.{in_list}
use Rattle.event_unmap.specs.Cleared.{CanClear, is_beyond}
use Rattle.server_state.proofs.AreasBecome.{own_at}
use Rattle.server_state.proofs.Orderly.{orderly}
use Rattle.server_state.specs.Leads.{leads_of}
use Rattle.server_state.specs.Mapping.{own_areas}
use Rattle.server_state.specs.Shows.{Shows}
use Rattle.server_state.specs.Step.{IsTidy}
use Rattle.server_state.specs.Tables.{has_own_width, is_hwpt_of, page_tables_among}
use Rattle.server_state.specs.declared.state.State.{State}

module _ {A : Type 0} (at : ℕ) (w : World) (s : State A) (file : FileNo) (ioas : ObjId) (span : Bounds)
    (tidy : IsTidy at w) (shows : Shows w s) where
  own_is : own_areas s.objects file ioas ≡ areas_of w.areas file ioas
  own_is = own_at s.objects file ioas (orderly at w s tidy shows) ∙ sym (shows.objects.spaces file ioas)

  -- no page table over the address space ends within an area
  none_ends : (a : Area) → IsIn (areas_of w.areas file ioas) a → list_any (ends_in file ioas a.span) w.objects ≡ false
  none_ends a within =
      let of = in_filter (is_of file ioas) w.areas a within in
      let names = and_true (eqb a.file.0 file.0) (eqb a.ioas.0 ioas.0) of.1 in
      let free : meets_some (unusable w.settings w.objects w.attachments a.file a.ioas) a.span ≡ false =
      not_true _ (of_each (is_in_usable w) w.areas a tidy.usable.usable of.0) in
      let here : meets_some (unusable w.settings w.objects w.attachments file ioas) a.span ≡ false =
      ap (λ (f : FileNo). meets_some (unusable w.settings w.objects w.attachments f ioas) a.span)
      (sym (file_is a.file file names.0))
      ∙ ap (λ (i : ObjId). meets_some (unusable w.settings w.objects w.attachments a.file i) a.span)
      (sym (id_is a.ioas ioas names.1))
      ∙ free in
      (or_false (list_any (ends_in file ioas a.span) w.objects)
      (list_any (keeps_of w.settings w.objects file ioas a.span) w.attachments)
      (sym (by_rows w.settings w.objects w.attachments file ioas a.span) ∙ here)).0

  pub none_beyond : (h : Hwpt) → IsIn s.page_tables.tables h → is_over file ioas h.object ≡ true → (a : Area)
      → IsIn (areas_of w.areas file ioas) a → is_beyond h a ≡ false
  none_beyond h there over a within =
      let listed : IsIn (page_tables_among w.objects) h.object =
      subst (λ (os : List Object). IsIn os h.object) shows.tables.tables
      (in_list (λ (h : Hwpt). h.object) s.page_tables.tables h there) in
      let among = (in_filter (λ (o : Object). is_hwpt o.kind) w.objects h.object listed).0 in
      by_kind h.object.kind refl (and_true (eqb h.object.file.0 file.0) (is_hwpt_over ioas h.object.kind) over).1
      (false_else _ (λ met. clash _ (none_ends a within)
      (of_any (ends_in file ioas a.span) w.objects h.object among (both_true _ _ over met))))
    where
      by_kind : (k : ObjectKind) → h.object.kind ≡ k → is_hwpt_over ioas k ≡ true
          → meets_some (beyond_table k) a.span ≡ false → meets (beyond h.table.width) a.span ≡ false
      by_kind kind.Ioas is over apart = cc
      by_kind (kind.Device device) is over apart = cc
      by_kind (kind.Access attached) is over apart = cc
      by_kind (kind.Hwpt space own automatic) is over apart =
          let width : own ≡ h.table.width = same_width own h.table.width (sym (ap (is_hwpt_of h.table.width) is)
          ∙ of_each has_own_width s.page_tables.tables h shows.tables.widths there) in
          subst (λ (width : Width). meets (beyond width) a.span ≡ false) width
          (sym (or_none (meets (beyond own) a.span)) ∙ apart)

  pub can_clear_within : CanClear s.pool s.page_tables.tables file ioas
      (areas_within span (own_areas s.objects file ioas))
  can_clear_within = record {
    stand = record { frames = w.table_frames; leads = leads_of w; stand = shows.tables.stand };
    starts = subst (λ (l : List Area). list_all begins_at_page (areas_within span l) ≡ true) (sym own_is) starts;
    below = λ h there over.
        none_of (is_beyond h) (areas_within span (own_areas s.objects file ioas)) (λ a within.
        none_beyond h there over a (subst (λ (l : List Area). IsIn l a) own_is
        (in_filter (λ (x : Area). lies_in x.span span) (own_areas s.objects file ioas) a within).0));
  }
    where
      starts : list_all begins_at_page (areas_within span (areas_of w.areas file ioas)) ≡ true
      starts = all_filter begins_at_page (λ (x : Area). lies_in x.span span) (areas_of w.areas file ioas)
          (all_filter begins_at_page (is_of file ioas) w.areas tidy.fit.starts)
