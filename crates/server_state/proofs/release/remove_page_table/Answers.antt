use Rattle.std.proofs.Common.{refl}
use Rattle.server_state.proofs.CountsShown.{table_leaves}
use Rattle.server_state.proofs.release.remove_page_table.Goals as goal

pub unpin_untranslated-requires : goal.unpin_untranslated-requires
unpin_untranslated-requires g c =
    c.requires.pins c.remove_object.new.table c.remove.new.self c.remove.new.pool (record {
      objects = λ at w attachments areas width automatic tidy shown is_kind unused.
          table_leaves w.settings w.closed w.objects attachments areas c.args.state.now.objects
          c.remove_object.new.table shown c.args.file c.args.hwpt c.args.ioas width automatic c.remove_user.new.table
          tidy.ids tidy.debts.spaces
          is_kind unused c.remove_user.ensures.rows c.remove_user.ensures.others c.remove_object.ensures.rows
          c.remove_object.ensures.files;
      kept = c.remove.ensures.tables;
      stand = c.remove.ensures.stand;
      released = c.remove.ensures.pool;
    })

pub returns-clause-state : goal.returns-clause-state
returns-clause-state g c = record {
  between = c.remove.new.pool;
  gone = record {
    objects = λ at w attachments areas width automatic tidy shown is_kind unused.
        table_leaves w.settings w.closed w.objects attachments areas c.args.state.now.objects c.remove_object.new.table
        shown c.args.file c.args.hwpt c.args.ioas width automatic c.remove_user.new.table tidy.ids tidy.debts.spaces
        is_kind unused c.remove_user.ensures.rows c.remove_user.ensures.others c.remove_object.ensures.rows
        c.remove_object.ensures.files;
    kept = c.remove.ensures.tables;
    stand = c.remove.ensures.stand;
    released = c.remove.ensures.pool;
  };
  pins = c.unpin_untranslated.ensures;
  others = refl;
}
