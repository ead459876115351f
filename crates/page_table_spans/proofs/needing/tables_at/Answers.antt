use Rattle.std.proofs.Common.{List, ap, ◌∙◌}
use Rattle.iofd_words.specs.TablePlaces.{live_pages}
use Rattle.iofd_words.specs.declared.rows.Area.{Area}
use Rattle.page_table_spans.proofs.AreaTables.{nothing}
use Rattle.page_table_spans.proofs.ByLevel.{lacked_at}
use Rattle.page_table_spans.proofs.needing.tables_at.Goals as goal

pub returns-clause-value : goal.returns-clause-value
returns-clause-value g c =
    c.count_at.ensures.value
    ∙ ap (λ (areas : List Area). lacked_at nothing (live_pages areas) c.args.level) c.iter.ensures.areas
