use Rattle.event_map.proofs.AreaInTables.{area_mapped, as_long, none_mapped}
use Rattle.event_map.specs.AreaMapped.{area_leads}
use Rattle.event_map.proofs.mapping.map_area.Goals as goal

pub returns-then-translated-clause-mapped : goal.returns-then-translated-clause-mapped
returns-then-translated-clause-mapped g c = λ frames leads all.
    let can = c.requires.can c.if-translated.true in
    let area = c.args.area.now in
    let ordered = c.facts.ensures.ordered in
    let long = as_long c.args.state.now.memory area c.frames.result.now ordered can.whole can.object can.found can.size
    (c.frames.ensures.count can.pins) in
    let told = area_mapped c.args.state.now.memory area c.frames.result.now can.live ordered can.whole
    (c.frames.ensures.each can.pins) long leads in
    record {
      stand = c.map.ensures.stand frames leads all (area_leads c.args.state.now.memory area leads) told;
      others = c.map.ensures.others frames leads all;
      holds = c.map.ensures.holds frames leads all;
      out = c.map.ensures.out frames leads all;
    }

pub returns-else-translated-clause-mapped : goal.returns-else-translated-clause-mapped
returns-else-translated-clause-mapped g c =
    let s = c.args.state.now in
    none_mapped s.memory c.args.area.now s.page_tables.tables s.pool c.args.taken.now.items
    (c.requires.none c.if-translated.false)
