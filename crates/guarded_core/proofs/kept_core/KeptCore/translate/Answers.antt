use Rattle.guarded_core.proofs.ByFound.{good_found, right_found}
use Rattle.guarded_core.proofs.kept_core.KeptCore.translate.Goals as goal

pub returns : goal.returns
returns g c =
    let h = c.args.self.now.core.history in
    let walk = c.args.walk in
    let cache = walk.cache.now in
    let run = c.core-core.ensures.run in
    record {
      run = run;
      turned = c.find.ensures.turns;
      found_so = c.find.ensures.found;
      right = right_found h walk.device run cache.turns cache.pages.entries walk.iova walk.kind c.find.result.translation
          c.find.ensures.found;
      backed = good_found h walk.device run cache.turns cache.pages.entries walk.iova walk.kind c.requires.serves
          c.find.result.translation c.find.ensures.found;
    }
