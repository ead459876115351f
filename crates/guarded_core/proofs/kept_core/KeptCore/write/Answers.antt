use Rattle.std.proofs.Common.{◌≡◌, true, Option, sym, ap, subst}
use Rattle.iofd_words.specs.declared.event.Act.{Act}
use Rattle.iofd_words.specs.declared.event.Event.TheVariants as event
use Rattle.iofd_words.specs.declared.numbers.FrameNo.{FrameNo}
use Rattle.iommufd_core.specs.History.{may_apply}
use Rattle.guarded_core.proofs.ByFound.{may_write}
use Rattle.guarded_core.proofs.kept_core.KeptCore.write.Goals as goal

pub returns : goal.returns
returns g c =
    let h = c.args.self.now.core.history in
    let cache = c.args.cache.now in
    record {
      turned = c.find-found.ensures.turns;
      found_so = c.find-found.ensures.found;
      by = ap (λ (o : Option FrameNo). let act : Act _ =
          record { event = event.DeviceWrite c.args.device c.args.iova c.args.bytes; via = o } in act) c.frame_of-via.ensures;
      may = subst
          (λ (o : Option FrameNo). may_apply h (event.DeviceWrite c.args.device c.args.iova c.args.bytes) o ≡ true)
          (sym c.frame_of-via.ensures)
          (may_write h c.args.device c.core-core.ensures.run cache.turns cache.pages.entries c.requires.serves
          c.args.iova c.args.bytes c.requires.inside c.find-found.result.translation c.find-found.ensures.found);
    }
