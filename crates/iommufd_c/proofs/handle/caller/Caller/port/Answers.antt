use Rattle.std.proofs.Common.{[], ◌∷◌, ◌++◌, ◌∙◌, ap, refl, sym}
use Rattle.iofd_words.specs.declared.numbers.DeviceNo.{DeviceNo}
use Rattle.iommufd_c.proofs.handle.caller.Caller.port.Goals as goal

pub returns : goal.returns
returns c =
    let pass = c.last_pass-pass in
    let key = c.last_key-key in
    let port = c.port-port.ensures in
    record {
      server = refl;
      pass = refl;
      given = pass.ensures.items ∙ ap (λ p. pass.new.spare.items ++ p ∷ []) (sym port.pass);
      same = c.in-Some.ensures;
      key = key.result;
      keys = key.ensures.items;
      device = port.device;
      number = ap (λ (d : DeviceNo). d.0) port.device ∙ key.ensures.number;
      most = port.most;
      empty = port.empty;
    }
