use Rattle.std.proofs.Common.{refl, ◌∙◌}
use Rattle.lane_lock.specs.Passes.{lane_of, view_of}
use Rattle.lane_lock.proofs.Retries.{none_had, none_then, read_had, sees_same, sees_then}
use Rattle.shared_iommufd.specs.Ports.{most_of, standing_of}
use Rattle.shared_iommufd.specs.Servers.{settings_of}
use Rattle.shared_iommufd.proofs.PortTranslations.{translated_sooner}
use Rattle.shared_iommufd.proofs.SamePorts.{port_then}
use Rattle.shared_iommufd.proofs.Shown.{same_pass}
use Rattle.shared_iommufd.proofs.port.Port.translate.Goals as goal

pub loop-init : goal.loop-init
loop-init g c =
    let a = c.args in record {
      can_next = tt;
      is_finite = tt;
      owned = record { device = c.requires.device; pass = c.requires.pass };
      same = record { device = refl; pass = same_pass a.self.now.pass; most = refl };
      sees = sees_same (view_of a.self.now.pass);
      had = none_had (view_of a.self.now.pass);
      keeps = record { turns = refl; kept = refl };
      last = refl;
    }

pub returns-in-Ok-clause-translated : goal.returns-in-Ok-clause-translated
returns-in-Ok-clause-translated g c =
    let a = c.args in
    let loop = c.loop in
    let inv = loop.invariant in
    translated_sooner (settings_of a.server.now) a.iova.0 a.kind (standing_of a.self.now) (standing_of loop.self)
    inv.keeps (loop.self.device, most_of loop.self) (a.self.now.device, most_of a.self.now) c.in-Ok.translation
    (standing_of c.translate_now.new.self) (λ i. (inv.same.device i, inv.same.most i)) inv.sees inv.had
    c.in-Ok.ensures.translated.0

pub loop-preserved : goal.loop-preserved
loop-preserved g c =
    let a = c.args in
    let loop = c.loop in
    let inv = loop.invariant in
    let e = c.in-Err.ensures in
    let keeps = e.translated.1 in
    record {
      can_next = tt;
      is_finite = tt;
      owned = e.owned;
      same = port_then _ loop.self c.translate_now.new.self inv.same e.same_port;
      sees = sees_then (view_of a.self.now.pass) (view_of loop.self.pass) (view_of c.translate_now.new.self.pass)
          inv.sees e.sees;
      had = none_then (view_of a.self.now.pass) (view_of loop.self.pass) (view_of c.translate_now.new.self.pass) inv.had
          (read_had (view_of loop.self.pass) (view_of c.translate_now.new.self.pass) (lane_of loop.self.pass)
          c.in-Err.field-0 e.translated.0);
      keeps = record { turns = keeps.turns ∙ inv.keeps.turns; kept = keeps.kept ∙ inv.keeps.kept };
      last = e.last ∙ inv.last;
    }
