use Rattle.std.proofs.Common.{◌≡◌, [], ◌∷◌, ◌++◌, ◌∙◌, ap, length, rules, subst, sym}
use Rattle.std.proofs.lemmas.List.{length_push}
use Rattle.std.specs.Arc.{arc_value}
use Rattle.std.specs.declared.alloc.Global.{Global}
use Rattle.lane_lock.specs.Passes.{AllNew}
use Rattle.shared_iommufd.specs.declared.server.Server.{Server}
use Rattle.iommufd_c.proofs.handle.caller.Caller.open.Goals as goal

pub returns-in-Ok-new-clause-first : goal.returns-in-Ok-new-clause-first
returns-in-Ok-new-clause-first c =
    let made = c.in-Ok.ensures in
    let pass = c.last_pass-pass in
    let count = c.args.config.now.passes in
    let passes = pass.new.spare.items ++ pass.result ∷ [] in
    let same : c.in-Ok.server ≡ arc_value c.in-Ok-new.server = search rules in
    record {
      opened = search rules;
      has_lanes = search rules;
      passes = sym (length_push pass.new.spare.items pass.result)
          ∙ (sym (ap length pass.ensures.items) ∙ made.passes.count);
      all_new = subst (λ (server : Server Global). AllNew server.lock count passes) same
          (subst (AllNew c.in-Ok.server.lock count) pass.ensures.items made.passes);
      keys = search rules;
      most = search rules;
      within = search rules;
    }
