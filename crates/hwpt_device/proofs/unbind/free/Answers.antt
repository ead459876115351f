use Rattle.std.proofs.Common.{not, rules}
use borrow.Author.Tests.{tests}
use Rattle.std.proofs.lemmas.Fn.{filter_same}
use Rattle.iofd_words.specs.Objects.{is_bound_as}
use Rattle.iofd_words.specs.declared.rows.Object.{Object}
use Rattle.hwpt_device.proofs.unbind.free.Goals as goal

pub returns : goal.returns
returns g c =
    filter_same _ (λ (object : Object). not (is_bound_as c.args.device object.kind)) _
    (λ x b f k. search (rules, tests)) _ _ c.retain.ensures.filtered
