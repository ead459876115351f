use Rattle.std.proofs.Common.{◌++◌, ◌∙◌, ◌∷◌, [], List, ap, get_or, sym}
use Rattle.std.proofs.lemmas.List.{map_more}
use Rattle.iofd_words.specs.declared.numbers.UserNo.{UserNo}
use Rattle.iommufd_c.specs.Configured.{user_of}
use Rattle.iommufd_c.proofs.configuring.files_of.Goals as goal

pub loop-user-preserved : goal.loop-user-preserved
loop-user-preserved c =
    let now = c.loop-user in
    let users = c.args.users.now in
    let user = user_of (get_or users now.user-index 0) in
    c.in_ok-push.ensures.items ∙ (ap (λ (l : List UserNo). l ++ user ∷ []) now.invariant
    ∙ sym (map_more user_of users now.user-index 0 c.loop-user-test.true))
