use Rattle.std.proofs.Common.{◌≡◌, ◌/◌, ◌%◌, length, Contains, refl}
use Rattle.iofd_steps.specs.Run.{world_of}
use Rattle.iofd_words.specs.Tables.{with_tables}
use Rattle.iofd_words.specs.declared.event.Event.TheVariants as event
use Rattle.iofd_words.specs.declared.reply.Reply.TheVariants as reply
use Rattle.iofd_words.specs.declared.rows.UserPage.{UserPage}
use Rattle.iofd_promises.specs.Bytes.{ChangesJust}
use Rattle.iofd_promises.proofs.Steps.{by_event}
use Rattle.iofd_promises.proofs.UserPages.{user_changes}
use Rattle.iofd_promises.proofs.memory.user_writes_change_just_their_bytes.Goals as goal

pub returns : goal.returns
unfolding with_tables
returns g c = λ settings before r user va bytes run of_event answered.
    let w = world_of settings before in
    by_event settings before r run (λ new. (page : UserPage) × Contains w.user_pages page × (page.user ≡ user)
    × (page.page ≡ va / 4096) × ChangesJust w new page.frame.0 (va % 4096) bytes)
    (event.UserWrite user va bytes) reply.Done refl of_event answered (λ none answers.
    let (page, there, of_user, of_page, just) = user_changes _ (length before) w user va bytes none in
    (page, there, of_user, of_page, record { written = just.written; others = just.others }))
