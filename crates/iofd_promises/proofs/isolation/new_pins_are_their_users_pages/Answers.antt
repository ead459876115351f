use Rattle.std.proofs.Common.{length, Contains, ◌⊎◌, inl, inr, ⊎_elim}
use Rattle.iofd_steps.specs.Run.{world_of}
use Rattle.iofd_words.specs.Tables.{with_tables}
use Rattle.iofd_promises.specs.Owners.{IsUsersPage}
use Rattle.iofd_rows.proofs.Each.{IsIn}
use Rattle.iofd_runs.proofs.Moves.{changed_moves}
use Rattle.iofd_promises.proofs.NewPins.{pin_from}
use Rattle.iofd_promises.proofs.Rows.{contains, within}
use Rattle.iofd_promises.proofs.Steps.{by_record}
use Rattle.iofd_steps.specs.After.{changed}
use Rattle.iofd_promises.proofs.isolation.new_pins_are_their_users_pages.Goals as goal

pub returns : goal.returns
unfolding with_tables
returns g c = λ settings before r pin run.
    let w = world_of settings before in
    by_record settings before r run (λ new. Contains new.pins pin → Contains w.pins pin ⊎ IsUsersPage new pin)
    (λ cause is told has. inl has)
    (λ none answers moves has.
    ⊎_elim
    (λ (old : IsIn w.pins pin). inl (contains w.pins pin old))
    (λ (users : IsUsersPage (changed (length before) w r.event r.reply) pin). inr (record {
      object = users.object;
      there = users.there;
      number = users.number;
      page = users.page;
      listed = users.listed;
      of_user = users.of_user;
      of_page = users.of_page;
      of_frame = users.of_frame;
    }))
    (pin_from w pin (length before) r.event (changed (length before) w r.event r.reply)
    (changed_moves (length before) w r.event r.reply).pins (within _ pin has)))
