-- UNMAPs that wait are counted, in the worlds of the script of what devices owe: three devices are attached to an
-- address space with two areas, 1000 to 1fff and 3000 to 3fff.
use Rattle.std.specs.Prelude.{List, [], ◌∷◌, map}
use Rattle.std.specs.List.{range_with_len}
use Rattle.std.specs.declared.alloc.Global.{Global}
use Rattle.iofd_examples.specs.DebtScript.{with_phases}
use Rattle.iofd_examples.specs.Words.{refused, step, unmap_in}
use Rattle.iofd_words.specs.Record.{Record}
use Rattle.iofd_words.specs.World.{World}
use Rattle.iofd_words.specs.declared.event.Event.{Event}
use Rattle.iofd_words.specs.declared.refusal.Cause.TheVariants as cause
use Rattle.iofd_words.specs.declared.refusal.Errno.TheVariants.{EAGAIN, EDEADLOCK}
use Rattle.iofd_words.specs.declared.reply.Reply.TheVariants as reply
use Rattle.iofd_words.specs.declared.rows.Phase.TheVariants.{Leaving, Live}

abbrev first : Event Global
first = unmap_in 1 1 0x1000 0x1000

abbrev second : Event Global
second = unmap_in 1 1 0x3000 0x1000

abbrev both : Event Global
both = unmap_in 1 1 0 0x4000

-- ---- up to a hundred

abbrev pub again : List (Record Global)
again = step first (reply.Pending EAGAIN) ∷ []

abbrev pub leads_nowhere : List (Record Global)
leads_nowhere = step first (reply.Pending EDEADLOCK) ∷ []

abbrev pub live : World
live = with_phases Live Live

abbrev pub one : World
one = with_phases (Leaving (1 ∷ 2 ∷ 3 ∷ []) 1) Live

abbrev pub ninety_nine : World
ninety_nine = with_phases (Leaving (1 ∷ []) 99) Live

abbrev pub hundred : World
hundred = with_phases (Leaving (1 ∷ []) 100) Live

-- the hundredth, and the one after it
abbrev pub last_two : List (Record Global)
last_two = step first (reply.Pending EAGAIN) ∷ step first (reply.Pending EDEADLOCK) ∷ []

-- a hundred of them, and one more, from the first on
abbrev pub hundred_times : List (Record Global)
hundred_times = map (λ n. step first (reply.Pending EAGAIN)) (range_with_len 0 100)

abbrev pub all_owe : World
all_owe = with_phases (Leaving (1 ∷ 2 ∷ 3 ∷ []) 100) Live

-- ---- two areas: the one that has seen most counts for both

abbrev pub both_again : List (Record Global)
both_again = step both (reply.Pending EAGAIN) ∷ []

abbrev pub both_lead_nowhere : List (Record Global)
both_lead_nowhere = step both (reply.Pending EDEADLOCK) ∷ []

abbrev pub five_and_seven : World
five_and_seven = with_phases (Leaving (1 ∷ []) 5) (Leaving (2 ∷ []) 7)

abbrev pub both_eight : World
both_eight = with_phases (Leaving (1 ∷ []) 8) (Leaving (2 ∷ []) 8)

-- an area that isn't named keeps its own
abbrev pub six_and_seven : World
six_and_seven = with_phases (Leaving (1 ∷ []) 6) (Leaving (2 ∷ []) 7)

abbrev pub ninety_nine_and_forty : World
ninety_nine_and_forty = with_phases (Leaving (1 ∷ []) 99) (Leaving (2 ∷ []) 40)

abbrev pub both_hundred : World
both_hundred = with_phases (Leaving (1 ∷ []) 100) (Leaving (2 ∷ []) 100)

abbrev pub hundred_and_forty : World
hundred_and_forty = with_phases (Leaving (1 ∷ []) 100) (Leaving (2 ∷ []) 40)

-- of one that owes nothing too
abbrev pub paid_hundred_and_forty : World
paid_hundred_and_forty = with_phases (Leaving [] 100) (Leaving (2 ∷ []) 40)

-- a live area begins to leave, and has seen none, where the other one has seen all; then it is named alone
abbrev pub hundred_and_none : World
hundred_and_none = with_phases (Leaving (1 ∷ []) 100) (Leaving (1 ∷ 2 ∷ 3 ∷ []) 0)

abbrev pub second_again : List (Record Global)
second_again = step second (reply.Pending EAGAIN) ∷ []

abbrev pub hundred_and_one : World
hundred_and_one = with_phases (Leaving (1 ∷ []) 100) (Leaving (1 ∷ 2 ∷ 3 ∷ []) 1)

-- ---- an area that owes nothing goes, however many it has seen

abbrev pub paid_hundred : World
paid_hundred = with_phases (Leaving [] 100) Live

abbrev pub goes : List (Record Global)
goes = step first (reply.Bytes 0x1000) ∷ []

-- a live one beside it owes
abbrev pub paid_hundred_and_none : World
paid_hundred_and_none = with_phases (Leaving [] 100) (Leaving (1 ∷ 2 ∷ 3 ∷ []) 0)

-- ---- what is no answer

abbrev pub refused_as_pending : List (Record Global)
refused_as_pending = step first (refused cause.Pending) ∷ []

-- two that are answered as if the tries didn't move
abbrev pub twice_again : List (Record Global)
twice_again = step first (reply.Pending EAGAIN) ∷ step first (reply.Pending EAGAIN) ∷ []
