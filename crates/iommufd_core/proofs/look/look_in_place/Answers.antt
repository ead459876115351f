use Rattle.iommufd_core.proofs.look.look_in_place.Goals as goal

pub returns-in-Some : goal.returns-in-Some
returns-in-Some g c =
    λ at w records tidy shows turns. rw c.read.ensures (c.in-Some.ensures.read at w records tidy shows)

pub returns-in-None : goal.returns-in-None
returns-in-None g c =
    λ at w records tidy shows turns. rw c.of.ensures (c.look.ensures at w records tidy shows turns)
