use Rattle.iommufd_script.proofs.Parts.{of_rest}
use Rattle.iommufd_script.proofs.split.first_place.Goals as goal

pub returns-in-Err-clause-place : goal.returns-in-Err-clause-place
returns-in-Err-clause-place c =
    of_rest c.args.byte c.args.text.now c.in-Err.end c.first_place_of_rest.result c.in-Err.ensures.none.0
    c.in-Err.ensures.none.1 c.first_place_of_rest.ensures.place c.first_place_of_rest.ensures.within
