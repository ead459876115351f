use Rattle.std.proofs.Common.{◌∙◌, ap, arith}
use Rattle.memory_objects.specs.Objects.{new_count_in}
use Rattle.memory_objects.proofs.questions.new_count.Goals as goal

pub object_at-requires : goal.object_at-requires
object_at-requires g c = c.requires

pub returns-in-Some-clause-value : goal.returns-in-Some-clause-value
returns-in-Some-clause-value g c = c.new_count.ensures.value ∙ ap new_count_in c.in-Some.ensures

pub returns-in-Some-clause-few : goal.returns-in-Some-clause-few
returns-in-Some-clause-few g c = c.new_count.ensures.few

pub returns-in-None-clause-value : goal.returns-in-None-clause-value
returns-in-None-clause-value g c = ap new_count_in c.in-None.ensures

pub returns-in-None-clause-few : goal.returns-in-None-clause-few
returns-in-None-clause-few g c = omega arith
