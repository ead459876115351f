use Rattle.page_table.proofs.extension.+extend.Given as goal

abbrev pub decreases-extend : goal.decreases-extend
decreases-extend g l = l.level
