use Rattle.std.proofs.Common.{◌+◌, ◌*◌, vec_len}
use Rattle.device_threads.proofs.beside.+calls.Given as goal

abbrev pub decreases-work_beside : goal.decreases-work_beside
decreases-work_beside g l = 2 * vec_len l.firsts

abbrev pub decreases-others : goal.decreases-others
decreases-others g l = 2 * vec_len l.firsts + 1
