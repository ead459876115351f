use Rattle.std.proofs.Common.{[], length, sym, ◌∙◌, ap}
use Rattle.iofd_refusals.specs.Checks.{passes_limit}
use Rattle.iofd_words.specs.Files.{user_of}
use Rattle.user_memory_rows.specs.Moves.{numbers_of}
use Rattle.server_state.proofs.TableRows.{areas_of_other}
use Rattle.server_state.specs.Seen.{seen}
use Rattle.user_memory.specs.Memory.{newly_pinned}
use Rattle.hwpt_device.proofs.Asks.{asked_of, fewer_pass, none_under}
use Rattle.hwpt_device.proofs.making.passes_limit.Goals as goal

pub returns-in_default : goal.returns-in_default
returns-in_default g c =
    let s = c.args.state.now in
    c.passes_limit.ensures
    ∙ sym (ap (λ pages. passes_limit (seen s) (user_of s.config c.args.file) (length pages)) (none_under s.memory))
    ∙ asked_of s c.args.file c.args.ioas [] (sym c.has_hwpt.ensures ∙ c.if-has_hwpt.false)
    (areas_of_other s.objects.rows c.args.file c.args.ioas c.in_default.ensures)

pub returns-then-not-passes_limit : goal.returns-then-not-passes_limit
returns-then-not-passes_limit g c =
    let s = c.args.state.now in
    let areas = c.in-Some.areas.now.areas in
    sym (fewer_pass (seen s) (user_of s.config c.args.file) (newly_pinned s.memory (numbers_of areas))
    c.most_new_pages-most.result c.most_new_pages-most.ensures.most (sym c.passes_limit-2.ensures
    ∙ c.if-not-passes_limit.true))
    ∙ asked_of s c.args.file c.args.ioas areas (sym c.has_hwpt.ensures ∙ c.if-has_hwpt.false) c.in-Some.ensures.1

pub returns : goal.returns
returns g c =
    let s = c.args.state.now in
    c.passes_limit-3.ensures
    ∙ ap (passes_limit (seen s) (user_of s.config c.args.file)) c.new_pages-count.ensures
    ∙ asked_of s c.args.file c.args.ioas c.in-Some.areas.now.areas (sym c.has_hwpt.ensures
    ∙ c.if-has_hwpt.false) c.in-Some.ensures.1
