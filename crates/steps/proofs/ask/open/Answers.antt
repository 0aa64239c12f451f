-- Refused or not by the checks.
use mathlib.Core.Path.{sym, ◌∙◌}
use Rattle.std.proofs.lemmas.Result.{err_from_is_err_and}
use Rattle.steps.proofs.AskLaws.{opened_law, open_refused_law}
use Rattle.steps.proofs.ask.open.Goals as goal

pub returns-in_err-open_answer : goal.returns-in_err-open_answer
returns-in_err-open_answer c =
    let p = err_from_is_err_and c.from_residual.result c.from_residual.ensures.1 in
    rw (p.1, p.2)
    (open_refused_law c.args.x.now c.args.f c.requires c.args.weight c.in_err-open_answer.field-0.0 (sym (c.in_err-open_answer.was) ∙ c.open_answer.ensures))

pub returns : goal.returns
returns c = opened_law c.args.x.now c.args.f c.requires c.args.weight (sym (c.in_ok-open_answer.was) ∙ c.open_answer.ensures)
