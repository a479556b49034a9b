use Rattle.ae_tree.specs.Shown.{invocation}
use Rattle.ae_judge.specs.Tabled.{code_of}
use Rattle.ae_calls.specs.Callee.{callee_shown}
use Rattle.ae_running.specs.Seen.{seen}
use Rattle.ae_frames.proofs.EnterLemmas.{entered_before}
use Rattle.ae_frames.proofs.entering.begin.Goals as goal

pub returns-in-Ok-open_body-clause-entered : goal.returns-in-Ok-open_body-clause-entered
returns-in-Ok-open_body-clause-entered c =
    entered_before (code_of c.args.tabled.now) (invocation c.args.call.now) (callee_shown c.args.callee)
    c.args.takers.items c.args.asked.items c.in-Ok.args.items (seen c.args.run.now) (seen c.collect.new.run)
    c.in-Ok-open_body.entered c.open_body.new.run c.requires.takers c.requires.spared c.in-Ok.ensures.given
    c.in-Ok.ensures.left c.in-Ok-open_body.ensures.entered c.in-Ok-open_body.ensures.locals
