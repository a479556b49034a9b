use Rattle.std.proofs.Common.{◌≡◌, Some, length, take, ap, ◌∙◌}
use Rattle.ae_tree.specs.Plain.{Code}
use Rattle.ae_tree.specs.Shown.{code}
use Rattle.ae_meaning.specs.Meaning.{meaning_of_run}
use Rattle.ae_meaning.specs.Running.{held}
use Rattle.ae_meaning.specs.declared.report.RunReport.{RunReport}
use Rattle.ae_run.specs.Main.{main_lines, main_uses, main_run}
use Rattle.ae_run.specs.Course.{pieces, course_ending, course_end}
use Rattle.ae_run.proofs.Ends.{finish}
use Rattle.ae_run.proofs.Reports.{weaker}
use Rattle.ae_run.proofs.schedule.run_main.Goals as goal

pub returns-clause-ending : goal.returns-clause-ending
returns-clause-ending g c =
    let p : Code = code c.args.code.now.program in
    let k = c.in_ok-course.course in
    let a = finish c.statements_add_to_the_log.ensures (main_lines p) (main_uses p) c.args.graph.now
    c.requires.graph k.fates.items k.first
    (held k.state) c.in_ok-course.ensures.course c.in_ok-course.ensures.over c.requires.ends in
    weaker (λ (r : RunReport). r.ending ≡ course_ending k.first)
    (λ (r : RunReport). Some r.ending ≡ (meaning_of_run (main_run p)).ending)
    (λ r e. ap (λ x. Some x) e ∙ a.0) c.report.result c.report.ensures.ending

pub returns-clause-out : goal.returns-clause-out
returns-clause-out g c =
    let p : Code = code c.args.code.now.program in
    let k = c.in_ok-course.course in
    let a = finish c.statements_add_to_the_log.ensures (main_lines p) (main_uses p) c.args.graph.now
    c.requires.graph k.fates.items k.first
    (held k.state) c.in_ok-course.ensures.course c.in_ok-course.ensures.over c.requires.ends in
    weaker (λ (r : RunReport). r.out ≡ pieces (take (course_end k.first (length k.fates.items)) k.fates.items))
    (λ (r : RunReport). r.out ≡ (meaning_of_run (main_run p)).out)
    (λ r e. e ∙ a.1) c.report.result c.report.ensures.out
