use Rattle.std.proofs.Common.{◌≡◌, ◌∙◌, [], Some, IsSome, ap, sym, subst}
use Rattle.ae_tree.specs.Plain.{Code}
use Rattle.ae_tree.specs.Shown.{code}
use Rattle.ae_meaning.specs.Meaning.{Meaning, meaning_of_run, today_seq}
use Rattle.ae_meaning.specs.declared.report.RunReport.{RunReport}
use Rattle.ae_semantics.specs.Means.{seq, bytes}
use Rattle.ae_cases.specs.Laws.{as_whole}
use Rattle.ae_run.specs.Main.{main_run}
use Rattle.ae_run.proofs.Programs.{seq_is, graph_there, graph_right}
use Rattle.ae_run.proofs.Reports.{handed, weaker, ending_meant, out_meant}
use Rattle.ae_run.proofs.schedule.run.Goals as goal

pub of-requires-clause-block : goal.of-requires-clause-block
of-requires-clause-block g c = graph_there (code c.args.code.now.program) c.requires.built

pub run_main-requires-clause-graph : goal.run_main-requires-clause-graph
run_main-requires-clause-graph g c κs met =
    let p : Code = code c.args.code.now.program in
    graph_right c.names_are_of_the_program.ensures p c.requires.shaped c.args.code.now.accepted c.requires.built
    c.in_ok-graph.graph c.in_ok-graph.ensures

pub run_main-requires-clause-ends : goal.run_main-requires-clause-ends
run_main-requires-clause-ends g c κs met =
    let p : Code = code c.args.code.now.program in
    subst (λ (m : Meaning). IsSome m.ending) (seq_is p c.requires.built c.args.ints.now c.args.fuel)
    (c.accepted_programs_end.ensures p c.args.code.now.accepted c.requires.built c.args.ints.now c.args.fuel)

pub returns-clause-ending : goal.returns-clause-ending
returns-clause-ending g c =
    let p : Code = code c.args.code.now.program in
    let same = c.today_is_a_case.ensures p c.requires.shaped c.args.code.now.accepted c.requires.built c.args.ints.now
    c.args.fuel in
    handed (λ (r : RunReport). Some (as_whole r.ending) ≡ (seq p c.args.ints.now c.args.fuel).ending) _
    c.run_main.result c.map_err.result c.map_err.ensures.cases c.map_err.ensures.variant
    (weaker (λ (r : RunReport). Some r.ending ≡ (meaning_of_run (main_run p)).ending)
    (λ (r : RunReport). Some (as_whole r.ending) ≡ (seq p c.args.ints.now c.args.fuel).ending)
    (λ r h. ending_meant r (today_seq p c.args.ints.now c.args.fuel) (seq p c.args.ints.now c.args.fuel) same
    (h ∙ ap (λ (m : Meaning). m.ending) (sym (seq_is p c.requires.built c.args.ints.now c.args.fuel))))
    c.run_main.result c.run_main.ensures.ending)

pub returns-clause-out : goal.returns-clause-out
returns-clause-out g c =
    let p : Code = code c.args.code.now.program in
    let same = c.today_is_a_case.ensures p c.requires.shaped c.args.code.now.accepted c.requires.built c.args.ints.now
    c.args.fuel in
    handed (λ (r : RunReport). r.out ≡ bytes (seq p c.args.ints.now c.args.fuel) []) _ c.run_main.result
    c.map_err.result c.map_err.ensures.cases c.map_err.ensures.variant
    (weaker (λ (r : RunReport). r.out ≡ (meaning_of_run (main_run p)).out)
    (λ (r : RunReport). r.out ≡ bytes (seq p c.args.ints.now c.args.fuel) [])
    (λ r h. out_meant r (today_seq p c.args.ints.now c.args.fuel) (seq p c.args.ints.now c.args.fuel) same
    (h ∙ ap (λ (m : Meaning). m.out) (sym (seq_is p c.requires.built c.args.ints.now c.args.fuel))))
    c.run_main.result c.run_main.ensures.out)
