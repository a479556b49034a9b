use Rattle.std.proofs.Common.{ap}
use Rattle.ae_semantics.specs.Places.{open_place, Outcome, OpenedObject, ◌>>=◌}
use Rattle.ae_semantics.specs.Expressions.{numbers}
use Rattle.ae_judge.specs.Tabled.{code_of}
use Rattle.ae_reads.specs.Answers.{state_seen}
use Rattle.ae_reads.specs.Sights.{list_behind}
use Rattle.ae_reads.specs.Views.{place_at}
use Rattle.ae_reads.proofs.OpenLemmas.{answers_equal}
use Rattle.ae_reads.proofs.WalkLemmas.{faults_go_on}
use Rattle.ae_reads.proofs.values.array.Goals as goal

pub returns-in-Ok : goal.returns-in-Ok
returns-in-Ok c = λ at. answers_equal _ _ list_behind c.numbers.result
    (ap (λ (o : Outcome OpenedObject). o >>= λ y. numbers y.tree) (c.in-Ok.ensures at)) c.numbers.ensures

pub returns-in-Err : goal.returns-in-Err
returns-in-Err c = λ at. faults_go_on
    (open_place (code_of c.args.tabled.now) (state_seen c.args.env.now) (place_at at c.args.place.now))
    (λ o. numbers o.tree) c.in-Err.stop (c.in-Err.ensures at)
