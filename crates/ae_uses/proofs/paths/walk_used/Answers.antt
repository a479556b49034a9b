use Rattle.ae_scope.specs.Scope.{context_of}
use Rattle.ae_judge.specs.Tabled.{code_of}
use Rattle.ae_judge.specs.Views.{place_of}
use Rattle.ae_uses.proofs.PathLemmas.{next_step_owes_rest, next_step_owes_nothing}
use Rattle.ae_uses.proofs.PathLemmas.{walk_goes_on_at, nothing_given_where_refused}
use Rattle.ae_uses.proofs.paths.walk_used.Goals as goal

pub returns-in-None-clause-uses : goal.returns-in-None-clause-uses
returns-in-None-clause-uses c =
    next_step_owes_nothing (code_of c.args.tabled.now) (context_of c.args.scope.now) c.args.root.at c.args.steps.now
    c.loop-x.x-index _ (place_of c.loop-x.place) c.args.used.now c.loop-x.used c.reaches.new.self _
    c.loop-x-test.true c.loop-x.invariant.uses c.in_ok-reaches.ensures
    (nothing_given_where_refused _ place_of c.step.result c.step.ensures (rw c.in-None.is at c.in_ok-next.ensures.held))

pub loop-x-preserved : goal.loop-x-preserved
loop-x-preserved c = record {
  walk = walk_goes_on_at (code_of c.args.tabled.now) (context_of c.args.scope.now) c.args.root.at c.args.steps.now
      c.loop-x.x-index _ (place_of c.loop-x.place) (place_of c.in-Some-2.next) _ c.loop-x-test.true
      c.loop-x.invariant.walk (rw (rw c.in-Some-2.is at c.in_ok-next.ensures.held) at c.step.ensures);
  uses = next_step_owes_rest (code_of c.args.tabled.now) (context_of c.args.scope.now) c.args.root.at
      c.args.steps.now c.loop-x.x-index _ (place_of c.loop-x.place) (place_of c.in-Some-2.next) c.args.used.now
      c.loop-x.used c.reaches.new.self _ c.loop-x-test.true c.loop-x.invariant.uses c.in_ok-reaches.ensures
      (rw (rw c.in-Some-2.is at c.in_ok-next.ensures.held) at c.step.ensures);
}
