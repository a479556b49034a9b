use Rattle.std.proofs.Common.{arith, ◌<◌, length}
use Rattle.ae_tree.specs.Grammar.{path}
use Rattle.ae_reading.specs.Reads.{itself, Isnt}
use Rattle.ae_expressions.proofs.from_reading.ReadsLemmas.{exits, refuses}
use Rattle.ae_expressions.proofs.from_reading.PathLemmas.{dot}
use Rattle.ae_expressions.specs.Productions.{IsShortPath}
use Rattle.ae_expressions.proofs.StepLemmas.{fields_start, path_failed, fields_more, fields_stopped, fields_over}
use Rattle.ae_expressions.proofs.StepLemmas.{fields_end}
use Rattle.ae_expressions.proofs.paths.path.Goals as goal

pub returns-in_err-root : goal.returns-in_err-root
returns-in_err-root c = exits itself path (IsShortPath c.args.budget) (Isnt dot) c.args.ts.now _ _
    (path_failed _ _ _ c.in_err-root.ensures) c.from_residual.ensures.1

pub fields-init : goal.fields-init
fields-init c = fields_start _ _ _ _ _ c.in_ok-root.ensures c.new-steps.ensures

pub returns-then-len-budget : goal.returns-then-len-budget
returns-then-len-budget c = refuses itself path (IsShortPath c.args.budget) (Isnt dot) c.args.ts.now _ c.over.ensures
    (fields_over _ _ _ _ _ c.fields-test.ensures (omega (arith, c.if-len-budget.true)) c.fields.invariant)

pub returns-in_err-field : goal.returns-in_err-field
returns-in_err-field c =
    let less : length c.fields.steps < c.args.budget = omega (arith, c.if-len-budget.false) in
    exits itself path (IsShortPath c.args.budget) (Isnt dot) c.args.ts.now _ _
    (fields_stopped _ _ _ _ _ _ c.fields-test.ensures less c.fields.invariant c.in_err-field.ensures)
    c.from_residual-in_err-field.ensures.1

pub fields-preserved : goal.fields-preserved
fields-preserved c =
    let less : length c.fields.steps < c.args.budget = omega (arith, c.if-len-budget.false) in
    fields_more _ _ _ _ _ _ _ _ c.fields-test.ensures less c.fields.invariant c.in_ok-field.ensures
    c.in_ok-push.ensures.ok

pub returns : goal.returns
returns c = fields_end _ _ _ _ _ c.fields-test.ensures c.fields.invariant
