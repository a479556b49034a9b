use Rattle.std.proofs.Common.{map, Some, arith}
use Rattle.ae_tree.specs.Shown as shown
use Rattle.ae_tree.specs.Grammar.{method, one_by_one}
use Rattle.ae_parser.proofs.from_reading.ReadsLemmas.{exits}
use Rattle.ae_parser.specs.Productions.{AllMethodsKeep}
use Rattle.ae_parser.proofs.ClassLemmas.{NoMethod, methods_start, methods_more, methods_failed, methods_end}
use Rattle.ae_parser.proofs.ClassLemmas.{method_smaller, run_shorter}
use Rattle.ae_parser.proofs.classes.class_methods.Goals as goal

pub methods-init : goal.methods-init
methods-init c = methods_start _ _ _ c.new-methods.ensures

pub method-requires : goal.method-requires
method-requires c = omega (arith, c.requires, run_shorter c.methods.invariant)

pub returns-in_err-method : goal.returns-in_err-method
returns-in_err-method c = exits (map shown.definition) (one_by_one (method (Some c.args.class))) AllMethodsKeep
    NoMethod _ _ _ (methods_failed _ _ _ _ _ c.methods-test.ensures c.methods.invariant c.in_err-method.ensures)
    c.from_residual.ensures.1

pub methods-smaller : goal.methods-smaller
methods-smaller c = method_smaller (Some c.args.class) _ _ _ c.in_ok-method.ensures

pub methods-preserved : goal.methods-preserved
methods-preserved c = methods_more _ _ _ _ _ _ _ c.methods-test.ensures c.in_ok-push.ensures.ok c.methods.invariant
    c.in_ok-method.ensures

pub returns : goal.returns
returns c = methods_end _ _ _ _ c.methods-test.ensures c.methods.invariant
