use Rattle.ae_tree.specs.Shown as shown
use Rattle.ae_tree.specs.Grammar.{name}
use Rattle.ae_tree.specs.Limits.{KeepsRight}
use Rattle.ae_reading.specs.Reads.{Always}
use Rattle.ae_statements.proofs.from_reading.ReadsLemmas.{Both, exits, first, second, both, free, took_as, failed_as}
use Rattle.ae_statements.specs.Productions.{call_rest, made_side}
use Rattle.ae_statements.proofs.MadeLemmas.{object_of, object_along, has_called}
use Rattle.ae_statements.proofs.values.object.Goals as goal

pub returns-in_err-class : goal.returns-in_err-class
returns-in_err-class c = exits shown.right_side (made_side c.args.at) KeepsRight Always _ _ _
    (failed_as (made_side c.args.at) (Both name call_rest) (object_of c.args.at) (object_along _ _ c.requires)
    (first (free call_rest Always) has_called c.in_err-class.ensures)) c.from_residual.ensures.1

pub returns-in_err-groups : goal.returns-in_err-groups
returns-in_err-groups c = exits shown.right_side (made_side c.args.at) KeepsRight Always _ _ _
    (failed_as (made_side c.args.at) (Both name call_rest) (object_of c.args.at) (object_along _ _ c.requires)
    (second (free call_rest Always) c.in_ok-class.ensures c.in_err-groups.ensures))
    c.from_residual-in_err-groups.ensures.1

pub returns : goal.returns
returns c = took_as (made_side c.args.at) (Both name call_rest) (object_of c.args.at) (object_along _ _ c.requires)
    (both (free call_rest Always) c.in_ok-class.ensures c.in_ok-groups.ensures)
