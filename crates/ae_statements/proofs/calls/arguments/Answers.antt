use Rattle.std.proofs.Common.{map}
use Rattle.ae_tree.specs.Shown as shown
use Rattle.ae_tree.specs.Grammar.{whole_expression, comma_list, arguments}
use Rattle.ae_tree.specs.Limits.{AllKeepDepth}
use Rattle.ae_reading.specs.Reads.{Always}
use Rattle.ae_statements.proofs.from_reading.ReadsLemmas.{exits}
use Rattle.ae_statements.proofs.ShapeLemmas.{pre_first, pre_second, took_pre, suf_first, suf_second, took_suf}
use Rattle.ae_statements.proofs.CallLemmas.{closes, has_closed}
use Rattle.ae_statements.proofs.calls.arguments.Goals as goal

pub returns-in_err-rest : goal.returns-in_err-rest
returns-in_err-rest c = exits (map shown.expression) arguments AllKeepDepth Always _ _ _
    (pre_first _ has_closed c.in_err-rest.ensures) c.from_residual.ensures.1

pub returns-in_err-args : goal.returns-in_err-args
returns-in_err-args c = exits (map shown.expression) arguments AllKeepDepth Always _ _ _
    (pre_second _ c.in_ok-rest.ensures (suf_first (comma_list whole_expression) closes tt c.in_err-args.ensures))
    c.from_residual-in_err-args.ensures.1

pub returns-in_err-rest-2 : goal.returns-in_err-rest-2
returns-in_err-rest-2 c = exits (map shown.expression) arguments AllKeepDepth Always _ _ _
    (pre_second _ c.in_ok-rest.ensures
    (suf_second (comma_list whole_expression) closes c.in_ok-args.ensures c.in_err-rest-2.ensures))
    c.from_residual-in_err-rest-2.ensures.1

pub returns : goal.returns
returns c = took_pre _ c.in_ok-rest.ensures
    (took_suf (comma_list whole_expression) closes c.in_ok-args.ensures c.in_ok-rest-2.ensures)
