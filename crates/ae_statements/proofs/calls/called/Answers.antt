use Rattle.ae_tree.specs.Grammar.{arguments}
use Rattle.ae_reading.specs.Reads.{Always}
use Rattle.ae_statements.proofs.from_reading.ReadsLemmas.{exits, first, second, both}
use Rattle.ae_statements.specs.Productions.{call_rest, KeepsCalled, shown_called}
use Rattle.ae_statements.proofs.ShapeLemmas.{suf_first, suf_second, took_suf, always}
use Rattle.ae_statements.proofs.CallLemmas.{has_ended_arguments, no_less, called_took, called_failed}
use Rattle.ae_statements.proofs.calls.called.Goals as goal

pub returns-in_err-groups : goal.returns-in_err-groups
returns-in_err-groups c = exits shown_called call_rest KeepsCalled Always _ _ _
    (called_failed _ _ (first no_less has_ended_arguments c.in_err-groups.ensures)) c.from_residual.ensures.1

pub returns-in_err-args : goal.returns-in_err-args
returns-in_err-args c = exits shown_called call_rest KeepsCalled Always _ _ _
    (called_failed _ _ (second no_less c.in_ok-groups.ensures
    (suf_first arguments (always _) tt c.in_err-args.ensures))) c.from_residual-in_err-args.ensures.1

pub returns-in_err-rest : goal.returns-in_err-rest
returns-in_err-rest c = exits shown_called call_rest KeepsCalled Always _ _ _
    (called_failed _ _ (second no_less c.in_ok-groups.ensures
    (suf_second arguments (always _) c.in_ok-args.ensures c.in_err-rest.ensures)))
    c.from_residual-in_err-rest.ensures.1

pub returns : goal.returns
returns c = called_took _ _ _ (both no_less c.in_ok-groups.ensures
    (took_suf arguments (always _) c.in_ok-args.ensures c.in_ok-rest.ensures))
