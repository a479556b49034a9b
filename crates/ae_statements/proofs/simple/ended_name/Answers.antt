use Rattle.ae_tree.specs.Grammar.{name}
use Rattle.ae_reading.specs.Reads.{itself, Always, Free}
use Rattle.ae_statements.proofs.from_reading.ReadsLemmas.{exits}
use Rattle.ae_statements.specs.Productions.{with_semicolon}
use Rattle.ae_statements.proofs.ShapeLemmas.{suf_first, suf_second, took_suf, always}
use Rattle.ae_statements.proofs.simple.ended_name.Goals as goal

pub returns-in_err-x : goal.returns-in_err-x
returns-in_err-x c = exits itself (with_semicolon name) Free Always _ _ _
    (suf_first name (always _) tt c.in_err-x.ensures) c.from_residual.ensures.1

pub returns-in_err-rest : goal.returns-in_err-rest
returns-in_err-rest c = exits itself (with_semicolon name) Free Always _ _ _
    (suf_second name (always _) c.in_ok-x.ensures c.in_err-rest.ensures) c.from_residual-in_err-rest.ensures.1

pub returns : goal.returns
returns c = took_suf name (always _) c.in_ok-x.ensures c.in_ok-rest.ensures
