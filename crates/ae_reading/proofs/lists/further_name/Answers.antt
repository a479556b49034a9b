use Rattle.ae_tree.specs.Grammar.{name, further}
use Rattle.ae_reading.specs.Reads.{itself, Free, Always}
use Rattle.ae_reading.proofs.ReadsLemmas.{exits, passes, took_mark, failed_mark, has_name}
use Rattle.ae_reading.proofs.Parts.{took_further, further_first, further_second}
use Rattle.ae_reading.proofs.lists.further_name.Goals as goal

pub returns-in_err-rest : goal.returns-in_err-rest
returns-in_err-rest c = exits itself (further name) Free Always _ _ _
    (further_first has_name (failed_mark c.in_err-rest.ensures)) c.from_residual.ensures.1

pub returns : goal.returns
returns c = passes itself name (further name) Free Free Always Always _ _ _
    (λ x rest s. took_further (took_mark c.in_ok-rest.ensures) s)
    (λ e s. further_second (took_mark c.in_ok-rest.ensures) s) c.name.ensures
