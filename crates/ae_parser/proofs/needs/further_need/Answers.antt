use Rattle.ae_tree.specs.Grammar.{need, further}
use Rattle.ae_reading.specs.Reads.{itself, Free, Always}
use Rattle.ae_parser.proofs.from_reading.ReadsLemmas.{exits, passes, took_mark, failed_mark}
use Rattle.ae_parser.proofs.from_reading.Parts.{took_further, further_first, further_second}
use Rattle.ae_parser.proofs.MethodLemmas.{has_need}
use Rattle.ae_parser.proofs.needs.further_need.Goals as goal

pub returns-in_err-rest : goal.returns-in_err-rest
returns-in_err-rest c = exits itself (further need) Free Always _ _ _
    (further_first has_need (failed_mark c.in_err-rest.ensures)) c.from_residual.ensures.1

pub returns : goal.returns
returns c = passes itself need (further need) Free Free Always Always _ _ _
    (λ x rest s. took_further (took_mark c.in_ok-rest.ensures) s)
    (λ e s. further_second (took_mark c.in_ok-rest.ensures) s) c.need.ensures
