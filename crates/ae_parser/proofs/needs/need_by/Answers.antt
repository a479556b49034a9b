use Rattle.ae_parser.proofs.from_reading.ReadsLemmas.{exits, first, second, both, free, took_mark, failed_mark}
use Rattle.ae_reading.specs.Reads.{itself, Free, Always}
use Rattle.ae_parser.proofs.from_reading.ReadsLemmas.{has_name}
use Rattle.ae_parser.specs.Productions.{need_by}
use Rattle.ae_parser.proofs.MethodLemmas.{need_took, need_failed}
use Rattle.ae_parser.proofs.needs.need_by.Goals as goal

pub returns-in_err-rest : goal.returns-in_err-rest
returns-in_err-rest c = exits itself (need_by c.args.word) Free Always _ _ _
    (need_failed c.args.word c.args.need c.requires _ _
    (first (free _ Always) has_name (failed_mark c.in_err-rest.ensures))) c.from_residual.ensures.1

pub returns-in_err-group : goal.returns-in_err-group
returns-in_err-group c = exits itself (need_by c.args.word) Free Always _ _ _
    (need_failed c.args.word c.args.need c.requires _ _
    (second (free _ Always) (took_mark c.in_ok-rest.ensures) c.in_err-group.ensures))
    c.from_residual-in_err-group.ensures.1

pub returns : goal.returns
returns c = need_took c.args.word c.args.need c.requires _ _ _
    (both (free _ Always) (took_mark c.in_ok-rest.ensures) c.in_ok-group.ensures)
