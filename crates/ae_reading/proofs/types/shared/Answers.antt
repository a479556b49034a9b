use Rattle.ae_reading.proofs.ReadsLemmas.{exits, first, second, both, free, took_mark, failed_mark, has_mark}
use Rattle.ae_reading.specs.Reads.{itself, Free, Always}
use Rattle.ae_text.specs.declared.token.Sign.TheVariants as sign
use Rattle.ae_tree.specs.declared.lexeme.Lexical.TheVariants as tok
use Rattle.ae_reading.specs.Parts.{shared_permission}
use Rattle.ae_reading.proofs.TypeLemmas.{has_sharing, has_grouped, shared_took, shared_failed}
use Rattle.ae_reading.proofs.types.shared.Goals as goal

pub returns-in_err-at : goal.returns-in_err-at
returns-in_err-at c = exits itself shared_permission Free Always _ _ _
    (shared_failed _ _ (first (free _ Always) has_sharing c.in_err-at.ensures)) c.from_residual.ensures.1

pub returns-in_err-rest : goal.returns-in_err-rest
returns-in_err-rest c = exits itself shared_permission Free Always _ _ _
    (shared_failed _ _ (second (free _ Always) c.in_ok-at.ensures
    (first (free _ Always) has_grouped (failed_mark c.in_err-rest.ensures)))) c.from_residual-in_err-rest.ensures.1

pub returns-in_err-group : goal.returns-in_err-group
returns-in_err-group c = exits itself shared_permission Free Always _ _ _
    (shared_failed _ _ (second (free _ Always) c.in_ok-at.ensures
    (second (free _ Always) (took_mark c.in_ok-rest.ensures)
    (first (free _ Always) (has_mark (tok.Sign sign.Greater) tt) c.in_err-group.ensures))))
    c.from_residual-in_err-group.ensures.1

pub returns-in_err-rest-2 : goal.returns-in_err-rest-2
returns-in_err-rest-2 c = exits itself shared_permission Free Always _ _ _
    (shared_failed _ _ (second (free _ Always) c.in_ok-at.ensures
    (second (free _ Always) (took_mark c.in_ok-rest.ensures)
    (second (free _ Always) c.in_ok-group.ensures (failed_mark c.in_err-rest-2.ensures)))))
    c.from_residual-in_err-rest-2.ensures.1

pub returns : goal.returns
returns c = shared_took _ _ _ _
    (both (free _ Always) c.in_ok-at.ensures
    (both (free _ Always) (took_mark c.in_ok-rest.ensures)
    (both (free _ Always) c.in_ok-group.ensures (took_mark c.in_ok-rest-2.ensures))))
