use Rattle.ae_reading.proofs.ReadsLemmas.{refuses, token_end, token_other, took_kind}
use Rattle.ae_reading.proofs.terminals.expect_sign.Goals as goal

pub returns-in_default : goal.returns-in_default
returns-in_default c = refuses _ _ _ _ _ _ c.unexpected.ensures (token_end _ tt _ _ c.in_default.ensures)

pub returns-else-is_sign : goal.returns-else-is_sign
returns-else-is_sign c = refuses _ _ _ _ _ _ c.unexpected-else-is_sign.ensures
    (token_other _ tt _ _ _ _ c.in-Some.ensures c.if-is_sign.ensures)

pub returns-then-is_sign : goal.returns-then-is_sign
returns-then-is_sign c = took_kind _ _ _ c.in-Some.first.now (λ q. cc) c.in-Some.ensures c.if-is_sign.ensures
