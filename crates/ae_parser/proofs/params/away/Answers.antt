use Rattle.ae_tree.specs.Grammar.{away}
use Rattle.ae_reading.specs.Reads.{itself, Free, Always}
use Rattle.ae_parser.proofs.from_reading.ReadsLemmas.{passes, took_when, failed_when}
use Rattle.ae_parser.specs.Productions.{away_mark}
use Rattle.ae_parser.proofs.ParamLemmas.{NoAway, away_when, away_none}
use Rattle.ae_parser.proofs.params.away.Goals as goal

pub returns-then-is_sign_next : goal.returns-then-is_sign_next
returns-then-is_sign_next c = passes itself away_mark away Free Free Always NoAway _ _ _
    (λ x rest s. took_when away away_mark (λ q. q) (away_when _ c.if-is_sign_next.ensures) s)
    (λ e s. failed_when away away_mark (λ q. q) (away_when _ c.if-is_sign_next.ensures) s) c.given_away.ensures

pub returns-else-is_sign_next : goal.returns-else-is_sign_next
returns-else-is_sign_next c = away_none _ c.if-is_sign_next.ensures
