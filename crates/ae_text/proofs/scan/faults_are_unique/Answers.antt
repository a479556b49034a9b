use Rattle.ae_text.proofs.FaultLemmas.{faults_same, faults_refuse}
use Rattle.ae_text.proofs.scan.faults_are_unique.Goals as goal

pub returns-clause-one : goal.returns-clause-one
returns-clause-one c = λ text r q m n f g. faults_same text r q m n f g

pub returns-clause-no_tokens : goal.returns-clause-no_tokens
returns-clause-no_tokens c = λ text r m tokens f l. faults_refuse text r m tokens f l
