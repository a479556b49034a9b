use Rattle.ae_parser.proofs.UniquePrograms.{derives_one}
use Rattle.ae_parser.proofs.laws.tokens_stand_for_one_program.Goals as goal

pub returns : goal.returns
returns c tokens p q d e = derives_one tokens p q d e
