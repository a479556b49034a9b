use Rattle.ae_cases.proofs.Programs.{today_is_case}
use Rattle.ae_cases.proofs.laws.today_is_a_case.Goals as goal

pub returns : goal.returns
returns c = today_is_case
