use Rattle.ae_text.proofs.TextLemmas.{closed_fault, open_fault}
use Rattle.ae_text.proofs.texts.bad_escape.Goals as goal

pub returns-in-Some : goal.returns-in-Some
returns-in-Some c = closed_fault _ _ _ c.args.ahead c.parts.ensures c.in-Some.ensures

pub returns-in-None : goal.returns-in-None
returns-in-None c = open_fault _ _ c.args.ahead c.parts.ensures c.in-None.ensures
