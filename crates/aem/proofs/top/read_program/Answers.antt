use Rattle.std.proofs.Common.{List, subst}
use Rattle.ae_text.specs.declared.token.Token.{Token}
use Rattle.ae_tree.specs.Refused.{IsTokenDenied}
use Rattle.aem.proofs.Reading.{denied, unparsed}
use Rattle.aem.proofs.top.read_program.Goals as goal

pub returns-in-Err-clause-refused : goal.returns-in-Err-clause-refused
returns-in-Err-clause-refused c = denied c.args.text.now c.in-Err.deny c.in-Err.ensures.refused

pub returns-clause-refused : goal.returns-clause-refused
returns-clause-refused c =
    unparsed c.args.text.now c.in-Ok.tokens c.in-Err-parse.deny c.in-Ok.ensures.ok
    (subst (λ (l : List Token). IsTokenDenied l c.in-Err-parse.deny) c.as_slice.ensures c.in-Err-parse.ensures.refused)
