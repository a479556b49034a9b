use Rattle.std.proofs.Common.{arith}
use Rattle.aem.proofs.top.faultless.Goals as goal

pub returns : goal.returns
returns g c command program asked =
    c.aeminium.ensures.complete (λ rose. omega (arith, rose)) (λ rose. omega (arith, rose)) command program asked
