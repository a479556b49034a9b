use Rattle.std.proofs.Common.{ap, ◌∙◌}
use Rattle.ae_uses.specs.declared.opened.OpenedBlock.{OpenedBlock}
use Rattle.ae_bodies.proofs.PassedLemmas.{filled, next_behind}
use Rattle.ae_bodies.proofs.opened.fill.Goals as goal

pub returns-in-Some : goal.returns-in-Some
returns-in-Some c = λ os rest o e l.
    filled os rest c.args.opened.now.items o c.in-Some.block.now c.args.at c.args.uses e l
    (ap (λ (b : OpenedBlock). b.no) (c.in-Some.ensures.value
    ∙ next_behind c.args.opened.now.items os rest o c.in-Some.block.now c.args.at e l))
