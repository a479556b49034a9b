use Rattle.std.proofs.Common.{subst, sym}
use Rattle.ae_tree.specs.Shown.{code}
use Rattle.aem.specs.declared.answer.Command.TheVariants.{Check, Graph, Run}
use Rattle.aem.specs.Top.{IsAnswer}
use Rattle.aem.proofs.Reading.{unread}
use Rattle.aem.proofs.Whole.{decided}
use Rattle.aem.proofs.top.answer_to.Goals as goal

pub returns-in-Err : goal.returns-in-Err
returns-in-Err g c =
    subst (IsAnswer c.args.command c.args.text.now) (sym c.denied.ensures)
    (unread c.args.command c.args.text.now c.in-Err.deny c.in-Err.ensures.refused)

pub returns-in-Check : goal.returns-in-Check
returns-in-Check g c =
    subst (λ k. IsAnswer k c.args.text.now c.checked.result) (sym c.in-Check.is)
    (decided Check c.args.text.now (code c.in-Ok.program) c.in-Ok.ensures.ok c.checked.result c.checked.ensures)

pub returns-in-Graph : goal.returns-in-Graph
returns-in-Graph g c =
    subst (λ k. IsAnswer k c.args.text.now c.drawn.result) (sym c.in-Graph.is)
    (decided Graph c.args.text.now (code c.in-Ok.program) c.in-Ok.ensures.ok c.drawn.result c.drawn.ensures)

pub returns-in-Run : goal.returns-in-Run
returns-in-Run g c =
    subst (λ k. IsAnswer k c.args.text.now c.ran.result) (sym c.in-Run.is)
    (decided Run c.args.text.now (code c.in-Ok.program) c.in-Ok.ensures.ok c.ran.result c.ran.ensures)
