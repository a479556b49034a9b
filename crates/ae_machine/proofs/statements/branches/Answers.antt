use Rattle.std.proofs.Common.{ap, sym, ◌∙◌, subst, Option}
use Rattle.ae_tree.specs.declared.tree.Block.{Block}
use Rattle.ae_tree.specs.declared.tree.StmtKind.TheVariants as kind
use Rattle.ae_tree.specs.Plain.{Action}
use Rattle.ae_tree.specs.Shown.{action, action-If, action-If_else}
use Rattle.ae_levels.specs.Halting.{LeadsTo}
use Rattle.ae_machine.specs.Frames.{levels}
use Rattle.ae_machine.specs.Tasks.{IsAtStatement, IsPast, cost_at, whole_of}
use Rattle.ae_machine.proofs.statements.branches.Goals as goal

pub begin_if-requires : goal.begin_if-requires
begin_if-requires c = subst (λ (a : Action). IsAtStatement c.args.task.now c.args.run.now c.args.rest c.args.stmt.now.at a
    (levels c.args.frames.now.items))
    (c.requires.is ∙ ap (λ (o : Option Block). action (kind.If c.args.test.now c.args.body.now o)) c.in-None.is
    ∙ action-If c.args.test.now c.args.body.now)
    c.requires.begun

pub begin_if_else-requires : goal.begin_if_else-requires
begin_if_else-requires c = subst (λ (a : Action). IsAtStatement c.args.task.now c.args.run.now c.args.rest
    c.args.stmt.now.at a (levels c.args.frames.now.items))
    (c.requires.is ∙ ap (λ (o : Option Block). action (kind.If c.args.test.now c.args.body.now o)) c.in-Some.is
    ∙ action-If_else c.args.test.now c.args.body.now c.in-Some.other)
    c.requires.begun

pub returns-in-None : goal.returns-in-None
returns-in-None c = subst (λ (a : Action). LeadsTo (whole_of c.args.task.now) c.args.run.now.out.items
    (IsPast c.args.task.now c.args.run.now (levels c.begin_if.new.frames.items)
    (cost_at c.args.task.now c.args.rest a (levels c.args.frames.now.items))) c.begin_if.result)
    (sym (c.requires.is ∙ ap (λ (o : Option Block). action (kind.If c.args.test.now c.args.body.now o)) c.in-None.is
    ∙ action-If c.args.test.now c.args.body.now))
    c.begin_if.ensures

pub returns-in-Some : goal.returns-in-Some
returns-in-Some c = subst (λ (a : Action). LeadsTo (whole_of c.args.task.now) c.args.run.now.out.items
    (IsPast c.args.task.now c.args.run.now (levels c.begin_if_else.new.frames.items)
    (cost_at c.args.task.now c.args.rest a (levels c.args.frames.now.items))) c.begin_if_else.result)
    (sym (c.requires.is ∙ ap (λ (o : Option Block). action (kind.If c.args.test.now c.args.body.now o)) c.in-Some.is
    ∙ action-If_else c.args.test.now c.args.body.now c.in-Some.other))
    c.begin_if_else.ensures
