use Rattle.std.proofs.Common.{sym, ap, ◌∙◌}
use Rattle.ae_tree.specs.Plain.{Action}
use Rattle.ae_tree.specs.Shown.{action-Assign, action-Field, action-Index, action-Call}
use Rattle.ae_tree.specs.Plain.{Calls}
use Rattle.ae_statements.specs.declared.led.Tail.{Tail}
use Rattle.ae_statements.specs.Productions.{shown_tail, action_of}
use Rattle.ae_statements.proofs.led.kind_of.Goals as goal

pub returns-in-Assign : goal.returns-in-Assign
returns-in-Assign c = let P : Tail → Action = λ t. action_of c.args.path (shown_tail t) in action-Assign _ _
    ∙ ap P (sym c.in-Assign.is)

pub returns-in-Field : goal.returns-in-Field
returns-in-Field c = let P : Tail → Action = λ t. action_of c.args.path (shown_tail t) in action-Field _ _
    ∙ ap P (sym c.in-Field.is)

pub returns-in-Index : goal.returns-in-Index
returns-in-Index c = let P : Tail → Action = λ t. action_of c.args.path (shown_tail t) in action-Index _ _ _
    ∙ ap P (sym c.in-Index.is)

pub returns-in-Call : goal.returns-in-Call
returns-in-Call c = let P : Tail → Action = λ t. action_of c.args.path (shown_tail t) in action-Call _
    ∙ ap Calls c.invoke.ensures ∙ ap P (sym c.in-Call.is)
