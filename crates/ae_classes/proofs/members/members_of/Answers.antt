use Rattle.ae_tree.specs.Shown.{code}
use Rattle.ae_rules.specs.Table.{no_names}
use Rattle.ae_classes.specs.Named.{named_in}
use Rattle.ae_classes.specs.Classes.{passed}
use Rattle.ae_classes.proofs.ClauseLemmas.{members_break_at_fields, members_break_at_methods, members_hold}
use Rattle.ae_classes.proofs.members.members_of.Goals as goal

pub returns-in_err-members-clause-answer : goal.returns-in_err-members-clause-answer
returns-in_err-members-clause-answer c =
    members_break_at_fields (code c.args.program.now) c.args.class.now c.as_slice.result.now no_names passed
    c.in_err-members.field-0.0 c.from_residual.result c.as_slice.ensures
    c.in_err-members.ensures.answer
    c.from_residual.ensures.1

pub returns-in_err-put_methods-clause-answer : goal.returns-in_err-put_methods-clause-answer
returns-in_err-put_methods-clause-answer c =
    members_break_at_methods (code c.args.program.now) c.args.class.now c.as_slice.result.now c.as_slice-2.result.now
    (named_in c.in_ok-members.members) (named_in c.put_methods.new.members) passed c.in_err-put_methods.field-0.0
    c.from_residual-in_err-put_methods.result c.as_slice.ensures c.as_slice-2.ensures c.in_ok-members.ensures.answer
    c.in_err-put_methods.ensures.answer c.from_residual-in_err-put_methods.ensures.1

pub returns-clause-answer : goal.returns-clause-answer
returns-clause-answer c =
    members_hold (code c.args.program.now) c.args.class.now c.as_slice.result.now c.as_slice-2.result.now
    (named_in c.in_ok-members.members) (named_in c.put_methods.new.members) c.as_slice.ensures c.as_slice-2.ensures
    c.in_ok-members.ensures.answer c.in_ok-put_methods.ensures.answer
