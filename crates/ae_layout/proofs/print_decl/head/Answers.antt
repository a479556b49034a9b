use Rattle.ae_tree.specs.Shown.{definition}
use Rattle.ae_layout.proofs.Texts.{on_ok}
use Rattle.ae_layout.proofs.Steps.{head_written}
use Rattle.ae_layout.proofs.print_decl.head.Goals as goal

pub returns : goal.returns
returns c =
    on_ok c.sign-3.result
    (head_written c.args.names.now (definition c.args.method.now) c.as_slice.result.now c.as_slice-2.result.now
    c.as_slice-3.result.now c.args.out.now.items c.word.new.out.items c.result_type.new.out.items
    c.name.new.out.items c.groups.new.out.items c.sign.new.out.items c.params.new.out.items c.sign-2.new.out.items
    c.needs.new.out.items c.sign-3.new.out.items c.as_slice.ensures c.as_slice-2.ensures c.as_slice-3.ensures
    c.in_ok-word.ensures c.in_ok-result_type.ensures c.in_ok-name.ensures c.in_ok-groups.ensures
    c.in_ok-sign.ensures c.in_ok-params.ensures c.in_ok-sign-2.ensures c.in_ok-needs.ensures)
    c.sign-3.ensures
