use Rattle.std.proofs.Common.{◌∙◌}
use Rattle.ae_layout.proofs.Texts.{rows_step, else_written, on_ok}
use Rattle.ae_layout.proofs.print_stmt.+lines.Goals as goal

pub blocks-returns-in_ok-braces-in-Some : goal.blocks-returns-in_ok-braces-in-Some
blocks-returns-in_ok-braces-in-Some t c =
    on_ok c.close.result
    (else_written c.args.names.now c.args.indent.now c.args.stmt.now c.in-If.field-0 c.in-If.then c.in-If.otherwise
    c.in-Some.block c.args.out.now.items c.braces.new.out.items c.other.new.out.items
    c.braces-in-Some.new.out.items c.close.new.out.items c.in-If.is c.in-Some.is c.in_ok-braces-in-If.ensures
    c.in_ok-other-in-Some.ensures c.in_ok-braces-in-Some.ensures)
    c.close.ensures

pub braces-loop-stmt-preserved : goal.braces-loop-stmt-preserved
braces-loop-stmt-preserved t c =
    rows_step _ _ _ _ _ _ _ _ _ _ _ (c.as_slice.ensures.value ∙ c.in_ok-inner.ensures)
    (c.as_slice-in-loop-stmt.ensures.value ∙ c.in_ok-inner.ensures) c.loop-stmt-test.true c.stmt-item.is
    c.loop-stmt.invariant c.in_ok-first.ensures c.in_ok-blocks.ensures
