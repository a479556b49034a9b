use Rattle.std.proofs.Common.{false}
use Rattle.ae_layout.specs.Layout.{param_tokens}
use Rattle.ae_layout.proofs.Steps.{commas_step}
use Rattle.ae_layout.proofs.print_decl.more_params.Goals as goal

pub loop-item-preserved : goal.loop-item-preserved
loop-item-preserved c =
    commas_step (param_tokens c.args.names.now false) c.args.list.now c.loop-item.item-index c.item-item.result _ _ _
    _ c.loop-item-test.true c.item-item.is c.loop-item.invariant c.in_ok-sign.ensures c.in_ok-param.ensures
