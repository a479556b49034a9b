use Rattle.std.proofs.Common.{◌≡◌, ◌+◌, drop, ◌∷◌, arith}
use Rattle.ae_layout.proofs.Texts.{texts, drop_one}
use Rattle.ae_layout.proofs.print_expr.more_exprs.Goals as goal

pub loop-item-preserved : goal.loop-item-preserved
loop-item-preserved c =
    let xs = c.args.list.now in
    let i = c.loop-item.item-index in
    let x = c.item-item.result in
    let e : drop i xs ≡ x ∷ drop (i + 1) xs = drop_one xs i x c.loop-item-test.true c.item-item.is in
    let h = rw e at c.loop-item.invariant in
    grind (arith, texts, h, c.in_ok-expr.ensures, c.in_ok-sign.ensures)
