use Rattle.std.proofs.Common.{◌≡◌, sym, ap, ◌∙◌, subst}
use Rattle.ae_tree.specs.Shown.{braced, lines_from, lines-out}
use Rattle.ae_unsplit.specs.Unsplit.{AreUnsplit}
use Rattle.ae_unsplit.proofs.unsplit.+blocks.Goals as goal

pub is_unsplit_block-loop-stmt-init : goal.is_unsplit_block-loop-stmt-init
is_unsplit_block-loop-stmt-init t c =
    let same : (braced c.args.block.now).lines ≡ lines_from c.as_slice-stmt-items.result.now =
    lines-out c.args.block.now ∙ ap lines_from (sym c.as_slice-stmt-items.ensures) in
    (subst AreUnsplit same, subst AreUnsplit (sym same))
