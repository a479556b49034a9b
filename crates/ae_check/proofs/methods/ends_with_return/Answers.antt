use Rattle.std.proofs.Common.{◌≡◌, Some, None, sym, ap, ◌∙◌}
use Rattle.ae_tree.specs.Shown.{braced, lines_from, lines-out}
use Rattle.ae_rules.specs.Judges.{returns}
use Rattle.ae_check.proofs.MethodLemmas.{last_line_returns}
use Rattle.ae_check.proofs.methods.ends_with_return.Goals as goal

pub returns-in-Some : goal.returns-in-Some
returns-in-Some c =
    let xs = c.as_slice.result.now in
    let o : (braced c.args.block.now).lines ≡ lines_from xs =
    lines-out c.args.block.now ∙ ap lines_from (sym c.as_slice.ensures) in
    c.is_return.ensures
    ∙ sym (ap returns o ∙ last_line_returns xs (Some c.in-Some.stmt.now) (sym c.in-Some.ensures.value))

pub returns-in-None : goal.returns-in-None
returns-in-None c =
    let xs = c.as_slice.result.now in
    let o : (braced c.args.block.now).lines ≡ lines_from xs =
    lines-out c.args.block.now ∙ ap lines_from (sym c.as_slice.ensures) in
    sym (ap returns o ∙ last_line_returns xs None (sym c.in-None.ensures.value))
