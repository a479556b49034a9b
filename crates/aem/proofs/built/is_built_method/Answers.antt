use Rattle.std.proofs.Common.{ap, sym, ◌∙◌}
use Rattle.ae_tree.specs.Shown.{definition, lines_from, lines-out}
use Rattle.aem.proofs.Forms.{method_of}
use Rattle.aem.proofs.built.is_built_method.Goals as goal

pub returns-then-is_main : goal.returns-then-is_main
returns-then-is_main c =
    method_of (definition c.args.method.now) c.if-is_main.ensures (lines_from c.as_slice.result.now)
    (lines-out c.args.method.now.body ∙ ap lines_from (sym c.as_slice.ensures)) c.are_built.result c.are_built.ensures
