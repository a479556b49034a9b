use Rattle.std.proofs.Common.{subst, sym}
use Rattle.ae_tree.specs.Shown.{definition}
use Rattle.ae_rules.specs.Blocks.{scenes}
use Rattle.ae_judge.specs.Tabled.{code_of}
use Rattle.ae_graph.specs.Drawn.{AreDrawable}
use Rattle.ae_graph.proofs.text.put_method.Goals as goal

pub put_named-requires : goal.put_named-requires
put_named-requires c =
    let p = code_of c.args.tabled.now in
    let xs = scenes p (definition c.args.method.now) in
    (xs, subst (AreDrawable p xs) (sym c.as_slice.ensures) c.in_ok-blocks.ensures.drawable)

pub returns-in-Ok-clause-text : goal.returns-in-Ok-clause-text
returns-in-Ok-clause-text c =
    let p = code_of c.args.tabled.now in
    let xs = scenes p (definition c.args.method.now) in
    c.in-Ok.ensures xs (subst (AreDrawable p xs) (sym c.as_slice.ensures) c.in_ok-blocks.ensures.drawable)
