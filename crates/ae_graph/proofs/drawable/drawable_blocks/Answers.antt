use Rattle.ae_tree.specs.Shown.{definition}
use Rattle.ae_rules.specs.Blocks.{scenes}
use Rattle.ae_judge.specs.Tabled.{code_of}
use Rattle.ae_uses.specs.Opened.{AreOpenedFor}
use Rattle.ae_graph.specs.Drawn.{AreDrawable}
use Rattle.ae_graph.proofs.Drawing.{method_is_drawable}
use Rattle.std.proofs.lemmas.Result.{IfOk-weaker}
use Rattle.ae_graph.proofs.drawable.drawable_blocks.Goals as goal

pub returns-clause-drawable : goal.returns-clause-drawable
returns-clause-drawable c =
    let p = code_of c.args.tabled.now in
    let m = definition c.args.method.now in
    IfOk-weaker c.method_uses.result (AreOpenedFor p (scenes p m)) (AreDrawable p (scenes p m))
    (λ os u. method_is_drawable c.names_are_of_the_program.ensures p c.requires.shaped c.requires.accepted
    c.requires.within c.requires.method.0 m c.requires.method.1 os u) c.method_uses.ensures.uses
