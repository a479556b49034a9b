use Rattle.std.proofs.Common.{◌≡◌, drop, map}
use Rattle.ae_tree.specs.Shown.{definition}
use Rattle.ae_meaning.specs.Meaning.{main_body}
use Rattle.ae_meaning.proofs.run.main_method.Given as goal

abbrev pub invariant-loop-method : goal.invariant-loop-method
invariant-loop-method l = main_body (map definition l.program.methods)
    ≡ main_body (map definition (drop l.method-index l.method-items))
