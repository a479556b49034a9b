use Rattle.std.proofs.Common.{◌↔◌, drop, map}
use Rattle.std.specs.Prelude.{All}
use Rattle.ae_tree.specs.Plain.{Definition}
use Rattle.ae_tree.specs.Shown.{definition}
use Rattle.ae_unsplit.specs.Unsplit.{AreUnsplit}
use Rattle.ae_unsplit.proofs.unsplit.is_unsplit.Given as goal

-- nothing is split exactly where the rest of the methods splits nothing
abbrev pub invariant-loop-method : goal.invariant-loop-method
invariant-loop-method l = All (λ (m : Definition). AreUnsplit m.body) (map definition l.program.methods)
    ↔ All (λ (m : Definition). AreUnsplit m.body) (map definition (drop l.method-index l.method-items))
