use Rattle.std.proofs.Common.{◌≡◌, drop, ℕ}
use Rattle.ae_tree.specs.Shown.{code}
use Rattle.ae_rules.specs.Verdict.{each, if_there}
use Rattle.ae_rules.specs.Lookups.{has_name, method_at}
use Rattle.ae_rules.specs.Table.{method_holds}
use Rattle.ae_classes.proofs.declarations.methods_hold.Given as goal

abbrev pub invariant-loop-number : goal.invariant-loop-number
invariant-loop-number l =
    each (λ (n : ℕ). if_there (method_at (code l.program) n) (method_holds (code l.program)
    (has_name l.outer))) l.numbers
    ≡ each (λ (n : ℕ). if_there (method_at (code l.program) n) (method_holds (code l.program) (has_name l.outer)))
    (drop l.number-index l.numbers)
