use Rattle.std.proofs.Common.{length, map}
use Rattle.ae_tree.specs.Shown as shown
use Rattle.ae_parser.proofs.ClassLemmas.{ReadMethods}
use Rattle.ae_parser.proofs.classes.class_methods.Given as goal

abbrev pub invariant-methods : goal.invariant-methods
invariant-methods l = ReadMethods l.class l.ts (map shown.definition l.methods) l.rest

abbrev pub decreases-methods : goal.decreases-methods
decreases-methods l = length l.rest
