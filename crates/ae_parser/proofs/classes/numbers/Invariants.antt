use Rattle.ae_parser.proofs.ClassLemmas.{Numbered}
use Rattle.ae_parser.proofs.classes.numbers.Given as goal

abbrev pub invariant-numbers : goal.invariant-numbers
invariant-numbers l = Numbered l.first l.count l.numbers l.next l.left

abbrev pub decreases-numbers : goal.decreases-numbers
decreases-numbers l = l.left
