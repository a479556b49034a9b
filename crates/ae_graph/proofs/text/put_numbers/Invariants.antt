use Rattle.std.proofs.Common.{◌≡◌, ◌++◌, take}
use Rattle.ae_graph.specs.GraphText.{spaced}
use Rattle.ae_graph.proofs.text.put_numbers.Given as goal

abbrev pub invariant-loop-number : goal.invariant-loop-number
invariant-loop-number l = l.text.items ≡ l.initial.text.items ++ spaced (take l.number-index l.numbers)
