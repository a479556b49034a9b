use Rattle.std.proofs.Common.{◌≡◌, take}
use Rattle.ae_tree.specs.Names.{numbered}
use Rattle.ae_parser.specs.Slices.{slices_bytes}
use Rattle.ae_parser.proofs.numbers.lexemes.Given as goal

abbrev pub invariant-loop-token : goal.invariant-loop-token
invariant-loop-token l = l.lexemes ≡ numbered (slices_bytes l.names.keys) (take l.token-index l.tokens)
