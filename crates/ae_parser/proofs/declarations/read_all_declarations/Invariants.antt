use Rattle.std.proofs.Common.{length}
use Rattle.ae_parser.proofs.DeclarationLemmas.{ReadParts}
use Rattle.ae_parser.proofs.declarations.read_all_declarations.Given as goal

abbrev pub invariant-declarations : goal.invariant-declarations
invariant-declarations l = ReadParts l.ts l.parts l.rest

abbrev pub decreases-declarations : goal.decreases-declarations
decreases-declarations l = length l.rest
