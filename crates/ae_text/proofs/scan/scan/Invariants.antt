use Rattle.std.proofs.Common.{length}
use denote.Text.{Utf8}
use denote.Shadow.{shadow}
use Rattle.ae_text.specs.Scan.{Scanned}
use Rattle.ae_text.proofs.scan.scan.Given as goal

abbrev pub invariant-pieces : goal.invariant-pieces
invariant-pieces l = shadow (Utf8 l.rest) × Scanned l.text l.rest l.spot l.tokens

abbrev pub decreases-pieces : goal.decreases-pieces
decreases-pieces l = length l.rest
