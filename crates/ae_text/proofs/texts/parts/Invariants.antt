use Rattle.std.proofs.Common.{length}
use denote.Text.{Utf8}
use denote.Shadow.{shadow}
use Rattle.ae_text.proofs.TextLemmas.{Parts}
use Rattle.ae_text.proofs.texts.parts.Given as goal

abbrev pub invariant-parts : goal.invariant-parts
invariant-parts l = shadow (Utf8 l.rest) × Parts l.text l.rest

abbrev pub decreases-parts : goal.decreases-parts
decreases-parts l = length l.rest
