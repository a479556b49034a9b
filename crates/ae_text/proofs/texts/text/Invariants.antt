use Rattle.std.proofs.Common.{length}
use denote.Text.{Utf8}
use denote.Shadow.{shadow}
use Rattle.std.specs.String.{string_bytes}
use Rattle.ae_text.proofs.TextLemmas.{Reads}
use Rattle.ae_text.proofs.texts.text.Given as goal

abbrev pub invariant-parts : goal.invariant-parts
invariant-parts l = shadow (Utf8 l.rest) × Reads l.quoted l.rest (string_bytes l.value)

abbrev pub decreases-parts : goal.decreases-parts
decreases-parts l = length l.rest
