use Rattle.std.proofs.Common.{length}
use denote.Text.{Utf8}
use denote.Shadow.{shadow}
use Rattle.ae_text.specs.Scan.{is_in_class}
use Rattle.ae_text.proofs.ScanLemmas.{Run}
use Rattle.ae_text.proofs.characters.span.Given as goal

abbrev pub invariant-span : goal.invariant-span
invariant-span l = shadow (Utf8 l.after) × Run (is_in_class l.class) l.text l.after

abbrev pub decreases-span : goal.decreases-span
decreases-span l = length l.after
