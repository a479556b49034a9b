-- Answers of functions that judge are put together as the verdicts are.
use Rattle.std.proofs.Common.{◌≡◌, Bool, true, false, List, ◌∷◌, Option, Some, None, Result, Ok, Err, ap, ◌∙◌}
use Rattle.std.specs.Prelude.{⊤}
use Rattle.ae_text.specs.declared.refusal.Spot.{Spot}
use Rattle.ae_text.specs.declared.refusal.Rule.{Rule}
use Rattle.ae_text.specs.declared.refusal.Deny.{Deny}
use Rattle.ae_text.specs.declared.refusal.Deny.TheVariants as deny
use Rattle.ae_rules.specs.Verdict.{Verdict, Holds, ◌>>=◌, ◌>>◌, require, found, each, in_turn}
use Rattle.ae_rules.specs.Answers.{Answers, Leaves}

-- ---- one after the other

-- ---- tests

-- ---- things that may be there

-- ---- each of a list

-- ---- one turn after the other

-- ---- states
