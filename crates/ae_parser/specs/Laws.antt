-- What holds of the grammar and of refusals, whoever reads.
use Rattle.std.specs.Prelude.{◌≡◌, List}
use Rattle.ae_text.specs.declared.refusal.Spot.{Spot}
use Rattle.ae_text.specs.declared.refusal.Rule.{Rule}
use Rattle.ae_text.specs.declared.token.Token.{Token}
use Rattle.ae_tree.specs.Plain.{Code}
use Rattle.ae_tree.specs.Grammar.{Derives}
use Rattle.ae_tree.specs.Limits.{Within}
use Rattle.ae_tree.specs.Refused.{IsRefused}

-- tokens are refused by one rule at one place at most
abbrev pub IsOneRefusal : Type 0
IsOneRefusal = (tokens : List Token) (r s : Rule) (at place : Spot) → IsRefused tokens r at → IsRefused tokens s place → (r ≡ s) × (at ≡ place)

-- no tokens are refused that stand for a program within the limits
abbrev pub NoProgramIsRefused : Type 0
NoProgramIsRefused = (tokens : List Token) (p : Code) (r : Rule) (at : Spot) → Derives tokens p → Within p → IsRefused tokens r at → ⊥

-- tokens stand for one program at most
abbrev pub IsOneProgram : Type 0
IsOneProgram = (tokens : List Token) (p q : Code) → Derives tokens p → Derives tokens q → p ≡ q
