-- Which rules are of the language: those that a program breaks, and not its text, its tokens or its forms.
use Rattle.std.specs.Prelude.{◌≡◌, Bool, true, false}
use Rattle.ae_text.specs.declared.refusal.Spot.{Spot}
use Rattle.ae_text.specs.declared.refusal.Rule.{Rule}
use Rattle.ae_text.specs.declared.refusal.Rule.TheVariants as rule
use Rattle.ae_tree.specs.Plain.{Code}
use Rattle.ae_rules.specs.Judges.{FirstBroken}

-- not of the text, of the tokens and the limits, and not that a form does not run yet
abbrev pub is_of_language : Rule → Bool
is_of_language rule.NotText = false
is_of_language rule.BadChar = false
is_of_language rule.IntTooLarge = false
is_of_language rule.OpenText = false
is_of_language rule.Unexpected = false
is_of_language rule.TooLong = false
is_of_language rule.BlockTooLong = false
is_of_language rule.TooDeep = false
is_of_language rule.TooManyParams = false
is_of_language rule.NotBuilt = false
is_of_language _ = true

abbrev pub IsOfLanguage : Rule → Type 0
IsOfLanguage rule = is_of_language rule ≡ true

-- what a program breaks first is a rule of the language
abbrev pub BrokenIsOfLanguage : Type 0
BrokenIsOfLanguage = (p : Code) (rule : Rule) (at : Spot) → FirstBroken p rule at → IsOfLanguage rule
