-- What reading all declarations of a program answers.
use Rattle.std.specs.Prelude.{◌≡◌, ℕ, ◌+◌, List, Result, Ok, Err, All, map}
use Rattle.ae_text.specs.declared.refusal.Rule.{Rule}
use Rattle.ae_text.specs.declared.refusal.Rule.TheVariants as rule
use Rattle.ae_tree.specs.declared.lexeme.Lexical.TheVariants as tok
use Rattle.ae_tree.specs.declared.limits.Limit.{Limit}
use Rattle.ae_tree.specs.declared.limits.Limit.TheVariants as limit
use Rattle.ae_tree.specs.Shown as shown
use Rattle.ae_tree.specs.Grammar.{Tokens, ◌⨾◌, Declaration, declarations, classes_of, methods_of, decls_of}
use Rattle.ae_tree.specs.Limits.{KeepsMethod}
use Rattle.ae_tree.specs.Refused.{IsPlaced}
use Rattle.ae_reading.specs.declared.fail.Why.{Why}
use Rattle.ae_reading.specs.declared.fail.Why.TheVariants.{Unexpected, Over}
use Rattle.ae_reading.specs.declared.fail.Fail.{Fail}
use Rattle.ae_reading.specs.declared.fail.Fail.TheVariants.{Refused, Memory}
use Rattle.ae_reading.specs.Reads.{head, Always, Is, TokenMark, Took, Stopped, Failed}
use Rattle.ae_parser.specs.declared.declarations.Parts.{Parts}

-- all declarations, and the end
abbrev pub whole_program : List Declaration × Unit {0} → Tokens → Type 0
whole_program q = declarations 0 0 q.0 ⨾ TokenMark tok.End q.1

abbrev pub KeepsAll : Limit → List Declaration → Type 0
KeepsAll l list = All (KeepsMethod l) (methods_of list)

abbrev pub KeepsAllWhole : Limit → List Declaration × Unit {0} → Type 0
KeepsAllWhole l q = KeepsAll l q.0

-- the parts of a program, and the end behind them
pub record HasRead (ts : Tokens) (p : Parts) : Type 0 where
  pub list : List Declaration
  pub rest : Tokens
  pub took : Took (declarations 0 0) KeepsAll (Is tok.End) ts list rest
  pub end : Is tok.End (head rest)
  pub classes : p.classes ≡ classes_of list
  pub methods : map shown.definition p.methods ≡ methods_of list
  pub decls : p.decls ≡ decls_of 0 0 list

abbrev pub ReadsAll : Tokens → Result Parts Fail → Type 0
ReadsAll ts (Ok p) = HasRead ts p
ReadsAll ts (Err e) = Failed whole_program KeepsAllWhole Always ts e

-- where the refused token stands, this many tokens before the one at which the parser stops
abbrev pub Stands : Why → Tokens → ℕ → Type 0
Stands Unexpected before back = back ≡ 0
Stands (Over l) before back = IsPlaced l before back

-- the token from which on this many are left is refused
pub record Refuses (ts : Tokens) (why : Why) (left : ℕ) : Type 0 where
  pub stop : ℕ
  pub stopped : Stopped whole_program KeepsAllWhole Always ts why stop
  pub back : ℕ
  pub left_is : left ≡ stop + back
  pub placed : Stands why stopped.before back

-- why there is no program, with the place of the refused token
abbrev pub PlacedFailure : Tokens → Fail → Type 0
PlacedFailure ts (Refused why left) = Refuses ts why left
PlacedFailure ts Memory = Unit {0}

-- the rule that is broken
abbrev pub rule_of : Why → Rule
rule_of Unexpected = rule.Unexpected
rule_of (Over limit.Statements) = rule.BlockTooLong
rule_of (Over limit.Levels) = rule.TooDeep
rule_of (Over limit.Depth) = rule.TooDeep
rule_of (Over limit.Params) = rule.TooManyParams
