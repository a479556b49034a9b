-- Which token may follow an expression, so that no longer one begins in the same way.
use Rattle.std.specs.Prelude.{◌≡◌, ◌≢◌, ◌<◌, ℕ, Option, Some, None}
use Rattle.ae_text.specs.declared.token.Sign.TheVariants as sign
use Rattle.ae_tree.specs.declared.lexeme.Lexical.TheVariants as tok
use Rattle.ae_tree.specs.declared.lexeme.Lexeme.{Lexeme}
use Rattle.ae_tree.specs.declared.tree.Op.{Op}
use Rattle.ae_tree.specs.Grammar.{level, sign_of}

-- no operator of level l or above, no `.` and no `[`
abbrev pub Ends : ℕ → Option Lexeme → Type 0
Ends l None = Unit {0}
Ends l (Some t) = ((o : Op) → t.kind ≡ tok.Sign (sign_of o) → level o < l) × (t.kind ≢ tok.Sign sign.Dot)
    × (t.kind ≢ tok.Sign sign.OpenBracket)
