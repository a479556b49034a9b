-- The right side that tokens end with, where it may still become an expression or a call.
use Rattle.std.specs.Prelude.{◌≡◌, ◌≤◌, ℕ, ◌+◌, ◌++◌, [], ◌∷◌, length, IsTrue}
use Rattle.ae_tree.specs.declared.lexeme.Lexical.{Lexical}
use Rattle.ae_tree.specs.declared.lexeme.Lexeme.{Lexeme}
use Rattle.ae_tree.specs.Grammar.{Tokens}
use Rattle.ae_tree.specs.Refused.{is_open, is_mark, marks_in, OpenSide, Is257th}
use Rattle.ae_parser.specs.declared.places.Side.{Side}
use Rattle.ae_parser.specs.declared.places.Side.TheVariants.{Closed, Few, Many}

-- a side of which n tokens count, no more than may
pub record HasFew (before : Tokens) (n : ℕ) : Type 0 where
  pub right : OpenSide before
  pub marks : marks_in right.side ≡ n
  pub few : n ≤ 256

-- a side whose 257th token that counts stands at this index
pub record HasMany (before : Tokens) (index : ℕ) : Type 0 where
  pub right : OpenSide before
  pub back : ℕ
  pub first : Is257th right.side back
  pub place : index + back ≡ length before

-- what tokens end with
abbrev pub Describes : Tokens → Side → Type 0
Describes before Closed = OpenSide before → ⊥
Describes before (Few n) = HasFew before n
Describes before (Many index) = HasMany before index

-- what they end with behind one token more, which stands at this index
abbrev pub Grows : Side → Lexeme → ℕ → Side → Type 0
Grows side next index behind = (before : Tokens) → length before ≡ index → Describes before side
    → Describes (before ++ next ∷ []) behind

-- a token of an open side that counts
abbrev pub IsOpenMark : Lexical → Type 0
IsOpenMark k = IsTrue (is_open k) × IsTrue (is_mark k)
