-- Forms of a production as the functions read them, and what may come next.
use Rattle.std.specs.Prelude.{◌≡◌, ◌≢◌, ◌⊎◌, ◌≤◌, ℕ, ◌+◌, ◌++◌, List, [], ◌∷◌, length, map, All, Option, Some, None}
use Rattle.std.specs.Prelude.{Result, Ok, Err}
use Rattle.std.specs.Borrow.{Bor}
use Rattle.ae_text.specs.declared.refusal.Spot.{Spot}
use Rattle.ae_text.specs.declared.token.Keyword.{Keyword}
use Rattle.ae_text.specs.declared.token.Keyword.TheVariants as word
use Rattle.ae_text.specs.declared.token.Sign.TheVariants as sign
use Rattle.ae_tree.specs.declared.lexeme.Lexical.TheVariants as tok
use Rattle.ae_tree.specs.declared.lexeme.Lexeme.{Lexeme}
use Rattle.ae_tree.specs.declared.limits.Limit.{Limit}
use Rattle.ae_tree.specs.declared.limits.Limit.TheVariants as limit
use Rattle.ae_tree.specs.declared.tree.Class.{Class}
use Rattle.ae_tree.specs.declared.tree.Me.{Me}
use Rattle.ae_tree.specs.declared.tree.Param.{Param}
use Rattle.ae_tree.specs.declared.tree.GroupNeed.{GroupNeed}
use Rattle.ae_tree.specs.Plain.{Definition}
use Rattle.ae_tree.specs.Shown as shown
use Rattle.ae_tree.specs.Grammar.{Tokens, ◌⨾◌, one_at, a_word, separated, Declaration, OfClass, OfMethod, classes_in}
use Rattle.ae_tree.specs.Grammar.{methods_in, declared, declaration}
use Rattle.ae_tree.specs.Grammar as grammar
use Rattle.ae_tree.specs.Limits.{KeepsMethod, one_for}
use Rattle.ae_reading.specs.declared.fail.Fail.{Fail}
use Rattle.ae_reading.specs.declared.fail.Why.{Why}
use Rattle.ae_reading.specs.declared.fail.Why.TheVariants.{Unexpected, Over}
use Rattle.ae_reading.specs.Reads.{head, Always, Is, Took, Failed}
use Rattle.ae_parser.specs.declared.params.Given.{Given}
use Rattle.ae_parser.specs.declared.classes.WithMethods.{WithMethods}
use Rattle.ae_parser.specs.declared.declarations.Parts.{Parts}

-- ---- parameters

-- the first word of a type
abbrev pub BeginsType : Option Lexeme → Type 0
BeginsType o = Is (tok.Word word.Int) o ⊎ Is (tok.Word word.Bool) o ⊎ Is (tok.Word word.Unique) o
    ⊎ Is (tok.Word word.Immutable) o ⊎ Is (tok.Word word.Lent) o ⊎ Is (tok.Word word.Shared) o

abbrev pub NoType : Option Lexeme → Type 0
NoType o = BeginsType o → ⊥

-- `>> none` that is written
abbrev pub away_mark : Option Spot → Tokens → Type 0
away_mark a ts = (at : Spot) × (a ≡ Some at) × (one_at (tok.Sign sign.Away) at ⨾ a_word word.None) ts

-- as many parameters as may be
abbrev pub AtMostParams : ℕ → Limit → List Param → Type 0
AtMostParams n limit.Params ps = length ps ≤ n
AtMostParams n l ps = Unit {0}

-- why no further parameter is taken: one may begin here and is over the limit, or none does
abbrev pub ParamNext : Tokens → Why → Type 0
ParamNext ts Unexpected = NoType (head ts)
ParamNext ts (Over l) = (l ≡ limit.Params) × BeginsType (head ts)

-- a method of a class has a receiver, and one at the top has none
abbrev pub HasMe : Option ℕ → Option Me → Type 0
HasMe None m = m ≡ None
HasMe (Some c) m = m ≢ None

-- what a method of this class, or one at the top, is given
abbrev pub given_to_method : Option ℕ → Given → Tokens → Type 0
given_to_method c g ts = HasMe c g.me × grammar.parameters g.me g.params ts

-- at most 16 parameters, with the receiver
abbrev pub FewGiven : Limit → Given → Type 0
FewGiven limit.Params g = one_for g.me + length g.params ≤ 16
FewGiven l g = Unit {0}

-- ---- needs

-- a need with this word
abbrev pub need_by : Keyword → GroupNeed → Tokens → Type 0
need_by w n ts = (grammar.need_word n.need ≡ w) × grammar.need n ts

-- needs that are written
abbrev pub some_needs : List GroupNeed → Tokens → Type 0
some_needs ns = a_word word.With ⨾ separated grammar.need ns

-- ---- classes

abbrev pub AllMethodsKeep : Limit → List Definition → Type 0
AllMethodsKeep l = All (KeepsMethod l)

-- a class with its methods, as a declaration
abbrev pub shown_class : WithMethods → Declaration
shown_class w = OfClass w.class (map shown.definition w.methods)

-- a class behind c classes and m methods
abbrev pub class_behind : ℕ → ℕ → Declaration → Tokens → Type 0
class_behind c m x ts = (k : Class) × (ms : List Definition) × (x ≡ OfClass k ms) × declaration c m (OfClass k ms) ts

abbrev pub KeepsOne : Limit → Declaration → Type 0
KeepsOne l x = AllMethodsKeep l (methods_in x)

-- a method at the top, as a declaration
abbrev pub method_behind : ℕ → ℕ → Declaration → Tokens → Type 0
method_behind c m x ts = (d : Definition) × (x ≡ OfMethod d) × grammar.method None d ts

-- ---- declarations

-- one declaration more, where D says which it is behind so many classes and methods
pub record Added (D : ℕ → ℕ → Declaration → Tokens → Type 0) (before behind : Parts) (ts rest : Tokens) : Type 0 where
  pub one : Declaration
  pub took : Took (D (length before.classes) (length before.methods)) KeepsOne Always ts one rest
  pub classes : behind.classes ≡ before.classes ++ classes_in one
  pub methods : map shown.definition behind.methods ≡ map shown.definition before.methods ++ methods_in one
  pub decls : behind.decls ≡ before.decls ++ declared (length before.classes) (length before.methods) one ∷ []

abbrev pub ReadsOne : (ℕ → ℕ → Declaration → Tokens → Type 0) → Parts → Parts → Tokens → Result (Bor Tokens) Fail
    → Type 0
ReadsOne D before behind ts (Ok rest) = Added D before behind ts rest.now
ReadsOne D before behind ts (Err e) = Failed (D (length before.classes) (length before.methods)) KeepsOne Always ts e
