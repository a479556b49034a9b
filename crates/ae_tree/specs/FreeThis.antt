-- That nothing is declared under the name `this`.
use Rattle.std.specs.Prelude.{◌≢◌, List, All, codes}
use Rattle.ae_text.specs.declared.token.Token.{Token}
use Rattle.ae_text.specs.declared.token.TokenKind.{TokenKind}
use Rattle.ae_text.specs.declared.token.TokenKind.TheVariants as k
use Rattle.ae_tree.specs.declared.tree.NameAt.{NameAt}
use Rattle.ae_tree.specs.declared.tree.Param.{Param}
use Rattle.ae_tree.specs.declared.tree.Field.{Field}
use Rattle.ae_tree.specs.declared.tree.Class.{Class}
use Rattle.ae_tree.specs.Plain.{Action, Declares, Groups, Definition, Code}
use Rattle.ae_tree.specs.Names.{this}
use Rattle.ae_tree.specs.Grammar.{Derives}
use Rattle.ae_tree.specs.WellShaped.{EachStatement}

-- a name other than `this`
abbrev pub IsNotThis : NameAt → Type 0
IsNotThis x = x.name ≢ this

-- a local or a group that a statement declares has another name
abbrev pub DeclaresOther : Action → Type 0
DeclaresOther (Declares t x e) = IsNotThis x
DeclaresOther (Groups g) = IsNotThis g
DeclaresOther _ = Unit {0}

-- nothing is declared under the name `this`
pub record ThisIsFree (p : Code) : Type 0 where
  -- no class has the name, and no group and no field of a class
  pub classes : All (λ (c : Class). IsNotThis c.name × All IsNotThis c.groups
      × All (λ (d : Field). IsNotThis d.name) c.fields) p.classes
  -- no method has it, and no group and no parameter of a method
  pub methods : All (λ (m : Definition). IsNotThis m.name × All IsNotThis m.groups
      × All (λ (x : Param). IsNotThis x.name) m.params) p.methods
  -- no statement declares it
  pub statements : All (λ (m : Definition). EachStatement DeclaresOther m.body) p.methods

-- a name is not spelled so; the keyword is
abbrev pub IsSpelledOther : TokenKind → Type 0
IsSpelledOther (k.Name s) = s ≢ codes "this"
IsSpelledOther _ = Unit {0}

-- where no name among the tokens is spelled `this`, nothing is declared under it
abbrev pub DerivedHaveThisFree : Type 0
DerivedHaveThisFree = (tokens : List Token) (p : Code) → All (λ (t : Token). IsSpelledOther t.kind) tokens
    → Derives tokens p → ThisIsFree p
