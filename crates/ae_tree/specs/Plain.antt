-- A program as plain data, with every name and every place: what each rule of the language speaks of.
use Rattle.std.specs.Prelude.{ℕ, ℤ, Bool, List, Option}
use Rattle.ae_text.specs.declared.refusal.Spot.{Spot}
use Rattle.ae_tree.specs.declared.tree.NameAt.{NameAt}
use Rattle.ae_tree.specs.declared.tree.Ty.{Ty}
use Rattle.ae_tree.specs.declared.tree.Path.{Path}
use Rattle.ae_tree.specs.declared.tree.Op.{Op}
use Rattle.ae_tree.specs.declared.tree.Me.{Me}
use Rattle.ae_tree.specs.declared.tree.Param.{Param}
use Rattle.ae_tree.specs.declared.tree.GroupNeed.{GroupNeed}
use Rattle.ae_tree.specs.declared.tree.Class.{Class}
use Rattle.ae_tree.specs.declared.tree.Decl.{Decl}

-- an expression
pub data Expression : Type 0 where
  Number : ℤ → Spot → Expression
  Truth : Bool → Spot → Expression
  Nothing : Spot → Expression
  Read : Path → Expression
  Item : Path → Expression → Expression
  Length : Path → Spot → Expression
  Grouped : Expression → Spot → Expression
  Negated : Expression → Spot → Expression
  Minus : Expression → Spot → Expression
  Binary : Op → Expression → Expression → Expression

-- a call
pub record Invocation : Type 0 where
  pub on : Option Path
  pub method : NameAt
  pub groups : List NameAt
  pub args : List Expression

-- what stands right of a =
pub data RightSide : Type 0 where
  Value : Expression → RightSide
  Taken : Path → Spot → RightSide
  Zeros : Expression → Spot → RightSide
  Made : NameAt → List NameAt → List Expression → Spot → RightSide
  Returned : Invocation → RightSide

mutual
  -- a statement without its place; a block stands as its number and its lines
  pub data Action : Type 0 where
    Declares : Ty → NameAt → RightSide → Action
    Assigns : NameAt → RightSide → Action
    Stores : Path → Expression → Action
    StoresAt : Path → Expression → Expression → Action
    Calls : Invocation → Action
    Chooses : Expression → ℕ → Lines → Action
    ChoosesElse : Expression → ℕ → Lines → ℕ → Lines → Action
    Repeats : Expression → ℕ → Lines → Action
    Groups : NameAt → Action
    Splits : List NameAt → ℕ → Lines → Action
    Locks : NameAt → ℕ → Lines → Action
    Freezes : NameAt → Action
    Shares : NameAt → NameAt → Action
    Prints : Expression → Action
    PrintsText : List ℕ → Action
    Asserts : Expression → Action
    Returns : Expression → Action

  -- statements, each with its place
  pub data Lines : Type 0 where
    End : Lines
    Next : Spot → Action → Lines → Lines

-- a method
pub record Definition : Type 0 where
  pub class : Option ℕ
  pub result : Option Ty
  pub name : NameAt
  pub groups : List NameAt
  pub me : Option Me
  pub params : List Param
  pub needs : List GroupNeed
  pub no : ℕ
  pub body : Lines

-- a whole program
pub record Code : Type 0 where
  pub names : List (List ℕ)
  pub classes : List Class
  pub methods : List Definition
  pub decls : List Decl
