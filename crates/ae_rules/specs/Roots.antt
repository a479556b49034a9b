-- The locals that a statement names as roots of paths, by its text alone, and that it uses each of them.
use Rattle.std.specs.Prelude.{◌≡◌, ℕ, true, List, [], ◌∷◌, ◌++◌, is_some}
use Rattle.ae_text.specs.declared.refusal.Spot.{Spot}
use Rattle.ae_rules.specs.declared.uses.Resource.TheVariants as resource
use Rattle.ae_tree.specs.WellShaped.{WellShaped}
use Rattle.ae_tree.specs.Plain.{Expression, Number, Truth, Nothing, Read, Item, Length, Grouped, Negated, Minus}
use Rattle.ae_tree.specs.Plain.{Binary, RightSide, Value, Taken}
use Rattle.ae_tree.specs.Plain.{Zeros, Made, Returned, Lines, End, Next, Definition, Code}
use Rattle.ae_tree.specs.Plain.{Action, Declares, Assigns, Stores, StoresAt, Calls, Chooses, ChoosesElse, Repeats}
use Rattle.ae_tree.specs.Plain.{Groups, Splits, Locks}
use Rattle.ae_tree.specs.Plain.{Freezes, Shares, Prints, PrintsText, Asserts, Returns}
use Rattle.ae_rules.specs.Lookups.{has_name}
use Rattle.ae_rules.specs.Context.{Context}
use Rattle.ae_rules.specs.Calls.{givens}
use Rattle.ae_rules.specs.Judges.{Judges}
use Rattle.ae_rules.specs.Uses.{statement_uses}

abbrev pub value_roots : Expression → List ℕ
value_roots (Number n at) = []
value_roots (Truth b at) = []
value_roots (Nothing at) = []
value_roots (Read path) = path.root.name ∷ []
value_roots (Item path e) = path.root.name ∷ value_roots e
value_roots (Length path at) = path.root.name ∷ []
value_roots (Grouped e at) = value_roots e
value_roots (Negated e at) = value_roots e
value_roots (Minus e at) = value_roots e
value_roots (Binary o a b) = value_roots a ++ value_roots b

abbrev pub roots_of_all : List Expression → List ℕ
roots_of_all [] = []
roots_of_all (e ∷ es) = value_roots e ++ roots_of_all es

abbrev pub right_roots : RightSide → List ℕ
right_roots (Value e) = value_roots e
right_roots (Taken path at) = path.root.name ∷ []
right_roots (Zeros e at) = value_roots e
right_roots (Made x gs args at) = roots_of_all args
right_roots (Returned i) = roots_of_all (givens i)

abbrev mutual
  -- the roots in a statement and in its blocks, and the names that it assigns, freezes or shares
  pub statement_roots : Action → List ℕ
  statement_roots (Declares t x e) = right_roots e
  statement_roots (Assigns x e) = x.name ∷ right_roots e
  statement_roots (Stores path e) = path.root.name ∷ value_roots e
  statement_roots (StoresAt path i e) = path.root.name ∷ value_roots i ++ value_roots e
  statement_roots (Calls i) = roots_of_all (givens i)
  statement_roots (Chooses e n b) = value_roots e ++ lines_roots b
  statement_roots (ChoosesElse e n b k b') = value_roots e ++ (lines_roots b ++ lines_roots b')
  statement_roots (Repeats e n b) = value_roots e ++ lines_roots b
  statement_roots (Groups g) = []
  statement_roots (Splits gs n b) = lines_roots b
  statement_roots (Locks g n b) = lines_roots b
  statement_roots (Freezes x) = x.name ∷ []
  statement_roots (Shares x g) = x.name ∷ []
  statement_roots (Prints e) = value_roots e
  statement_roots (PrintsText s) = []
  statement_roots (Asserts e) = value_roots e
  statement_roots (Returns e) = value_roots e

  pub lines_roots : Lines → List ℕ
  lines_roots End = []
  lines_roots (Next at a rest) = statement_roots a ++ lines_roots rest

-- in a well-shaped program each local that a judged statement names, in its blocks too, the statement uses, where the local is visible before it
abbrev pub RootsAreUsed : Type 0
RootsAreUsed = (p : Code) → WellShaped p → (m : Definition) (at : Spot) (a : Action) (c d : Context)
    → Judges p m at a c d
    → (x : ℕ) → is_some (c.local x) ≡ true → has_name (statement_roots a) x ≡ true
    → is_some (statement_uses p m a c (resource.Local x)) ≡ true
