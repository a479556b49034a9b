-- Statements of a block in another order than the source's, where those that conflict keep their order.
use Rattle.std.specs.Prelude.{◌≡◌, ◌⊎◌, List, [], ◌∷◌}
use Rattle.ae_tree.specs.Plain.{Lines, Definition, Code}
use Rattle.ae_rules.specs.Context.{Context}
use Rattle.ae_meaning.specs.Meaning.{TodayState, Run, Went, today_and_then, today_many, meaning_of_run}
use Rattle.ae_meaning.specs.Judged.{Statement, judged_statements, uses_at, AreJudged}
use Rattle.ae_meaning.specs.Frame.{today_does, Apart}

-- judged_statements one after the other, up to the first that does not go through
abbrev pub today_all : List Statement → TodayState → Run
today_all [] s = Went s
today_all (x ∷ xs) s = today_and_then (today_does x s) (today_all xs)

-- a statement that conflicts with none before it is taken out of these, and the rest is left
abbrev pub Takes : Code → Definition → List Statement → Statement → List Statement → Type 0
Takes p m [] x rest = ⊥
Takes p m (first ∷ more) x rest =
    ((first ≡ x) × (more ≡ rest))
    ⊎ ((others : List Statement) × (rest ≡ first ∷ others) × Apart (uses_at p m first) (uses_at p m x)
    × Takes p m more x others)

-- the second judged_statements are the first in an order in which each is taken out in turn
abbrev pub Reorders : Code → Definition → List Statement → List Statement → Type 0
Reorders p m xs [] = xs ≡ []
Reorders p m xs (y ∷ ys) = (rest : List Statement) × Takes p m xs y rest × Reorders p m rest ys

-- judged lines that go through do so in every such order, and lead to the same state
abbrev pub OrderIsFree : Type 0
OrderIsFree = (p : Code) (m : Definition) (b : Lines) (c : Context) → AreJudged p m b c
    → (ys : List Statement) → Reorders p m (judged_statements p m b c) ys
    → (s t : TodayState) → today_many b s ≡ Went t → today_all ys s ≡ Went t

-- a statement that is taken out of judged lines and goes through leaves the ending of the rest as it was
abbrev pub TakingKeepsEnding : Type 0
TakingKeepsEnding = (p : Code) (m : Definition) (b : Lines) (c : Context) → AreJudged p m b c
    → (x : Statement) (rest : List Statement) → Takes p m (judged_statements p m b c) x rest
    → (s t : TodayState) → today_does x s ≡ Went t → (meaning_of_run (today_all rest t)).ending
    ≡ (meaning_of_run (today_many b s)).ending
