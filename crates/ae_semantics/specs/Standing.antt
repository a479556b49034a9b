-- Where a statement of the text stands when it runs, and where the atomic block of such a statement is found again.
use Rattle.ae_rules.specs.Edges.{Uses}
use Rattle.std.specs.Prelude.{◌≡◌, ℕ, false, Option, None, Some, option_map}
use Rattle.ae_tree.specs.declared.tree.NameAt.{NameAt}
use Rattle.ae_tree.specs.declared.tree.StmtAt.{StmtAt}
use Rattle.ae_tree.specs.WellShaped.{WellShaped}
use Rattle.ae_tree.specs.Plain.{Action, Locks, Lines, Definition, Code}
use Rattle.ae_rules.specs.Verdict.{given}
use Rattle.ae_rules.specs.Lookups.{method_at}
use Rattle.ae_rules.specs.Context.{Context}
use Rattle.ae_rules.specs.Uses.{statement_at, context_at}
use Rattle.ae_rules.specs.Blocks.{Scene, scene}
use Rattle.ae_rules.specs.Instances.{Instance}
use Rattle.ae_semantics.specs.Places.{State}
use Rattle.ae_semantics.specs.Runs.{Where, locking, whole_block}
use Rattle.ae_semantics.specs.Blocks.{ask_of}
use Rattle.ae_semantics.specs.Atom.{located}

-- the statement with these numbers
abbrev pub standing_action : Code → StmtAt → Option Action
standing_action p x = given (method_at p x.method) None
    (λ (m : Definition). given (scene p m x.block) None (λ (b : Scene). statement_at b.lines x.stmt))

-- Where the statement with these numbers stands, when it runs at this depth and path and outside of every running
-- atomic block. There is such a place as far as the statements before it in its block are judged.
abbrev pub standing : Code → StmtAt → ℕ → Instance → Option Where
standing p x depth path = given (method_at p x.method) None
    (λ (m : Definition). given (scene p m x.block) None (λ (b : Scene).
    option_map (λ (c : Context). record
    { number = x.method; method = m; depth = depth; path = path; context = c; inside = false })
    (context_at p m b.lines b.start x.stmt)))

-- In a well-shaped program what an atomic statement of the text asks is located again, with its group and with its
-- statements in the context in which they begin there
abbrev pub AsksAreLocated : Type 0
AsksAreLocated = (p : Code) → WellShaped p → (x : StmtAt) (depth : ℕ) (path : Instance) (here : Where) (g : NameAt)
    (n : ℕ) (b : Lines) (fuel : ℕ) (u : Uses) (s : State)
    → standing p x depth path ≡ Some here → standing_action p x ≡ Some (Locks g n b)
    → located p (ask_of here n fuel u s) ≡ Some (record { group = g.name; block = whole_block b (locking g here) })
