-- Programs that go too deep, and observations that are too high.
use Rattle.std.specs.Prelude.{refl, ℕ, zero, suc, nat_eq, pos, if◌then◌else◌, List, [], ◌∷◌, None, Some}
use Rattle.ae_tree.specs.declared.form.Form.TheVariants as f
use Rattle.ae_tree.specs.declared.form.Perm.TheVariants as perm
use Rattle.ae_tree.specs.declared.form.Kind.TheVariants as kind
use Rattle.ae_semantics.specs.Values.{Val, Null, Owned, Object, NoValue, AndValue}
use Rattle.ae_semantics.specs.declared.report.Ending.TheVariants.{Done, Trap}
use Rattle.ae_semantics.specs.Observations.{Seen, OfBlock, OfCell, OfStore, Gave}
use Rattle.ae_semantics.specs.Meaning.{one, many, below}
use Rattle.ae_semantics.specs.Means.{mean}
use Rattle.ae_worked.proofs.ProgramWords.{at}
use Rattle.ae_worked.proofs.MeaningWords.{line, Comes, Waits, nothing_out}
use Rattle.ae_worked.proofs.NewExamples.{answer_too_high, cell_too_high}
use Rattle.ae_worked.proofs.RunExamples.{method_calls_itself, object_just_low_enough, object_too_high}

-- The call at depth 1,000 is a trap, though there is fuel.
call_too_deep-comes : Comes method_calls_itself [] 1100 [] (Trap 6 (at 1 22)) [] 0
unfolding mean one many below
call_too_deep-comes = record { ending = refl; out = refl; used = refl }

-- A local does not become higher than 1,000.
object_too_high-comes : Comes object_too_high [] 1100 [] (Trap 8 (at 5 1)) [] 0
unfolding mean one many below
object_too_high-comes = record { ending = refl; out = refl; used = refl }

-- A thousand turns make an object of the greatest height.
object_just_low_enough-comes : Comes object_just_low_enough [] 1000 [] Done (line (pos 1000) ∷ []) 0
unfolding mean one many below
object_just_low_enough-comes = record { ending = refl; out = refl; used = refl }

-- an object of this height
abbrev tower : ℕ → Val
tower zero = Null
tower (suc n) = Owned (Object 3 (AndValue (tower n) NoValue))

-- a cell with one member, an object of this height
abbrev cell_of_height : ℕ → Seen
cell_of_height n = OfCell (OfStore (Object 3 (AndValue (tower n) NoValue) ∷ []))

cell_too_high-waits : Waits cell_too_high [] 100 (cell_of_height 1000 ∷ []) [] 0
unfolding mean one many below
cell_too_high-waits = record { ending = refl; out = refl; used = refl }

cell_just_low_enough-comes : Comes cell_too_high [] 100 (cell_of_height 999 ∷ []) Done (line (pos 1) ∷ []) 1
unfolding mean one many below
cell_just_low_enough-comes = record { ending = refl; out = refl; used = refl }

-- a block's answer that gives a local an object of this height, and its cell, which is empty
abbrev answer_of_height : ℕ → List Seen
answer_of_height n =
    OfBlock (Gave (record nothing_out {
      locals = λ x. if nat_eq 6 x then Some
          (record { form = f.Object perm.Unique (kind.Class 3 []); value = tower n }) else None;
    }))
    ∷ OfCell (OfStore []) ∷ []

answer_too_high-waits : Waits answer_too_high [] 100 (answer_of_height 1001) [] 0
unfolding mean one many below
answer_too_high-waits = record { ending = refl; out = refl; used = refl }

answer_just_low_enough-comes : Comes answer_too_high [] 100 (answer_of_height 1000) Done (line (pos 1) ∷ []) 2
unfolding mean one many below
answer_just_low_enough-comes = record { ending = refl; out = refl; used = refl }
