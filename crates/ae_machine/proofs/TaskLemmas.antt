-- Levels of a stack of frames with one more, and where a step leads.
use Rattle.std.proofs.Common.{◌≡◌, ap, sym, subst, ℕ, List, [], ◌∷◌, ◌++◌, OnOk, IfErr}
use Rattle.std.specs.Prelude.{map, Result, Ok, Err}
use Rattle.std.proofs.lemmas.List.{reverse-append}
use Rattle.ae_semantics.specs.Observations.{Seen}
use Rattle.ae_semantics.specs.Runs.{Run}
use Rattle.ae_machine.specs.declared.frame.Frame.{Frame}
use Rattle.ae_levels.specs.declared.halt.Halt.{Halt}
use Rattle.ae_levels.specs.declared.halt.Halt.TheVariants as halt
use Rattle.ae_levels.specs.Levels.{Level}
use Rattle.ae_machine.specs.Frames.{level, levels}
use Rattle.ae_levels.specs.Halting.{HaltsAs, LeadsTo}

-- the frame that was pushed last is the innermost level
pub levels_with : (fs : List Frame) (f : Frame) → levels (fs ++ (f ∷ [])) ≡ level f ∷ levels fs
levels_with fs f = ap (map level) (reverse-append fs (f ∷ []))

-- A step that comes to these levels, or wants memory, leads to what is so of these levels.
pub leads_when_ok : {B : Type 0} (whole : Run (List Seen)) (out : List ℕ) (so : List Level → Type 0)
    (r : Result B Halt) (ls l : List Level) → OnOk r (ls ≡ l) → IfErr r (λ e. e ≡ halt.Memory) → so l
    → LeadsTo whole out (so ls) r
leads_when_ok whole out so (Ok x) ls l h k g = subst so (sym h) g
leads_when_ok whole out so (Err e) ls l h k g = subst (λ (y : Halt). HaltsAs whole out y) (sym k) tt

-- what follows of an answer that is none but for a refusal
pub then_ok : {A E : Type 0} {P Q : Type 0} (r : Result A E) → (P → Q) → OnOk r P → OnOk r Q
then_ok (Ok x) f h = f h
then_ok (Err e) f h = tt
