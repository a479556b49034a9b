-- Where a run ends: in a call whose object does not come back.
use Rattle.std.proofs.Common.{◌≡◌, refl, sym, subst, true, [], ◌∷◌}
use Rattle.ae_rules.specs.Instances.{Instance}
use Rattle.ae_rules.specs.Paths.{comes_before}
use Rattle.ae_semantics.specs.declared.report.Ending.TheVariants.{Trap}
use Rattle.ae_semantics.specs.Observations.{Gave, OfBlock}
use Rattle.ae_semantics.specs.Meaning.{one, many, below}
use Rattle.ae_semantics.specs.Means.{mean, Meant}
use Rattle.ae_semantics.specs.Report.{ended_at, IsLater}
use Rattle.ae_worked.proofs.ReportWords.{not_both}
use Rattle.ae_worked.proofs.ProgramWords.{at}
use Rattle.ae_worked.proofs.MeaningWords.{nothing_out, Comes}
use Rattle.ae_worked.proofs.SplitRunExamples.{grown_too_high}

-- ---- a call whose object does not come back

-- The atomic block of the body has answered, and its answer is used. The trap stands at the call.
grown_too_high-comes : Comes grown_too_high [] 1100 (OfBlock (Gave nothing_out) ∷ []) (Trap 8 (at 14 1)) [] 1
unfolding mean one many below
grown_too_high-comes = record { ending = refl; out = refl; used = refl }

abbrev grown : Meant
grown = mean grown_too_high [] 1100 (OfBlock (Gave nothing_out) ∷ [])

-- it ended at the last statement of the body
grown-ended_at : ended_at grown ≡ 3 ∷ 0 ∷ 1 ∷ []
unfolding mean one many below
grown-ended_at = refl

abbrev IsAfterTrap : Instance → Type 0
IsAfterTrap q = IsLater grown (Trap 8 (at 14 1)) q

by_end : (q : Instance) → IsAfterTrap q → comes_before (3 ∷ 0 ∷ 1 ∷ []) q ≡ true
by_end q h = subst (λ (r : Instance). comes_before r q ≡ true) grown-ended_at h

-- the call, the atomic block of its body and the last statement there are not after the ending
call-not_after : IsAfterTrap (3 ∷ 0 ∷ []) → ⊥
call-not_after h = not_both _ refl (by_end (3 ∷ 0 ∷ []) h)

block_of_call-not_after : IsAfterTrap (3 ∷ 0 ∷ 0 ∷ []) → ⊥
block_of_call-not_after h = not_both _ refl (by_end (3 ∷ 0 ∷ 0 ∷ []) h)

last_of_call-not_after : IsAfterTrap (3 ∷ 0 ∷ 1 ∷ []) → ⊥
last_of_call-not_after h = not_both _ refl (by_end (3 ∷ 0 ∷ 1 ∷ []) h)

-- the statement that follows is after it
print-after : IsAfterTrap (4 ∷ [])
print-after = subst (λ (r : Instance). comes_before r (4 ∷ []) ≡ true) (sym grown-ended_at) refl
