-- Rows of a small program under way, which are reached: one statement has ended, one went through, one is left out.
use Rattle.std.proofs.Common.{◌≡◌, refl, arith, nat_eq, Bool, true, false, if◌then◌else◌, List, []}
use Rattle.std.proofs.Common.{◌∷◌, None, Some, inl}
use Rattle.std.proofs.lemmas.Bool.{eqb-true}
use Rattle.ae_rules.specs.declared.uses.Resource.{Resource}
use Rattle.ae_rules.specs.declared.uses.Resource.TheVariants.{Local, Group}
use Rattle.ae_rules.specs.declared.uses.Mode.TheVariants as mode
use Rattle.ae_rules.specs.Edges.{IsConflict}
use Rattle.ae_rules.specs.Uses.{stronger}
use Rattle.ae_rules.specs.Blocks.{Scene, scene_uses}
use Rattle.ae_semantics.specs.declared.report.Ending.TheVariants.{Trap}
use Rattle.ae_semantics.specs.Runs.{whole_block}
use Rattle.ae_semantics.specs.Meaning.{one, many, below}
use Rattle.ae_semantics.specs.Means.{Start, run_start}
use Rattle.ae_semantics.specs.BlockTrees.{main_entry}
use Rattle.ae_semantics.specs.BlockRows.{BlockRow, RowStage, Waiting, Finished, Halted, LeftOut}
use Rattle.ae_semantics.specs.RowTrees.{Reached}
use Rattle.ae_worked.proofs.ProgramWords.{at}
use Rattle.ae_semantics.specs.RowTrees.{nothing_gained}
use Rattle.ae_worked.proofs.UnfoldingExamples.{every, no_values, two_in_b}
use Rattle.ae_worked.proofs.RunExamples.{trap_beside_a_print}

-- where the program begins
abbrev begins : (x : Start) × (run_start trap_beside_a_print [] ≡ Some x)
begins = (_, refl)

-- the first statement trapped, the second left its local, the third is left out, and the print waits
abbrev first_stage : RowStage
first_stage =
    Halted (record { ending = Trap 2 (at 2 1); log = []; cell = None; events = 0; cells = 0 }) nothing_gained

abbrev halfway_rows : List BlockRow
halfway_rows = record {
  fuel = 100;
  entry = main_entry begins.0;
  stages = first_stage ∷ Finished two_in_b nothing_gained ∷ LeftOut ∷ Waiting ∷ [];
} ∷ []

-- two locals are not one
clash_free : (a b : Bool) → (a ≡ true → b ≡ true → ⊥)
    → IsConflict (stronger (if a then Some mode.Write else None) None)
    (stronger (if b then Some mode.Write else None) None) → ⊥
clash_free true true h c = h refl refl
clash_free true false h c = c
clash_free false true h c = c
clash_free false false h c = c

abbrev main_block : Scene
main_block = whole_block (main_entry begins.0).lines (main_entry begins.0).here

locals_do_not_clash : (r : Resource)
    → IsConflict (scene_uses trap_beside_a_print main_block 0 r) (scene_uses trap_beside_a_print main_block 1 r) → ⊥
locals_do_not_clash (Local x) c = clash_free (nat_eq 3 x) (nat_eq 4 x) apart c
  where
    apart : nat_eq 3 x ≡ true → nat_eq 4 x ≡ true → ⊥
    apart d e = let i : 3 ≡ x = eqb-true 3 x d in let j : 4 ≡ x = eqb-true 4 x e in omega (arith, i, j)
locals_do_not_clash (Group g) c = c

halfway_rows-reached : Reached trap_beside_a_print [] 100 halfway_rows
unfolding one many below
halfway_rows-reached = record {
  begins = begins.0;
  start = refl;
  body = _;
  first = refl;
  entered = (refl, refl);
  each = every _ halfway_rows (
    record {
      counted = refl;
      each = (
        (
          every _ [] tt,
          record {
            values = no_values;
            found = record {
              locals = λ x h. refl;
              groups = λ g h. refl;
              result = refl;
              log = λ h. refl;
              cell = λ h. refl;
            };
            notes = _;
            runs = refl;
            log = λ h. refl;
            cell = λ h. refl;
            asked = refl;
            entered = refl;
            answers = every _ [] tt;
            past = λ more h. record { asked = every _ [] tt; entered = every _ [] tt };
          },
        ),
        (
          (
            every _ (0 ∷ []) ((λ c. locals_do_not_clash c.0 c.1), tt),
            record {
              values = no_values;
              found = record {
                locals = λ x h. refl;
                groups = λ g h. refl;
                result = refl;
                log = λ h. refl;
                cell = λ h. refl;
              };
              state = _;
              notes = _;
              runs = refl;
              left = record {
                locals = λ x h. refl;
                groups = λ g h. refl;
                result = refl;
                log = λ h. refl;
                cell = λ h. refl;
              };
              told = record {
                asked = refl;
                entered = refl;
                answers = every _ [] tt;
                ends = every _ [] tt;
              };
            },
          ),
          ((0, (0, omega arith, refl), (Local 3, refl)), (tt, tt)),
        ),
      );
    },
    tt,
  );
  differ = (every _ [] tt, tt);
  inside = every _ halfway_rows (inl refl, tt);
}
