-- Which instances of some programs are first, and which conflict.
use Rattle.std.proofs.Common.{◌≡◌, ◌<◌, inr, refl, arith, zero, suc, ℕ, true, false, [], ◌∷◌, Option, None, Some}
use Rattle.ae_rules.specs.declared.uses.Resource.{Resource}
use Rattle.ae_rules.specs.declared.uses.Resource.TheVariants as resource
use Rattle.ae_rules.specs.declared.uses.Mode.TheVariants.{Read, GroupShared, GroupWhole}
use Rattle.ae_rules.specs.Edges.{IsConflict, Direct, Edge}
use Rattle.ae_tree.specs.Plain.{Code}
use Rattle.ae_rules.specs.Blocks.{scene_uses}
use Rattle.ae_rules.specs.Instances.{Instance, Point, InBlock, AtChoice, AtLoop, Nowhere, Parting, parting, first_point}
use Rattle.ae_rules.specs.Instances.{IsFirstAt, Ordered, Conflict, uses_from}
use Rattle.ae_rules.specs.Paths.{comes_before, is_simple_at}
use Rattle.ae_worked.proofs.GroupUseExamples.{blocks_with_a_local, four_in_a_group}
use Rattle.ae_worked.proofs.UseExamples.{branch_reads_and_writes, lent_twice_then_changed, loop_counts}

-- ---- words for the examples

abbrev ConflictOn : Code → Resource → Option Parting → Type 0
ConflictOn p r None = ⊥
ConflictOn p r (Some k) = IsConflict (uses_from p k.at (k.left ∷ k.left_rest) r)
    (uses_from p k.at (k.right ∷ k.right_rest) r)

conflict : (p : Code) (q s : Instance) (r : Resource) (o : Option Parting) → parting p q s ≡ o → ConflictOn p r o
    → Conflict p q s
conflict p q s r None e h = absurd h
conflict p q s r (Some k) e h = record { fork = k; parts = e; on = r; conflict = h }

-- an edge between the statements at which they part, or two turns of a loop
abbrev EdgeAt : Code → Point → ℕ → ℕ → Type 0
EdgeAt p (InBlock locked s) i j = Edge (scene_uses p s) i j
EdgeAt p (AtChoice locked s other) i j = ⊥
EdgeAt p (AtLoop locked uses s) i j = i < j
EdgeAt p Nowhere i j = ⊥

abbrev PartsByEdge : Code → Option Parting → Type 0
PartsByEdge p None = ⊥
PartsByEdge p (Some k) = EdgeAt p k.at k.left k.right

first_at : (p : Code) (at : Point) (i j : ℕ) → EdgeAt p at i j → IsFirstAt p at i j
first_at p (InBlock locked s) i j h = inr (Direct i j h)
first_at p (AtChoice locked s other) i j h = absurd h
first_at p (AtLoop locked uses s) i j h = h
first_at p Nowhere i j h = absurd h

ordered : (p : Code) (q s : Instance) (o : Option Parting) → parting p q s ≡ o → PartsByEdge p o → Ordered p q s
ordered p q s None e h = absurd h
ordered p q s (Some k) e h = record { fork = k; parts = e; order = first_at p k.at k.left k.right h }

-- ---- calls

-- The body of `get` reads what is lent to it, and that of `put` writes it; both count for the local of `main`.
get_and_put-conflict : Conflict lent_twice_then_changed (1 ∷ 0 ∷ []) (3 ∷ 0 ∷ [])
get_and_put-conflict = conflict lent_twice_then_changed (1 ∷ 0 ∷ []) (3 ∷ 0 ∷ []) (resource.Local 9)
    (parting lent_twice_then_changed (1 ∷ 0 ∷ []) (3 ∷ 0 ∷ [])) refl refl

get_and_put-ordered : Ordered lent_twice_then_changed (1 ∷ 0 ∷ []) (3 ∷ 0 ∷ [])
get_and_put-ordered = ordered lent_twice_then_changed (1 ∷ 0 ∷ []) (3 ∷ 0 ∷ [])
    (parting lent_twice_then_changed (1 ∷ 0 ∷ []) (3 ∷ 0 ∷ [])) refl
    (record {
      before = omega arith;
      on = resource.Local 9;
      conflict = refl;
      clear = elim [
        | zero ↦ (λ l m. absurd (omega (arith, l)))
        | suc zero ↦ (λ l m. absurd (omega (arith, l)))
        | suc (suc zero) ↦ (λ l m. refl)
        | suc (suc (suc k)) ↦ (λ l m. absurd (omega (arith, m)))
      ];
    })

-- a number that is given counts for nothing outside
number_given : uses_from lent_twice_then_changed (first_point lent_twice_then_changed) (3 ∷ 0 ∷ [])
    (resource.Local 10) ≡ None
number_given = refl

-- a path does not part from its beginning
inside_itself : parting lent_twice_then_changed (3 ∷ []) (3 ∷ 0 ∷ []) ≡ None
inside_itself = refl

-- ---- groups

-- what an atomic block does to a member counts outside as a use together with others
bump-in_main : uses_from four_in_a_group (first_point four_in_a_group) (3 ∷ 0 ∷ 0 ∷ 0 ∷ []) (resource.Group 6)
    ≡ Some GroupShared
bump-in_main = refl

bump-reads : uses_from four_in_a_group (first_point four_in_a_group) (3 ∷ 0 ∷ 0 ∷ 0 ∷ []) (resource.Local 7)
    ≡ Some Read
bump-reads = refl

-- the split statement itself uses the whole group
split-whole : uses_from four_in_a_group (first_point four_in_a_group) (3 ∷ []) (resource.Group 6) ≡ Some GroupWhole
split-whole = refl

-- what an atomic block does conflicts with a read of the member after the split block
bump_and_print-conflict : Conflict four_in_a_group (3 ∷ 0 ∷ 0 ∷ 0 ∷ []) (4 ∷ [])
bump_and_print-conflict = conflict four_in_a_group (3 ∷ 0 ∷ 0 ∷ 0 ∷ []) (4 ∷ []) (resource.Group 6)
    (parting four_in_a_group (3 ∷ 0 ∷ 0 ∷ 0 ∷ []) (4 ∷ [])) refl refl

-- a local that two atomic blocks of one group use
local_in_blocks-conflict : Conflict blocks_with_a_local (4 ∷ 0 ∷ 0 ∷ []) (4 ∷ 2 ∷ 0 ∷ [])
local_in_blocks-conflict = conflict blocks_with_a_local (4 ∷ 0 ∷ 0 ∷ []) (4 ∷ 2 ∷ 0 ∷ []) (resource.Local 7)
    (parting blocks_with_a_local (4 ∷ 0 ∷ 0 ∷ []) (4 ∷ 2 ∷ 0 ∷ [])) refl refl

-- ---- branches and loops

-- a branch has a number of its own
branch-conflict : Conflict branch_reads_and_writes (1 ∷ []) (2 ∷ 0 ∷ 1 ∷ [])
branch-conflict = conflict branch_reads_and_writes (1 ∷ []) (2 ∷ 0 ∷ 1 ∷ []) (resource.Local 4)
    (parting branch_reads_and_writes (1 ∷ []) (2 ∷ 0 ∷ 1 ∷ [])) refl refl

-- what a branch declares counts for nothing outside
branch-declares : uses_from branch_reads_and_writes (first_point branch_reads_and_writes) (2 ∷ 0 ∷ 0 ∷ [])
    (resource.Local 5) ≡ None
branch-declares = refl

-- the earlier turn of a loop is first
turns-ordered : Ordered loop_counts (2 ∷ 0 ∷ 1 ∷ []) (2 ∷ 1 ∷ 0 ∷ [])
turns-ordered = ordered loop_counts (2 ∷ 0 ∷ 1 ∷ []) (2 ∷ 1 ∷ 0 ∷ [])
    (parting loop_counts (2 ∷ 0 ∷ 1 ∷ []) (2 ∷ 1 ∷ 0 ∷ [])) refl (omega arith)

-- two turns of a loop conflict on a local outside
turns-conflict : Conflict loop_counts (2 ∷ 0 ∷ 0 ∷ []) (2 ∷ 1 ∷ 1 ∷ [])
turns-conflict = conflict loop_counts (2 ∷ 0 ∷ 0 ∷ []) (2 ∷ 1 ∷ 1 ∷ []) (resource.Local 3)
    (parting loop_counts (2 ∷ 0 ∷ 0 ∷ []) (2 ∷ 1 ∷ 1 ∷ [])) refl refl

-- ---- source order, and simple statements

-- a path comes before those that go on from it
turn-before_its_statements : comes_before (2 ∷ 1 ∷ []) (2 ∷ 1 ∷ 0 ∷ []) ≡ true
turn-before_its_statements = refl

later_turn-not_before : comes_before (2 ∷ 1 ∷ []) (2 ∷ 0 ∷ 5 ∷ []) ≡ false
later_turn-not_before = refl

-- an atomic block in a call is simple, and the call is not
block_in_call-simple : is_simple_at four_in_a_group (3 ∷ 0 ∷ 0 ∷ []) ≡ true
block_in_call-simple = refl

call-not_simple : is_simple_at four_in_a_group (3 ∷ 0 ∷ []) ≡ false
call-not_simple = refl

-- a statement in a turn is simple, and the turn and the loop are not
statement_in_turn-simple : is_simple_at loop_counts (2 ∷ 1 ∷ 0 ∷ []) ≡ true
statement_in_turn-simple = refl

turn-not_simple : is_simple_at loop_counts (2 ∷ 1 ∷ []) ≡ false
turn-not_simple = refl

loop-not_simple : is_simple_at loop_counts (2 ∷ []) ≡ false
loop-not_simple = refl

-- nothing stands where no statement is
no_statement-not_simple : is_simple_at loop_counts (9 ∷ []) ≡ false
no_statement-not_simple = refl
