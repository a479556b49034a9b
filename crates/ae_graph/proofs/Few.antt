-- How many statements stand in the blocks of a program within the limits.
use Rattle.std.proofs.Common.{◌≤◌, ◌≡◌, ℕ, ◌-◌, false, List, [], ◌∷◌, Some}
use Rattle.std.specs.List.{All}
use Rattle.std.proofs.lemmas.List.Elements.{All-append, All-nil, All-cons}
use Rattle.ae_tree.specs.declared.limits.Limit.TheVariants as limit
use Rattle.ae_tree.specs.Limits.{statement_count, KeepsIn, EachKeeps, KeepsMethod, Within}
use Rattle.ae_tree.specs.Plain.{Action, Declares, Assigns, Stores, StoresAt, Calls, Chooses, ChoosesElse, Repeats}
use Rattle.ae_tree.specs.Plain.{Groups, Splits, Locks, Freezes, Shares, Prints, PrintsText, Asserts, Returns, Lines}
use Rattle.ae_tree.specs.Plain.{End, Next, Definition, Code}
use Rattle.ae_rules.specs.Verdict.{Verdict, Holds, Broken, judged}
use Rattle.ae_rules.specs.Lookups.{method_at}
use Rattle.ae_rules.specs.Context.{Context}
use Rattle.ae_rules.specs.Statements.{while_split, judge_statement}
use Rattle.ae_rules.specs.Judges.{start}
use Rattle.ae_graph.proofs.from_rules.BelowLemmas.{found_has}
use Rattle.ae_rules.specs.Blocks.{Opened, block_at, scenes_in, scenes_among, scenes}

-- the block has at most 1,024 statements
abbrev pub IsFewIn : Opened → Type 0
IsFewIn x = statement_count x.1.lines ≤ 1024

no_blocks : All IsFewIn []
no_blocks = All-nil IsFewIn

-- a block, and those inside it
one_block : (k : ℕ) (m : Definition) (b : Lines) (c : Context) (xs : List Opened) → statement_count b ≤ 1024
    → All IsFewIn xs → All IsFewIn ((k, block_at m b c) ∷ xs)
one_block k m b c xs f h = All-cons IsFewIn (k, block_at m b c) xs f h

if_judged : (v : Verdict Context) (f : Context → List Opened) → ((d : Context) → All IsFewIn (f d))
    → All IsFewIn (judged v [] f)
if_judged (Holds d) f h = h d
if_judged (Broken rule at) f h = no_blocks

mutual
  few_in : (p : Code) (m : Definition) (n : ℕ) (a : Action) → KeepsIn limit.Statements n a → (c : Context)
      → All IsFewIn (scenes_in p m false a c)
  few_in p m n (Declares t x e) h c = no_blocks
  few_in p m n (Assigns x e) h c = no_blocks
  few_in p m n (Stores q e) h c = no_blocks
  few_in p m n (StoresAt q i e) h c = no_blocks
  few_in p m n (Calls i) h c = no_blocks
  few_in p m n (Chooses e k b) h c = one_block k m b c _ h.2 (few_among p m (n - 1) b h.3 c)
  few_in p m n (ChoosesElse e k b l d) h c =
      All-append IsFewIn ((k, block_at m b c) ∷ scenes_among p m false b c)
      ((l, block_at m d c) ∷ scenes_among p m false d c)
      (one_block k m b c _ h.2.0 (few_among p m (n - 1) b h.2.1 c))
      (one_block l m d c _ h.3 (few_among p m (n - 1) d h.4 c))
  few_in p m n (Repeats e k b) h c = one_block k m b c _ h.2 (few_among p m (n - 1) b h.3 c)
  few_in p m n (Groups g) h c = no_blocks
  few_in p m n (Splits gs k b) h c = one_block k m b (while_split gs c) _ h.1
      (few_among p m (n - 1) b h.2 (while_split gs c))
  few_in p m n (Locks g k b) h c = no_blocks
  few_in p m n (Freezes x) h c = no_blocks
  few_in p m n (Shares x g) h c = no_blocks
  few_in p m n (Prints e) h c = no_blocks
  few_in p m n (PrintsText s) h c = no_blocks
  few_in p m n (Asserts e) h c = no_blocks
  few_in p m n (Returns e) h c = no_blocks

  few_among : (p : Code) (m : Definition) (n : ℕ) (b : Lines) → EachKeeps limit.Statements n b → (c : Context)
      → All IsFewIn (scenes_among p m false b c)
  few_among p m n End h c = no_blocks
  few_among p m n (Next at a rest) h c = All-append IsFewIn (scenes_in p m false a c) _ (few_in p m n a h.0 c)
      (if_judged (judge_statement p m at a c) (scenes_among p m false rest)
      (λ d. few_among p m n rest h.1 d))

-- in a program within the limits the blocks of each method that are not inside an atomic block have few statements
pub blocks_are_few : (p : Code) → Within p → (k : ℕ) (m : Definition) → method_at p k ≡ Some m
    → All IsFewIn (scenes p m)
blocks_are_few p w k m e =
    let h : KeepsMethod limit.Statements m = found_has (KeepsMethod limit.Statements) p.methods k m (w limit.Statements) e in
    one_block m.no m m.body (start p m) (scenes_among p m false m.body (start p m)) h.1.0
    (few_among p m 63 m.body h.1.1 (start p m))
