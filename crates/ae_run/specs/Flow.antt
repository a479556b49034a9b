-- What each statement of a block finds and comes to in source order, by its number.
use Rattle.std.specs.Prelude.{◌≡◌, ◌<◌, ◌≤◌, ℕ, zero, suc, Bool, true, false, List, [], Option, None, Some}
use Rattle.ae_rules.specs.declared.uses.Resource.TheVariants.{Local}
use Rattle.ae_rules.specs.declared.uses.Mode.{Mode}
use Rattle.ae_tree.specs.Plain.{Lines, End, Next}
use Rattle.ae_rules.specs.Edges.{is_strong, BlockUses, Edge}
use Rattle.ae_meaning.specs.Values.{Env, empty}
use Rattle.ae_meaning.specs.Meaning.{Run, Went, Ends, Stops, today_one}

-- a statement alone: with these locals, and nothing printed before
abbrev pub alone : Lines → ℕ → Env → Run
alone End j env = Stops []
alone (Next at a rest) zero env = today_one at a (record { env = env; log = [] })
alone (Next at a rest) (suc j) env = alone rest j env

-- the locals after a statement; one that does not go through leaves them as they were
abbrev pub locals_after : Run → Env → Env
locals_after (Went s) env = s.env
locals_after (Ends ending log) env = env
locals_after (Stops log) env = env

-- the locals that a statement finds, where the first one finds these
abbrev pub found_from : Env → Lines → ℕ → Env
found_from env b zero = env
found_from env End (suc j) = env
found_from env (Next at a rest) (suc j) = found_from
    (locals_after (today_one at a (record { env = env; log = [] })) env) rest j

-- the locals that a statement finds in source order
abbrev pub found_by : Lines → ℕ → Env
found_by b j = found_from empty b j

-- what a statement comes to in source order
abbrev pub turn : Lines → ℕ → Run
turn b j = alone b j (found_by b j)

-- a use by Write or GroupWhole
abbrev pub is_strong_use : Option Mode → Bool
is_strong_use None = false
is_strong_use (Some m) = is_strong m

-- a statement writes this local
abbrev pub writes_local : BlockUses → ℕ → ℕ → Bool
writes_local uses k y = is_strong_use (uses k (Local y))

-- what a statement that went through waits for went through
abbrev pub IsClosed : BlockUses → (ℕ → Bool) → Type 0
IsClosed uses went = (i j : ℕ) → Edge uses i j → went j ≡ true → went i ≡ true

-- where all that write a local before statement m went through, and none from m on, the local is as statement m finds it in source order
abbrev pub HasValues : Lines → BlockUses → (ℕ → Bool) → Env → Type 0
HasValues b uses went env = (y m : ℕ) → ((k : ℕ) → k < m → writes_local uses k y ≡ true → went k ≡ true)
    → ((k : ℕ) → m ≤ k → writes_local uses k y ≡ true → went k ≡ false) → env y ≡ found_by b m y

-- a statement can be run: it did not go through, and all for which it waits did
pub record IsReady (uses : BlockUses) (went : ℕ → Bool) (j : ℕ) : Type 0 where
  pub left : went j ≡ false
  pub waits : (i : ℕ) → Edge uses i j → went i ≡ true

-- a run went through and printed these bytes
abbrev pub Prints : Run → List ℕ → Type 0
Prints (Went s) bytes = s.log ≡ bytes
Prints (Ends ending log) bytes = ⊥
Prints (Stops log) bytes = ⊥
