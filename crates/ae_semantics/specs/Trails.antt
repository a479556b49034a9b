-- What the meaning past what stopped finds and leaves at each statement.
use Rattle.std.specs.Prelude.{◌≡◌, ℕ, ℤ, List, [], ◌∷◌, ◌++◌, Option}
use Rattle.ae_tree.specs.Plain.{Code}
use Rattle.ae_rules.specs.Blocks.{Scene}
use Rattle.ae_semantics.specs.Places.{State}
use Rattle.ae_semantics.specs.Moments.{Moment, moment_of}
use Rattle.ae_semantics.specs.Observations.{Seen, Query, Notes}
use Rattle.ae_semantics.specs.Runs.{Run, Went, Ends, Stops, Act, Where, deeper, Order, flow_step, flow_close, Machine}
use Rattle.ae_semantics.specs.Means.{meant, run, notes_of}
use Rattle.ae_semantics.specs.Atom.{part, by_query}

-- the values before a statement or behind it: where it stands, its block and its number there
pub record Passage : Type 0 where
  pub here : Where
  pub block : Scene
  pub number : ℕ
  pub moment : Moment

-- what statements found, and what those that went through left
pub record Trail : Type 0 where
  pub found : List Passage
  pub left : List Passage

-- the values at statement j of the block, as its path is there
abbrev pub passage : {W : Type 0} → Where → Scene → ℕ → State → Notes W → Passage
passage here all j s n = record { here = deeper j here; block = all; number = j; moment = moment_of s n }

-- this was found
abbrev pub with_found : Passage → Notes Trail → Notes Trail
with_found x n = record n { watch = record { found = n.watch.found ++ (x ∷ []); left = n.watch.left } }

-- this was left
abbrev pub with_left : Passage → Notes Trail → Notes Trail
with_left x n = record n { watch = record { found = n.watch.found; left = n.watch.left ++ (x ∷ []) } }

-- a statement that went through has left the values that follow it
abbrev pub behind : Where → Scene → ℕ → Run Trail → Run Trail
behind here all j (Went s n) = Went s (with_left (passage here all j s n) n)
behind here all j (Ends ending n) = Ends ending n
behind here all j (Stops n) = Stops n

-- a statement, with what it found and what it left noted
abbrev pub watched : Where → Scene → ℕ → Act Trail → Act Trail
watched here all j act s n = behind here all j (act s (with_found (passage here all j s n) n))

-- the way past what stopped, which notes what each statement finds and leaves and changes nothing else
abbrev pub watching : Code → Order Trail
watching p = record {
  step = λ here all j barred act next s n. flow_step p here all j barred (watched here all j act) next s n;
  close = flow_close;
}

-- the machine of `part`, watched
abbrev pub watching_machine : Code → (Query → Option Seen) → Machine Trail
watching_machine p table = record { code = p; observer = by_query table; order = watching p }

-- nothing was found or left yet
abbrev pub no_trail : Trail
no_trail = record { found = []; left = [] }

-- the run of `part` once more, for what its statements find and leave
abbrev pub watched_run : Code → List ℤ → ℕ → (Query → Option Seen) → Run Trail
watched_run p ints fuel table = run (watching_machine p table) ints fuel no_trail

-- what the statements of `part` found and left, with these observations
unfoldable pub trail : Code → List ℤ → ℕ → (Query → Option Seen) → Trail
trail p ints fuel table = (notes_of (watched_run p ints fuel table)).watch

-- the run that is watched comes to what `part` comes to
abbrev pub WatchingChangesNothing : Type 0
WatchingChangesNothing = (p : Code) (ints : List ℤ) (fuel : ℕ) (table : Query → Option Seen)
    → meant (watched_run p ints fuel table) ≡ part p ints fuel table
