-- Runs that keep the answers that they get, and runs with more observations.
use Rattle.std.specs.Prelude.{◌≡◌, ℕ, ℤ, List, [], ◌∷◌, ◌++◌, Option, Some, option_map, ⊤}
use Rattle.ae_text.specs.declared.refusal.Spot.{Spot}
use Rattle.ae_tree.specs.Plain.{Action, Code}
use Rattle.ae_semantics.specs.Places.{State}
use Rattle.ae_semantics.specs.Observations.{Seen, Mark, Query, Notes, Observer}
use Rattle.ae_semantics.specs.Runs.{Run, Went, Ends, Stops, Act, Where, Machine}
use Rattle.ae_semantics.specs.Meaning.{one, below}
use Rattle.ae_semantics.specs.Means.{run, notes_of, stops_at, source_machine}
use Rattle.ae_semantics.specs.Atom.{by_query}

-- the observer that also keeps its answers, in order
abbrev pub gathering : {V : Type 0} → Observer V → Observer (V × List Seen)
gathering o w q = option_map (λ (z : Seen × _). (z.0, (z.1, w.1 ++ (z.0 ∷ [])))) (o w.0 q)

-- a run by observations of what is asked, which keeps what it got
abbrev pub gathered : Code → List ℤ → ℕ → (Query → Option Seen) → Run (⊤ × List Seen)
gathered p ints fuel table = run (stops_at p (gathering (by_query table))) ints fuel (tt, [])

-- what it got, in order
abbrev pub answers : Run (⊤ × List Seen) → List Seen
answers r = (notes_of r).watch.1

-- ---- a statement

-- what a statement that stands here does, with this fuel
abbrev pub doing : {W : Type 0} → Machine W → ℕ → Where → Spot → Action → Act W
doing m fuel here at a = one m (below m fuel) here at a

-- the same notes, and the same run, of another observer
abbrev pub carry : {V W : Type 0} → (V → W) → Notes V → Notes W
carry h n = record { log = n.log; cell = n.cell; marks = n.marks; watch = h n.watch }

-- the same run for another observer
abbrev pub carried : {V W : Type 0} → (V → W) → Run V → Run W
carried h (Went s n) = Went s (carry h n)
carried h (Ends e n) = Ends e (carry h n)
carried h (Stops n) = Stops (carry h n)

-- ---- by its answers

-- A run that keeps its answers goes as it would without keeping them, and as the run by the list of exactly these
-- answers; nothing of the list is left. A run that stops for want of an answer stops there too.
abbrev pub IsByAnswers : Run (⊤ × List Seen) → Run ⊤ → (List Seen → Run (List Seen)) → Type 0
IsByAnswers r plain by_list = (plain ≡ carried (λ w. w.0) r) × (by_list (answers r) ≡ carried (λ w. []) r)

-- so does a whole run, whatever it comes to
abbrev pub GoesByItsAnswers : Type 0
GoesByItsAnswers = (p : Code) (ints : List ℤ) (fuel : ℕ) (table : Query → Option Seen)
    → IsByAnswers (gathered p ints fuel table) (run (stops_at p (by_query table)) ints fuel tt)
    (λ list. run (source_machine p) ints fuel list)

-- and a single statement, from any state and with any notes
abbrev pub StatementGoesByItsAnswers : Type 0
StatementGoesByItsAnswers = (p : Code) (fuel : ℕ) (table : Query → Option Seen) (here : Where) (at : Spot)
    (a : Action) (s : State) (n : Notes ⊤)
    → IsByAnswers (doing (stops_at p (gathering (by_query table))) fuel here at a s (carry (λ w. (w, [])) n))
    (doing (stops_at p (by_query table)) fuel here at a s n)
    (λ list. doing (source_machine p) fuel here at a s (carry (λ w. list) n))

-- ---- with more observations

-- With more observations behind those that it has a run is the same where it goes through or ends, but for those that
-- are left. Where it stops, the run with more begins with all that it tells.
abbrev pub GoesFurther : List Seen → Run (List Seen) → Run (List Seen) → Type 0
GoesFurther more (Went s n) q = q ≡ Went s (carry (λ w. w ++ more) n)
GoesFurther more (Ends e n) q = q ≡ Ends e (carry (λ w. w ++ more) n)
GoesFurther more (Stops n) q = (later : List Mark) × ((notes_of q).marks ≡ n.marks ++ later)

-- so does a whole run
abbrev pub MoreGoesFurther : Type 0
MoreGoesFurther = (p : Code) (ints : List ℤ) (fuel : ℕ) (seen more : List Seen)
    → GoesFurther more (run (source_machine p) ints fuel seen) (run (source_machine p) ints fuel (seen ++ more))

-- and a single statement, from any state and with any notes
abbrev pub StatementGoesFurther : Type 0
StatementGoesFurther = (p : Code) (fuel : ℕ) (more : List Seen) (here : Where) (at : Spot) (a : Action) (s : State)
    (n : Notes (List Seen))
    → GoesFurther more (doing (source_machine p) fuel here at a s n)
    (doing (source_machine p) fuel here at a s (carry (λ w. w ++ more) n))

-- ---- by a table with more answers

-- the second table has all answers of the first
abbrev pub Extends : (Query → Option Seen) → (Query → Option Seen) → Type 0
Extends table more = (q : Query) (x : Seen) → table q ≡ Some x → more q ≡ Some x

-- the second run is the first, unless that stopped for want of an answer
abbrev pub StaysAs : Run ⊤ → Run ⊤ → Type 0
StaysAs (Went s n) q = q ≡ Went s n
StaysAs (Ends e n) q = q ≡ Ends e n
StaysAs (Stops n) q = Unit {0}

-- a statement that does not stop does the same by a table with more answers
abbrev pub MoreAnswersKeep : Type 0
MoreAnswersKeep = (p : Code) (fuel : ℕ) (table more : Query → Option Seen) → Extends table more
    → (here : Where) (at : Spot) (a : Action) (s : State) (n : Notes ⊤)
    → StaysAs (doing (stops_at p (by_query table)) fuel here at a s n)
    (doing (stops_at p (by_query more)) fuel here at a s n)
