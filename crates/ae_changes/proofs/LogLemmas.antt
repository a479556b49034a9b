-- What is printed, and how the parts of what a run changes are put together.
use Rattle.std.proofs.Common.{◌≡◌, refl, ℕ, Bool, true, false, not, Option}
use Rattle.std.specs.Prelude.{⊤}
use Rattle.ae_text.specs.declared.refusal.Spot.{Spot}
use Rattle.ae_tree.specs.declared.form.Form.{Form}
use Rattle.ae_tree.specs.Form.{form}
use Rattle.ae_tree.specs.Names.{io}
use Rattle.ae_tree.specs.Plain.{RightSide, Value, Taken, Zeros, Made, Returned}
use Rattle.ae_tree.specs.Plain.{Action, Declares, Assigns, Stores, StoresAt, Calls, Chooses, ChoosesElse, Repeats}
use Rattle.ae_tree.specs.Plain.{Groups, Splits, Locks, Freezes, Shares, Prints, PrintsText, Asserts, Returns}
use Rattle.ae_tree.specs.WellShaped.{IsNoReturn}
use Rattle.ae_rules.specs.declared.uses.Resource.TheVariants as resource
use Rattle.ae_rules.specs.Edges.{Uses}
use Rattle.ae_rules.specs.Paths.{is_call}
use Rattle.ae_rules.specs.Context.{Local, Context}
use Rattle.ae_rules.specs.Judges.{is_return}
use Rattle.ae_rules.specs.Laws.{WalksGoByOwners}
use Rattle.ae_rules.specs.Uses.{◌∪◌, whole_group, value_uses, statement_uses}
use Rattle.ae_semantics.specs.Values.{Val}
use Rattle.ae_semantics.specs.Places.{Outcome, Fine, Traps, Lacks, there, State, bind}
use Rattle.ae_semantics.specs.Expressions.{truth_of}
use Rattle.ae_semantics.specs.Equations.{one-Declares, one-Assigns, one-Stores, one-StoresAt, one-Groups, one-Freezes}
use Rattle.ae_semantics.specs.Equations.{one-Shares, one-Asserts, one-Returns}
use Rattle.ae_semantics.specs.Observations.{Notes}
use Rattle.ae_semantics.specs.Runs.{Run, Went, Ends, Stops, outcome_given, Where, Machine, Below}
use Rattle.ae_semantics.specs.Meaning.{sets, made, assigned, stored, stored_at, frozen, shares_into}
use Rattle.ae_semantics.specs.Meaning.{returns_value, asserts, does, one}
use Rattle.ae_soundness.specs.Laws.{is_without_calls}
use Rattle.ae_soundness.specs.Returns.{KeepsResult, ResultsStayBy, ReturnsGiveResults}
use Rattle.ae_soundness.proofs.LastingLemmas.{Leaves}
use Rattle.ae_changes.specs.Changes.{ChangesAsUsed, KeepsLog, RunChanges, ActsChangeBy, ActsChangeAsUsed}
use Rattle.ae_changes.proofs.UsedLemmas.{IsWritten, written_right, group_itself}
use Rattle.ae_changes.proofs.StatementLemmas.{act_leaves}

-- ---- the log

-- a run prints only where `io` is used
abbrev pub RunKeepsLog : {W : Type 0} → Uses → Notes W → Run W → Type 0
RunKeepsLog u n (Went t k) = KeepsLog u n k
RunKeepsLog u n (Ends ending k) = KeepsLog u n k
RunKeepsLog u n (Stops k) = KeepsLog u n k

io_written : {W : Type 0} (u : Uses) (n k : Notes W) → IsWritten u (resource.Group io) → KeepsLog u n k
io_written u n k w e = absurd (cc (w, e))

-- Where `io` is used anything may be printed.
pub prints_as_used : {W : Type 0} (u : Uses) (n : Notes W) (r : Run W) → IsWritten u (resource.Group io)
    → RunKeepsLog u n r
prints_as_used u n (Went t k) w = io_written u n k w
prints_as_used u n (Ends ending k) w = io_written u n k w
prints_as_used u n (Stops k) w = io_written u n k w

-- An outcome prints nothing.
pub outcome_prints : {A W : Type 0} (u : Uses) (o : Outcome A) (at : Spot) (n : Notes W) (go : A → Run W)
    → ((x : A) → RunKeepsLog u n (go x)) → RunKeepsLog u n (outcome_given o at n go)
outcome_prints u (Fine x) at n go h = h x
outcome_prints u (Traps code) at n go h = λ e. refl
outcome_prints u Lacks at n go h = λ e. refl

-- A local that gets a value prints nothing.
pub assigned_prints : {W : Type 0} (u : Uses) (at : Spot) (x : ℕ) (t : Form) (v : Val) (s : State) (n : Notes W)
    → RunKeepsLog u n (assigned at x t v s n)
assigned_prints u at x t v s n = outcome_prints u (bind x t v s) at n _ (λ y e. refl)

does_prints : {W : Type 0} (u : Uses) (at : Spot) (n : Notes W) (o : Outcome State) → RunKeepsLog u n (does at n o)
does_prints u at n o = outcome_prints u o at n _ (λ s e. refl)

assert_prints : {W : Type 0} (u : Uses) (at : Spot) (test : Bool) (s : State) (n : Notes W)
    → RunKeepsLog u n (asserts at test s n)
assert_prints u at true s n = λ e. refl
assert_prints u at false s n = λ e. refl

set_prints : {W : Type 0} (u : Uses) (m : Machine W) (below : Option (Below W)) (here : Where) (at : Spot) (x : ℕ)
    (t : Form) (e : RightSide) (s : State) (n : Notes W) → not (is_call e) ≡ true
    → RunKeepsLog u n (sets m below here at x t e s n)
set_prints u m below here at x t (Value e) s n o = outcome_prints u (made m.code (Value e) s) at n _
    (λ r. assigned_prints u at x t r.0 _ n)
set_prints u m below here at x t (Taken path y) s n o = outcome_prints u (made m.code (Taken path y) s) at n _
    (λ r. assigned_prints u at x t r.0 _ n)
set_prints u m below here at x t (Zeros e y) s n o = outcome_prints u (made m.code (Zeros e y) s) at n _
    (λ r. assigned_prints u at x t r.0 _ n)
set_prints u m below here at x t (Made y gs es z) s n o = outcome_prints u (made m.code (Made y gs es z) s) at n _
    (λ r. assigned_prints u at x t r.0 _ n)
set_prints u m below here at x t (Returned i) s n o = absurd (cc o)

-- what the statement uses
abbrev used : {W : Type 0} → Machine W → Where → Action → Uses
used m here a = statement_uses m.code here.method a here.context

-- A statement without blocks and calls prints only where it uses `io`.
act_prints : {W : Type 0} (m : Machine W) (below : Option (Below W)) (here : Where) (at : Spot) (a : Action)
    (s : State) (n : Notes W) → is_without_calls a ≡ true
    → RunKeepsLog (used m here a) n (one m below here at a s n)
act_prints m below here at (Declares ty x e) s n o =
    rw (one-Declares m below here at ty x e s n)
    (set_prints (used m here (Declares ty x e)) m below here at x.name (form ty) e s n o)
act_prints m below here at (Assigns x e) s n o =
    rw (one-Assigns m below here at x e s n)
    (outcome_prints (used m here (Assigns x e)) (there (here.context.local x.name)) at n _
    (λ (l : Local). set_prints (used m here (Assigns x e)) m below here at x.name l.form e s n o))
act_prints m below here at (Stores path e) s n o =
    rw (one-Stores m below here at path e s n)
    (does_prints (used m here (Stores path e)) at n (stored m.code path e s))
act_prints m below here at (StoresAt path i e) s n o =
    rw (one-StoresAt m below here at path i e s n)
    (does_prints (used m here (StoresAt path i e)) at n (stored_at m.code path i e s))
act_prints m below here at (Calls i) s n o = absurd (cc o)
act_prints m below here at (Chooses e j b) s n o = absurd (cc o)
act_prints m below here at (ChoosesElse e j b k b') s n o = absurd (cc o)
act_prints m below here at (Repeats e j b) s n o = absurd (cc o)
act_prints m below here at (Groups g) s n o = rw (one-Groups m below here at g s n) (λ e. refl)
act_prints m below here at (Splits gs j b) s n o = absurd (cc o)
act_prints m below here at (Locks g j b) s n o = absurd (cc o)
act_prints m below here at (Freezes x) s n o =
    rw (one-Freezes m below here at x s n) (does_prints (used m here (Freezes x)) at n (frozen x.name s))
act_prints m below here at (Shares x g) s n o =
    rw (one-Shares m below here at x g s n)
    (does_prints (used m here (Shares x g)) at n (shares_into x.name g.name s))
act_prints m below here at (Prints e) s n o = prints_as_used (value_uses m.code here.context e ∪ whole_group io) n
    (one m below here at (Prints e) s n)
    (written_right (value_uses m.code here.context e) (whole_group io) (resource.Group io) (group_itself io))
act_prints m below here at (PrintsText text) s n o =
    prints_as_used (whole_group io) n (one m below here at (PrintsText text) s n) (group_itself io)
act_prints m below here at (Asserts e) s n o =
    rw (one-Asserts m below here at e s n) (outcome_prints (used m here (Asserts e)) (truth_of m.code s e) at n _
    (λ test. assert_prints (used m here (Asserts e)) at test s n))
act_prints m below here at (Returns e) s n o =
    rw (one-Returns m below here at e s n)
    (does_prints (used m here (Returns e)) at n (returns_value m.code here.method e s))

-- ---- parts put together

-- What a run changes is what it changes in the state, in the log and in the result.
pub together : {W : Type 0} (c : Context) (u : Uses) (still : Type 0) (s : State) (n : Notes W) (r : Run W)
    → Leaves (ChangesAsUsed c u s) r → RunKeepsLog u n r → (still → KeepsResult s.result r)
    → RunChanges c u still s n r
together c u still s n (Went t k) h l e = (h, l, e)
together c u still s n (Ends ending k) h l e = l
together c u still s n (Stops k) h l e = l

-- A statement that is no `return` is none.
pub no_return_is_none : (a : Action) → IsNoReturn a → is_return a ≡ false
no_return_is_none (Declares ty x e) h = refl
no_return_is_none (Assigns x e) h = refl
no_return_is_none (Stores path e) h = refl
no_return_is_none (StoresAt path i e) h = refl
no_return_is_none (Calls i) h = refl
no_return_is_none (Chooses e i b) h = refl
no_return_is_none (ChoosesElse e i b k b') h = refl
no_return_is_none (Repeats e i b) h = refl
no_return_is_none (Groups g) h = refl
no_return_is_none (Splits gs i b) h = refl
no_return_is_none (Locks g i b) h = refl
no_return_is_none (Freezes x) h = refl
no_return_is_none (Shares x g) h = refl
no_return_is_none (Prints e) h = refl
no_return_is_none (PrintsText x) h = refl
no_return_is_none (Asserts e) h = refl
no_return_is_none (Returns e) h = absurd h

acts_change : (W : Type 0) → WalksGoByOwners → ResultsStayBy W → ActsChangeBy W
acts_change W law stay m below here at a d s n members o f h right z =
    together here.context (statement_uses m.code here.method a here.context) (IsNoReturn a) s n
    (one m below here at a s n)
    (act_leaves law m below here at a d s n o f h (record { members = members; fits = z; right = right }))
    (act_prints m below here at a s n o) (λ e. stay m below here at a s n o (no_return_is_none a e))

-- A judged statement without blocks and calls changes only what it writes.
pub acts_change_as_used : WalksGoByOwners → ReturnsGiveResults → ActsChangeAsUsed
acts_change_as_used law stay = (acts_change ⊤ law stay.1.0, acts_change (_) law stay.1.1)
