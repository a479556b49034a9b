-- What a statement without blocks and calls comes to: the state that it leaves, and what it printed.
use Rattle.std.specs.Prelude.{ℕ, Bool, true, false, List, [], Option, None, Some}
use Rattle.ae_tree.specs.declared.form.Form.{Form}
use Rattle.ae_tree.specs.Form.{form}
use Rattle.ae_tree.specs.Plain.{Expression, RightSide, Value, Taken, Zeros, Made, Returned, Definition, Code}
use Rattle.ae_tree.specs.Plain.{Action, Declares, Assigns, Stores, StoresAt, Calls, Chooses, ChoosesElse, Repeats}
use Rattle.ae_tree.specs.Plain.{Groups, Splits, Locks, Freezes, Shares, Prints, PrintsText, Asserts, Returns}
use Rattle.ae_semantics.specs.Values.{Val}
use Rattle.ae_semantics.specs.Places.{Outcome, Fine, Traps, Lacks, ◌>>=◌, there, Here, State, with_store, bind}
use Rattle.ae_semantics.specs.Expressions.{value, truth_of}
use Rattle.ae_semantics.specs.Calls.{without_moved}
use Rattle.ae_semantics.specs.Meaning.{made, right_moved, stored, stored_at, frozen, shares_into, printed_value}
use Rattle.ae_semantics.specs.Meaning.{returns_value}

-- ---- which statements

-- a right side that is no call
abbrev pub is_no_call : RightSide → Bool
is_no_call (Value e) = true
is_no_call (Taken path at) = true
is_no_call (Zeros e at) = true
is_no_call (Made c gs args at) = true
is_no_call (Returned i) = false

-- the statement has no block and calls nothing
abbrev pub is_flat : Action → Bool
is_flat (Declares ty x e) = is_no_call e
is_flat (Assigns x e) = is_no_call e
is_flat (Stores path e) = true
is_flat (StoresAt path i e) = true
is_flat (Calls i) = false
is_flat (Chooses e nb b) = false
is_flat (ChoosesElse e nb b nc c) = false
is_flat (Repeats e nb b) = false
is_flat (Groups g) = true
is_flat (Splits gs nb b) = false
is_flat (Locks g number b) = false
is_flat (Freezes x) = true
is_flat (Shares x g) = true
is_flat (Prints e) = true
is_flat (PrintsText text) = true
is_flat (Asserts e) = true
is_flat (Returns e) = true

-- ---- what it leaves

-- the state, and the bytes that were printed, where something was
pub record Acted : Type 0 where
  pub state : State
  pub printed : Option (List ℕ)

-- nothing is printed
abbrev pub silent : State → Acted
silent s = record { state = s; printed = None }

-- the state alone changes
abbrev pub silently : Outcome State → Outcome Acted
silently o = o >>= λ s. Fine (silent s)

-- these bytes are printed, and the state stays
abbrev pub printing : State → List ℕ → Outcome Acted
printing s bytes = Fine (record { state = s; printed = Some bytes })

-- what stands right of a =, for a place of this form: its value, and the state in which the names that moved have none
abbrev pub moved_out : Code → Form → RightSide → State → Outcome (Val × State)
moved_out p form e s = made p e s >>= λ r. Fine (r.0, without_moved (right_moved p form e) r.1)

-- a right side goes to a local of this form
abbrev pub put_into : Code → ℕ → Form → RightSide → State → Outcome State
put_into p x form e s = moved_out p form e s >>= λ r. bind x form r.0 r.1

-- the same for a local that was declared in a form
abbrev pub put_again : Code → (ℕ → Option Form) → ℕ → RightSide → State → Outcome State
put_again p forms x e s = there (forms x) >>= λ target. put_into p x target e s

-- what is false is trap 5
abbrev pub asserted : State → Bool → Outcome State
asserted s true = Fine s
asserted s false = Traps 5

-- what an expression asserts
abbrev pub asserted_by : Code → Expression → State → Outcome State
asserted_by p e s = truth_of p s e >>= asserted s

-- what is printed of an expression
abbrev pub printed_by : Code → Expression → State → Outcome (List ℕ)
printed_by p e s = value p s e >>= printed_value

-- the statement, where the locals were declared in these forms
abbrev pub acted : Code → Definition → (ℕ → Option Form) → Action → State → Outcome Acted
acted p m forms (Declares ty x e) s = silently (put_into p x.name (form ty) e s)
acted p m forms (Assigns x e) s = silently (put_again p forms x.name e s)
acted p m forms (Stores path e) s = silently (stored p path e s)
acted p m forms (StoresAt path i e) s = silently (stored_at p path i e s)
acted p m forms (Calls i) s = Lacks
acted p m forms (Chooses e nb b) s = Lacks
acted p m forms (ChoosesElse e nb b nc c) s = Lacks
acted p m forms (Repeats e nb b) s = Lacks
acted p m forms (Groups g) s = Fine (silent (with_store g.name (Some (Here [])) s))
acted p m forms (Splits gs nb b) s = Lacks
acted p m forms (Locks g number b) s = Lacks
acted p m forms (Freezes x) s = silently (frozen x.name s)
acted p m forms (Shares x g) s = silently (shares_into x.name g.name s)
acted p m forms (Prints e) s = printed_by p e s >>= printing s
acted p m forms (PrintsText text) s = printing s text
acted p m forms (Asserts e) s = silently (asserted_by p e s)
acted p m forms (Returns e) s = silently (returns_value p m e s)
