-- That what a statement comes to is what it does in the meaning.
use Rattle.std.proofs.Common.{◌≡◌, refl, ℕ, Bool, true, false, Option, None, Some, List}
use Rattle.std.specs.Prelude.{option_map}
use Rattle.std.proofs.lemmas.Bool.{false≢true}
use Rattle.ae_text.specs.declared.refusal.Spot.{Spot}
use Rattle.ae_tree.specs.declared.form.Form.{Form}
use Rattle.ae_tree.specs.Form.{form}
use Rattle.ae_tree.specs.Plain.{RightSide, Value, Taken, Zeros, Made, Returned}
use Rattle.ae_tree.specs.Plain.{Declares, Assigns, Stores, StoresAt, Calls, Chooses, ChoosesElse, Repeats}
use Rattle.ae_tree.specs.Plain.{Groups, Splits, Locks, Freezes, Shares, Prints, PrintsText, Asserts, Returns}
use Rattle.ae_rules.specs.Context.{Local}
use Rattle.ae_rules.specs.Instances.{Instance}
use Rattle.ae_semantics.specs.Values.{Val}
use Rattle.ae_semantics.specs.Places.{Outcome, Fine, Traps, Lacks, ◌>>=◌, there, State, bind}
use Rattle.ae_semantics.specs.Expressions.{truth_of}
use Rattle.ae_semantics.specs.Observations.{Notes}
use Rattle.ae_semantics.specs.Runs.{Went, outcome_given, Where, Machine, Below}
use Rattle.ae_semantics.specs.Calls.{without_moved}
use Rattle.ae_semantics.specs.Meaning.{made, right_moved, stored, stored_at, frozen, shares_into}
use Rattle.ae_semantics.specs.Meaning.{returns_value, prints_piece, asserts, assigned, sets, one}
use Rattle.ae_acts.specs.Acts.{silently, printing, put_into, asserted, is_no_call, printed_by}
use Rattle.ae_acts.specs.Law.{acted_run, ActsAreTheMeaning}

-- a change of the state alone
silent_run : {W : Type 0} (at : Spot) (path : Instance) (n : Notes W) (o : Outcome State)
    → outcome_given o at n (λ (t : State). Went t n) ≡ acted_run at path n (silently o)
silent_run at path n (Fine s) = refl
silent_run at path n (Traps code) = refl
silent_run at path n Lacks = refl

-- a value goes to a local, and names that moved have none
value_put : {W : Type 0} (at : Spot) (path : Instance) (n : Notes W) (x : ℕ) (target : Form) (moved : List ℕ)
    (o : Outcome (Val × State))
    → outcome_given o at n (λ (r : Val × State). assigned at x target r.0 (without_moved moved r.1) n)
    ≡ acted_run at path n (silently ((o >>= λ (r : Val × State). Fine (r.0, without_moved moved r.1))
    >>= λ (r : Val × State). bind x target r.0 r.1))
value_put at path n x target moved (Fine r) = silent_run at path n (bind x target r.0 (without_moved moved r.1))
value_put at path n x target moved (Traps code) = refl
value_put at path n x target moved Lacks = refl

-- a right side that is no call goes to a local
right_put : {W : Type 0} (m : Machine W) (below : Option (Below W)) (here : Where) (at : Spot) (x : ℕ) (target : Form)
    (e : RightSide) (s : State) (n : Notes W) → is_no_call e ≡ true
    → sets m below here at x target e s n ≡ acted_run at here.path n (silently (put_into m.code x target e s))
right_put m below here at x target (Value e) s n is =
    value_put at here.path n x target (right_moved m.code target (Value e)) (made m.code (Value e) s)
right_put m below here at x target (Taken path spot) s n is =
    value_put at here.path n x target (right_moved m.code target (Taken path spot)) (made m.code (Taken path spot) s)
right_put m below here at x target (Zeros e spot) s n is =
    value_put at here.path n x target (right_moved m.code target (Zeros e spot)) (made m.code (Zeros e spot) s)
right_put m below here at x target (Made c gs args spot) s n is = value_put at here.path n x target
    (right_moved m.code target (Made c gs args spot)) (made m.code (Made c gs args spot) s)
right_put m below here at x target (Returned i) s n is = absurd (false≢true is)

-- the same for a local that is there
local_put : {W : Type 0} (m : Machine W) (below : Option (Below W)) (here : Where) (at : Spot) (x : ℕ)
    (e : RightSide) (s : State) (n : Notes W) (o : Option Local) → is_no_call e ≡ true
    → outcome_given (there o) at n (λ (l : Local). sets m below here at x l.form e s n)
    ≡ acted_run at here.path n (silently (there (option_map (λ (l : Local). l.form) o)
    >>= λ target. put_into m.code x target e s))
local_put m below here at x e s n None is = refl
local_put m below here at x e s n (Some l) is = right_put m below here at x l.form e s n is

-- something is printed
print_run : {W : Type 0} (at : Spot) (here : Where) (n : Notes W) (s : State) (o : Outcome (List ℕ))
    → outcome_given o at n (λ bytes. prints_piece here bytes s n) ≡ acted_run at here.path n (o >>= printing s)
print_run at here n s (Fine bytes) = refl
print_run at here n s (Traps code) = refl
print_run at here n s Lacks = refl

-- something is asserted
assert_run : {W : Type 0} (at : Spot) (path : Instance) (n : Notes W) (s : State) (o : Outcome Bool)
    → outcome_given o at n (λ test. asserts at test s n) ≡ acted_run at path n (silently (o >>= asserted s))
assert_run at path n s (Fine true) = refl
assert_run at path n s (Fine false) = refl
assert_run at path n s (Traps code) = refl
assert_run at path n s Lacks = refl

-- each statement does what it comes to
pub acts_are : {W : Type 0} → ActsAreTheMeaning W
unfolding one
acts_are m below here at (Declares ty x e) s n is = right_put m below here at x.name (form ty) e s n is
acts_are m below here at (Assigns x e) s n is =
    (local_put) m below here at x.name e s n (here.context.local x.name) is
acts_are m below here at (Stores path e) s n is = silent_run at here.path n (stored m.code path e s)
acts_are m below here at (StoresAt path i e) s n is = silent_run at here.path n (stored_at m.code path i e s)
acts_are m below here at (Calls i) s n is = absurd (false≢true is)
acts_are m below here at (Chooses e nb b) s n is = absurd (false≢true is)
acts_are m below here at (ChoosesElse e nb b nc c) s n is = absurd (false≢true is)
acts_are m below here at (Repeats e nb b) s n is = absurd (false≢true is)
acts_are m below here at (Groups g) s n is = refl
acts_are m below here at (Splits gs nb b) s n is = absurd (false≢true is)
acts_are m below here at (Locks g number b) s n is = absurd (false≢true is)
acts_are m below here at (Freezes x) s n is = silent_run at here.path n (frozen x.name s)
acts_are m below here at (Shares x g) s n is = silent_run at here.path n (shares_into x.name g.name s)
acts_are m below here at (Prints e) s n is = print_run at here n s (printed_by m.code e s)
acts_are m below here at (PrintsText text) s n is = refl
acts_are m below here at (Asserts e) s n is = assert_run at here.path n s (truth_of m.code s e)
acts_are m below here at (Returns e) s n is = silent_run at here.path n (returns_value m.code here.method e s)
