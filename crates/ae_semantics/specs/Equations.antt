-- One equation for each form of statement, and for statements one after another.
use Rattle.std.specs.Prelude.{◌≡◌, refl, ℕ, zero, suc, List, [], Option, None, Some}
use Rattle.ae_text.specs.declared.refusal.Spot.{Spot}
use Rattle.ae_tree.specs.declared.tree.NameAt.{NameAt}
use Rattle.ae_tree.specs.declared.tree.Path.{Path}
use Rattle.ae_tree.specs.declared.tree.Ty.{Ty}
use Rattle.ae_tree.specs.Form.{form}
use Rattle.ae_tree.specs.Plain.{Expression, Invocation, RightSide, Lines, End, Next, Action, Declares, Assigns}
use Rattle.ae_tree.specs.Plain.{Stores, StoresAt, Calls, Chooses, ChoosesElse, Repeats, Groups, Splits, Locks}
use Rattle.ae_tree.specs.Plain.{Freezes, Shares, Prints, PrintsText, Asserts, Returns}
use Rattle.ae_semantics.specs.Places.{◌>>=◌, State, Here, with_store}
use Rattle.ae_semantics.specs.Expressions.{value, truth_of}
use Rattle.ae_rules.specs.Blocks.{Scene}
use Rattle.ae_semantics.specs.Contexts.{after}
use Rattle.ae_semantics.specs.Observations.{Notes}
use Rattle.ae_semantics.specs.Runs.{Act, Went, outcome_given, chosen, Where, deeper, knowing, splitting, locking}
use Rattle.ae_semantics.specs.Runs.{whole_block, Machine, Below}
use Rattle.ae_semantics.specs.Meaning.{sets, assigns, stored, stored_at, calls_method, frozen, shares_into}
use Rattle.ae_semantics.specs.Meaning.{printed_value, prints_piece, asserts, returns_value, does, left, again}
use Rattle.ae_semantics.specs.Meaning.{splits_groups, locks, begun, one, many, block, below}

-- a branch with its number
abbrev pub branch : {W : Type 0} → Machine W → Option (Below W) → ℕ → Where → Lines → Act W
branch m b i here x s n = left here.context (many m b (deeper i here) (whole_block x here) 0 x [] s n)

pub one-Declares : {W : Type 0} (m : Machine W) (b : Option (Below W)) (here : Where) (at : Spot) (ty : Ty)
    (x : NameAt) (e : RightSide) (s : State) (n : Notes W)
    → one m b here at (Declares ty x e) s n ≡ sets m b here at x.name (form ty) e s n
unfolding one many
one-Declares m b here at ty x e s n = refl

pub one-Assigns : {W : Type 0} (m : Machine W) (b : Option (Below W)) (here : Where) (at : Spot) (x : NameAt)
    (e : RightSide) (s : State) (n : Notes W)
    → one m b here at (Assigns x e) s n ≡ assigns m b here at x.name e s n
unfolding one many
one-Assigns m b here at x e s n = refl

pub one-Stores : {W : Type 0} (m : Machine W) (b : Option (Below W)) (here : Where) (at : Spot) (path : Path)
    (e : Expression) (s : State) (n : Notes W)
    → one m b here at (Stores path e) s n ≡ does at n (stored m.code path e s)
unfolding one many
one-Stores m b here at path e s n = refl

pub one-StoresAt : {W : Type 0} (m : Machine W) (b : Option (Below W)) (here : Where) (at : Spot) (path : Path)
    (i e : Expression) (s : State) (n : Notes W)
    → one m b here at (StoresAt path i e) s n ≡ does at n (stored_at m.code path i e s)
unfolding one many
one-StoresAt m b here at path i e s n = refl

pub one-Calls : {W : Type 0} (m : Machine W) (b : Option (Below W)) (here : Where) (at : Spot) (i : Invocation)
    (s : State) (n : Notes W)
    → one m b here at (Calls i) s n ≡ calls_method m b here at i s n (λ r t k. Went t k)
unfolding one many
one-Calls m b here at i s n = refl

pub one-Chooses : {W : Type 0} (m : Machine W) (b : Option (Below W)) (here : Where) (at : Spot) (e : Expression)
    (i : ℕ) (x : Lines) (s : State) (n : Notes W)
    → one m b here at (Chooses e i x) s n ≡ outcome_given (truth_of m.code s e) at n
    (λ test. chosen test (λ _. branch m b 0 here x s n) (λ _. Went s n))
unfolding one many
one-Chooses m b here at e i x s n = refl

pub one-ChoosesElse : {W : Type 0} (m : Machine W) (b : Option (Below W)) (here : Where) (at : Spot) (e : Expression)
    (i : ℕ) (x : Lines) (j : ℕ) (y : Lines) (s : State) (n : Notes W)
    → one m b here at (ChoosesElse e i x j y) s n ≡ outcome_given (truth_of m.code s e) at n
    (λ test. chosen test (λ _. branch m b 0 here x s n) (λ _. branch m b 1 here y s n))
unfolding one many
one-ChoosesElse m b here at e i x j y s n = refl

pub one-Repeats : {W : Type 0} (m : Machine W) (b : Option (Below W)) (here : Where) (at : Spot) (e : Expression)
    (i : ℕ) (x : Lines) (s : State) (n : Notes W)
    → one m b here at (Repeats e i x) s n ≡ again m b here 0 at e x s n
unfolding one many
one-Repeats m b here at e i x s n = refl

pub one-Groups : {W : Type 0} (m : Machine W) (b : Option (Below W)) (here : Where) (at : Spot) (g : NameAt)
    (s : State) (n : Notes W)
    → one m b here at (Groups g) s n ≡ Went (with_store g.name (Some (Here [])) s) n
unfolding one many
one-Groups m b here at g s n = refl

pub one-Splits : {W : Type 0} (m : Machine W) (b : Option (Below W)) (here : Where) (at : Spot) (gs : List NameAt)
    (i : ℕ) (x : Lines) (s : State) (n : Notes W)
    → one m b here at (Splits gs i x) s n ≡ splits_groups m here gs (block m b (splitting gs here) x) s n
unfolding one many
one-Splits m b here at gs i x s n = refl

pub one-Locks : {W : Type 0} (m : Machine W) (b : Option (Below W)) (here : Where) (at : Spot) (g : NameAt) (i : ℕ)
    (x : Lines) (s : State) (n : Notes W)
    → one m b here at (Locks g i x) s n ≡ locks m b here at g i x (block m b (locking g here) x) s n
unfolding one many
one-Locks m b here at g i x s n = refl

pub one-Freezes : {W : Type 0} (m : Machine W) (b : Option (Below W)) (here : Where) (at : Spot) (x : NameAt)
    (s : State) (n : Notes W)
    → one m b here at (Freezes x) s n ≡ does at n (frozen x.name s)
unfolding one many
one-Freezes m b here at x s n = refl

pub one-Shares : {W : Type 0} (m : Machine W) (b : Option (Below W)) (here : Where) (at : Spot) (x g : NameAt)
    (s : State) (n : Notes W)
    → one m b here at (Shares x g) s n ≡ does at n (shares_into x.name g.name s)
unfolding one many
one-Shares m b here at x g s n = refl

pub one-Prints : {W : Type 0} (m : Machine W) (b : Option (Below W)) (here : Where) (at : Spot) (e : Expression)
    (s : State) (n : Notes W)
    → one m b here at (Prints e) s n ≡ outcome_given (value m.code s e >>= printed_value) at n
    (λ bytes. prints_piece here bytes s n)
unfolding one many
one-Prints m b here at e s n = refl

pub one-PrintsText : {W : Type 0} (m : Machine W) (b : Option (Below W)) (here : Where) (at : Spot) (text : List ℕ)
    (s : State) (n : Notes W)
    → one m b here at (PrintsText text) s n ≡ prints_piece here text s n
unfolding one many
one-PrintsText m b here at text s n = refl

pub one-Asserts : {W : Type 0} (m : Machine W) (b : Option (Below W)) (here : Where) (at : Spot) (e : Expression)
    (s : State) (n : Notes W)
    → one m b here at (Asserts e) s n ≡ outcome_given (truth_of m.code s e) at n (λ test. asserts at test s n)
unfolding one many
one-Asserts m b here at e s n = refl

pub one-Returns : {W : Type 0} (m : Machine W) (b : Option (Below W)) (here : Where) (at : Spot) (e : Expression)
    (s : State) (n : Notes W)
    → one m b here at (Returns e) s n ≡ does at n (returns_value m.code here.method e s)
unfolding one many
one-Returns m b here at e s n = refl

pub many-End : {W : Type 0} (m : Machine W) (b : Option (Below W)) (here : Where) (all : Scene) (j : ℕ)
    (barred : List ℕ) (s : State) (n : Notes W)
    → many m b here all j End barred s n ≡ m.order.close barred s n
unfolding one many
many-End m b here all j barred s n = refl

pub many-Next : {W : Type 0} (m : Machine W) (b : Option (Below W)) (here : Where) (all : Scene) (j : ℕ) (at : Spot)
    (a : Action) (rest : Lines) (barred : List ℕ) (s : State) (n : Notes W)
    → many m b here all j (Next at a rest) barred s n
    ≡ m.order.step here all j barred (begun (deeper j here) at (one m b (deeper j here) at a))
    (many m b (knowing (after m.code here.method at a here.context) here) all (suc j) rest) s n
unfolding one many
many-Next m b here all j at a rest barred s n = refl

pub below-zero : {W : Type 0} (m : Machine W) → below m zero ≡ None
unfolding below
below-zero m = refl

pub below-suc : {W : Type 0} (m : Machine W) (f : ℕ)
    → below m (suc f) ≡ Some (record { fuel = f; block = block m (below m f); again = again m (below m f) })
unfolding below
below-suc m f = refl

-- the meaning, form by form
pub ruleset means = (one-Declares, one-Assigns, one-Stores, one-StoresAt, one-Calls, one-Chooses, one-ChoosesElse, one-Repeats, one-Groups, one-Splits, one-Locks, one-Freezes, one-Shares, one-Prints, one-PrintsText, one-Asserts, one-Returns, many-End, many-Next, below-zero, below-suc)
