-- What the arguments of a call come to before it begins, and what is left of the caller's locals once it has begun.
use Rattle.std.specs.Prelude.{◌≡◌, ℕ, nat_eq, Bool, true, false, not, ◌&&◌, ◌||◌, if◌then◌else◌, List, [], ◌∷◌, map}
use Rattle.std.specs.Prelude.{Option, None, Some, option_map}
use Rattle.std.specs.Borrow.{Bor}
use Rattle.std.specs.declared.alloc.Global.{Global}
use Rattle.std.specs.declared.vec.Vec.{Vec}
use Rattle.ae_tree.specs.Plain.{Expression, Read}
use Rattle.ae_tree.specs.Shown.{expression}
use Rattle.ae_rules.specs.Lookups.{has_name}
use Rattle.ae_rules.specs.Verdict.{given}
use Rattle.ae_semantics.specs.Places.{State, Bound, Address, Base, InLocal, InGroup}
use Rattle.ae_semantics.specs.Calls.{Argument, Taker, given_away, value_comes_back}
use Rattle.ae_reads.specs.Views.{base_of}
use Rattle.ae_stores.specs.Stand.{standing_or_null, nulled, nulled_in}
use Rattle.ae_frames.specs.declared.given.Asked.{Asked}
use Rattle.ae_frames.specs.declared.given.Asked.TheVariants as asked
use Rattle.ae_frames.specs.declared.given.Standing.{Standing}
use Rattle.ae_frames.specs.declared.handed.Handed.{Handed}
use Rattle.ae_frames.specs.declared.handed.Handed.TheVariants as hand
use Rattle.ae_frames.specs.declared.given.Parameter.{Parameter}
use Rattle.ae_frames.specs.Givens.{argument_of, taker_of}

-- what is handed over, as an expression
abbrev pub handed : Handed → Expression
handed (hand.Receiver path) = Read path.now
handed (hand.Written expr) = expression expr.now

-- a parameter that is looked at
abbrev pub taker_seen : Bor Parameter → Taker
taker_seen t = taker_of t.now

-- the place of a value that stands in a local
abbrev pub standing_at : Standing → Address
standing_at x = record { base = InLocal x.name; fields = x.fields.items }

-- an argument, where the caller's state is this
abbrev pub asked_in : State → Asked → Argument
asked_in s (asked.Read a) = argument_of a
asked_in s (asked.Stands x) = record {
  value = standing_or_null s x.name x.fields.items;
  from = Some (standing_at x);
}

-- the arguments in order
abbrev pub all_asked : State → Vec Asked Global → List Argument
all_asked s xs = map (asked_in s) xs.items

-- the base is a local
abbrev pub is_in_local : Base → Bool
is_in_local (InLocal x) = true
is_in_local (InGroup g n) = false

-- the name is this one
abbrev pub is_name : ℕ → Option ℕ → Bool
is_name x o = given o false (nat_eq x)

-- Where a value comes back to a local, or the local is given away, it stands there; and only then.
abbrev pub is_spared : Bool → Option ℕ → Asked → Bool
is_spared comes moved (asked.Read a) = not (comes && given a.from false (λ from. is_in_local (base_of from.base)))
is_spared comes moved (asked.Stands x) = comes || is_name x.name moved

-- the same of each argument, where these are the parameters and what they are given
abbrev pub AreSpared : List Taker → List Expression → List Asked → Type 0
AreSpared ts es [] = Unit {0}
AreSpared [] es (x ∷ xs) = (is_spared false None x ≡ true) × AreSpared [] [] xs
AreSpared (t ∷ ts) [] (x ∷ xs) = (is_spared (value_comes_back t.1) None x ≡ true) × AreSpared ts [] xs
AreSpared (t ∷ ts) (e ∷ es) (x ∷ xs) = (is_spared (value_comes_back t.1) (given_away (t, e)) x ≡ true)
    × AreSpared ts es xs

-- the places in a local at which values of arguments stand
abbrev pub stands_in : ℕ → List Asked → List (List ℕ)
stands_in y [] = []
stands_in y (asked.Read a ∷ xs) = stands_in y xs
stands_in y (asked.Stands x ∷ xs) = if nat_eq x.name y then x.fields.items ∷ stands_in y xs else stands_in y xs

-- the one of a list that has only one
abbrev pub only : {A : Type 0} → List A → Option A
only [] = None
only (x ∷ []) = Some x
only (x ∷ y ∷ xs) = None

-- A local of which one value alone is handed over has null in its place; all others stay.
abbrev pub locals_left : List Asked → (ℕ → Option Bound) → ℕ → Option Bound
locals_left xs b y = given (only (stands_in y xs)) (b y) (λ fields. option_map (nulled fields) (b y))

-- the state with these locals
abbrev pub with_locals : (ℕ → Option Bound) → State → State
with_locals l s = record s { locals = l }

-- ---- how they are left, one value after another

-- the locals in which values of arguments stand
abbrev pub names_standing : List Asked → List ℕ
names_standing [] = []
names_standing (asked.Read a ∷ xs) = names_standing xs
names_standing (asked.Stands x ∷ xs) = x.name ∷ names_standing xs

-- the name stands once among these
abbrev pub is_once : ℕ → List ℕ → Bool
is_once x [] = false
is_once x (y ∷ ys) = if nat_eq y x then not (has_name ys x) else is_once x ys

-- null stands at a place in a local, or all is as it was
abbrev pub nulled_if : Bool → ℕ → List ℕ → State → State
nulled_if true x fields s = nulled_in x fields s
nulled_if false x fields s = s

-- what is left where values are handed over out of these locals, and this one of them is
abbrev pub left_by : List ℕ → Asked → State → State
left_by names (asked.Read a) s = s
left_by names (asked.Stands x) s = nulled_if (is_once x.name names) x.name x.fields.items s
