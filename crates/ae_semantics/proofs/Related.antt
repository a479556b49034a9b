-- Two runs that keep a relation: one induction over all forms of statement.
use Rattle.ae_rules.specs.Edges.{Uses}
use Rattle.std.proofs.Common.{◌≡◌, ◌<◌, ◌⊎◌, inl, inr, ℕ, zero, suc, nat_eq, nat_lt, Bool, true, false}
use Rattle.std.proofs.Common.{if◌then◌else◌, List, [], ◌∷◌, ◌++◌, Option, None, Some, refl, ap, sym, subst, ◌∙◌}
use Rattle.std.proofs.Common.{arith}
use Rattle.std.specs.Prelude.{⊤}
use Rattle.std.proofs.lemmas.List.{append_assoc, append-nil}
use Rattle.ae_text.specs.declared.refusal.Spot.{Spot}
use Rattle.ae_tree.specs.declared.tree.NameAt.{NameAt}
use Rattle.ae_tree.specs.declared.form.Form.{Form}
use Rattle.ae_tree.specs.Form.{form}
use Rattle.ae_tree.specs.Names.{io}
use Rattle.ae_tree.specs.Plain.{Expression, Invocation, RightSide, Value, Taken, Zeros, Made, Returned, Lines, End}
use Rattle.ae_tree.specs.Plain.{Next, Code}
use Rattle.ae_tree.specs.Plain.{Action, Declares, Assigns, Stores, StoresAt, Calls, Chooses, ChoosesElse, Repeats}
use Rattle.ae_tree.specs.Plain.{Groups, Splits, Locks, Freezes, Shares, Prints, PrintsText, Asserts, Returns}
use Rattle.ae_rules.specs.Verdict as rules
use Rattle.ae_rules.specs.Context.{Local, Context}
use Rattle.ae_rules.specs.Blocks.{Scene}
use Rattle.ae_rules.specs.Instances.{Instance}
use Rattle.ae_semantics.specs.Values.{Val, all_low}
use Rattle.ae_semantics.specs.Places.{Outcome, Fine, Traps, Lacks, ◌>>=◌, there, CellName, Here, Away, State}
use Rattle.ae_semantics.specs.Places.{with_store}
use Rattle.ae_semantics.specs.Expressions.{value, truth, truth_of}
use Rattle.ae_semantics.specs.Contexts.{after}
use Rattle.ae_semantics.specs.declared.report.Ending.{Ending}
use Rattle.ae_semantics.specs.declared.report.Ending.TheVariants.{Trap, Fuel}
use Rattle.ae_semantics.specs.declared.report.Piece.{Piece}
use Rattle.ae_semantics.specs.Observations.{Origin, FromBlock, FromCell, Image, OfStore, OfLog, Carried, Ask, Gave}
use Rattle.ae_semantics.specs.Observations.{Trapped, Spent, Seen, OfBlock, OfCell, Query, AtBlock, AtEnd, Mark, Ran}
use Rattle.ae_semantics.specs.Observations.{Turned, Entered, Stopped, Asked, Notes, Observer}
use Rattle.ae_semantics.specs.Runs.{Run, Went, Ends, Stops, Act, and_then, outcome_given, paid, chosen, marked}
use Rattle.ae_semantics.specs.Runs.{logged, deeper, Where, knowing, splitting, locking, whole_block, Order, Machine}
use Rattle.ae_semantics.specs.Runs.{Below, fuel_of}
use Rattle.ae_semantics.specs.Calls.{CallFrame, enter, leave, without_moved}
use Rattle.ae_semantics.specs.Blocks.{image_of, cell_of, to_cell, goes_away, all_go_away, store_back, log_back}
use Rattle.ae_semantics.specs.Blocks.{unless_stopped, used, cell_back, cell_comes_back, all_come_back, cell_at}
use Rattle.ae_semantics.specs.Blocks.{values_in, out_fits, with_out, block_back, ask_of, else_uses, put_to, asks}
use Rattle.ae_semantics.specs.Meaning.{stored, stored_at, frozen, shares_into, returns_value, printed_value}
use Rattle.ae_semantics.specs.Meaning.{prints_piece, begun, assigned, result_to, made, right_moved, sets, body_run}
use Rattle.ae_semantics.specs.Meaning.{call_run, calls_method, asserts, does, forgotten, left, again, splits_groups}
use Rattle.ae_semantics.specs.Meaning.{locks, one, many, block, below}
use Rattle.ae_semantics.proofs.SourceOrder.{IsUpTo, same_start, one_up_to, earlier_up_to}
use Rattle.std.proofs.lemmas.Option.{same_Some}

-- ---- what a stretch of a run may tell of

-- no place; what stands at a path and lies in it; a block or a loop from a number on
pub data Stretch : Type 0 where
  Quiet : Stretch
  Of : Instance → Stretch
  From : Instance → ℕ → Stretch

abbrev pub Within : Stretch → Instance → Type 0
Within Quiet y = ⊥
Within (Of q) y = (rest : Instance) × (y ≡ q ++ rest)
Within (From q j) y = (i : ℕ) × (rest : Instance) × (y ≡ q ++ (i ∷ rest)) × (j < suc i)

-- the second stretch follows the first one, and both lie in the third
pub record Joins (a b c : Stretch) : Type 0 where
  pub in_order : (x y : Instance) → Within a x → Within b y → IsUpTo x y
  pub first : (x : Instance) → Within a x → Within c x
  pub second : (x : Instance) → Within b x → Within c x

-- the place that a mark tells of
abbrev pub place_of : Mark → Option Instance
place_of (Ran q at) = Some q
place_of (Turned q t) = Some (q ++ (t ∷ []))
place_of _ = None

-- a mark and the stretch behind it make a stretch
pub record Tells (m : Mark) (a c : Stretch) : Type 0 where
  pub own : (y : Instance) → place_of m ≡ Some y → Within c y
  pub ahead : (y : Instance) → place_of m ≡ Some y → (x : Instance) → Within a x → IsUpTo y x
  pub inner : (x : Instance) → Within a x → Within c x

up_to_from : (q : Instance) (j : ℕ) (x : Instance) → Within (From q j) x → IsUpTo (q ++ (j ∷ [])) x
up_to_from q j x (k, rest, e, l) = subst (λ (y : Instance). IsUpTo (q ++ (j ∷ [])) y) (sym e)
    (same_start q (j ∷ []) (k ∷ rest) (one_up_to j k rest l))

inside_from : (q : Instance) (j : ℕ) (x : Instance) → Within (From (q ++ (j ∷ [])) 0) x → Within (From q j) x
inside_from q j x (k, rest, e, l) = (j, k ∷ rest, e ∙ append_assoc q (j ∷ []) (k ∷ rest), omega arith)

later_from : (q : Instance) (j : ℕ) (x : Instance) → Within (From q (suc j)) x → Within (From q j) x
later_from q j x (k, rest, e, l) = (k, rest, e, omega (arith, l))

branch_from : (q : Instance) (i : ℕ) (x : Instance) → Within (From (q ++ (i ∷ [])) 0) x → Within (From q 0) x
branch_from q i x (k, rest, e, l) = (i, k ∷ rest, e ∙ append_assoc q (i ∷ []) (k ∷ rest), omega arith)

of_from : (q : Instance) (j : ℕ) (x : Instance) → Within (Of (q ++ (j ∷ []))) x → Within (From q j) x
of_from q j x (rest, e) = (j, rest, e ∙ append_assoc q (j ∷ []) rest, omega arith)

from_of : (q : Instance) (x : Instance) → Within (From q 0) x → Within (Of q) x
from_of q x (k, rest, e, l) = (k ∷ rest, e)

of_up_to : (q : Instance) (j : ℕ) (x y : Instance) → Within (Of (q ++ (j ∷ []))) x → Within (From q (suc j)) y
    → IsUpTo x y
of_up_to q j x y (rest, e) (i, more, d, m) =
    subst (λ (z : Instance). IsUpTo z y) (sym (e ∙ append_assoc q (j ∷ []) rest))
    (subst (λ (z : Instance). IsUpTo (q ++ (j ∷ rest)) z) (sym d)
    (same_start q (j ∷ rest) (i ∷ more) (earlier_up_to j i rest more (omega (arith, m)))))

pub quiet_first : (c : Stretch) → Joins Quiet c c
quiet_first c = record { in_order = λ x y h k. absurd h; first = λ x h. absurd h; second = λ x h. h }

pub quiet_last : (c : Stretch) → Joins c Quiet c
quiet_last c = record { in_order = λ x y h k. absurd k; first = λ x h. h; second = λ x h. absurd h }

pub then_next : (q : Instance) (j : ℕ) → Joins (Of (q ++ (j ∷ []))) (From q (suc j)) (From q j)
then_next q j = record { in_order = of_up_to q j; first = of_from q j; second = later_from q j }

turn_next : (q : Instance) (j : ℕ) → Joins (From (q ++ (j ∷ [])) 0) (From q (suc j)) (From q j)
turn_next q j = record {
  in_order = λ x y h k. of_up_to q j x y (from_of (q ++ (j ∷ [])) x h) k;
  first = inside_from q j;
  second = later_from q j;
}

up_to_of : (q : Instance) (x : Instance) → Within (From q 0) x → IsUpTo q x
up_to_of q x (k, rest, e, l) = subst (λ (z : Instance). IsUpTo q z) (sym e)
    (subst (λ (z : Instance). IsUpTo z (q ++ (k ∷ rest))) (append-nil q) (same_start q [] (k ∷ rest) refl))

pub ran_tells : (q : Instance) (at : Spot) → Tells (Ran q at) (From q 0) (Of q)
ran_tells q at = record {
  own = λ y e. ([], sym (same_Some q y e) ∙ sym (append-nil q));
  ahead = λ y e x h. subst (λ (z : Instance). IsUpTo z x) (same_Some q y e) (up_to_of q x h);
  inner = from_of q;
}

turned_tells : (q : Instance) (t : ℕ) → Tells (Turned q t) (From q t) (From q t)
turned_tells q t = record {
  own = λ y e. (t, [], sym (same_Some (q ++ (t ∷ [])) y e), omega arith);
  ahead = λ y e x h. subst (λ (z : Instance). IsUpTo z x) (same_Some (q ++ (t ∷ [])) y e) (up_to_from q t x h);
  inner = λ x h. h;
}

pub silent_tells : (m : Mark) (c : Stretch) → place_of m ≡ None → Tells m c c
silent_tells m c e = record { own = λ y d. absurd (cc (e, d)); ahead = λ y d. absurd (cc (e, d)); inner = λ x h. h }

-- ---- two runs side by side

-- where two runs begin: a state and notes each
pub record Both (V W : Type 0) : Type 0 where
  pub s : State
  pub n : Notes V
  pub t : State
  pub m : Notes W

abbrev pub told : {V W : Type 0} → Mark → Both V W → Both V W
told k x = record x { n = marked k x.n; m = marked k x.m }

abbrev pub answered_by : {V W : Type 0} → Origin → V → W → Both V W → Both V W
answered_by from v w x = record x { n = used from v x.n; m = used from w x.m }

-- all marks but those that say that a statement ran or did not go through
abbrev pub IsFree : Mark → Type 0
IsFree (Ran q at) = ⊥
IsFree (Stopped q e) = ⊥
IsFree _ = Unit {0}

-- what tells of a question is told where one may be asked
abbrev pub MayTell : Mark → Type 0 → Type 0
MayTell (Asked c ask) asks = asks
MayTell _ asks = Unit {0}

-- A relation between two runs, by worlds: where they may begin in a world, and how what a stretch comes to is related to where it began,
-- where it leads from one world to another; where statements may stand that lead so; where something may be asked; and which barred statements go together.
pub record Relation (V W : Type 0) : Type 1 where
  pub World : Type 0
  pub Start : World → Both V W → Type 0
  pub Rel : World → World → Stretch → Both V W → Run V → Run W → Type 0
  pub One : World → World → Where → Spot → Action → Type 0
  pub Many : World → World → Where → Scene → ℕ → Lines → Type 0
  pub Asks : World → Type 0
  pub Bars : World → List ℕ → List ℕ → Type 0

-- two acts lead from where runs may begin to what is related
abbrev pub Does : {V W : Type 0} (S : Relation V W) → S.World → S.World → Stretch → Act V → Act W → Type 0
Does S k l c a b = (x : Both _ _) → S.Start k x → S.Rel k l c x (a x.s x.n) (b x.t x.m)

-- ---- what the relation has to know of a form

-- what is set to what stands right of a =, and its form
abbrev pub HasTarget : Where → Action → RightSide → ℕ → Form → Type 0
HasTarget here (Declares ty y d) e z k = (d ≡ e) × (y.name ≡ z) × (form ty ≡ k)
HasTarget here (Assigns y d) e z k = (d ≡ e) × (y.name ≡ z)
    × ((w : Local) × (there (here.context.local y.name) ≡ Fine w) × (w.form ≡ k))
HasTarget here _ e z k = ⊥

-- the expression whose value a condition, an `assert` or a `print` goes by
abbrev pub HasTest : Action → Expression → Type 0
HasTest (Chooses d n b) e = d ≡ e
HasTest (ChoosesElse d n b k c) e = d ≡ e
HasTest (Prints d) e = d ≡ e
HasTest (Asserts d) e = d ≡ e
HasTest _ e = ⊥

abbrev pub IsPrint : Action → Type 0
IsPrint (Prints e) = Unit {0}
IsPrint (PrintsText text) = Unit {0}
IsPrint _ = ⊥

-- what changes the state alone
abbrev pub HasEffect : Code → Where → Action → (State → Outcome State) → Type 0
HasEffect p here (Stores path e) f = stored p path e ≡ f
HasEffect p here (StoresAt path i e) f = stored_at p path i e ≡ f
HasEffect p here (Freezes x) f = frozen x.name ≡ f
HasEffect p here (Shares x g) f = shares_into x.name g.name ≡ f
HasEffect p here (Returns e) f = returns_value p here.method e ≡ f
HasEffect p here _ f = ⊥

-- nothing is done
abbrev pub Passes : {V W : Type 0} (S : Relation V W) → S.World → S.World → Type 0
Passes S k l = Does S k l Quiet (λ s n. Went s n) (λ s n. Went s n)

-- a block is left
abbrev pub Forgets : {V W : Type 0} (S : Relation V W) → S.World → S.World → Context → Type 0
Forgets S k l y = Does S k l Quiet (λ s n. Went (forgotten y s) n) (λ s n. Went (forgotten y s) n)

-- a block may stand here
abbrev pub IsBlock : {V W : Type 0} (S : Relation V W) → S.World → S.World → Where → Lines → Type 0
IsBlock S k l here y = (w : S.World) × S.Many k w here (whole_block y here) 0 y × Forgets S w l here.context

-- both find the expression alike
abbrev pub IsTested : {V W : Type 0} (S : Relation V W) → Code → S.World → Expression → Type 0
IsTested S p k e = (x : Both _ _) → S.Start k x → value p x.s e ≡ value p x.t e

-- a loop may stand here, in a world that each turn comes back to
pub record IsLoop {V W : Type 0} (S : Relation V W) (p : Code) (k l : S.World) (here : Where) (e : Expression)
    (y : Lines) : Type 0 where
  pub tested : IsTested S p k e
  pub turn : (t : ℕ) → IsBlock S k k (deeper t here) y
  pub passes : Passes S k l

-- what is known in the second world is known in the first one
pub record IsIn {V W : Type 0} (S : Relation V W) (k w l : S.World) : Type 0 where
  pub starts : (x : Both V W) → S.Start k x → S.Start w x
  pub ends : (a : Stretch) (x : Both V W) (r : Run V) (q : Run W) → S.Rel w l a x r q → S.Rel k l a x r q

-- a group goes away, and what was observed of its cell comes back
abbrev pub away_to : {W : Type 0} → Where → ℕ → Act W
away_to here g s n = if nat_eq io g then Went s (record n { cell = Some (cell_of here g) }) else Went
    (with_store g (Some (Away (cell_of here g))) s) n

abbrev pub back_to : {W : Type 0} → ℕ → Image → Act W
back_to g image s n = if nat_eq io g then log_back image s n else store_back g image s n

abbrev pub SameImage : {V W : Type 0} (S : Relation V W) → S.World → ℕ → Type 0
SameImage S k g = (x : Both _ _) → S.Start k x → image_of g x.s x.n ≡ image_of g x.t x.m

-- groups go away, from this world to that
abbrev pub GoAway : {V W : Type 0} (S : Relation V W) → S.World → S.World → Where → List NameAt → Type 0
GoAway S k l here [] = Passes S k l
GoAway S k l here (g ∷ gs) = (w : S.World) × SameImage S k g.name × Does S k w Quiet (away_to here g.name)
    (away_to here g.name) × GoAway S w l here gs

-- they come back, where they went away in the first world
abbrev pub ComeBack : {V W : Type 0} (S : Relation V W) → S.World → S.World → S.World → List NameAt → Type 0
ComeBack S b k l [] = Passes S k l
ComeBack S b k l (g ∷ gs) = (w : S.World) × S.Asks k × SameImage S b g.name
    × ((image : Image) → Does S k w Quiet (back_to g.name image) (back_to g.name image)) × ComeBack S b w l gs

pub record IsSplit {V W : Type 0} (S : Relation V W) (k l : S.World) (here : Where) (gs : List NameAt) (y : Lines)
    : Type 0 where
  pub begun : S.World
  pub ended : S.World
  pub away : GoAway S k begun here gs
  pub block : IsBlock S begun ended (splitting gs here) y
  pub back : ComeBack S k ended l gs

pub record IsLock {V W : Type 0} (S : Relation V W) (p : Code) (k l : S.World) (here : Where) (at : Spot) (g : NameAt)
    (number : ℕ) (y : Lines) : Type 0 where
  pub cells : (x : Both V W) → S.Start k x → cell_at g.name x.s x.n ≡ cell_at g.name x.t x.m
  pub asks : (x : Both V W) → S.Start k x → (c : CellName) → cell_at g.name x.s x.n ≡ Some c → S.Asks k
  pub block : IsBlock S k l (locking g here) y
  pub ins : (x : Both V W) → S.Start k x → values_in (else_uses p g.name (whole_block y (locking g here))) x.s
      ≡ values_in (else_uses p g.name (whole_block y (locking g here))) x.t
  pub fits : (x : Both V W) → S.Start k x → (z : Carried)
      → out_fits p (else_uses p g.name (whole_block y (locking g here)))
      (after p here.method at (Locks g number y) here.context) x.s z
      ≡ out_fits p (else_uses p g.name (whole_block y (locking g here)))
      (after p here.method at (Locks g number y) here.context) x.t z
  pub gives : (z : Carried) (x : Both V W) → S.Start k x
      → out_fits p (else_uses p g.name (whole_block y (locking g here)))
      (after p here.method at (Locks g number y) here.context) x.s z ≡ true
      → (from : Origin) (v : V) (w : W) → S.Start k (answered_by from v w x)
      → S.Rel k l Quiet (answered_by from v w x)
      (with_out (else_uses p g.name (whole_block y (locking g here))) z x.s (used from v x.n))
      (with_out (else_uses p g.name (whole_block y (locking g here))) z x.t (used from w x.m))

abbrev pub entering : {V W : Type 0} → CallFrame → Both V W → Both V W
entering f x = record x { s = f.state; t = f.state }

-- a call may stand here, from one world to that in which its result is handed on
pub record IsCall {V W : Type 0} (S : Relation V W) (p : Code) (k l : S.World) (here : Where) (at : Spot)
    (i : Invocation) : Type 0 where
  pub enters : (x : Both V W) → S.Start k x → enter p here i x.s ≡ enter p here i x.t
  pub inner : (x : Both V W) → S.Start k x → (f : CallFrame) → enter p here i x.s ≡ Fine f → S.World
  pub outer : (x : Both V W) → S.Start k x → (f : CallFrame) → enter p here i x.s ≡ Fine f → S.World
  pub starts : (x : Both V W) (h : S.Start k x) (f : CallFrame) (e : enter p here i x.s ≡ Fine f)
      → S.Start (inner x h f e) (entering f x)
  pub body : (x : Both V W) (h : S.Start k x) (f : CallFrame) (e : enter p here i x.s ≡ Fine f)
      → IsBlock S (inner x h f e) (outer x h f e) f.here f.callee.method.body
  pub leaves : (m : S.World) (x : Both V W) (h : S.Start k x) (f : CallFrame) (e : enter p here i x.s ≡ Fine f)
      → (r : Run V) (q : Run W) → S.Rel (inner x h f e) (outer x h f e) (From f.here.path 0) (entering f x) r q
      → (go : Option Val → Act V) (ho : Option Val → Act W) → ((v : Option Val) → Does S l m Quiet (go v) (ho v))
      → S.Rel k m (From here.path 0) x
      (and_then r (λ t n. outcome_given (leave f i x.s t) at n (λ y. go t.result y n)))
      (and_then q (λ t n. outcome_given (leave f i x.t t) at n (λ y. ho t.result y n)))

-- ---- what keeps the relation

-- an answer that is not used, or one that is
abbrev pub IsAnswered : {V W : Type 0} (S : Relation V W) → S.World → S.World → Stretch → Origin → V → W → Both V W
    → Run V → Run W → Type 0
IsAnswered S k l c from v w x r q = ((r ≡ Stops x.n) × (q ≡ Stops x.m)) ⊎ S.Rel k l c (answered_by from v w x) r q

abbrev pub machine : {W : Type 0} → Code → Observer W → Order W → Machine W
machine p o c = record { code = p; observer = o; order = c }

-- a statement with this fuel, and those that follow it in its block
abbrev pub begins : {W : Type 0} → Machine W → ℕ → Where → Spot → Action → Act W
begins m fuel here at a = begun here at (one m (below m fuel) here at a)

abbrev pub goes_on : {W : Type 0} → Machine W → ℕ → Where → Spot → Action → Scene → ℕ → Lines → List ℕ → Act W
goes_on m fuel here at a all j rest = many m (below m fuel)
    (knowing (after m.code here.method at a here.context) here) all (suc j) rest

-- what each form of statement has to keep, whatever the machines are
pub record Forms {V W : Type 0} (S : Relation V W) (p : Code) : Type 0 where
  -- statements without blocks
  pub makes : (k l : S.World) (here : Where) (at : Spot) (a : Action) → S.One k l here at a
      → (e : RightSide) (y : ℕ) (z : Form) → HasTarget here a e y z
      → Does S k l Quiet (λ s n. outcome_given (made p e s) at n
      (λ r. assigned at y z r.0 (without_moved (right_moved p z e) r.1) n))
      (λ s n. outcome_given (made p e s) at n (λ r. assigned at y z r.0 (without_moved (right_moved p z e) r.1) n))
  pub effects : (k l : S.World) (here : Where) (at : Spot) (a : Action) → S.One k l here at a
      → (f : State → Outcome State) → HasEffect p here a f
      → Does S k l Quiet (λ s n. does at n (f s)) (λ s n. does at n (f s))
  pub groups : (k l : S.World) (here : Where) (at : Spot) (g : NameAt) → S.One k l here at (Groups g)
      → Does S k l Quiet (λ s n. Went (with_store g.name (Some (Here [])) s) n)
      (λ s n. Went (with_store g.name (Some (Here [])) s) n)
  pub prints : (k l : S.World) (here : Where) (at : Spot) (a : Action) → S.One k l here at a → IsPrint a
      → (y : List Piece) → Does S k l Quiet (λ s n. Went s (logged y n)) (λ s n. Went s (logged y n))
  pub tests : (k l : S.World) (here : Where) (at : Spot) (a : Action) → S.One k l here at a → (e : Expression)
      → HasTest a e → IsTested S p k e
  pub passes : (k l : S.World) (here : Where) (at : Spot) (e : Expression) → S.One k l here at (Asserts e)
      → Passes S k l
  -- calls
  pub called : (k l : S.World) (here : Where) (at : Spot) (i : Invocation) → S.One k l here at (Calls i)
      → (w : S.World) × IsCall S p k w here at i × Passes S w l
  pub called_for : (k l : S.World) (here : Where) (at : Spot) (a : Action) → S.One k l here at a
      → (i : Invocation) (y : ℕ) (z : Form) → HasTarget here a (Returned i) y z
      → (w : S.World) × IsCall S p k w here at i
      × ((v : Val) → Does S w l Quiet (assigned at y z v) (assigned at y z v))
  -- what stands inside
  pub chooses : (k l : S.World) (here : Where) (at : Spot) (e : Expression) (nb : ℕ) (b : Lines)
      → S.One k l here at (Chooses e nb b) → IsBlock S k l (deeper 0 here) b × Passes S k l
  pub chooses_else : (k l : S.World) (here : Where) (at : Spot) (e : Expression) (nb : ℕ) (b : Lines) (nc : ℕ)
      (y : Lines) → S.One k l here at (ChoosesElse e nb b nc y)
      → IsBlock S k l (deeper 0 here) b × IsBlock S k l (deeper 1 here) y
  pub repeats : (k l : S.World) (here : Where) (at : Spot) (e : Expression) (nb : ℕ) (b : Lines)
      → S.One k l here at (Repeats e nb b) → (w : S.World) × IsIn S k w l × IsLoop S p w l here e b
  pub splits : (k l : S.World) (here : Where) (at : Spot) (gs : List NameAt) (nb : ℕ) (b : Lines)
      → S.One k l here at (Splits gs nb b) → here.inside ≡ false → IsSplit S k l here gs b
  pub joins : (k l : S.World) (here : Where) (at : Spot) (gs : List NameAt) (nb : ℕ) (b : Lines)
      → S.One k l here at (Splits gs nb b) → here.inside ≡ true → IsBlock S k l (splitting gs here) b
  pub locks : (k l : S.World) (here : Where) (at : Spot) (g : NameAt) (nb : ℕ) (b : Lines)
      → S.One k l here at (Locks g nb b) → IsLock S p k l here at g nb b

-- how runs are put together, in two machines of one program
pub record Link {V W : Type 0} (S : Relation V W) (p : Code) (o : Observer V) (u : Observer W) (c : Order V)
    (d : Order W) : Type 0 where
  -- how runs are put together
  pub ends : (k l : S.World) (e : Ending) → Does S k l Quiet (λ s n. Ends e n) (λ s n. Ends e n)
  pub stops : (k l : S.World) → Does S k l Quiet (λ s n. Stops n) (λ s n. Stops n)
  pub widen : (k l : S.World) (a b : Stretch) → ((y : Instance) → Within a y → Within b y)
      → (x : Both V W) (r : Run V) (q : Run W) → S.Rel k l a x r q → S.Rel k l b x r q
  pub follows : (k l m : S.World) (a b e : Stretch) → Joins a b e → (x : Both V W) (r : Run V) (q : Run W)
      → S.Rel k l a x r q → (f : Act V) (g : Act W) → Does S l m b f g
      → S.Rel k m e x (and_then r f) (and_then q g)
  -- marks
  pub marks : (k : S.World) (m : Mark) → IsFree m → MayTell m (S.Asks k) → (x : Both V W) → S.Start k x
      → S.Start k (told m x)
  pub runs : (k l : S.World) (here : Where) (at : Spot) (a : Action) → S.One k l here at a → (x : Both V W)
      → S.Start k x → S.Start k (told (Ran here.path at) x)
  pub tells : (k l : S.World) (m : Mark) → IsFree m → MayTell m (S.Asks k) → (a b : Stretch) → Tells m a b
      → (x : Both V W) (r : Run V) (q : Run W) → S.Rel k l a (told m x) r q → S.Rel k l b x r q
  pub ran : (k l : S.World) (here : Where) (at : Spot) (a : Action) → S.One k l here at a
      → (x : Both V W) (r : Run V) (q : Run W)
      → S.Rel k l (From here.path 0) (told (Ran here.path at) x) r q → S.Rel k l (Of here.path) x r q
  -- the observers
  pub observes : (k l : S.World) → S.Asks k → (a : Stretch) (query : Query) (from : Origin) (x : Both V W)
      → S.Start k x → (f : Seen × V → Run V) (g : Seen × W → Run W)
      → ((seen : Seen) (v : V) (w : W) → S.Start k (answered_by from v w x)
      → IsAnswered S k l a from v w x (f (seen, v)) (g (seen, w)))
      → S.Rel k l a x (rules.given (o x.n.watch query) (Stops x.n) f) (rules.given (u x.m.watch query) (Stops x.m) g)
  -- The ways through a block: a statement and those that follow it are related in each world in which they may stand.
  pub no_bars : (k : S.World) → S.Bars k [] []
  pub step : (k m : S.World) (here : Where) (all : Scene) (j : ℕ) (at : Spot) (a : Action) (rest : Lines)
      → S.Many k m here all j (Next at a rest) → (bars cars : List ℕ) → S.Bars k bars cars
      → (fuel : ℕ) → ((v w : S.World) → S.One v w (deeper j here) at a
      → Does S v w (Of (here.path ++ (j ∷ []))) (begins (machine p o c) fuel (deeper j here) at a)
      (begins (machine p u d) fuel (deeper j here) at a))
      → ((v w : S.World) → S.Many v w (knowing (after p here.method at a here.context) here) all (suc j) rest
      → (xs ys : List ℕ) → S.Bars v xs ys
      → Does S v w (From here.path (suc j)) (goes_on (machine p o c) fuel here at a all j rest xs)
      (goes_on (machine p u d) fuel here at a all j rest ys))
      → Does S k m (From here.path j)
      (c.step here all j bars (begins (machine p o c) fuel (deeper j here) at a)
      (goes_on (machine p o c) fuel here at a all j rest))
      (d.step here all j cars (begins (machine p u d) fuel (deeper j here) at a)
      (goes_on (machine p u d) fuel here at a all j rest))
  pub close : (k m : S.World) (here : Where) (all : Scene) (j : ℕ) → S.Many k m here all j End → (bars cars : List ℕ)
      → S.Bars k bars cars → Does S k m Quiet (c.close bars) (d.close cars)

-- ---- the induction

module _ {V W : Type 0} (S : Relation V W) (p : Code) (o : Observer V) (u : Observer W) (c : Order V) (d : Order W)
    (F : Forms S p) (L : Link S p o u c d) where
  abbrev one_of : Machine V
  one_of = machine p o c

  abbrev two_of : Machine W
  two_of = machine p u d

  quiet : (k l : S.World) (a : Stretch) (x : Both V W) (r : Run V) (q : Run W) → S.Rel k l Quiet x r q
      → S.Rel k l a x r q
  quiet k l a x r q h = L.widen k l Quiet a (λ y e. absurd e) x r q h

  related_by : {A : Type 0} (k l : S.World) (a : Stretch) (x : Both V W) → S.Start k x
      → (y : Outcome A) (at : Spot) (f : A → Run V) (g : A → Run W)
      → ((z : A) → y ≡ Fine z → S.Rel k l a x (f z) (g z))
      → S.Rel k l a x (outcome_given y at x.n f) (outcome_given y at x.m g)
  related_by k l a x h (Fine z) at f g e = e z refl
  related_by k l a x h (Traps code) at f g e = quiet k l a x _ _ (L.ends k l (Trap code at) x h)
  related_by k l a x h Lacks at f g e = quiet k l a x _ _ (L.stops k l x h)

  related_given : {A : Type 0} (k l : S.World) (a : Stretch) (x : Both V W) → S.Start k x → (y z : Outcome A) → y ≡ z
      → (at : Spot) (f : A → Run V) (g : A → Run W) → ((w : A) → y ≡ Fine w → S.Rel k l a x (f w) (g w))
      → S.Rel k l a x (outcome_given y at x.n f) (outcome_given z at x.m g)
  related_given k l a x h y z e at f g i =
      subst (λ (w : Outcome _). S.Rel k l a x (outcome_given y at x.n f) (outcome_given w at x.m g)) e
      (related_by k l a x h y at f g i)

  related_chosen : (k l : S.World) (a : Stretch) (x : Both V W) (b : Bool) (f f' : ⊤ → Run V) (g g' : ⊤ → Run W)
      → (b ≡ true → S.Rel k l a x (f tt) (g tt)) → (b ≡ false → S.Rel k l a x (f' tt) (g' tt))
      → S.Rel k l a x (chosen b f f') (chosen b g g')
  related_chosen k l a x true f f' g g' h i = h refl
  related_chosen k l a x false f f' g g' h i = i refl

  related_option : {A : Type 0} (k l : S.World) (a : Stretch) (x : Both V W) (y z : Option A) → y ≡ z
      → (r : Run V) (q : Run W) (f : A → Run V) (g : A → Run W) → S.Rel k l a x r q
      → ((w : A) → S.Rel k l a x (f w) (g w))
      → S.Rel k l a x (rules.given y r f) (rules.given z q g)
  related_option k l a x y z e r q f g h i =
      subst (λ (w : Option _). S.Rel k l a x (rules.given y r f) (rules.given w q g)) e (same y)
    where
      same : (y : Option _) → S.Rel k l a x (rules.given y r f) (rules.given y q g)
      same None = h
      same (Some w) = i w

  -- ---- what has one of the fuel less

  pub record Alike (b : Below V) (b' : Below W) : Type 0 where
    pub fuel : b.fuel ≡ b'.fuel
    pub block : (k l : S.World) (here : Where) (lines : Lines) → IsBlock S k l here lines
        → Does S k l (From here.path 0) (b.block here lines) (b'.block here lines)
    pub again : (k l : S.World) (here : Where) (t : ℕ) (at : Spot) (e : Expression) (lines : Lines)
        → IsLoop S p k l here e lines → Does S k l (From here.path t) (b.again here t at e lines)
        (b'.again here t at e lines)

  abbrev pub BothAlike : Option (Below V) → Option (Below W) → Type 0
  BothAlike None None = Unit {0}
  BothAlike None (Some b) = ⊥
  BothAlike (Some b) None = ⊥
  BothAlike (Some b) (Some b') = Alike b b'

  same_fuel : (b : Option (Below V)) (b' : Option (Below W)) → BothAlike b b' → fuel_of b ≡ fuel_of b'
  same_fuel None None l = refl
  same_fuel None (Some b') l = absurd l
  same_fuel (Some b) None l = absurd l
  same_fuel (Some b) (Some b') l = ap suc l.fuel

  related_paid : (k l : S.World) (a : Stretch) (x : Both V W) → S.Start k x
      → (b : Option (Below V)) (b' : Option (Below W)) → BothAlike b b'
      → (at : Spot) (f : Below V → Run V) (g : Below W → Run W)
      → ((y : Below V) (z : Below W) → Alike y z → S.Rel k l a x (f y) (g z))
      → S.Rel k l a x (paid b at x.n f) (paid b' at x.m g)
  related_paid k l a x h None None e at f g i = quiet k l a x _ _ (L.ends k l (Fuel at) x h)
  related_paid k l a x h None (Some b') e at f g i = absurd e
  related_paid k l a x h (Some b) None e at f g i = absurd e
  related_paid k l a x h (Some b) (Some b') e at f g i = i b b' e

  -- ---- split blocks

  to_cell_related : (k l : S.World) (here : Where) (g : ℕ) → Does S k l Quiet (away_to here g) (away_to here g)
      → (image : Image) → Does S k l Quiet (to_cell here g image) (to_cell here g image)
  to_cell_related k l here g e image x h = L.tells k l (Entered (cell_of here g) image) tt tt Quiet Quiet
      (silent_tells (Entered (cell_of here g) image) Quiet refl) x _ _
      (e (told (Entered (cell_of here g) image) x) (L.marks k (Entered (cell_of here g) image) tt tt x h))

  away_related : (k l : S.World) (here : Where) (gs : List NameAt) → GoAway S k l here gs
      → Does S k l Quiet (all_go_away here gs) (all_go_away here gs)
  away_related k l here [] e x h = e x h
  away_related k l here (g ∷ gs) (w, image, e, i) x h = L.follows k w l Quiet Quiet Quiet (quiet_first Quiet) x
      (goes_away here g.name x.s x.n) (goes_away here g.name x.t x.m)
      (related_option k w Quiet x _ _ (image x h) (Stops x.n) (Stops x.m) _ _ (L.stops k w x h)
      (λ y. to_cell_related k w here g.name e y x h))
      (all_go_away here gs) (all_go_away here gs) (away_related w l here gs i)

  cell_answered : (k l : S.World) (here : Where) (g : ℕ)
      → ((image : Image) → Does S k l Quiet (back_to g image) (back_to g image))
      → (x : Both V W) (seen : Seen) (v : V) (w : W) → S.Start k (answered_by (FromCell (cell_of here g)) v w x)
      → IsAnswered S k l Quiet (FromCell (cell_of here g)) v w x (cell_back here g (seen, v) x.s x.n)
      (cell_back here g (seen, w) x.t x.m)
  cell_answered k l here g e x (OfBlock a) v w h = inl (refl, refl)
  cell_answered k l here g e x (OfCell image) v w h = by_name (nat_eq io g) image
      (e image (answered_by (FromCell (cell_of here g)) v w x) h)
    where
      by_name : (b : Bool) (image : Image) → S.Rel k l Quiet (answered_by (FromCell (cell_of here g)) v w x)
          (if b then log_back image x.s (used (FromCell (cell_of here g)) v x.n) else store_back g image x.s
          (used (FromCell (cell_of here g)) v x.n))
          (if b then log_back image x.t (used (FromCell (cell_of here g)) w x.m) else store_back g image x.t
          (used (FromCell (cell_of here g)) w x.m))
          → IsAnswered S k l Quiet (FromCell (cell_of here g)) v w x
          (unless_stopped (if b then log_back image x.s (used (FromCell (cell_of here g)) v x.n) else store_back g
          image x.s (used (FromCell (cell_of here g)) v x.n)) x.n)
          (unless_stopped (if b then log_back image x.t (used (FromCell (cell_of here g)) w x.m) else store_back g
          image x.t (used (FromCell (cell_of here g)) w x.m)) x.m)
      by_name true (OfStore st) i = inl (refl, refl)
      by_name true (OfLog pieces) i = inr i
      by_name false (OfStore st) i = by_height (all_low st) i
        where
          by_height : (b : Bool) → S.Rel k l Quiet (answered_by (FromCell (cell_of here g)) v w x)
              (if b then Went (with_store g (Some (Here st)) x.s) (used (FromCell (cell_of here g)) v x.n) else Stops
              (used (FromCell (cell_of here g)) v x.n))
              (if b then Went (with_store g (Some (Here st)) x.t) (used (FromCell (cell_of here g)) w x.m) else Stops
              (used (FromCell (cell_of here g)) w x.m))
              → IsAnswered S k l Quiet (FromCell (cell_of here g)) v w x
              (unless_stopped (if b then Went (with_store g (Some (Here st)) x.s)
              (used (FromCell (cell_of here g)) v x.n) else Stops (used (FromCell (cell_of here g)) v x.n)) x.n)
              (unless_stopped (if b then Went (with_store g (Some (Here st)) x.t)
              (used (FromCell (cell_of here g)) w x.m) else Stops (used (FromCell (cell_of here g)) w x.m)) x.m)
          by_height true j = inr j
          by_height false j = inl (refl, refl)
      by_name false (OfLog pieces) i = inl (refl, refl)

  comes_related : (k l : S.World) → S.Asks k → (here : Where) (g : ℕ)
      → ((image : Image) → Does S k l Quiet (back_to g image) (back_to g image)) → (first : Image)
      → Does S k l Quiet (cell_comes_back one_of here g first) (cell_comes_back two_of here g first)
  comes_related k l may here g e first x h = L.observes k l may Quiet (AtEnd (cell_of here g) first)
      (FromCell (cell_of here g)) x h (λ seen. cell_back here g seen x.s x.n) (λ seen. cell_back here g seen x.t x.m)
      (cell_answered k l here g e x)

  back_related : (b k l : S.World) (here : Where) (gs : List NameAt) → ComeBack S b k l gs → (before : Both V W)
      → S.Start b before
      → Does S k l Quiet (all_come_back one_of here gs before.s before.n.log)
      (all_come_back two_of here gs before.t before.m.log)
  back_related b k l here [] e before i x h = e x h
  back_related b k l here (g ∷ gs) (w, may, image, e, j) before i x h = L.follows k w l Quiet Quiet Quiet
      (quiet_first Quiet) x _ _
      (related_option k w Quiet x (image_of g.name before.s (record x.n { log = before.n.log }))
      (image_of g.name before.t (record x.m { log = before.m.log })) (image before i)
      (Stops x.n) (Stops x.m) _ _ (L.stops k w x h) (λ first. comes_related k w may here g.name e first x h))
      (all_come_back one_of here gs before.s before.n.log) (all_come_back two_of here gs before.t before.m.log)
      (back_related b w l here gs j before i)

  -- ---- atomic blocks

  block_answered : (k l : S.World) (here : Where) (at : Spot) (g : NameAt) (number : ℕ) (y : Lines)
      → IsLock S p k l here at g number y → (from : Origin) (x : Both V W) → S.Start k x
      → (seen : Seen) (v : V) (w : W) → S.Start k (answered_by from v w x)
      → IsAnswered S k l Quiet from v w x
      (block_back p (else_uses p g.name (whole_block y (locking g here)))
      (after p here.method at (Locks g number y) here.context) from (seen, v) x.s x.n)
      (block_back p (else_uses p g.name (whole_block y (locking g here)))
      (after p here.method at (Locks g number y) here.context) from (seen, w) x.t x.m)
  block_answered k l here at g number y e from x i (OfCell image) v w h = inl (refl, refl)
  block_answered k l here at g number y e from x i (OfBlock (Gave out)) v w h =
      let us : Uses = else_uses p g.name (whole_block y (locking g here)) in
      let later : Context = after p here.method at (Locks g number y) here.context in
      subst (λ (b : Bool). IsAnswered S k l Quiet from v w x
      (if out_fits p us later x.s out then with_out us out x.s (used from v x.n) else Stops x.n)
      (if b then with_out us out x.t (used from w x.m) else Stops x.m))
      (e.fits x i out)
      (by_test (out_fits p us later x.s out) (λ f. e.gives out x i f from v w h))
    where
      by_test : (b : Bool) → (b ≡ true
          → S.Rel k l Quiet (answered_by from v w x)
          (with_out (else_uses p g.name (whole_block y (locking g here))) out x.s (used from v x.n))
          (with_out (else_uses p g.name (whole_block y (locking g here))) out x.t (used from w x.m)))
          → IsAnswered S k l Quiet from v w x
          (if b then with_out (else_uses p g.name (whole_block y (locking g here))) out x.s
          (used from v x.n) else Stops x.n)
          (if b then with_out (else_uses p g.name (whole_block y (locking g here))) out x.t
          (used from w x.m) else Stops x.m)
      by_test true f = inr (f refl)
      by_test false f = inl (refl, refl)
  block_answered k l here at g number y e from x i (OfBlock (Trapped code place)) v w h =
      inr (L.ends k l (Trap code place) (answered_by from v w x) h)
  block_answered k l here at g number y e from x i (OfBlock (Spent place)) v w h =
      inr (L.ends k l (Fuel place) (answered_by from v w x) h)

  asks_related : (k l : S.World) (here : Where) (at : Spot) (cell : CellName) (g : NameAt) (number : ℕ) (b : Lines)
      → IsLock S p k l here at g number b → S.Asks k → (fuel fuel' : ℕ) → fuel ≡ fuel'
      → Does S k l Quiet (asks one_of here at cell g number b fuel) (asks two_of here at cell g number b fuel')
  asks_related k l here at cell g number b h may fuel fuel' e x i =
      let us : Uses = else_uses p g.name (whole_block b (locking g here)) in
      let later : Context = after p here.method at (Locks g number b) here.context in
      let ask : Ask = ask_of here number fuel us x.s in
      let same : ask ≡ ask_of here number fuel' us x.t =
      ap (λ (n : ℕ). ask_of here number n us x.s) e
      ∙ ap (λ (y : Carried). record {
        path = here.path;
        method = here.number;
        block = number;
        fuel = fuel';
        depth =
            here.depth;
        ins = y;
      }) (h.ins x i) in
      let z : Both V W = told (Asked cell ask) x in
      let j : S.Start k (told (Asked cell ask) x) = L.marks k (Asked cell ask) tt may x i in
      L.tells k l (Asked cell ask) tt may Quiet Quiet (silent_tells (Asked cell ask) Quiet refl) x _ _
      (subst (λ (a : Ask). S.Rel k l Quiet (told (Asked cell ask) x)
      (put_to one_of ask us later x.s (marked (Asked cell ask) x.n))
      (put_to two_of a us later x.t (marked (Asked cell a) x.m))) same
      (L.observes k l may Quiet (AtBlock ask) (FromBlock ask.path) z j
      (λ seen. block_back p us later (FromBlock ask.path) seen z.s z.n)
      (λ seen. block_back p us later (FromBlock ask.path) seen z.t z.m)
      (block_answered k l here at g number b h (FromBlock ask.path) z j)))

  -- ---- calls and right sides

  call_related : (b : Option (Below V)) (b' : Option (Below W)) → BothAlike b b'
      → (k w l : S.World) (here : Where) (at : Spot) (i : Invocation) → IsCall S p k w here at i
      → (go : Option Val → Act V) (ho : Option Val → Act W) → ((v : Option Val) → Does S w l Quiet (go v) (ho v))
      → Does S k l (From here.path 0) (λ s n. calls_method one_of b here at i s n go)
      (λ s n. calls_method two_of b' here at i s n ho)
  call_related b b' e k w l here at i h go ho g x d = related_given k l (From here.path 0) x d (enter p here i x.s)
      (enter p here i x.t) (h.enters x d) at
      (call_run b here at i x.s x.n go) (call_run b' here at i x.t x.m ho)
      (λ f j. related_chosen k l (From here.path 0) x (nat_lt here.depth 1000) _ _ _ _
      (λ t. related_paid k l (From here.path 0) x d b b' e at (body_run at i f x.s x.n go) (body_run at i f x.t x.m ho)
      (λ y z m. h.leaves l x d f j (y.block f.here f.callee.method.body f.state x.n)
      (z.block f.here f.callee.method.body f.state x.m)
      (m.block (h.inner x d f j) (h.outer x d f j) f.here f.callee.method.body (h.body x d f j) (entering f x)
      (h.starts x d f j)) go ho g))
      (λ t. quiet k l (From here.path 0) x _ _ (L.ends k l (Trap 6 at) x d)))

  result_related : (k l : S.World) (at : Spot) (y : ℕ) (z : Form)
      → ((v : Val) → Does S k l Quiet (assigned at y z v) (assigned at y z v)) → (r : Option Val)
      → Does S k l Quiet (result_to at y z r) (result_to at y z r)
  result_related k l at y z h r x d = related_given k l Quiet x d (there r) (there r) refl at
      (λ v. assigned at y z v x.s x.n) (λ v. assigned at y z v x.t x.m) (λ v e. h v x d)

  sets_related : (b : Option (Below V)) (b' : Option (Below W)) → BothAlike b b'
      → (k l : S.World) (here : Where) (at : Spot) (a : Action) → S.One k l here at a
      → (e : RightSide) (y : ℕ) (z : Form) → HasTarget here a e y z
      → Does S k l (From here.path 0) (sets one_of b here at y z e) (sets two_of b' here at y z e)
  sets_related b b' m k l here at a h (Returned i) y z r x d =
      let f = F.called_for k l here at a h i y z r in
      call_related b b' m k f.0 l here at i f.1 (result_to at y z) (result_to at y z)
      (result_related f.0 l at y z f.2) x d
  sets_related b b' m k l here at a h (Value e) y z r x d = quiet k l (From here.path 0) x _ _
      (F.makes k l here at a h (Value e) y z r x d)
  sets_related b b' m k l here at a h (Taken path place) y z r x d = quiet k l (From here.path 0) x _ _
      (F.makes k l here at a h (Taken path place) y z r x d)
  sets_related b b' m k l here at a h (Zeros e place) y z r x d = quiet k l (From here.path 0) x _ _
      (F.makes k l here at a h (Zeros e place) y z r x d)
  sets_related b b' m k l here at a h (Made n gs args place) y z r x d = quiet k l (From here.path 0) x _ _
      (F.makes k l here at a h (Made n gs args place) y z r x d)

  -- ---- loops and blocks

  asserts_related : (k l : S.World) (at : Spot) → Passes S k l → (b : Bool)
      → Does S k l Quiet (asserts at b) (asserts at b)
  asserts_related k l at h true x d = h x d
  asserts_related k l at h false x d = L.ends k l (Trap 5 at) x d

  left_related : (k w l : S.World) (a : Stretch) (y : Context) → Forgets S w l y
      → (x : Both V W) (r : Run V) (q : Run W) → S.Rel k w a x r q → S.Rel k l a x (left y r) (left y q)
  left_related k w l a y f x r q h = L.follows k w l a Quiet a (quiet_last a) x r q h (λ s n. Went (forgotten y s) n)
      (λ s n. Went (forgotten y s) n) f

  tested : (k l : S.World) (here : Where) (at : Spot) (a : Action) → S.One k l here at a → (e : Expression)
      → HasTest a e → (x : Both V W) → S.Start k x → truth_of p x.s e ≡ truth_of p x.t e
  tested k l here at a h e r x d = ap (λ (v : Outcome Val). v >>= truth) (F.tests k l here at a h e r x d)

  again_related : (b : Option (Below V)) (b' : Option (Below W)) → BothAlike b b'
      → (k l : S.World) (here : Where) (t : ℕ) (at : Spot) (e : Expression) (lines : Lines)
      → IsLoop S p k l here e lines
      → Does S k l (From here.path t) (again one_of b here t at e lines) (again two_of b' here t at e lines)
  again_related b b' m k l here t at e lines h x d =
      let y : Both V W = told (Turned here.path t) x in
      let i : S.Start k (told (Turned here.path t) x) = L.marks k (Turned here.path t) tt tt x d in
      L.tells k l (Turned here.path t) tt tt (From here.path t) (From here.path t) (turned_tells here.path t) x _ _
      (related_given k l (From here.path t) y i (truth_of p x.s e) (truth_of p x.t e)
      (ap (λ (v : Outcome Val). v >>= truth) (h.tested x d)) at _ _
      (λ test f. related_chosen k l (From here.path t) y test _ _ _ _
      (λ g. related_paid k l (From here.path t) y i b b' m at _ _ (λ run run' n.
      L.follows k k l (From (here.path ++ (t ∷ [])) 0) (From here.path (suc t)) (From here.path t)
      (turn_next here.path t) y _ _
      (n.block k k (deeper t here) lines (h.turn t) y i)
      (run.again here (suc t) at e lines) (run'.again here (suc t) at e lines) (n.again k l here (suc t) at e lines h)))
      (λ g. quiet k l (From here.path t) y _ _ (h.passes y i))))

  splits_related : (k l : S.World) (here : Where) (gs : List NameAt) (b : Lines) (f : Act V) (g : Act W)
      → (here.inside ≡ true → Does S k l (From here.path 0) f g)
      → (here.inside ≡ false → (h : IsSplit S k l here gs b) × Does S h.begun h.ended (From here.path 0) f g)
      → Does S k l (From here.path 0) (splits_groups one_of here gs f) (splits_groups two_of here gs g)
  splits_related k l here gs b f g h i x d = related_chosen k l (From here.path 0) x here.inside _ _ _ _ (λ t. h t x d)
      (λ t. let e = i t in
      L.follows k e.0.begun l Quiet (From here.path 0) (From here.path 0) (quiet_first (From here.path 0)) x _ _
      (away_related k e.0.begun here gs e.0.away x d)
      (λ t n. and_then (f t n) (all_come_back one_of here gs x.s x.n.log))
      (λ t n. and_then (g t n) (all_come_back two_of here gs x.t x.m.log))
      (λ y j. L.follows e.0.begun e.0.ended l (From here.path 0) Quiet (From here.path 0)
      (quiet_last (From here.path 0)) y _ _ (e.1 y j)
      (all_come_back one_of here gs x.s x.n.log) (all_come_back two_of here gs x.t x.m.log)
      (back_related k e.0.ended l here gs e.0.back x d)))

  locks_related : (b : Option (Below V)) (b' : Option (Below W)) → BothAlike b b'
      → (k l : S.World) (here : Where) (at : Spot) (g : NameAt) (number : ℕ) (lines : Lines)
      → IsLock S p k l here at g number lines
      → (f : Act V) (f' : Act W) → Does S k l (From here.path 0) f f'
      → Does S k l (From here.path 0) (locks one_of b here at g number lines f)
      (locks two_of b' here at g number lines f')
  locks_related b b' m k l here at g number lines h f f' i x d =
      subst (λ (w : Option CellName). S.Rel k l (From here.path 0) x (locks one_of b here at g number lines f x.s x.n)
      (rules.given w (f' x.t x.m) (λ cell. asks two_of here at cell g number lines (fuel_of b') x.t x.m)))
      (h.cells x d) (same (cell_at g.name x.s x.n) refl)
    where
      same : (y : Option CellName) → cell_at g.name x.s x.n ≡ y
          → S.Rel k l (From here.path 0) x
          (rules.given y (f x.s x.n) (λ cell. asks one_of here at cell g number lines (fuel_of b) x.s x.n))
          (rules.given y (f' x.t x.m) (λ cell. asks two_of here at cell g number lines (fuel_of b') x.t x.m))
      same None e = i x d
      same (Some cell) e = quiet k l (From here.path 0) x _ _
          (asks_related k l here at cell g number lines h (h.asks x d cell e) (fuel_of b) (fuel_of b')
          (same_fuel b b' m) x d)

  -- ---- statements

  mutual
    unfolding one many

    pub related_one : (fuel : ℕ) → BothAlike (below one_of fuel) (below two_of fuel)
        → (k l : S.World) (here : Where) (at : Spot) (a : Action) → S.One k l here at a
        → Does S k l (From here.path 0) (one one_of (below one_of fuel) here at a)
        (one two_of (below two_of fuel) here at a)
    related_one fuel m k l here at (Declares ty y e) h x d = sets_related (below one_of fuel)
        (below two_of fuel) m k l here at (Declares ty y e) h e y.name (form ty) (refl, refl, refl) x d
    related_one fuel m k l here at (Assigns y e) h x d = related_given k l (From here.path 0) x d
        (there (here.context.local y.name)) (there (here.context.local y.name)) refl at
        (λ (z : Local). sets one_of (below one_of fuel) here at y.name z.form e x.s x.n)
        (λ (z : Local). sets two_of (below two_of fuel) here at y.name z.form e x.t x.m)
        (λ (z : Local) f. sets_related (below one_of fuel) (below two_of fuel) m k l here at
        (Assigns y e) h e y.name z.form (refl, refl, (z, f, refl)) x d)
    related_one fuel m k l here at (Stores path e) h x d = quiet k l (From here.path 0) x _ _
        (F.effects k l here at (Stores path e) h (stored p path e) refl x d)
    related_one fuel m k l here at (StoresAt path i e) h x d = quiet k l (From here.path 0) x _ _
        (F.effects k l here at (StoresAt path i e) h (stored_at p path i e) refl x d)
    related_one fuel m k l here at (Calls i) h x d =
        let f = F.called k l here at i h in
        call_related (below one_of fuel) (below two_of fuel) m k f.0 l here at i f.1 (λ r t n. Went t n)
        (λ r t n. Went t n) (λ r. f.2) x d
    related_one fuel m k l here at (Chooses e nb y) h x d =
        let f = F.chooses k l here at e nb y h in
        related_given k l (From here.path 0) x d (truth_of p x.s e) (truth_of p x.t e)
        (tested k l here at (Chooses e nb y) h e refl x d) at _ _
        (λ test g. related_chosen k l (From here.path 0) x test _ _ _ _
        (λ t. L.widen k l (From (here.path ++ (0 ∷ [])) 0) (From here.path 0) (branch_from here.path 0) x _ _
        (left_related k f.0.0 l (From (here.path ++ (0 ∷ [])) 0) here.context f.0.2 x _ _
        (related_many fuel m k f.0.0 (deeper 0 here) (whole_block y here) 0 y [] [] (L.no_bars k) f.0.1 x d)))
        (λ t. quiet k l (From here.path 0) x _ _ (f.1 x d)))
    related_one fuel m k l here at (ChoosesElse e nb y nc z) h x d =
        let f = F.chooses_else k l here at e nb y nc z h in
        related_given k l (From here.path 0) x d (truth_of p x.s e) (truth_of p x.t e)
        (tested k l here at (ChoosesElse e nb y nc z) h e refl x d) at _ _
        (λ test g. related_chosen k l (From here.path 0) x test _ _ _ _
        (λ t. L.widen k l (From (here.path ++ (0 ∷ [])) 0) (From here.path 0) (branch_from here.path 0) x _ _
        (left_related k f.0.0 l (From (here.path ++ (0 ∷ [])) 0) here.context f.0.2 x _ _
        (related_many fuel m k f.0.0 (deeper 0 here) (whole_block y here) 0 y [] [] (L.no_bars k) f.0.1 x d)))
        (λ t. L.widen k l (From (here.path ++ (1 ∷ [])) 0) (From here.path 0) (branch_from here.path 1) x _ _
        (left_related k f.1.0 l (From (here.path ++ (1 ∷ [])) 0) here.context f.1.2 x _ _
        (related_many fuel m k f.1.0 (deeper 1 here) (whole_block z here) 0 z [] [] (L.no_bars k) f.1.1 x d))))
    related_one fuel m k l here at (Repeats e nb y) h x d =
        let f = F.repeats k l here at e nb y h in
        f.1.ends (From here.path 0) x _ _
        (again_related (below one_of fuel) (below two_of fuel) m f.0 l here 0 at e y f.2 x (f.1.starts x d))
    related_one fuel m k l here at (Groups g) h x d = quiet k l (From here.path 0) x _ _ (F.groups k l here at g h x d)
    related_one fuel m k l here at (Splits gs nb y) h x d = splits_related k l here gs y
        (λ t n. left (splitting gs here).context
        (many one_of (below one_of fuel) (splitting gs here) (whole_block y (splitting gs here)) 0 y [] t n))
        (λ t n. left (splitting gs here).context
        (many two_of (below two_of fuel) (splitting gs here) (whole_block y (splitting gs here)) 0 y [] t n))
        (λ t. let f = F.joins k l here at gs nb y h t in
        λ z i. left_related k f.0 l (From here.path 0) (splitting gs here).context f.2 z _ _
        (related_many fuel m k f.0 (splitting gs here) (whole_block y (splitting gs here)) 0 y [] []
        (L.no_bars k) f.1 z i))
        (λ t. let f = F.splits k l here at gs nb y h t in (
          f,
          λ z i. left_related f.begun f.block.0 f.ended (From here.path 0) (splitting gs here).context f.block.2 z _ _
              (related_many fuel m f.begun f.block.0 (splitting gs here) (whole_block y (splitting gs here)) 0 y [] []
              (L.no_bars f.begun) f.block.1 z i),
        )) x d
    related_one fuel m k l here at (Locks g number y) h x d =
        let f = F.locks k l here at g number y h in
        locks_related (below one_of fuel) (below two_of fuel) m k l here at g number y f
        (λ t n. left (locking g here).context
        (many one_of (below one_of fuel) (locking g here) (whole_block y (locking g here)) 0 y [] t n))
        (λ t n. left (locking g here).context
        (many two_of (below two_of fuel) (locking g here) (whole_block y (locking g here)) 0 y [] t n))
        (λ z i. left_related k f.block.0 l (From here.path 0) (locking g here).context f.block.2 z _ _
        (related_many fuel m k f.block.0 (locking g here) (whole_block y (locking g here)) 0 y [] []
        (L.no_bars k) f.block.1 z i)) x d
    related_one fuel m k l here at (Freezes y) h x d = quiet k l (From here.path 0) x _ _
        (F.effects k l here at (Freezes y) h (frozen y.name) refl x d)
    related_one fuel m k l here at (Shares y g) h x d = quiet k l (From here.path 0) x _ _
        (F.effects k l here at (Shares y g) h (shares_into y.name g.name) refl x d)
    related_one fuel m k l here at (Prints e) h x d = related_given k l (From here.path 0) x d
        (value p x.s e >>= printed_value) (value p x.t e >>= printed_value)
        (ap (λ (v : Outcome Val). v >>= printed_value) (F.tests k l here at (Prints e) h e refl x d)) at
        (λ bytes. prints_piece here bytes x.s x.n) (λ bytes. prints_piece here bytes x.t x.m)
        (λ bytes f. quiet k l (From here.path 0) x _ _
        (F.prints k l here at (Prints e) h tt (record { path = here.path; bytes = bytes } ∷ []) x d))
    related_one fuel m k l here at (PrintsText text) h x d = quiet k l (From here.path 0) x _ _
        (F.prints k l here at (PrintsText text) h tt (record { path = here.path; bytes = text } ∷ []) x d)
    related_one fuel m k l here at (Asserts e) h x d = related_given k l (From here.path 0) x d (truth_of p x.s e)
        (truth_of p x.t e) (tested k l here at (Asserts e) h e refl x d) at
        (λ test. asserts at test x.s x.n) (λ test. asserts at test x.t x.m)
        (λ test f. quiet k l (From here.path 0) x _ _
        (asserts_related k l at (F.passes k l here at e h) test x d))
    related_one fuel m k l here at (Returns e) h x d = quiet k l (From here.path 0) x _ _
        (F.effects k l here at (Returns e) h (returns_value p here.method e) refl x d)

    pub related_many : (fuel : ℕ) → BothAlike (below one_of fuel) (below two_of fuel)
        → (k l : S.World) (here : Where) (all : Scene) (j : ℕ) (y : Lines) (bars cars : List ℕ) → S.Bars k bars cars
        → S.Many k l here all j y
        → Does S k l (From here.path j) (many one_of (below one_of fuel) here all j y bars)
        (many two_of (below two_of fuel) here all j y cars)
    related_many fuel m k l here all j End bars cars e h x d = quiet k l (From here.path j) x _ _
        (L.close k l here all j h bars cars e x d)
    related_many fuel m k l here all j (Next at a rest) bars cars e h x d =
        let q : Instance = here.path ++ (j ∷ []) in
        L.step k l here all j at a rest h bars cars e
        fuel
        (λ v w s y i. L.ran v w (deeper j here) at a s y _ _
        (related_one fuel m v w (deeper j here) at a s (told (Ran q at) y)
        (L.runs v w (deeper j here) at a s y i)))
        (λ v w s xs ys f. related_many fuel m v w (knowing (after p here.method at a here.context) here) all
        (suc j) rest xs ys f s)
        x d

  pub related_block : (fuel : ℕ) → BothAlike (below one_of fuel) (below two_of fuel)
      → (k l : S.World) (here : Where) (y : Lines) → IsBlock S k l here y
      → Does S k l (From here.path 0) (block one_of (below one_of fuel) here y)
      (block two_of (below two_of fuel) here y)
  related_block fuel m k l here y h x d = left_related k h.0 l (From here.path 0) here.context h.2 x _ _
      (related_many fuel m k h.0 here (whole_block y here) 0 y [] [] (L.no_bars k) h.1 x d)

  pub related_below : (f : ℕ) → BothAlike (below one_of f) (below two_of f)
  unfolding below
  related_below zero = tt
  related_below (suc f) =
      let m : BothAlike (below one_of f) (below two_of f) = related_below f in
      record { fuel = refl; block = related_block f m; again = again_related (below one_of f) (below two_of f) m }
