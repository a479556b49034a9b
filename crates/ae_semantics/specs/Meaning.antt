-- What statements do, one after another.
use Rattle.std.specs.Prelude.{ℕ, zero, suc, nat_lt, ℤ, pos, negsuc, Bool, true, false, if◌then◌else◌, List, [], ◌∷◌}
use Rattle.std.specs.Prelude.{◌++◌, map, zip, filter_map, replicate, codes, Option, None, Some}
use Rattle.std.specs.Prelude as prelude
use Rattle.std.specs.Fmt.{signed_decimal}
use Rattle.ae_text.specs.declared.refusal.Spot.{Spot}
use Rattle.ae_tree.specs.declared.tree.NameAt.{NameAt}
use Rattle.ae_tree.specs.declared.tree.Path.{Path}
use Rattle.ae_tree.specs.declared.tree.Class.{Class}
use Rattle.ae_rules.specs.declared.uses.Resource.TheVariants as resource
use Rattle.ae_tree.specs.declared.form.Perm.{Perm}
use Rattle.ae_tree.specs.declared.form.Perm.TheVariants as perm
use Rattle.ae_tree.specs.declared.form.Form.{Form}
use Rattle.ae_tree.specs.declared.form.Form.TheVariants as f
use Rattle.ae_tree.specs.Form.{form, bare_names}
use Rattle.ae_tree.specs.Plain.{Expression, Invocation, RightSide, Value, Taken, Zeros, Made, Returned, Lines, End}
use Rattle.ae_tree.specs.Plain.{Next, Definition, Code}
use Rattle.ae_tree.specs.Plain.{Action, Declares, Assigns, Stores, StoresAt, Calls, Chooses, ChoosesElse, Repeats}
use Rattle.ae_tree.specs.Plain.{Groups, Splits, Locks, Freezes, Shares, Prints, PrintsText, Asserts, Returns}
use Rattle.ae_rules.specs.Verdict as rules
use Rattle.ae_rules.specs.Lookups.{class_called, field_form}
use Rattle.ae_rules.specs.Context.{Local, Context}
use Rattle.ae_rules.specs.Into.{name_into}
use Rattle.ae_rules.specs.Uses.{is_seen}
use Rattle.ae_rules.specs.Blocks.{Scene}
use Rattle.ae_semantics.specs.Values.{Val, OfInt, OfBool, Null, Owned, Member, Object, Array, Store, values}
use Rattle.ae_semantics.specs.Places.{Outcome, Fine, Traps, Lacks, ◌>>=◌, there, Here, Bound, State, with_bound}
use Rattle.ae_semantics.specs.Places.{with_store, store_of, field_value, met, field_place, bind, write_field}
use Rattle.ae_semantics.specs.Places.{write_tree, ObjectField, slot, reach}
use Rattle.ae_semantics.specs.Expressions.{value, number_of, truth_of, numbers, index}
use Rattle.ae_semantics.specs.Contexts.{after}
use Rattle.ae_semantics.specs.declared.report.Ending.TheVariants.{Trap}
use Rattle.ae_semantics.specs.Observations.{Ran, Turned, Notes}
use Rattle.ae_semantics.specs.Runs.{Run, Went, Ends, Act, and_then, outcome_given, paid, chosen, marked, logged}
use Rattle.ae_semantics.specs.Runs.{Where, deeper, knowing, splitting, locking, whole_block, Machine, Below, fuel_of}
use Rattle.ae_semantics.specs.Calls.{CallFrame, enter, leave, without_moved}
use Rattle.ae_semantics.specs.Blocks.{cell_at, all_go_away, all_come_back, asks}

-- ---- right sides

-- the values of expressions, from left to right
abbrev pub each_value : Code → State → List Expression → Outcome (List Val)
each_value p s [] = Fine []
each_value p s (e ∷ es) = value p s e >>= λ v. each_value p s es >>= λ vs. Fine (v ∷ vs)

-- an array of zeros; a negative length is trap 7
abbrev pub zeros : ℤ → Outcome Val
zeros (pos n) = Fine (Owned (Array (replicate n (pos 0))))
zeros (negsuc n) = Traps 7

-- a field's value, which is met, and null in its place
abbrev pub take_from : Code → State → ObjectField → Outcome (Val × State)
take_from p s x =
    there (field_value x.object.tree x.part.number) >>= λ v.
    met p (field_place x.object x.part v) >>= λ place.
    write_field s x.object x.part.number Null >>= λ t.
    Fine (place.value, t)

-- the value of the field to which a path leads is taken out of it
abbrev pub take_field : Code → State → Path → Outcome (Val × State)
take_field p s path = slot p s path >>= take_from p s

-- what stands right of a =, but for a call: its value and the state after it
abbrev pub made : Code → RightSide → State → Outcome (Val × State)
made p (Value e) s = value p s e >>= λ v. Fine (v, s)
made p (Taken path at) s = take_field p s path
made p (Zeros e at) s = number_of p s e >>= λ n. zeros n >>= λ v. Fine (v, s)
made p (Made c gs args at) s = each_value p s args >>= λ vs. Fine (Owned (Object c.name (values vs)), s)
made p (Returned i) s = Lacks

-- the name that moves with an expression into a form, as a list
abbrev pub name_moved : Form → Expression → List ℕ
name_moved form e = rules.given (name_into form e) [] (λ x. x ∷ [])

-- the names that move with the arguments of a new object, each into its field
abbrev pub fields_moved : List NameAt → List Expression → Class → List ℕ
fields_moved gs args c = filter_map (λ (x : Form × Expression). name_into x.0 x.1)
    (zip (map (field_form c (bare_names gs)) c.fields) args)

-- the names that move with what stands right of a =, but for a call
abbrev pub right_moved : Code → Form → RightSide → List ℕ
right_moved p form (Value e) = name_moved form e
right_moved p form (Taken path at) = []
right_moved p form (Zeros e at) = []
right_moved p form (Made c gs args at) = rules.given (class_called p c.name) [] (fields_moved gs args)
right_moved p form (Returned i) = []

-- ---- calls

-- the body of an entered call, and then what comes back; the result is handed on
abbrev pub body_run : {W : Type 0} → Spot → Invocation → CallFrame → State → Notes W → (Option Val → Act W) → Below W
    → Run W
body_run at i f s n go below = and_then (below.block f.here f.callee.method.body f.state n)
    (λ t m. outcome_given (leave f i s t) at m (λ u. go t.result u m))

-- at depth 1,000 a call is trap 6, and else it takes one of the fuel
abbrev pub call_run : {W : Type 0} → Option (Below W) → Where → Spot → Invocation → State → Notes W
    → (Option Val → Act W) → CallFrame → Run W
call_run below here at i s n go f = chosen (nat_lt here.depth 1000)
    (λ _. paid below at n (body_run at i f s n go))
    (λ _. Ends (Trap 6 at) n)

-- a call, whose result is handed on
abbrev pub calls_method : {W : Type 0} → Machine W → Option (Below W) → Where → Spot → Invocation → State → Notes W
    → (Option Val → Act W) → Run W
calls_method m below here at i s n go = outcome_given (enter m.code here i s) at n (call_run below here at i s n go)

-- ---- statements without blocks

-- a local gets a value
abbrev pub assigned : {W : Type 0} → Spot → ℕ → Form → Val → Act W
assigned at x form v s n = outcome_given (bind x form v s) at n (λ t. Went t n)

-- the result of a call goes to a local
abbrev pub result_to : {W : Type 0} → Spot → ℕ → Form → Option Val → Act W
result_to at x form r s n = outcome_given (there r) at n (λ v. assigned at x form v s n)

-- A right side goes to a local: a name that it moves has no value then, and the local has the value.
abbrev pub sets : {W : Type 0} → Machine W → Option (Below W) → Where → Spot → ℕ → Form → RightSide → Act W
sets m below here at x form (Returned i) s n = calls_method m below here at i s n (result_to at x form)
sets m below here at x form e s n = outcome_given (made m.code e s) at n
    (λ r. assigned at x form r.0 (without_moved (right_moved m.code form e) r.1) n)

-- a right side goes to a local that is there, in its form
abbrev pub assigns : {W : Type 0} → Machine W → Option (Below W) → Where → Spot → ℕ → RightSide → Act W
assigns m below here at x e s n = outcome_given (there (here.context.local x)) at n
    (λ (l : Local). sets m below here at x l.form e s n)

-- `p.f = e`: the expression is evaluated before the path, and a name that moves into the field has no value then
abbrev pub stored : Code → Path → Expression → State → Outcome State
stored p path e s =
    value p s e >>= λ v.
    slot p s path >>= λ x.
    write_field s x.object x.part.number v >>= λ t.
    Fine (without_moved (name_moved x.part.form e) t)

-- `p[i] = e`: the index, the expression, the path, then null, then the index against the length
abbrev pub stored_at : Code → Path → Expression → Expression → State → Outcome State
stored_at p path i e s =
    number_of p s i >>= λ n.
    number_of p s e >>= λ v.
    reach p s path >>= λ o.
    numbers o.tree >>= λ ns.
    index ns n >>= λ k.
    write_tree s o (Array (prelude.set ns k v))

-- a form with another permission
abbrev pub with_perm : Perm → Form → Form
with_perm q f.Int = f.Int
with_perm q f.Bool = f.Bool
with_perm q (f.Object r k) = f.Object q k

-- the object of a local becomes immutable
abbrev pub frozen : ℕ → State → Outcome State
frozen x s = there (s.locals x)
    >>= λ b. Fine (with_bound x (Some (record b { form = with_perm perm.Immutable b.form })) s)

-- the local holds what is shared of the group
abbrev pub shared_as : ℕ → ℕ → Bound → Val → State → State
shared_as x g b v s = with_bound x (Some (record { form = with_perm (perm.Shared g) b.form; value = v })) s

-- an object becomes the next member of a group; null stays null
abbrev pub shared_value : ℕ → ℕ → Bound → Val → State → Store → Outcome State
shared_value x g b (Owned t) s st =
    Fine (shared_as x g b (Member (prelude.length st)) (with_store g (Some (Here (st ++ (t ∷ [])))) s))
shared_value x g b Null s st = Fine (shared_as x g b Null s)
shared_value x g b _ s st = Lacks

-- the object of a local becomes a member of a group
abbrev pub shares_into : ℕ → ℕ → State → Outcome State
shares_into x g s = there (s.locals x) >>= λ b. store_of s g >>= shared_value x g b b.value s

-- the decimal number, `true` or `false`, with a line feed
abbrev pub printed_value : Val → Outcome (List ℕ)
printed_value (OfInt n) = Fine (signed_decimal n ++ (10 ∷ []))
printed_value (OfBool true) = Fine (codes "true\n")
printed_value (OfBool false) = Fine (codes "false\n")
printed_value _ = Lacks

-- a piece is appended to the log
abbrev pub prints_piece : {W : Type 0} → Where → List ℕ → Act W
prints_piece here bytes s n = Went s (logged (record { path = here.path; bytes = bytes } ∷ []) n)

-- `assert`: what is false is trap 5
abbrev pub asserts : {W : Type 0} → Spot → Bool → Act W
asserts at true s n = Went s n
asserts at false s n = Ends (Trap 5 at) n

-- the name that moves with a method's result
abbrev pub result_moved : Definition → Expression → List ℕ
result_moved m e = rules.given m.result [] (λ t. name_moved (form t) e)

-- `return`: the value is the result, and a name that moves has no value then
abbrev pub returns_value : Code → Definition → Expression → State → Outcome State
returns_value p m e s = value p s e >>= λ v. Fine (record (without_moved (result_moved m e) s) { result = Some v })

-- what changes the state alone
abbrev pub does : {W : Type 0} → Spot → Notes W → Outcome State → Run W
does at n o = outcome_given o at n (λ s. Went s n)

-- ---- blocks

-- a block's locals and groups, which are not visible where it begins, end with it
abbrev pub forgotten : Context → State → State
forgotten c s = record s {
  locals = λ x. if is_seen c (resource.Local x) then s.locals x else None;
  groups = λ g. if is_seen c (resource.Group g) then s.groups g else None;
}

-- a block is left where it went through
abbrev pub left : {W : Type 0} → Context → Run W → Run W
left c run = and_then run (λ s n. Went (forgotten c s) n)

-- A loop from a turn on. A turn takes one of the fuel, and what follows it has that fuel too.
abbrev pub again : {W : Type 0} → Machine W → Option (Below W) → Where → ℕ → Spot → Expression → Lines → Act W
again m below here t at e b s n =
    let turned : Notes _ = marked (Turned here.path t) n in
    outcome_given (truth_of m.code s e) at turned (λ test. chosen test
    (λ _. paid below at turned (λ run. and_then (run.block (deeper t here) b s turned) (run.again here (suc t) at e b)))
    (λ _. Went s turned))

-- what surrounds a split block: the groups go away before it and come back after it
abbrev pub split_around : {W : Type 0} → Machine W → Where → List NameAt → Act W → Act W
split_around m here gs inner s n = and_then (all_go_away here gs s n)
    (λ t k. and_then (inner t k) (all_come_back m here gs s n.log))

-- inside a running atomic block a split block is just its statements
abbrev pub splits_groups : {W : Type 0} → Machine W → Where → List NameAt → Act W → Act W
splits_groups m here gs inner s n = chosen here.inside (λ _. inner s n) (λ _. split_around m here gs inner s n)

-- an atomic block of a group that is here is just its statements, and one of a group that is away asks
abbrev pub locks : {W : Type 0} → Machine W → Option (Below W) → Where → Spot → NameAt → ℕ → Lines → Act W → Act W
locks m below here at g number b inner s n = rules.given (cell_at g.name s n) (inner s n)
    (λ cell. asks m here at cell g number b (fuel_of below) s n)

-- a statement is marked as run where it begins
abbrev pub begun : {W : Type 0} → Where → Spot → Act W → Act W
begun here at act s n = act s (marked (Ran here.path at) n)

unfoldable mutual
  -- one statement, which stands here
  pub one : {W : Type 0} → Machine W → Option (Below W) → Where → Spot → Action → Act W
  one m below here at (Declares ty x e) s n = sets m below here at x.name (form ty) e s n
  one m below here at (Assigns x e) s n = assigns m below here at x.name e s n
  one m below here at (Stores path e) s n = does at n (stored m.code path e s)
  one m below here at (StoresAt path i e) s n = does at n (stored_at m.code path i e s)
  one m below here at (Calls i) s n = calls_method m below here at i s n (λ r t k. Went t k)
  one m below here at (Chooses e nb b) s n = outcome_given (truth_of m.code s e) at n (λ test. chosen test
      (λ _. left here.context (many m below (deeper 0 here) (whole_block b here) 0 b [] s n))
      (λ _. Went s n))
  one m below here at (ChoosesElse e nb b nc c) s n = outcome_given (truth_of m.code s e) at n (λ test. chosen test
      (λ _. left here.context (many m below (deeper 0 here) (whole_block b here) 0 b [] s n))
      (λ _. left here.context (many m below (deeper 1 here) (whole_block c here) 0 c [] s n)))
  one m below here at (Repeats e nb b) s n = again m below here 0 at e b s n
  one m below here at (Groups g) s n = Went (with_store g.name (Some (Here [])) s) n
  one m below here at (Splits gs nb b) s n = splits_groups m here gs
      (λ t k. left (splitting gs here).context
      (many m below (splitting gs here) (whole_block b (splitting gs here)) 0 b [] t k)) s n
  one m below here at (Locks g number b) s n = locks m below here at g number b
      (λ t k. left (locking g here).context
      (many m below (locking g here) (whole_block b (locking g here)) 0 b [] t k)) s n
  one m below here at (Freezes x) s n = does at n (frozen x.name s)
  one m below here at (Shares x g) s n = does at n (shares_into x.name g.name s)
  one m below here at (Prints e) s n = outcome_given (value m.code s e >>= printed_value) at n
      (λ bytes. prints_piece here bytes s n)
  one m below here at (PrintsText text) s n = prints_piece here text s n
  one m below here at (Asserts e) s n = outcome_given (truth_of m.code s e) at n (λ test. asserts at test s n)
  one m below here at (Returns e) s n = does at n (returns_value m.code here.method e s)

  -- the statements of a whole block from a number on, by the machine's way through blocks
  pub many : {W : Type 0} → Machine W → Option (Below W) → Where → Scene → ℕ → Lines → List ℕ → Act W
  many m below here all j End barred s n = m.order.close barred s n
  many m below here all j (Next at a rest) barred s n = m.order.step here all j barred
      (begun (deeper j here) at (one m below (deeper j here) at a))
      (many m below (knowing (after m.code here.method at a here.context) here) all (suc j) rest)
      s n

-- a whole block
abbrev pub block : {W : Type 0} → Machine W → Option (Below W) → Where → Lines → Act W
block m below here b s n = left here.context (many m below here (whole_block b here) 0 b [] s n)

-- with this fuel: what blocks and loops do with one less, if there is any
unfoldable pub below : {W : Type 0} → Machine W → ℕ → Option (Below W)
below m zero = None
below m (suc f) = Some (record { fuel = f; block = block m (below m f); again = again m (below m f) })
