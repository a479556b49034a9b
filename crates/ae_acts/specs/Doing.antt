-- What a call that does a statement answers, and what it leaves of a run that is under way.
use Rattle.std.specs.Prelude.{◌≡◌, ℕ, Bool, true, false, List, [], ◌∷◌, ◌++◌, codes, length, Option, None, Some}
use Rattle.std.specs.Prelude.{option_map, Result, Ok, Err}
use Rattle.ae_text.specs.declared.refusal.Spot.{Spot}
use Rattle.ae_tree.specs.declared.form.Perm.TheVariants as perm
use Rattle.ae_tree.specs.declared.form.Kind.TheVariants as kind
use Rattle.ae_tree.specs.declared.form.Form.{Form}
use Rattle.ae_tree.specs.declared.form.Form.TheVariants as f
use Rattle.ae_tree.specs.Plain.{Action, Definition, Code, Expression, Read}
use Rattle.ae_rules.specs.Verdict.{Holds}
use Rattle.ae_rules.specs.Context.{Context}
use Rattle.ae_rules.specs.Walks.{is_name}
use Rattle.ae_rules.specs.Statements.{judge_statement}
use Rattle.ae_semantics.specs.Values.{Val, OfInt, OfBool, Null, Owned, Member, Tree}
use Rattle.ae_semantics.specs.Places.{Outcome, Fine, ◌>>=◌, there, Here, State, bind, with_bound, with_store, store_of}
use Rattle.ae_semantics.specs.Calls.{without_moved}
use Rattle.ae_semantics.specs.Expressions.{value}
use Rattle.ae_semantics.specs.Meaning.{name_moved, result_moved, with_perm}
use Rattle.ae_values.specs.declared.env.Bound.{Bound}
use Rattle.ae_values.specs.declared.env.Bound.TheVariants as bound
use Rattle.ae_values.specs.Environments.{running_binds, waiting_binds}
use Rattle.ae_values.specs.Shapes.{NameShape, shapes}
use Rattle.ae_names.specs.Known.{AreKnown, form_in}
use Rattle.ae_reads.specs.declared.stop.Stop.{Stop}
use Rattle.ae_reads.specs.Answers.{FaultsAs}
use Rattle.ae_running.specs.declared.running.Running.{Running}
use Rattle.ae_running.specs.Seen.{seen}
use Rattle.ae_acts.specs.Acts.{Acted}

-- the names of the running call in order, each with its shape
abbrev pub names_of : Running → List (ℕ × NameShape)
names_of run = shapes (running_binds run.env)

-- the forms in which the locals of the running call were declared
abbrev pub forms_of : Running → ℕ → Option Form
forms_of run = form_in (names_of run)

-- The statement is judged here, and the names of the running call are those that are known before it.
abbrev pub IsReady : Code → Definition → Action → Running → Type 0
IsReady p m a run = (at : Spot) × (c : Context) × (d : Context)
    × (judge_statement p m at a c ≡ Holds d) × AreKnown c (names_of run)

-- the names of the running call, those of the calls that wait and what was printed stay
pub record Stays (old new : Running) : Type 0 where
  pub names : names_of new ≡ names_of old
  pub waiting : waiting_binds new.env ≡ waiting_binds old.env
  pub out : new.out ≡ old.out

-- what was printed, as bytes
abbrev pub bytes_of : Option (List ℕ) → List ℕ
bytes_of None = []
bytes_of (Some bytes) = bytes

-- The answer is the outcome: the run has the state that the statement leaves, and behind what was printed before stands
-- what it printed; or there is the outcome's fault, and nothing was printed.
abbrev pub ActsAs : {B : Type 0} → Outcome Acted → Result B Stop → Running → Running → Type 0
ActsAs o (Ok done) old new = (printed : Option (List ℕ))
    × (o ≡ Fine (record { state = seen new; printed = printed })) × (new.out.items ≡ old.out.items ++ bytes_of printed)
ActsAs o (Err stop) old new = FaultsAs o stop × (new.out.items ≡ old.out.items)

-- a form as far as what goes into a place of it depends on it: its kind does not count
abbrev pub without_kind : Form → Form
without_kind f.Int = f.Int
without_kind f.Bool = f.Bool
without_kind (f.Object q k) = f.Object q kind.Ints

-- the form of what a local holds, or held before its value was moved away
abbrev pub form_held : Bound → Option Form
form_held (bound.Value form v) = Some form
form_held (bound.Moved form) = Some form
form_held (bound.Whole image) = None
form_held (bound.Other g) = None
form_held (bound.Cell n) = None
form_held (bound.Pieces ps) = None

-- ---- locals

-- the value of a local
abbrev pub value_in : State → ℕ → Option Val
value_in s x = option_map (λ b. b.value) (s.locals x)

-- a name that stands alone
abbrev pub is_alone : Expression → Bool
is_alone (Read path) = is_name path
is_alone _ = false

-- a value goes to a local in the form in which it was declared
abbrev pub assigned_to : (ℕ → Option Form) → ℕ → Val → State → Outcome State
assigned_to forms x v s = there (forms x) >>= λ form. bind x form v s

-- the value of an expression for a place of this form, and the state in which the name that moves has none
abbrev pub value_moved : Code → Form → Expression → State → Outcome (Val × State)
value_moved p form e s = value p s e >>= λ v. Fine (v, without_moved (name_moved form e) s)

-- the value of a method's result, and the state in which the name that moves with it has none
abbrev pub result_of : Code → Definition → Expression → State → Outcome (Val × State)
result_of p m e s = value p s e >>= λ v. Fine (v, without_moved (result_moved m e) s)

-- ---- what is shared

abbrev pub is_null : Val → Bool
is_null (OfInt n) = false
is_null (OfBool b) = false
is_null Null = true
is_null (Owned t) = false
is_null (Member n) = false

-- a local whose object is this tree gets the number of a new member of a group, which is that tree
abbrev pub joined_to : (ℕ → Option Form) → ℕ → ℕ → Tree → State → Outcome State
joined_to forms x g t s = there (forms x) >>= λ form. store_of s g >>= λ st.
    Fine (with_bound x (Some (record { form = with_perm (perm.Shared g) form; value = Member (length st) }))
    (with_store g (Some (Here (st ++ (t ∷ [])))) s))

-- ---- what is printed

-- The answer is the outcome: behind what was printed before stand its bytes, or nothing more where it is a fault.
abbrev pub PrintsAs : {B : Type 0} → Outcome (List ℕ) → Result B Stop → List ℕ → List ℕ → Type 0
PrintsAs o (Ok done) before after = (bytes : List ℕ) × (o ≡ Fine bytes) × (after ≡ before ++ bytes)
PrintsAs o (Err stop) before after = FaultsAs o stop × (after ≡ before)

-- the word of a truth, with a line feed
abbrev pub truth_text : Bool → List ℕ
truth_text true = codes "true\n"
truth_text false = codes "false\n"

-- the state, the names of the running call and those of the calls that wait stay
pub record IsPrinted (old new : Running) : Type 0 where
  pub state : seen new ≡ seen old
  pub names : names_of new ≡ names_of old
  pub waiting : waiting_binds new.env ≡ waiting_binds old.env
