-- Statements: the premises of each form in order, and the context after it.
use Rattle.std.specs.Prelude.{ℕ, nat_eq, Bool, false, ◌&&◌, not, List, Option, None, Some, is_some, ⊤}
use Rattle.ae_text.specs.declared.refusal.Spot.{Spot}
use Rattle.ae_text.specs.declared.refusal.Rule.TheVariants as rule
use Rattle.ae_tree.specs.declared.tree.NameAt.{NameAt}
use Rattle.ae_tree.specs.declared.tree.Ty.{Ty}
use Rattle.ae_tree.specs.declared.tree.Path.{Path}
use Rattle.ae_tree.specs.declared.form.Kind.TheVariants as kind
use Rattle.ae_tree.specs.declared.form.Form.{Form}
use Rattle.ae_tree.specs.declared.form.Form.TheVariants as f
use Rattle.ae_tree.specs.Form.{form}
use Rattle.ae_tree.specs.Names.{io}
use Rattle.ae_tree.specs.Plain.{Expression, RightSide, Value, Taken, Zeros, Made, Returned, Lines, End, Next}
use Rattle.ae_tree.specs.Plain.{Definition, Code}
use Rattle.ae_tree.specs.Plain.{Action, Declares, Assigns, Stores, StoresAt, Calls, Chooses, ChoosesElse, Repeats}
use Rattle.ae_tree.specs.Plain.{Groups, Splits, Locks, Freezes, Shares, Prints, PrintsText, Asserts, Returns}
use Rattle.ae_rules.specs.declared.held.Held.TheVariants as held
use Rattle.ae_rules.specs.Verdict.{Verdict, Holds, Broken, ◌>>=◌, ◌>>◌, fine, require, found, given}
use Rattle.ae_rules.specs.Forms.{is_object, is_ints, is_unique}
use Rattle.ae_rules.specs.Types.{is_group, forms_type}
use Rattle.ae_rules.specs.Groups.{known, group_access, declare, may_split_all, may_lock, shared_in}
use Rattle.ae_rules.specs.Groups.{while_others_held_back}
use Rattle.ae_rules.specs.Context.{Local, Context, held_of, same_held, held_in, is_visible, each_name, with_local}
use Rattle.ae_rules.specs.Context.{with_held, with_name_moved, closed, hold_alike, holds_nothing, is_held_alone}
use Rattle.ae_rules.specs.Walks.{walk, write_access, owner_write_access}
use Rattle.ae_rules.specs.Expressions.{expression_spot, judge_value, is_value}
use Rattle.ae_rules.specs.Into.{into, made_into, unique_of}
use Rattle.ae_rules.specs.Calls.{judge_new, judge_call}

-- ---- right sides

-- `take`: a unique field of an object that may be changed
abbrev pub judge_take : Code → Context → Path → Spot → Verdict Form
judge_take p c path at =
    walk p c path >>= λ w.
    require (is_object w.form) rule.TypeMismatch at >>
    require (is_unique w.form) rule.NeedsUnique at >>
    owner_write_access p c path >>
    Holds w.form

-- a call whose result has a target; `void` has none
abbrev pub result_into : Option Form → Form → Spot → Verdict ⊤
result_into None target at = Broken rule.TypeMismatch at
result_into (Some value) target at = made_into value target at

-- a right side into a form, and the context after
abbrev pub judge_right : Code → Context → Form → RightSide → Verdict Context
judge_right p c target (Value e) =
    into p c target e >>= λ name.
    Holds (with_name_moved name c)
judge_right p c target (Taken path at) =
    judge_take p c path at >>= λ value.
    made_into value target at >>
    Holds c
judge_right p c target (Zeros e at) =
    is_value p c f.Int e >>
    made_into (unique_of kind.Ints) target at >>
    Holds c
judge_right p c target (Made x gs args at) =
    judge_new p c x gs args >>= λ new.
    made_into new.value target at >>
    Holds new.after
judge_right p c target (Returned i) =
    judge_call p c i >>= λ called.
    result_into called.result target i.method.at >>
    Holds called.after

-- ---- statements without blocks

abbrev pub judge_let : Code → Context → Ty → NameAt → RightSide → Verdict Context
judge_let p c t x e =
    forms_type p (known c.group) false t >>
    require (not (is_visible c x.name)) rule.DuplicateLocal x.at >>
    judge_right p c (form t) e >>= λ d.
    Holds (with_local x.name (form t) d)

abbrev pub judge_assign : Code → Context → NameAt → RightSide → Verdict Context
judge_assign p c x e =
    found (c.local x.name) rule.UnknownName x.at >>= λ (l : Local).
    require (not l.stays) rule.ParameterMoved x.at >>
    judge_right p c l.form e >>= λ d.
    Holds (with_held x.name (held_of l.form) d)

abbrev pub is_moved : Option ℕ → ℕ → Bool
is_moved name x = given name false (nat_eq x)

-- a write to a field
abbrev pub judge_store : Code → Context → Path → Expression → Spot → Verdict Context
judge_store p c path e e_at =
    walk p c path >>= λ w.
    owner_write_access p c path >>
    into p c w.form e >>= λ name.
    require (not (is_moved name path.root.name)) rule.UsedTwice e_at >>
    Holds (with_name_moved name c)

-- a write to an item of integers
abbrev pub judge_store_at : Code → Context → Path → Expression → Expression → Verdict Context
judge_store_at p c path i e =
    walk p c path >>= λ w.
    require (is_ints w.form) rule.TypeMismatch path.root.at >>
    write_access c path.root.at w.held >>
    is_value p c f.Int i >>
    is_value p c f.Int e >>
    Holds c

-- locals and groups share their names
abbrev pub judge_group : Context → NameAt → Verdict Context
judge_group c g =
    require (not (is_some (c.local g.name))) rule.DuplicateLocal g.at >>
    declare g c.group >>= λ gs.
    Holds (record c { group = gs })

-- a local that holds an object alone
abbrev pub holds_alone : Context → NameAt → Verdict ⊤
holds_alone c x =
    found (c.local x.name) rule.UnknownName x.at >>= λ (l : Local).
    require (is_object l.form) rule.TypeMismatch x.at >>
    require (not (holds_nothing l.held)) rule.NoPermission x.at >>
    require (is_held_alone l.held) rule.NeedsUnique x.at

abbrev pub judge_freeze : Context → NameAt → Verdict Context
judge_freeze c x = holds_alone c x >> Holds (with_held x.name held.Immutable c)

abbrev pub judge_share : Context → NameAt → NameAt → Verdict Context
judge_share c x g =
    holds_alone c x >>
    is_group (known c.group) g >>
    group_access c.group g.name g.at >>
    Holds (with_held x.name (held.Shared g.name) c)

-- what is printed goes to `io`
abbrev pub prints : Context → Spot → Verdict Context
prints c at = group_access c.group io at >> Holds c

abbrev pub judge_return : Code → Definition → Context → Expression → Spot → Verdict Context
judge_return p m c e at =
    found m.result rule.TypeMismatch at >>= λ t.
    into p c (form t) e >>= λ name.
    Holds (with_name_moved name c)

-- ---- blocks

-- no local from outside holds what is shared in this group
abbrev pub none_shared : Code → Context → Context → ℕ → Bool
none_shared p outside inside g = each_name p (λ x. not (is_some (outside.local x) && same_held (held.Shared g) (held_in inside x)))

-- no group that the block declares is left in a local from outside
abbrev pub groups_stay : Code → Context → Context → Lines → Verdict ⊤
groups_stay p outside inside End = fine
groups_stay p outside inside (Next at (Groups g) rest) =
    require (none_shared p outside inside g.name) rule.GroupEscapes g.at >>
    groups_stay p outside inside rest
groups_stay p outside inside (Next at _ rest) = groups_stay p outside inside rest

-- a block's end, from the context outside the block and that after its statements
abbrev pub end_block : Code → Context → Lines → Context → Verdict Context
end_block p outside b inside = groups_stay p outside inside b >> Holds (closed outside inside)

-- in a split block its groups are shared
abbrev pub while_split : List NameAt → Context → Context
while_split gs c = record c { group = shared_in gs c.group }

-- in an atomic block its group is protected, and every other shared group is held back
abbrev pub while_locked : ℕ → Context → Context
while_locked g c = record c { group = while_others_held_back g c.group }

-- after both branches each local from outside holds the same; a branch that is missing leaves the context as it was
abbrev pub branches_meet : Code → Context → Spot → Context → Context → Verdict Context
branches_meet p c at d e = require (hold_alike p c d e) rule.BranchesDiffer at >> Holds e

-- after a turn each local from outside holds what it held
abbrev pub loop_keeps : Code → Context → Spot → Context → Verdict Context
loop_keeps p c at d = require (hold_alike p c d c) rule.LoopChanges at >> Holds c

abbrev mutual
  -- a statement of a method, at its place: its premises in order, and the context after it
  pub judge_statement : Code → Definition → Spot → Action → Context → Verdict Context
  judge_statement p m at (Declares t x e) c = judge_let p c t x e
  judge_statement p m at (Assigns x e) c = judge_assign p c x e
  judge_statement p m at (Stores path e) c = judge_store p c path e (expression_spot e)
  judge_statement p m at (StoresAt path i e) c = judge_store_at p c path i e
  judge_statement p m at (Calls i) c =
      judge_call p c i >>= λ called.
      Holds called.after
  judge_statement p m at (Chooses e n b) c =
      is_value p c f.Bool e >>
      (judge_lines p m b c >>= end_block p c b) >>= λ d.
      branches_meet p c at d c
  judge_statement p m at (ChoosesElse e n b k b') c =
      is_value p c f.Bool e >>
      (judge_lines p m b c >>= end_block p c b) >>= λ d.
      (judge_lines p m b' c >>= end_block p c b') >>= λ d'.
      branches_meet p c at d d'
  judge_statement p m at (Repeats e n b) c =
      is_value p c f.Bool e >>
      (judge_lines p m b c >>= end_block p c b) >>= λ d.
      loop_keeps p c at d
  judge_statement p m at (Groups g) c = judge_group c g
  judge_statement p m at (Splits gs n b) c =
      may_split_all c.group gs >>
      judge_lines p m b (while_split gs c) >>= end_block p c b
  judge_statement p m at (Locks g n b) c =
      may_lock c.group g >>
      judge_lines p m b (while_locked g.name c) >>= end_block p c b
  judge_statement p m at (Freezes x) c = judge_freeze c x
  judge_statement p m at (Shares x g) c = judge_share c x g
  judge_statement p m at (Prints e) c = judge_value p c e >> prints c at
  judge_statement p m at (PrintsText s) c = prints c at
  judge_statement p m at (Asserts e) c = is_value p c f.Bool e >> Holds c
  judge_statement p m at (Returns e) c = judge_return p m c e at

  -- the statements of a block, in order
  pub judge_lines : Code → Definition → Lines → Context → Verdict Context
  judge_lines p m End c = Holds c
  judge_lines p m (Next at a rest) c = judge_statement p m at a c >>= judge_lines p m rest
