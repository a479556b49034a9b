-- New objects and calls: the arguments, the needs of a method, and what comes back.
use Rattle.std.specs.Prelude.{ℕ, nat_eq, Bool, true, false, ◌&&◌, ◌||◌, not, if◌then◌else◌, List, [], ◌∷◌, ◌++◌, map}
use Rattle.std.specs.Prelude.{zip, length, filter_map, Option, None, Some, is_some, option_map, ⊤}
use Rattle.ae_text.specs.declared.refusal.Spot.{Spot}
use Rattle.ae_text.specs.declared.refusal.Rule.TheVariants as rule
use Rattle.ae_tree.specs.declared.tree.NameAt.{NameAt}
use Rattle.ae_tree.specs.declared.tree.Path.{Path}
use Rattle.ae_tree.specs.declared.tree.Ty.{Ty}
use Rattle.ae_tree.specs.declared.tree.Me.{Me}
use Rattle.ae_tree.specs.declared.tree.Param.{Param}
use Rattle.ae_tree.specs.declared.tree.Class.{Class}
use Rattle.ae_tree.specs.declared.form.Perm.{Perm}
use Rattle.ae_tree.specs.declared.form.Perm.TheVariants as perm
use Rattle.ae_tree.specs.declared.form.Kind.{Kind}
use Rattle.ae_tree.specs.declared.form.Kind.TheVariants as kind
use Rattle.ae_tree.specs.declared.form.Form.{Form}
use Rattle.ae_tree.specs.declared.form.Form.TheVariants as f
use Rattle.ae_tree.specs.Form.{perm_of, form, bare_names}
use Rattle.ae_tree.specs.Plain.{Expression, Read, Invocation, Definition, Code}
use Rattle.ae_rules.specs.declared.held.Held.{Held}
use Rattle.ae_rules.specs.declared.held.Held.TheVariants as held
use Rattle.ae_rules.specs.Verdict.{Verdict, Holds, Broken, ◌>>=◌, ◌>>◌, require, found, in_turn, given}
use Rattle.ae_rules.specs.Shares.{Share, splits, joins}
use Rattle.ae_rules.specs.Forms.{is_object, is_object_of, is_unique, in_place, form_with, is_unique_perm}
use Rattle.ae_rules.specs.Lookups.{Names, class_called, class_of, groups_of, method_at, method_number, top_number}
use Rattle.ae_rules.specs.Lookups.{field_form, own_kind}
use Rattle.ae_rules.specs.Types.{groups_fit}
use Rattle.ae_rules.specs.Table.{no_names, and_also}
use Rattle.ae_rules.specs.Groups.{known, wanted_need, needs_met}
use Rattle.ae_rules.specs.Context.{Context, held_in, with_held, with_name_moved, is_held_alone}
use Rattle.ae_rules.specs.Walks.{walk, is_name}
use Rattle.ae_rules.specs.Expressions.{expression_spot, is_value}
use Rattle.ae_rules.specs.Into.{Source, Null, From, source, may_leave, into_immutable, into_shared, into, unique_of}

-- ---- one place used twice

-- the roots of the object arguments so far, and those of them that were for a unique place
pub record Roots : Type 0 where
  pub used : Names
  pub alone : Names

abbrev pub no_roots : Roots
no_roots = record { used = no_names; alone = no_names }

abbrev pub with_root : Bool → ℕ → Roots → Roots
with_root unique x before = record
    { used = and_also x before.used; alone = if unique then and_also x before.alone else before.alone }

-- an argument's root was used before, and one of the two uses is for a unique place
abbrev pub meets : Bool → ℕ → Roots → Bool
meets unique x before = before.alone x || (unique && before.used x)

abbrev pub root_apart : Bool → Path → Spot → Roots → Verdict Roots
root_apart unique path at before =
    require (not (meets unique path.root.name before)) rule.UsedTwice at >>
    Holds (with_root unique path.root.name before)

-- `null`, and what is no path, has no root
abbrev pub source_apart : Bool → Option Source → Spot → Roots → Verdict Roots
source_apart unique (Some (From path)) at before = root_apart unique path at before
source_apart unique _ at before = Holds before

-- of two object arguments with one root none is for a unique place
abbrev pub apart : Form → Expression → Roots → Verdict Roots
apart f.Int e before = Holds before
apart f.Bool e before = Holds before
apart (f.Object q k) e before = source_apart (is_unique (f.Object q k)) (source e) (expression_spot e) before

-- ---- a new object

-- the arguments so far: their roots, and the context with what they moved
pub record Filled : Type 0 where
  pub roots : Roots
  pub after : Context

-- an argument into a field, in the context before the statement
abbrev pub fills : Code → Context → Form × Expression → Filled → Verdict Filled
fills p c x before =
    apart x.0 x.1 before.roots >>= λ roots.
    into p c x.0 x.1 >>= λ name.
    Holds (record { roots = roots; after = with_name_moved name before.after })

-- a value that was made, and the context after
pub record MadeValue : Type 0 where
  pub value : Form
  pub after : Context

-- a new object of a class: its groups, as many arguments as fields, and each argument into its field
abbrev pub judge_new : Code → Context → NameAt → List NameAt → List Expression → Verdict MadeValue
judge_new p c x gs args =
    found (class_called p x.name) rule.UnknownClass x.at >>= λ (k : Class).
    groups_fit (known c.group) (length k.groups) x.at gs >>
    require (nat_eq (length args) (length k.fields)) rule.ArgumentCount x.at >>
    in_turn (fills p c) (zip (map (field_form k (bare_names gs)) k.fields) args)
    (record { roots = no_roots; after = c }) >>= λ filled.
    Holds (record { value = unique_of (kind.Class x.name (bare_names gs)); after = filled.after })

-- ---- the method that is called

-- a method and its number, with the groups of the object that it is called on, and the names that its class has for them
pub record Callee : Type 0 where
  pub number : ℕ
  pub method : Definition
  pub names : List ℕ
  pub groups : List ℕ

abbrev pub callee_at : Code → List ℕ → List ℕ → ℕ → Option Callee
callee_at p names groups n = option_map (λ m. record { number = n; method = m; names = names; groups = groups })
    (method_at p n)

abbrev pub callee_in : Code → Kind → ℕ → Class → Option Callee
callee_in p k x c = given (method_number p c x) None (callee_at p (bare_names c.groups) (groups_of k))

-- the method with this name of an object of this form; integers have none
abbrev pub callee_of : Code → Form → ℕ → Option Callee
callee_of p f.Int x = None
callee_of p f.Bool x = None
callee_of p (f.Object q k) x = given (class_of p k) None (callee_in p k x)

abbrev pub top_callee : Code → ℕ → Option Callee
top_callee p x = given (top_number p x) None (callee_at p [] [])

-- a member of the receiver's class, or a method at the top
abbrev pub judge_callee : Code → Context → Option Path → NameAt → Verdict Callee
judge_callee p c None x = found (top_callee p x.name) rule.UnknownMethod x.at
judge_callee p c (Some path) x =
    walk p c path >>= λ w.
    require (is_object w.form) rule.TypeMismatch path.root.at >>
    found (callee_of p w.form x.name) rule.UnknownMethod x.at

-- the group that stands for a group of the method or of its class in a call
abbrev pub group_in : Callee → List NameAt → ℕ → ℕ
group_in m gs = in_place (m.names ++ bare_names m.method.groups) (m.groups ++ bare_names gs)

-- ---- the arguments of a call

-- a parameter's form, and whether what is given to it is gone
pub record ParamSlot : Type 0 where
  pub form : Form
  pub away : Bool

abbrev pub param_slot : (ℕ → ℕ) → Param → ParamSlot
param_slot new x = record { form = form_with new (form x.ty); away = is_some x.away }

-- the receiver is of its class's kind
abbrev pub me_form : Code → Definition → Me → Form
me_form p m me = f.Object (perm_of me.perm) (own_kind p m.class)

abbrev pub me_slot : Code → (ℕ → ℕ) → Definition → Me → ParamSlot
me_slot p new m me = record { form = form_with new (me_form p m me); away = is_some me.away }

abbrev pub if_some : {A : Type 0} → Option A → List A → List A
if_some None xs = xs
if_some (Some x) xs = x ∷ xs

-- the receiver's slot, and then those of the parameters
abbrev pub slots : Code → (ℕ → ℕ) → Definition → List ParamSlot
slots p new m = if_some (option_map (me_slot p new m) m.me) (map (param_slot new) m.params)

-- the receiver, and then the arguments
abbrev pub givens : Invocation → List Expression
givens i = if_some (option_map Read i.on) i.args

-- what a unique parameter is given is held Unique; where it does not come back, it is a name without steps
abbrev pub to_unique : Bool → Bool → Held → Spot → Verdict ⊤
to_unique away named held.None at = Broken rule.NoPermission at
to_unique away named held.Unique at = require (not away || named) rule.NeedsUnique at
to_unique away named _ at = Broken rule.NeedsUnique at

abbrev pub may_be_lent : Held → Bool
may_be_lent held.Unique = true
may_be_lent held.Immutable = true
may_be_lent held.Lent = true
may_be_lent _ = false

-- what is held may be given to a parameter with this permission
abbrev pub to_param : Perm → Bool → Bool → Held → Spot → Verdict ⊤
to_param perm.Unique away named h at = to_unique away named h at
to_param perm.Lent away named h at = require (may_be_lent h) rule.NoPermission at
to_param perm.Immutable away named h at = may_leave h at >> into_immutable h at
to_param (perm.Shared g) away named h at = may_leave h at >> into_shared g h at

-- a path to a parameter with this permission and kind: its kind, then its root, then its permission
abbrev pub path_to_param : Code → Context → Perm → Kind → Bool → Path → Spot → Roots → Verdict Roots
path_to_param p c q k away path at before =
    walk p c path >>= λ w.
    require (is_object_of k w.form) rule.TypeMismatch at >>
    root_apart (is_unique (f.Object q k)) path at before >>= λ roots.
    to_param q away (is_name path) w.held at >>
    Holds roots

abbrev pub source_to_param : Code → Context → Perm → Kind → Bool → Source → Spot → Roots → Verdict Roots
source_to_param p c q k away Null at before = Holds before
source_to_param p c q k away (From path) at before = path_to_param p c q k away path at before

-- an argument against a form, in the context before the statement
abbrev pub to_form : Code → Context → Form → Bool → Expression → Roots → Verdict Roots
to_form p c f.Int away e before = is_value p c f.Int e >> Holds before
to_form p c f.Bool away e before = is_value p c f.Bool e >> Holds before
to_form p c (f.Object q k) away e before =
    found (source e) rule.TypeMismatch (expression_spot e) >>= λ s.
    source_to_param p c q k away s (expression_spot e) before

abbrev pub to_slot : Code → Context → ParamSlot × Expression → Roots → Verdict Roots
to_slot p c x before = to_form p c x.0.form x.0.away x.1 before

-- ---- what is lent while the call runs

-- A Unique or Lent part of a place below a root that is held Unique. Only a unique one can be gone.
pub record LentPart : Type 0 where
  pub root : ℕ
  pub need : Perm
  pub away : Bool

abbrev pub is_part : Perm → Bool
is_part perm.Unique = true
is_part perm.Lent = true
is_part perm.Immutable = false
is_part (perm.Shared g) = false

abbrev pub lent_part_of : Context → Form → Bool → Option Source → Option LentPart
lent_part_of c (f.Object q k) away (Some (From path)) =
    if is_part q && is_held_alone (held_in c path.root.name)
    then Some (record { root = path.root.name; need = q; away = away && is_unique_perm q })
    else None
lent_part_of c _ away _ = None

-- the parts that the arguments of a call are, in order
abbrev pub argument_parts : Context → List (ParamSlot × Expression) → List LentPart
argument_parts c xs = filter_map (λ (x : ParamSlot × Expression). lent_part_of c x.0.form x.0.away (source x.1)) xs

-- A part comes back to its root, but for one that is gone; of a share's two members the part is the first.
abbrev pub given_back : LentPart → Share → Context → Context
given_back x share c = if x.away then c else given (joins (held_in c x.root) share.0) c (λ whole. with_held x.root whole c)

-- The context after a call: the parts are taken from their roots one after another, and then each is given back.
abbrev pub after_call : List LentPart → Context → Context
after_call [] c = c
after_call (x ∷ xs) c = given (splits (held_in c x.root) x.need)
    (after_call xs c)
    (λ share. given_back x share (after_call xs (with_held x.root share.1 c)))

-- ---- a call

-- what a call comes to: its result, where the method has one, and the context after
pub record Called : Type 0 where
  pub result : Option Form
  pub after : Context

-- a call's groups, its arguments and its needs, in the context before the statement
abbrev pub judge_callee_with : Code → Context → Invocation → Callee → Verdict Called
judge_callee_with p c i m =
    groups_fit (known c.group) (length m.method.groups) i.method.at i.groups >>
    require (nat_eq (length i.args) (length m.method.params)) rule.ArgumentCount i.method.at >>
    let new : ℕ → ℕ = group_in m i.groups in
    let pairs : List (ParamSlot × Expression) = zip (slots p new m.method) (givens i) in
    in_turn (to_slot p c) pairs no_roots >>= λ roots.
    needs_met c.group i.method.at (map (wanted_need new) m.method.needs) >>
    Holds (record {
      result = option_map (λ (t : Ty). form_with new (form t)) m.method.result;
      after = after_call
          (argument_parts c pairs) c;
    })

abbrev pub judge_call : Code → Context → Invocation → Verdict Called
judge_call p c i = judge_callee p c i.on i.method >>= judge_callee_with p c i
