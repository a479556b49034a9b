-- The class table: what must hold of the declarations of a program, clause by clause in order.
use Rattle.std.specs.Prelude.{◌≡◌, ℕ, zero, suc, nat_eq, Bool, true, false, ◌&&◌, ◌||◌, not, List, [], ◌∷◌, Option}
use Rattle.std.specs.Prelude.{is_none, ⊤}
use Rattle.ae_text.specs.declared.refusal.Spot.{Spot}
use Rattle.ae_text.specs.declared.refusal.Rule.{Rule}
use Rattle.ae_text.specs.declared.refusal.Rule.TheVariants as rule
use Rattle.ae_tree.specs.declared.tree.NameAt.{NameAt}
use Rattle.ae_tree.specs.declared.tree.Ty.{Ty}
use Rattle.ae_tree.specs.declared.tree.Me.{Me}
use Rattle.ae_tree.specs.declared.tree.Param.{Param}
use Rattle.ae_tree.specs.declared.tree.Need.{Need}
use Rattle.ae_tree.specs.declared.tree.Need.TheVariants as need_of
use Rattle.ae_tree.specs.declared.tree.GroupNeed.{GroupNeed}
use Rattle.ae_tree.specs.declared.tree.Field.{Field}
use Rattle.ae_tree.specs.declared.tree.Class.{Class}
use Rattle.ae_tree.specs.declared.tree.Decl.{Decl}
use Rattle.ae_tree.specs.declared.tree.Decl.TheVariants as decl
use Rattle.ae_tree.specs.declared.form.Perm.{Perm}
use Rattle.ae_tree.specs.declared.form.Perm.TheVariants as perm
use Rattle.ae_tree.specs.declared.form.Form.{Form}
use Rattle.ae_tree.specs.declared.form.Form.TheVariants as f
use Rattle.ae_tree.specs.Form.{perm_of, form}
use Rattle.ae_tree.specs.Names.{io, main}
use Rattle.ae_tree.specs.Plain.{Definition, Code}
use Rattle.ae_rules.specs.Verdict.{Verdict, Holds, Broken, ◌>>=◌, ◌>>◌, fine, require, found, each, in_turn, given}
use Rattle.ae_rules.specs.Verdict.{if_there}
use Rattle.ae_rules.specs.Forms.{is_ints, is_unique}
use Rattle.ae_rules.specs.Lookups.{Names, is_empty, class_at, method_at, top_called, member_names}
use Rattle.ae_rules.specs.Types.{forms_perm, forms_type}
use Rattle.ae_text.specs.Tokens.{first_spot}

abbrev pub no_names : Names
no_names x = false

-- these names, and one more
abbrev pub and_also : ℕ → Names → Names
and_also x names y = nat_eq x y || names y

-- a name that none before has, and then the names with it
abbrev pub is_new : Rule → NameAt → Names → Verdict Names
is_new rule x earlier = require (not (earlier x.name)) rule x.at >> Holds (and_also x.name earlier)

-- ---- the first clause: each class, and each method at the top, has a name of its own

-- the classes and the methods at the top so far, by name
pub record Declared : Type 0 where
  pub classes : Names
  pub tops : Names

abbrev pub nothing_declared : Declared
nothing_declared = record { classes = no_names; tops = no_names }

abbrev pub class_is_new : Declared → Class → Verdict Declared
class_is_new before c = is_new rule.DuplicateClass c.name before.classes
    >>= λ names. Holds (record before { classes = names })

abbrev pub top_is_new : Declared → Definition → Verdict Declared
top_is_new before m = is_new rule.DuplicateMember m.name before.tops >>= λ names. Holds (record before { tops = names })

abbrev pub declares_new : Code → Decl → Declared → Verdict Declared
declares_new p (decl.Class n) before = given (class_at p n) (Holds before) (class_is_new before)
declares_new p (decl.Method n) before = given (method_at p n) (Holds before) (top_is_new before)

abbrev pub tops_differ : Code → Verdict ⊤
tops_differ p = in_turn (declares_new p) p.decls nothing_declared >> fine

-- ---- the second clause: the fields and methods of a class have names of their own

abbrev pub members_differ : Code → Class → Verdict ⊤
members_differ p c = in_turn (is_new rule.DuplicateMember) (member_names p c) no_names >> fine

-- ---- the third clause: groups, types, parameters and needs

abbrev pub most_groups : ℕ
most_groups = 16

-- A list of group names, of which this many may still come: none is known before, `io` among them. Then they are known.
abbrev pub declares_groups : ℕ → List NameAt → Names → Verdict Names
declares_groups room [] known = Holds known
declares_groups zero (g ∷ gs) known = Broken rule.TooManyGroups g.at
declares_groups (suc room) (g ∷ gs) known = is_new rule.GroupTwice g known >>= declares_groups room gs

-- a field's or a result's type
abbrev pub field_holds : Code → Names → Field → Verdict ⊤
field_holds p known d = forms_type p known false d.ty

abbrev pub result_holds : Code → Names → Option Ty → Verdict ⊤
result_holds p known result = if_there result (forms_type p known false)

-- an object with this permission may be given away for good
abbrev pub perm_goes : Perm → Spot → Verdict ⊤
perm_goes perm.Unique at = fine
perm_goes perm.Immutable at = fine
perm_goes perm.Lent at = Broken rule.LentEscapes at
perm_goes (perm.Shared g) at = fine

-- a parameter of this form may be marked as given away
abbrev pub form_goes : Form → Spot → Verdict ⊤
form_goes f.Int at = Broken rule.TypeMismatch at
form_goes f.Bool at = Broken rule.TypeMismatch at
form_goes (f.Object q k) at = perm_goes q at

abbrev pub me_holds : Names → Me → Verdict ⊤
me_holds known m = forms_perm known true m.perm >> if_there m.away (perm_goes (perm_of m.perm))

-- a parameter: its type, its mark, and its name, which no group and no parameter before it has
abbrev pub param_holds : Code → Names → Param → Names → Verdict Names
param_holds p known x earlier =
    forms_type p known true x.ty >>
    if_there x.away (form_goes (form x.ty)) >>
    is_new rule.DuplicateLocal x.name earlier

-- a need of a known group, `io` among them, that has no need before
abbrev pub need_holds : Names → GroupNeed → Names → Verdict Names
need_holds known n earlier =
    require (known n.group.name) rule.UnknownGroup n.group.at >>
    is_new rule.GroupTwice n.group earlier

-- a method, where some groups are known outside it
abbrev pub method_holds : Code → Names → Definition → Verdict ⊤
method_holds p outer m =
    declares_groups most_groups m.groups outer >>= λ known.
    result_holds p known m.result >>
    if_there m.me (me_holds known) >>
    in_turn (param_holds p known) m.params known >>
    in_turn (need_holds known) m.needs no_names >>
    fine

-- a class: its groups, its fields and its methods
abbrev pub class_holds : Code → Class → Verdict ⊤
class_holds p c =
    declares_groups most_groups c.groups (and_also io no_names) >>= λ known.
    each (field_holds p known) c.fields >>
    each (λ n. if_there (method_at p n) (method_holds p known)) c.methods

abbrev pub decl_holds : Code → Decl → Verdict ⊤
decl_holds p (decl.Class n) = if_there (class_at p n) (class_holds p)
decl_holds p (decl.Method n) = if_there (method_at p n) (method_holds p (and_also io no_names))

-- ---- the fourth clause: the main method

abbrev pub is_args : Param → Bool
is_args x = is_unique (form x.ty) && is_ints (form x.ty) && is_none x.away

-- no parameter, or one of unique integers that come back
abbrev pub are_main_params : List Param → Bool
are_main_params [] = true
are_main_params (x ∷ []) = is_args x
are_main_params (x ∷ y ∷ xs) = false

abbrev pub is_exclusive : Need → Bool
is_exclusive need_of.Exclusive = true
is_exclusive need_of.Shared = false
is_exclusive need_of.Protected = false

-- no need, or exclusive `io` alone
abbrev pub are_main_needs : List GroupNeed → Bool
are_main_needs [] = true
are_main_needs (n ∷ []) = is_exclusive n.need && nat_eq io n.group.name
are_main_needs (n ∷ m ∷ ns) = false

-- no result and no groups
abbrev pub is_main : Definition → Bool
is_main m = is_none m.result && is_empty m.groups && are_main_params m.params && are_main_needs m.needs

abbrev pub has_main : Code → Verdict ⊤
has_main p =
    found (top_called p main) rule.NoMain first_spot >>= λ (m : Definition).
    require (is_main m) rule.NoMain m.name.at

-- ---- all four, in order

abbrev pub table_verdict : Code → Verdict ⊤
table_verdict p =
    tops_differ p >>
    each (members_differ p) p.classes >>
    each (decl_holds p) p.decls >>
    has_main p

-- the declarations break no clause
abbrev pub TableHolds : Code → Type 0
TableHolds p = table_verdict p ≡ fine
