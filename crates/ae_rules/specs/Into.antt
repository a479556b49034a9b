-- What may go into a place of a form: an expression, or a value that was made.
use Rattle.std.specs.Prelude.{ℕ, nat_eq, Bool, ◌&&◌, Option, None, Some, ⊤}
use Rattle.ae_text.specs.declared.refusal.Spot.{Spot}
use Rattle.ae_text.specs.declared.refusal.Rule.{Rule}
use Rattle.ae_text.specs.declared.refusal.Rule.TheVariants as rule
use Rattle.ae_tree.specs.declared.tree.Path.{Path}
use Rattle.ae_tree.specs.declared.form.Perm.{Perm}
use Rattle.ae_tree.specs.declared.form.Perm.TheVariants as perm
use Rattle.ae_tree.specs.declared.form.Kind.{Kind}
use Rattle.ae_tree.specs.declared.form.Form.{Form}
use Rattle.ae_tree.specs.declared.form.Form.TheVariants as f
use Rattle.ae_tree.specs.Plain.{Expression, Nothing, Read, Code}
use Rattle.ae_rules.specs.declared.held.Held.{Held}
use Rattle.ae_rules.specs.declared.held.Held.TheVariants as held
use Rattle.ae_rules.specs.Verdict.{Verdict, Holds, Broken, ◌>>=◌, ◌>>◌, fine, require, found, given}
use Rattle.ae_rules.specs.Forms.{same_perm, same_value, same_kind, is_object_of}
use Rattle.ae_rules.specs.Context.{Context, same_held, is_held_alone}
use Rattle.ae_rules.specs.Walks.{walk, is_name}
use Rattle.ae_rules.specs.Expressions.{expression_spot, is_value}

-- ---- an expression into a form

-- what can stand where an object goes: `null`, or a path without parentheses
pub data Source : Type 0 where
  Null : Source
  From : Path → Source

abbrev pub source : Expression → Option Source
source (Nothing at) = Some Null
source (Read path) = Some (From path)
source _ = None

-- into a unique form goes what is held Unique and has a name of its own
abbrev pub into_unique : Bool → Held → Spot → Verdict ⊤
into_unique named h at = require (named && is_held_alone h) rule.NeedsUnique at

abbrev pub into_immutable : Held → Spot → Verdict ⊤
into_immutable h at = require (same_held held.Immutable h) rule.NoPermission at

-- into a form shared in a group goes what is held shared in it
abbrev pub into_shared : ℕ → Held → Spot → Verdict ⊤
into_shared g (held.Shared h) at = require (nat_eq g h) rule.TypeMismatch at
into_shared g _ at = Broken rule.NoPermission at

-- something is held, and it is not lent
abbrev pub may_leave : Held → Spot → Verdict ⊤
may_leave held.None at = Broken rule.NoPermission at
may_leave held.Lent at = Broken rule.LentEscapes at
may_leave _ at = fine

-- by the form's permission; nothing goes into a lent form
abbrev pub into_perm : Perm → Bool → Held → Spot → Verdict ⊤
into_perm perm.Unique named h at = into_unique named h at
into_perm perm.Immutable named h at = into_immutable h at
into_perm perm.Lent named h at = Broken rule.LentEscapes at
into_perm (perm.Shared g) named h at = into_shared g h at

-- a path into an object's form, where the expression stands here
abbrev pub path_fits : Code → Context → Perm → Kind → Path → Spot → Verdict ⊤
path_fits p c q k path at =
    walk p c path >>= λ w.
    require (is_object_of k w.form) rule.TypeMismatch at >>
    may_leave w.held at >>
    into_perm q (is_name path) w.held at

-- the name that moves into a form with this permission
abbrev pub moves : Perm → Path → Option ℕ
moves perm.Unique path = Some path.root.name
moves _ path = None

-- a source into an object's form
abbrev pub source_fits : Code → Context → Perm → Kind → Source → Spot → Verdict ⊤
source_fits p c q k Null at = fine
source_fits p c q k (From path) at = path_fits p c q k path at

-- an expression fits into a form
abbrev pub fits : Code → Context → Form → Expression → Verdict ⊤
fits p c f.Int e = is_value p c f.Int e
fits p c f.Bool e = is_value p c f.Bool e
fits p c (f.Object q k) e =
    found (source e) rule.TypeMismatch (expression_spot e) >>= λ s.
    source_fits p c q k s (expression_spot e)

-- the name that moves with a source
abbrev pub source_moves : Perm → Source → Option ℕ
source_moves q Null = None
source_moves q (From path) = moves q path

-- the name that moves with an expression into a form, by its text alone
abbrev pub name_into : Form → Expression → Option ℕ
name_into f.Int e = None
name_into f.Bool e = None
name_into (f.Object q k) e = given (source e) None (source_moves q)

-- An expression into a form. It comes to the name that moves, which holds nothing after the statement.
abbrev pub into : Code → Context → Form → Expression → Verdict (Option ℕ)
into p c form e = fits p c form e >> Holds (name_into form e)

-- ---- a made value into a form

-- the rule that a value with another permission breaks
abbrev pub other_perm : Perm → Rule
other_perm perm.Unique = rule.NeedsUnique
other_perm _ = rule.NoPermission

-- a made value, as what `new` and `take` give and a call's result: the kind is the form's, then the permission
abbrev pub made_into : Form → Form → Spot → Verdict ⊤
made_into (f.Object q k) (f.Object r l) at =
    require (same_kind k l) rule.TypeMismatch at >>
    require (same_perm q r) (other_perm r) at
made_into value target at = require (same_value value target) rule.TypeMismatch at

-- a unique object of this kind
abbrev pub unique_of : Kind → Form
unique_of k = f.Object perm.Unique k
