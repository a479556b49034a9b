-- Forming a type: which types may be written where some groups are known.
use Rattle.std.specs.Prelude.{ℕ, nat_eq, Bool, ◌&&◌, not, List, length, ⊤}
use Rattle.ae_text.specs.declared.refusal.Spot.{Spot}
use Rattle.ae_text.specs.declared.refusal.Rule.TheVariants as rule
use Rattle.ae_tree.specs.declared.tree.NameAt.{NameAt}
use Rattle.ae_tree.specs.declared.tree.PermAt.{PermAt}
use Rattle.ae_tree.specs.declared.tree.PermAt.TheVariants as perm_at
use Rattle.ae_tree.specs.declared.tree.KindAt.{KindAt}
use Rattle.ae_tree.specs.declared.tree.KindAt.TheVariants as kind_at
use Rattle.ae_tree.specs.declared.tree.Ty.{Ty}
use Rattle.ae_tree.specs.declared.tree.Ty.TheVariants as ty
use Rattle.ae_tree.specs.declared.tree.Class.{Class}
use Rattle.ae_tree.specs.Names.{io}
use Rattle.ae_tree.specs.Plain.{Code}
use Rattle.ae_rules.specs.Verdict.{Verdict, ◌>>=◌, ◌>>◌, fine, require, found, each}
use Rattle.ae_rules.specs.Lookups.{Names, class_called}

-- a group that is known, and is not `io`
abbrev pub is_group : Names → NameAt → Verdict ⊤
is_group known g = require (known g.name && not (nat_eq io g.name)) rule.UnknownGroup g.at

-- as many groups as are wanted, or else the fault stands at this place; and each is known
abbrev pub groups_fit : Names → ℕ → Spot → List NameAt → Verdict ⊤
groups_fit known wanted at gs = require (nat_eq (length gs) wanted) rule.GroupCount at >> each (is_group known) gs

-- a permission: `lent` only where it is allowed, and `shared` of a known group
abbrev pub forms_perm : Names → Bool → PermAt → Verdict ⊤
forms_perm known may_lend (perm_at.Unique at) = fine
forms_perm known may_lend (perm_at.Immutable at) = fine
forms_perm known may_lend (perm_at.Lent at) = require may_lend rule.LentEscapes at
forms_perm known may_lend (perm_at.Shared at g) = is_group known g

-- a kind: a declared class with known groups, as many as it has
abbrev pub forms_kind : Code → Names → KindAt → Verdict ⊤
forms_kind p known (kind_at.Ints at) = fine
forms_kind p known (kind_at.Class c gs) =
    found (class_called p c.name) rule.UnknownClass c.at >>= λ (d : Class).
    groups_fit known (length d.groups) c.at gs

-- a type, first its permission and then its kind
abbrev pub forms_type : Code → Names → Bool → Ty → Verdict ⊤
forms_type p known may_lend (ty.Int at) = fine
forms_type p known may_lend (ty.Bool at) = fine
forms_type p known may_lend (ty.Object q k) = forms_perm known may_lend q >> forms_kind p known k
