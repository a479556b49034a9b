-- A type without its places.
use Rattle.std.specs.Prelude.{ℕ, List, map}
use Rattle.ae_tree.specs.declared.tree.NameAt.{NameAt}
use Rattle.ae_tree.specs.declared.tree.PermAt.{PermAt}
use Rattle.ae_tree.specs.declared.tree.PermAt.TheVariants as perm_at
use Rattle.ae_tree.specs.declared.tree.KindAt.{KindAt}
use Rattle.ae_tree.specs.declared.tree.KindAt.TheVariants as kind_at
use Rattle.ae_tree.specs.declared.tree.Ty.{Ty}
use Rattle.ae_tree.specs.declared.tree.Ty.TheVariants as ty
use Rattle.ae_tree.specs.declared.form.Perm.{Perm}
use Rattle.ae_tree.specs.declared.form.Perm.TheVariants as perm
use Rattle.ae_tree.specs.declared.form.Kind.{Kind}
use Rattle.ae_tree.specs.declared.form.Kind.TheVariants as kind
use Rattle.ae_tree.specs.declared.form.Form.{Form}
use Rattle.ae_tree.specs.declared.form.Form.TheVariants as f

abbrev pub perm_of : PermAt → Perm
perm_of (perm_at.Unique at) = perm.Unique
perm_of (perm_at.Immutable at) = perm.Immutable
perm_of (perm_at.Lent at) = perm.Lent
perm_of (perm_at.Shared at g) = perm.Shared g.name

abbrev pub bare_names : List NameAt → List ℕ
bare_names xs = map (λ (x : NameAt). x.name) xs

abbrev pub kind_of : KindAt → Kind
kind_of (kind_at.Ints at) = kind.Ints
kind_of (kind_at.Class x groups) = kind.Class x.name (bare_names groups)

abbrev pub form : Ty → Form
form (ty.Int at) = f.Int
form (ty.Bool at) = f.Bool
form (ty.Object p k) = f.Object (perm_of p) (kind_of k)
