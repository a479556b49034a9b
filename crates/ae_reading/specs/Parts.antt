-- Forms of a production that has several, each as a language of its own.
use Rattle.std.specs.Prelude.{◌≡◌, List}
use Rattle.ae_text.specs.declared.refusal.Spot.{Spot}
use Rattle.ae_text.specs.declared.token.Keyword.TheVariants as word
use Rattle.ae_text.specs.declared.token.Sign.TheVariants as sign
use Rattle.ae_tree.specs.declared.lexeme.Lexical.TheVariants as tok
use Rattle.ae_tree.specs.declared.tree.NameAt.{NameAt}
use Rattle.ae_tree.specs.declared.tree.PermAt.{PermAt}
use Rattle.ae_tree.specs.declared.tree.PermAt.TheVariants as perm_at
use Rattle.ae_tree.specs.declared.tree.KindAt.{KindAt}
use Rattle.ae_tree.specs.declared.tree.KindAt.TheVariants as kind_at
use Rattle.ae_tree.specs.declared.tree.Ty.{Ty}
use Rattle.ae_tree.specs.declared.tree.Ty.TheVariants as ty
use Rattle.ae_tree.specs.Grammar.{Tokens, ◌⨾◌, one_at, a_sign, separated, name, groups, permission, kind}

-- groups that are written
abbrev pub angled : List NameAt → Tokens → Type 0
angled gs = a_sign sign.Less ⨾ separated name gs ⨾ a_sign sign.Greater

-- the permission of a group's objects
abbrev pub shared_permission : PermAt → Tokens → Type 0
shared_permission p ts = (at : Spot) × (g : NameAt) × (p ≡ perm_at.Shared at g)
    × (one_at (tok.Word word.Shared) at ⨾ a_sign sign.Less ⨾ name g ⨾ a_sign sign.Greater) ts

-- a class with its groups
abbrev pub class : KindAt → Tokens → Type 0
class k ts = (c : NameAt) × (gs : List NameAt) × (k ≡ kind_at.Class c gs) × (name c ⨾ groups gs) ts

-- the type of an object
abbrev pub object : Ty → Tokens → Type 0
object t ts = (p : PermAt) × (k : KindAt) × (t ≡ ty.Object p k) × (permission p ⨾ kind k) ts
