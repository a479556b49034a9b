-- Facts on writes of names: a value that moves, and one that stays.
use Rattle.std.proofs.Common.{◌≡◌, refl, sym, ap, ◌∙◌, ℕ, Bool, true, false, if◌then◌else◌, List, [], ◌∷◌, Option, None}
use Rattle.std.proofs.Common.{Some}
use Rattle.std.proofs.lemmas.Option.{same_Some, none-some}
use Rattle.ae_tree.specs.declared.tree.NameAt.{NameAt}
use Rattle.ae_tree.specs.declared.tree.Path.{Path}
use Rattle.ae_tree.specs.declared.form.Perm.TheVariants as perm
use Rattle.ae_tree.specs.declared.form.Form.{Form}
use Rattle.ae_tree.specs.declared.form.Form.TheVariants as f
use Rattle.ae_tree.specs.Plain.{Code, Expression, Number, Truth, Nothing, Read, Item, Length, Grouped, Negated, Minus}
use Rattle.ae_tree.specs.Plain.{Binary}
use Rattle.ae_rules.specs.Lookups.{is_empty}
use Rattle.ae_rules.specs.Into.{name_into}
use Rattle.ae_rules.specs.Verdict.{given}
use Rattle.ae_semantics.specs.Values.{Val}
use Rattle.ae_semantics.specs.Places.{Outcome, Fine, ◌>>=◌, there, Bound, State, steps, local_place, write}
use Rattle.ae_semantics.specs.Places.{write_in, with_bound}
use Rattle.ae_semantics.specs.Calls.{without_moved}
use Rattle.ae_semantics.specs.Expressions.{value}
use Rattle.ae_semantics.specs.Meaning.{stored, name_moved}
use Rattle.ae_stores.specs.Stand.{moved_into}
use Rattle.ae_stores.specs.Targets.{SlotAt, field_aimed, name_alone}
use Rattle.ae_stores.proofs.SlotLemmas.{stored_in_field}

-- the value of a local
abbrev pub local_value : State → ℕ → Outcome Val
local_value s x = there (s.locals x) >>= λ b. Fine b.value

-- a name comes to the value of its local
pub name_is_local : (p : Code) (s : State) (e : Expression) (x : ℕ) → name_alone e ≡ Some x
    → value p s e ≡ local_value s x
name_is_local p s (Read path) x e = by_steps path.steps refl e
  where
    by_local : (n : ℕ) (b : Option Bound) → ((there b >>= λ b. steps p s [] (local_place n b)) >>= λ y. Fine y.value)
        ≡ (there b >>= λ b. Fine b.value)
    by_local n None = refl
    by_local n (Some b) = refl

    by_steps : (xs : List NameAt) → path.steps ≡ xs → (if is_empty xs then Some path.root.name else None) ≡ Some x
        → value p s (Read path) ≡ local_value s x
    by_steps [] same e =
        ap (λ ys. (there (s.locals path.root.name) >>= λ b. steps p s ys (local_place path.root.name b))
        >>= λ y. Fine y.value) same
        ∙ by_local path.root.name (s.locals path.root.name)
        ∙ ap (local_value s) (same_Some path.root.name x e)
    by_steps (y ∷ ys) same e = absurd (none-some x e)
name_is_local p s (Number n at) x e = absurd (none-some x e)
name_is_local p s (Truth b at) x e = absurd (none-some x e)
name_is_local p s (Nothing at) x e = absurd (none-some x e)
name_is_local p s (Item path i) x e = absurd (none-some x e)
name_is_local p s (Length path at) x e = absurd (none-some x e)
name_is_local p s (Grouped i at) x e = absurd (none-some x e)
name_is_local p s (Negated i at) x e = absurd (none-some x e)
name_is_local p s (Minus i at) x e = absurd (none-some x e)
name_is_local p s (Binary o a b) x e = absurd (none-some x e)

-- the name that moves with a name is that name
pub moves_itself : (form : Form) (e : Expression) (x y : ℕ) → name_alone e ≡ Some x → name_into form e ≡ Some y → y ≡ x
moves_itself form (Read path) x y e is = by_form form is (is_empty path.steps) e
  where
    by_form : (form : Form) → name_into form (Read path) ≡ Some y → (b : Bool)
        → (if b then Some path.root.name else None) ≡ Some x → y ≡ x
    by_form f.Int is b e = absurd (none-some y is)
    by_form f.Bool is b e = absurd (none-some y is)
    by_form (f.Object perm.Unique k) is true e =
        sym (same_Some path.root.name y is) ∙ same_Some path.root.name x e
    by_form (f.Object perm.Unique k) is false e = absurd (none-some x e)
    by_form (f.Object perm.Immutable k) is b e = absurd (none-some y is)
    by_form (f.Object perm.Lent k) is b e = absurd (none-some y is)
    by_form (f.Object (perm.Shared g) k) is b e = absurd (none-some y is)
moves_itself form (Number n at) x y e is = absurd (none-some x e)
moves_itself form (Truth b at) x y e is = absurd (none-some x e)
moves_itself form (Nothing at) x y e is = absurd (none-some x e)
moves_itself form (Item path i) x y e is = absurd (none-some x e)
moves_itself form (Length path at) x y e is = absurd (none-some x e)
moves_itself form (Grouped i at) x y e is = absurd (none-some x e)
moves_itself form (Negated i at) x y e is = absurd (none-some x e)
moves_itself form (Minus i at) x y e is = absurd (none-some x e)
moves_itself form (Binary o a b) x y e is = absurd (none-some x e)

-- what a write of this value comes to
abbrev pub stored_value : Code → Path → Expression → State → Val → Outcome State
stored_value p path e s v = field_aimed p s path
    >>= λ x. write s x.at v
    >>= λ t. Fine (without_moved (name_moved x.form e) t)

-- a name that has a value is written as that value
pub name_is_stored : (p : Code) (s : State) (path : Path) (e : Expression) (x : ℕ) (b : Bound) → name_alone e ≡ Some x
    → s.locals x ≡ Some b → stored p path e s ≡ stored_value p path e s b.value
name_is_stored p s path e x b alone at = stored_in_field p s path e b.value
    (name_is_local p s e x alone ∙ ap (λ (o : Option Bound). there o >>= λ b. Fine b.value) at)

-- where the name moves, the value of the local moves to the field
pub stored_as_moved : (p : Code) (s : State) (path : Path) (e : Expression) (x y : ℕ) (b : Bound) (to : SlotAt)
    → name_alone e ≡ Some x → s.locals x ≡ Some b → field_aimed p s path ≡ Fine to → name_into to.form e ≡ Some y
    → stored p path e s ≡ moved_into s x to.at.base to.at.fields
stored_as_moved p s path e x y b to alone at aim moves =
    name_is_stored p s path e x b alone at
    ∙ ap (λ o. o >>= λ (x : SlotAt). write s x.at b.value >>= λ t. Fine (without_moved (name_moved x.form e) t)) aim
    ∙ ap (λ (o : Option ℕ). write s to.at b.value >>= λ t. Fine (without_moved (given o [] (λ z. z ∷ [])) t)) moves
    ∙ ap (λ n. write s to.at b.value >>= λ t. Fine (with_bound n None t)) (moves_itself to.form e x y alone moves)
    ∙ sym (ap (λ (o : Option Bound). there o >>= λ b. write_in s to.at.base to.at.fields b.value
    >>= λ t. Fine (with_bound x None t)) at)
