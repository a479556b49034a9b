-- What cells are called is not read: facts on two states with the same locals and the same members of groups.
use Rattle.std.proofs.Common.{◌≡◌, ◌∙◌, ℕ, List, [], ◌∷◌, Option, None, Some, refl, ap}
use Rattle.std.specs.Prelude.{pos, neg_ℤ, not, length}
use Rattle.ae_reads.proofs.from_text.Basics.{functions_agree}
use Rattle.ae_tree.specs.declared.tree.NameAt.{NameAt}
use Rattle.ae_tree.specs.declared.tree.Path.{Path}
use Rattle.ae_tree.specs.declared.form.Perm.{Perm}
use Rattle.ae_tree.specs.declared.form.Perm.TheVariants as perm
use Rattle.ae_tree.specs.declared.form.Kind.{Kind}
use Rattle.ae_tree.specs.declared.form.Form.{Form}
use Rattle.ae_tree.specs.declared.form.Form.TheVariants as f
use Rattle.ae_tree.specs.Plain.{Code, Expression, Number, Truth, Nothing, Read, Item, Length, Grouped, Negated, Minus}
use Rattle.ae_tree.specs.Plain.{Binary}
use Rattle.ae_rules.specs.Verdict.{given}
use Rattle.ae_semantics.specs.Values.{Val, OfInt, OfBool, Null, Owned, Member}
use Rattle.ae_semantics.specs.Places as places
use Rattle.ae_semantics.specs.Places.{CellName, State, Outcome, Fine, ◌>>=◌, there, Group, Address, PlaceFound}
use Rattle.ae_semantics.specs.Places.{OpenedObject, members, other_name, store_of, opened_member, open_value, open_form}
use Rattle.ae_semantics.specs.Places.{open_place, step_to, steps, walk_to, reach, into_field, local_place}
use Rattle.ae_semantics.specs.Expressions.{value, number, truth, fitted, both, item, numbers}
use Rattle.ae_values.specs.declared.env.Env.{Env}
use Rattle.ae_values.specs.declared.env.Bound.{Bound}
use Rattle.ae_values.specs.declared.env.Bound.TheVariants as bound
use Rattle.ae_values.specs.declared.env.Image.TheVariants as image
use Rattle.ae_values.specs.Environments.{state_in, group_bound, bound_under}
use Rattle.ae_reads.specs.Answers.{one_name, state_seen}
use Rattle.ae_reads.specs.Cells.{ReadsSeeNoCells}

-- ---- groups that are here

-- a name stands for the same group, whatever cells are called
name_alike : (c d : ℕ → CellName) (g : ℕ) (b : Option Bound)
    → other_name g (given b None (group_bound c)) ≡ other_name g (given b None (group_bound d))
name_alike c d g None = refl
name_alike c d g (Some (bound.Value form v)) = refl
name_alike c d g (Some (bound.Moved form)) = refl
name_alike c d g (Some (bound.Whole (image.Store st))) = refl
name_alike c d g (Some (bound.Whole (image.Log ps))) = refl
name_alike c d g (Some (bound.Other h)) = refl
name_alike c d g (Some (bound.Cell n)) = refl
name_alike c d g (Some (bound.Pieces ps)) = refl

-- the same members are here
members_alike : (c d : ℕ → CellName) (b : Option Bound)
    → members (given b None (group_bound c)) ≡ members (given b None (group_bound d))
members_alike c d None = refl
members_alike c d (Some (bound.Value form v)) = refl
members_alike c d (Some (bound.Moved form)) = refl
members_alike c d (Some (bound.Whole (image.Store st))) = refl
members_alike c d (Some (bound.Whole (image.Log ps))) = refl
members_alike c d (Some (bound.Other h)) = refl
members_alike c d (Some (bound.Cell n)) = refl
members_alike c d (Some (bound.Pieces ps)) = refl

-- groups have the same members
abbrev StoresAlike : State → State → Type 0
StoresAlike s t = (g : ℕ) → store_of s g ≡ store_of t g

stores_alike : (cells : ℕ → CellName) (r : Option Val) (env : Env) → StoresAlike (state_in cells r env) (state_seen env)
stores_alike cells r env g =
    ap (λ h. there (members (given (bound_under env h) None (group_bound cells)))) (name_alike cells one_name g (bound_under env g))
    ∙ ap there (members_alike cells one_name
    (bound_under env (other_name g (given (bound_under env g) None (group_bound one_name)))))

-- ---- walks

value_opened : (p : Code) (s t : State) → StoresAlike s t → (q : Perm) (k : Kind) (at : Address) (v : Val)
    → open_value p s q k at v ≡ open_value p t q k at v
value_opened p s t h (perm.Shared g) k at (Member n) = ap (λ o. o >>= opened_member p k g n) (h g)
value_opened p s t h (perm.Shared g) k at (OfInt n) = refl
value_opened p s t h (perm.Shared g) k at (OfBool b) = refl
value_opened p s t h (perm.Shared g) k at Null = refl
value_opened p s t h (perm.Shared g) k at (Owned x) = refl
value_opened p s t h perm.Unique k at (OfInt n) = refl
value_opened p s t h perm.Unique k at (OfBool b) = refl
value_opened p s t h perm.Unique k at Null = refl
value_opened p s t h perm.Unique k at (Owned x) = refl
value_opened p s t h perm.Unique k at (Member n) = refl
value_opened p s t h perm.Immutable k at (OfInt n) = refl
value_opened p s t h perm.Immutable k at (OfBool b) = refl
value_opened p s t h perm.Immutable k at Null = refl
value_opened p s t h perm.Immutable k at (Owned x) = refl
value_opened p s t h perm.Immutable k at (Member n) = refl
value_opened p s t h perm.Lent k at (OfInt n) = refl
value_opened p s t h perm.Lent k at (OfBool b) = refl
value_opened p s t h perm.Lent k at Null = refl
value_opened p s t h perm.Lent k at (Owned x) = refl
value_opened p s t h perm.Lent k at (Member n) = refl

opened_alike : (p : Code) (s t : State) → StoresAlike s t → (at : Address) (form : Form) (v : Val)
    → open_form p s at form v ≡ open_form p t at form v
opened_alike p s t h at f.Int v = refl
opened_alike p s t h at f.Bool v = refl
opened_alike p s t h at (f.Object q k) v = value_opened p s t h q k at v

stepped_alike : (p : Code) (s t : State) → StoresAlike s t → (x : NameAt) (from : PlaceFound)
    → step_to p s x from ≡ step_to p t x from
stepped_alike p s t h x from = ap (λ o. o >>= λ y. into_field p y x.name)
    (opened_alike p s t h from.at from.form from.value)

steps_alike : (p : Code) (s t : State) → StoresAlike s t → (xs : List NameAt) (o : Outcome PlaceFound)
    → (o >>= steps p s xs) ≡ (o >>= steps p t xs)
steps_alike p s t h xs places.Lacks = refl
steps_alike p s t h xs (places.Traps code) = refl
steps_alike p s t h [] (Fine from) = refl
steps_alike p s t h (x ∷ xs) (Fine from) = ap (λ o. o >>= steps p s xs) (stepped_alike p s t h x from)
    ∙ steps_alike p s t h xs (step_to p t x from)

walked_alike : (p : Code) (s t : State) → StoresAlike s t → s.locals ≡ t.locals → (path : Path)
    → walk_to p s path ≡ walk_to p t path
walked_alike p s t h same path =
    ap (λ (l : ℕ → Option places.Bound). there (l path.root.name) >>= λ b.
    steps p s path.steps (local_place path.root.name b)) same
    ∙ from_root (t.locals path.root.name)
  where
    from_root : (b : Option places.Bound)
        → (there b >>= λ y. steps p s path.steps (local_place path.root.name y))
        ≡ (there b >>= λ y. steps p t path.steps (local_place path.root.name y))
    from_root None = refl
    from_root (Some b) = steps_alike p s t h path.steps (Fine (local_place path.root.name b))

-- what comes next may be told by what it does
goes_alike : {A B : Type 0} (o : Outcome A) (next other : A → Outcome B) → ((x : A) → next x ≡ other x)
    → (o >>= next) ≡ (o >>= other)
goes_alike o next other h = ap (λ go. o >>= go) (functions_agree next other h)

reached_alike : (p : Code) (s t : State) → StoresAlike s t → s.locals ≡ t.locals → (path : Path)
    → reach p s path ≡ reach p t path
reached_alike p s t h same path = ap (λ o. o >>= open_place p s) (walked_alike p s t h same path)
    ∙ goes_alike (walk_to p t path) (open_place p s) (open_place p t)
    (λ x. opened_alike p s t h x.at x.form x.value)

-- ---- expressions

valued_alike : (p : Code) (s t : State) → StoresAlike s t → s.locals ≡ t.locals → (e : Expression)
    → value p s e ≡ value p t e
valued_alike p s t h same (Number n at) = refl
valued_alike p s t h same (Truth b at) = refl
valued_alike p s t h same (Nothing at) = refl
valued_alike p s t h same (Read path) = ap (λ o. o >>= λ x. Fine x.value) (walked_alike p s t h same path)
valued_alike p s t h same (Item path e) =
    ap (λ o. o >>= λ x. value p s e >>= λ v. number v >>= λ n. open_place p s x >>= λ y. item y n)
    (walked_alike p s t h same path)
    ∙ goes_alike (walk_to p t path) (λ x. value p s e >>= λ v. number v >>= λ n. open_place p s x >>= λ y. item y n)
    (λ x. value p t e >>= λ v. number v >>= λ n. open_place p t x >>= λ y. item y n)
    (λ x. ap (λ o. o >>= λ v. number v >>= λ n. open_place p s x >>= λ y. item y n) (valued_alike p s t h same e)
    ∙ ap (λ o. value p t e >>= λ v. number v >>= λ n. o >>= λ y. item y n)
    (opened_alike p s t h x.at x.form x.value))
valued_alike p s t h same (Length path at) =
    ap (λ o. o >>= λ y. numbers y.tree >>= λ ns. Fine (OfInt (pos (length ns)))) (reached_alike p s t h same path)
valued_alike p s t h same (Grouped e at) = valued_alike p s t h same e
valued_alike p s t h same (Negated e at) = ap (λ o. o >>= λ v. truth v >>= λ b. Fine (OfBool (not b)))
    (valued_alike p s t h same e)
valued_alike p s t h same (Minus e at) = ap (λ o. o >>= λ v. number v >>= λ n. fitted (neg_ℤ n))
    (valued_alike p s t h same e)
valued_alike p s t h same (Binary o a b) = ap (λ x. x >>= λ v. both o v (λ _. value p s b)) (valued_alike p s t h same a)
    ∙ ap (λ x. value p t a >>= λ v. both o v (λ _. x)) (valued_alike p s t h same b)

-- every state of an environment is read as the one that is seen
pub cells_are_not_read : ReadsSeeNoCells
cells_are_not_read p cells r env =
    let s = state_in cells r env in
    let t = state_seen env in
    let h : StoresAlike s t = stores_alike cells r env in
    record {
      opened = opened_alike p s t h;
      stepped = stepped_alike p s t h;
      walked = walked_alike p s t h refl;
      reached = reached_alike p s t h refl;
      valued = valued_alike p s t h refl;
    }
