-- Groups under their own names, as they are bound: taken out, and put again.
use Rattle.std.proofs.Common.{◌≡◌, ◌∙◌, ℕ, nat_eq, Bool, true, false, List, [], ◌∷◌, Option, None, Some, refl, ap}
use Rattle.std.proofs.Common.{sym}
use Rattle.std.specs.Prelude.{if◌then◌else◌, option_map}
use Rattle.std.proofs.lemmas.Option.{same_Some, none-some}
use Rattle.ae_tree.specs.declared.form.Perm.{Perm}
use Rattle.ae_rules.specs.Verdict.{given}
use Rattle.ae_semantics.specs.Values.{Val}
use Rattle.ae_semantics.specs.Places as meant
use Rattle.ae_semantics.specs.Places.{Group, State, with}
use Rattle.ae_values.specs.declared.env.Env.{Env}
use Rattle.ae_values.specs.declared.env.Bind.{Bind}
use Rattle.ae_values.specs.declared.env.Bound.{Bound}
use Rattle.ae_values.specs.declared.env.Bound.TheVariants as bound
use Rattle.ae_values.specs.Binding.{bound_in}
use Rattle.ae_values.specs.Environments.{bound_under, running_binds, locals_in, groups_in, local_bound, group_bound}
use Rattle.ae_values.specs.Environments.{state_in}
use Rattle.ae_values.specs.Shapes.{OfGroup, name_shape, shapes, shape_in}
use Rattle.ae_reads.specs.Answers.{one_name}
use Rattle.ae_frames.specs.Bounds.{has_group_shape}
use Rattle.ae_frames.specs.Granting.{groups_seen}
use Rattle.ae_frames.specs.Returns.{group_put}
use Rattle.ae_frames.proofs.from_values.BindLemmas.{with_itself, one_name_changes}

-- what has the shape of a group under its own name is one
shaped_is_group : (q : Perm) (b : Bound) → name_shape q b ≡ OfGroup None → has_group_shape b ≡ true
shaped_is_group q (bound.Value form v) h = absurd (cc)
shaped_is_group q (bound.Moved form) h = absurd (cc)
shaped_is_group q (bound.Whole i) h = refl
shaped_is_group q (bound.Other g) h = absurd (cc)
shaped_is_group q (bound.Cell n) h = refl
shaped_is_group q (bound.Pieces ps) h = refl

-- a group under its own name has that shape
group_is_shaped : (q : Perm) (b : Bound) → has_group_shape b ≡ true → name_shape q b ≡ OfGroup None
group_is_shaped q (bound.Value form v) h = absurd (cc)
group_is_shaped q (bound.Moved form) h = absurd (cc)
group_is_shaped q (bound.Whole i) h = refl
group_is_shaped q (bound.Other g) h = absurd (cc)
group_is_shaped q (bound.Cell n) h = refl
group_is_shaped q (bound.Pieces ps) h = refl

-- it is no local
group_is_no_local : (b : Bound) → has_group_shape b ≡ true → local_bound b ≡ None
group_is_no_local (bound.Value form v) h = absurd (cc)
group_is_no_local (bound.Moved form) h = refl
group_is_no_local (bound.Whole i) h = refl
group_is_no_local (bound.Other g) h = refl
group_is_no_local (bound.Cell n) h = refl
group_is_no_local (bound.Pieces ps) h = refl

-- where a name has the shape of a group, a group is bound
pub group_stands : (bs : List Bind) (g : ℕ) → shape_in (shapes bs) g ≡ Some (OfGroup None)
    → (b : Bound) × (bound_in bs g ≡ Some b) × (has_group_shape b ≡ true)
group_stands [] g h = absurd (none-some (OfGroup None) h)
group_stands (b ∷ bs) g h = by_test (nat_eq b.name g) h (group_stands bs g)
  where
    by_test : (t : Bool)
        → (if t then Some (name_shape b.declared b.bound) else shape_in (shapes bs) g) ≡ Some (OfGroup None)
        → (shape_in (shapes bs) g ≡ Some (OfGroup None)
        → (c : Bound) × (bound_in bs g ≡ Some c) × (has_group_shape c ≡ true))
        → (c : Bound) × ((if t then Some b.bound else bound_in bs g) ≡ Some c) × (has_group_shape c ≡ true)
    by_test true is later = (
      b.bound,
      refl,
      (shaped_is_group) b.declared b.bound
          (same_Some (name_shape b.declared b.bound) (OfGroup None) is),
    )
    by_test false is later = later is

-- where a placeholder is bound, the name has the shape of a group
pub placeholder_is_shaped : (bs : List Bind) (g n : ℕ) → bound_in bs g ≡ Some (bound.Cell n)
    → shape_in (shapes bs) g ≡ Some (OfGroup None)
placeholder_is_shaped [] g n h = absurd (none-some (bound.Cell n) h)
placeholder_is_shaped (b ∷ bs) g n h = by_test (nat_eq b.name g) h (placeholder_is_shaped bs g n)
  where
    by_test : (t : Bool) → (if t then Some b.bound else bound_in bs g) ≡ Some (bound.Cell n)
        → (bound_in bs g ≡ Some (bound.Cell n) → shape_in (shapes bs) g ≡ Some (OfGroup None))
        → (if t then Some (name_shape b.declared b.bound) else shape_in (shapes bs) g) ≡ Some (OfGroup None)
    by_test true is later = ap (λ (c : Bound). Some (name_shape b.declared c)) (same_Some b.bound (bound.Cell n) is)
    by_test false is later = later is

-- two groups under their own names have one shape
pub groups_are_shaped_alike : (e : Env) (g : ℕ) (a b : Bound) (q : Perm)
    → shape_in (shapes (running_binds e)) g ≡ Some (OfGroup None) → has_group_shape a ≡ true → bound_under e g ≡ Some b
    → name_shape q a ≡ name_shape q b
groups_are_shaped_alike e g a b q stands is here =
    let s = group_stands (running_binds e) g stands in
    let same : s.0 ≡ b = same_Some s.0 b (sym s.1 ∙ here) in
    group_is_shaped q a is ∙ sym (ap (name_shape q) (sym same) ∙ group_is_shaped q s.0 s.2)

-- where another group is put in place of one, that group is seen
pub group_is_put : (r : Option Val) (e f : Env) (h : ℕ) (b : Bound)
    → shape_in (shapes (running_binds e)) h ≡ Some (OfGroup None) → has_group_shape b ≡ true
    → bound_under f ≡ with h (option_map (λ _. b) (bound_under e h)) (bound_under e)
    → state_in one_name r f ≡ group_put (h, group_bound one_name b) (state_in one_name r e)
group_is_put r e f h b stands is put =
    let s = group_stands (running_binds e) h stands in
    let same : bound_under f ≡ with h (Some b) (bound_under e) =
    put ∙ ap (λ (o : Option Bound). with h (option_map (λ _. b) o) (bound_under e)) s.1 in
    let change = one_name_changes h (Some b) (bound_under e) in
    let was : locals_in (bound_under e) h ≡ None =
    ap (λ (o : Option Bound). given o None local_bound) s.1 ∙ group_is_no_local s.0 s.2 in
    ap (λ (u : ℕ → Option Bound). state_of (locals_in u) (groups_in one_name u) r) same
    ∙ ap (λ (l : ℕ → Option meant.Bound). state_of l (groups_in one_name (with h (Some b) (bound_under e))) r)
    (change.locals ∙ ap (λ (o : Option meant.Bound). with h o (locals_in (bound_under e))) (group_is_no_local b is)
    ∙ with_itself h nothing (locals_in (bound_under e)) was)
    ∙ ap (λ (g : ℕ → Option Group). state_of (locals_in (bound_under e)) g r) (change.groups one_name)
  where
    nothing : Option meant.Bound
    nothing = None

    state_of : (ℕ → Option meant.Bound) → (ℕ → Option Group) → Option Val → State
    state_of l g r = record { locals = l; groups = g; result = r }

-- the group that was taken out is that which was seen
pub group_is_taken : (e : Env) (g : ℕ) (o : Option Bound) (b : Bound) → o ≡ bound_under e g → o ≡ Some b
    → group_bound one_name b ≡ groups_seen e g
group_is_taken e g o b was is = sym (ap (λ (c : Option Bound). given c None (group_bound one_name)) (sym was ∙ is))

-- it stood under its own name
pub taken_is_group : (e : Env) (g : ℕ) (o : Option Bound) (b : Bound)
    → shape_in (shapes (running_binds e)) g ≡ Some (OfGroup None) → o ≡ bound_under e g → o ≡ Some b
    → has_group_shape b ≡ true
taken_is_group e g o b stands was is =
    let s = group_stands (running_binds e) g stands in
    ap has_group_shape (same_Some b s.0 (sym is ∙ was ∙ s.1)) ∙ s.2

-- nothing else can have been there
pub group_is_there : (e : Env) (g : ℕ) → shape_in (shapes (running_binds e)) g ≡ Some (OfGroup None)
    → bound_under e g ≡ None → ⊥
group_is_there e g stands none =
    let s = group_stands (running_binds e) g stands in none-some s.0 (sym none ∙ s.1)
