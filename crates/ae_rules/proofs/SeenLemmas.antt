-- What a judged statement uses is visible.
use Rattle.std.proofs.Common.{◌≡◌, ◌⊎◌, inl, inr, refl, sym, ap, subst, ℕ, Bool, true, false, if◌then◌else◌, List}
use Rattle.std.proofs.Common.{[], ◌∷◌, Option, None, Some}
use Rattle.std.specs.Prelude.{is_some, ⊤}
use Rattle.std.proofs.lemmas.Bool.{eqb-true, and_from, or_cases}
use Rattle.ae_text.specs.declared.refusal.Spot.{Spot}
use Rattle.ae_text.specs.declared.refusal.Rule.{Rule}
use Rattle.ae_text.specs.declared.refusal.Rule.TheVariants as rule
use Rattle.ae_tree.specs.declared.tree.NameAt.{NameAt}
use Rattle.ae_tree.specs.declared.tree.Path.{Path}
use Rattle.ae_rules.specs.declared.uses.Resource.{Resource}
use Rattle.ae_rules.specs.declared.uses.Resource.TheVariants as resource
use Rattle.ae_rules.specs.declared.uses.Mode.{Mode}
use Rattle.ae_rules.specs.declared.uses.Mode.TheVariants as mode
use Rattle.ae_rules.specs.Edges.{is_strong, Uses}
use Rattle.ae_tree.specs.declared.form.Form.{Form}
use Rattle.ae_tree.specs.declared.form.Form.TheVariants as f
use Rattle.ae_tree.specs.Plain.{Expression, Number, Truth, Nothing, Read, Item, Length, Grouped, Negated, Minus}
use Rattle.ae_tree.specs.Plain.{Binary, Code}
use Rattle.ae_rules.specs.declared.held.Held.{Held}
use Rattle.ae_rules.specs.declared.held.Held.TheVariants as held
use Rattle.ae_rules.specs.declared.held.GroupPerm.{GroupPerm}
use Rattle.ae_rules.specs.declared.held.GroupPerm.TheVariants as group
use Rattle.ae_rules.specs.Verdict.{Verdict, Holds, Broken, require, found, each, in_turn, given}
use Rattle.ae_rules.specs.Lookups.{field_of}
use Rattle.ae_rules.specs.Forms.{is_ints}
use Rattle.ae_rules.specs.Groups.{group_is, same_group_perm, opens}
use Rattle.ae_rules.specs.Context.{Local, Context, access}
use Rattle.ae_rules.specs.Walks.{Place, step, walk, owner, write_access, owner_write_access}
use Rattle.ae_rules.specs.Expressions.{expression_spot, Operands, Numbers, Truths, Equals, operands, Compared}
use Rattle.ae_rules.specs.Expressions.{path_beside_null, beside_null, has_form, both_have, two_alike, equal_operands}
use Rattle.ae_rules.specs.Expressions.{judge_operands, judge_value, is_value}
use Rattle.ae_rules.specs.Uses.{nothing, same_resource, use_alone, read_use, write_use, whole_group, together}
use Rattle.ae_rules.specs.Uses.{stronger, ◌∪◌, of_each, of_judged, of_found, is_seen, outside, reach_use, steps_use}
use Rattle.ae_rules.specs.Uses.{walk_uses, path_uses, end_uses, root_written, write_uses, value_uses}
use Rattle.ae_rules.specs.EdgeLaws.{is_of_local, group_allows, is_allowed}
use Rattle.ae_rules.proofs.VerdictLemmas.{Yields, gives, next, asks, always}
use Rattle.ae_rules.proofs.TruthLemmas.{shown_behind_test, thing_is_there}
use Rattle.ae_rules.proofs.from_text.Basics.{option_holds_one}

-- ---- verdicts

pub weaker : {A : Type 0} {P Q : A → Type 0} {v : Verdict A} → ((x : A) → P x → Q x) → Yields P v → Yields Q v
weaker h y = record { value = λ x e. h x (y.value x e) }

pub found_is : {A : Type 0} (o : Option A) (rule : Rule) (at : Spot) (x : A) → found o rule at ≡ Holds x → o ≡ Some x
found_is None rule at x e = absurd (cc)
found_is (Some y) rule at x e = cc

pub required : (b : Bool) (rule : Rule) (at : Spot) (x : ⊤) → require b rule at ≡ Holds x → b ≡ true
required true rule at x e = refl
required false rule at x e = absurd (cc)

-- ---- uses of what is visible

abbrev pub Within : Context → Uses → Type 0
Within c u = (r : Resource) (n : Mode) → u r ≡ Some n → is_allowed c r n ≡ true

pub in_nothing : (c : Context) → Within c nothing
in_nothing c r n e = absurd (cc)

pub same_is : (r s : Resource) → same_resource r s ≡ true → r ≡ s
same_is (resource.Local x) (resource.Local y) e = ap resource.Local (eqb-true x y e)
same_is (resource.Local x) (resource.Group y) e = absurd (cc)
same_is (resource.Group x) (resource.Local y) e = absurd (cc)
same_is (resource.Group x) (resource.Group y) e = ap resource.Group (eqb-true x y e)

pub one_if : (m n : Mode) (b : Bool) → (if b then Some m else None) ≡ Some n → (b ≡ true) × (m ≡ n)
one_if m n true e = (refl, cc)
one_if m n false e = absurd (cc)

pub in_one : (c : Context) (m : Mode) (r : Resource) → is_allowed c r m ≡ true → Within c (use_alone m r)
in_one c m r seen s n e =
    let q = one_if m n (same_resource r s) e in
    subst (λ (k : Mode). is_allowed c s k ≡ true) q.1
    (subst (λ (x : Resource). is_allowed c x m ≡ true) (same_is r s q.0) seen)

pub in_local : (c : Context) (m : Mode) (x : ℕ) → is_of_local m ≡ true → is_seen c (resource.Local x) ≡ true
    → Within c (use_alone m (resource.Local x))
in_local c m x h seen = in_one c m (resource.Local x) (and_from (is_some (c.local x)) (is_of_local m) seen h)

pub in_read : (c : Context) (x : ℕ) → is_seen c (resource.Local x) ≡ true → Within c (read_use x)
in_read c x seen = in_local c mode.Read x refl seen

pub in_changed : (c : Context) (x : ℕ) → is_seen c (resource.Local x) ≡ true → Within c (write_use x)
in_changed c x seen = in_local c mode.Write x refl seen

of_strong : (b : Bool) (m k n : Mode) → Some (if b then m else k) ≡ Some n → (Some m ≡ Some n) ⊎ (Some k ≡ Some n)
of_strong true m k n e = inl e
of_strong false m k n e = inr e

pub of_two : (o q : Option Mode) (n : Mode) → stronger o q ≡ Some n → (o ≡ Some n) ⊎ (q ≡ Some n)
of_two None q n e = inr e
of_two (Some m) None n e = inl e
of_two (Some m) (Some k) n e = of_strong (is_strong m) m k n e

pub in_both : (c : Context) (u v : Uses) → Within c u → Within c v → Within c (u ∪ v)
in_both c u v h k r n e = elim (of_two (u r) (v r) n e) [ inl x ↦ h r n x | inr x ↦ k r n x ]

pub in_judged : {A : Type 0} (c : Context) (v : Verdict A) (u : A → Uses) (x : A) → v ≡ Holds x → Within c (u x)
    → Within c (of_judged v u)
in_judged c (Holds y) u x e h = subst (λ z. Within c (u z)) (cc) h
in_judged c (Broken rule at) u x e h = absurd (cc)

pub in_found : {A : Type 0} (c : Context) (o : Option A) (u : A → Uses) → ((x : A) → o ≡ Some x → Within c (u x))
    → Within c (of_found o u)
in_found c None u h = in_nothing c
in_found c (Some x) u h = h x refl

outside_if : (b : Bool) (o : Option Mode) (n : Mode) → (if b then o else None) ≡ Some n → b ≡ true
outside_if true o n e = refl
outside_if false o n e = absurd (cc)

-- what is visible may be so used
abbrev pub Inside : Context → Uses → Type 0
Inside c u = (r : Resource) (n : Mode) → u r ≡ Some n → is_seen c r ≡ true → is_allowed c r n ≡ true

pub in_outside : (c : Context) (u : Uses) → Inside c u → Within c (outside c u)
in_outside c u h r n e = h r n (shown_behind_test (is_seen c r) (u r) n e) (outside_if (is_seen c r) (u r) n e)

-- each of a list that is judged in turn
pub in_turns : {A S : Type 0} (c : Context) (premise : A → S → Verdict S) (u : A → Uses)
    → ((x : A) (s : S) → Yields (λ _. Within c (u x)) (premise x s))
    → (xs : List A) (s : S) → Yields (λ _. Within c (of_each u xs)) (in_turn premise xs s)
in_turns c premise u h [] s = always (in_nothing c)
in_turns c premise u h (x ∷ xs) s =
    next (premise x s) λ t e.
    weaker (λ _ k. in_both c (u x) (of_each u xs) ((h x s).value t e) k) (in_turns c premise u h xs t)

pub in_each : {A : Type 0} (c : Context) (premise : A → Verdict ⊤) (u : A → Uses)
    → ((x : A) → Yields (λ _. Within c (u x)) (premise x))
    → (xs : List A) → Yields (λ _. Within c (of_each u xs)) (each premise xs)
in_each c premise u h [] = always (in_nothing c)
in_each c premise u h (x ∷ xs) =
    next (premise x) λ t e.
    weaker (λ _ k. in_both c (u x) (of_each u xs) ((h x).value t e) k) (in_each c premise u h xs)

-- ---- groups

exclusive_allows : (o : Option GroupPerm) → given o false (same_group_perm group.Exclusive) ≡ true
    → given o false (λ q. group_allows q mode.GroupWhole) ≡ true
exclusive_allows None e = absurd (cc)
exclusive_allows (Some group.Exclusive) e = refl
exclusive_allows (Some group.Shared) e = absurd (cc)
exclusive_allows (Some group.Protected) e = absurd (cc)
exclusive_allows (Some group.HeldBack) e = absurd (cc)
exclusive_allows (Some group.None) e = absurd (cc)

protected_allows : (o : Option GroupPerm) → given o false (same_group_perm group.Protected) ≡ true
    → given o false (λ q. group_allows q mode.GroupWhole) ≡ true
protected_allows None e = absurd (cc)
protected_allows (Some group.Exclusive) e = absurd (cc)
protected_allows (Some group.Shared) e = absurd (cc)
protected_allows (Some group.Protected) e = refl
protected_allows (Some group.HeldBack) e = absurd (cc)
protected_allows (Some group.None) e = absurd (cc)

shared_allows : (o : Option GroupPerm) → given o false (same_group_perm group.Shared) ≡ true
    → given o false (λ q. group_allows q mode.GroupShared) ≡ true
shared_allows None e = absurd (cc)
shared_allows (Some group.Exclusive) e = absurd (cc)
shared_allows (Some group.Shared) e = refl
shared_allows (Some group.Protected) e = absurd (cc)
shared_allows (Some group.HeldBack) e = absurd (cc)
shared_allows (Some group.None) e = absurd (cc)

pub in_exclusive : (c : Context) (g : ℕ) → group_is group.Exclusive c.group g ≡ true → Within c (whole_group g)
in_exclusive c g e = in_one c mode.GroupWhole (resource.Group g) (exclusive_allows (c.group g) e)

pub in_shared : (c : Context) (g : ℕ) → group_is group.Shared c.group g ≡ true → Within c (together g)
in_shared c g e = in_one c mode.GroupShared (resource.Group g) (shared_allows (c.group g) e)

pub in_open : (c : Context) (g : ℕ) → opens c.group g ≡ true → Within c (whole_group g)
in_open c g e = in_one c mode.GroupWhole (resource.Group g)
    (elim (or_cases (group_is group.Exclusive c.group g) (group_is group.Protected c.group g) e)
    [ inl h ↦ exclusive_allows (c.group g) h | inr h ↦ protected_allows (c.group g) h ])

-- ---- paths

pub in_reach : (c : Context) (at : Spot) (h : Held) (x : ⊤) → access c at h ≡ Holds x → Within c (reach_use h)
in_reach c at (held.Shared g) x e = in_open c g (required (opens c.group g) _ at x e)
in_reach c at (held.Inner g) x e = in_open c g (required (opens c.group g) _ at x e)
in_reach c at held.Unique x e = in_nothing c
in_reach c at (held.Split n) x e = in_nothing c
in_reach c at held.Immutable x e = in_nothing c
in_reach c at held.Lent x e = in_nothing c
in_reach c at held.None x e = in_nothing c

step_reaches : (p : Code) (c : Context) (at : Spot) (x : NameAt) (from : Place)
    → Yields (λ _. Within c (reach_use from.held)) (step p c at x from)
step_reaches p c at x from =
    next (found (field_of p from.form x.name) rule.UnknownField x.at) λ form _.
    next (access c at from.held) λ u e.
    gives (in_reach c at from.held u e)

in_steps : (p : Code) (c : Context) (at : Spot) (xs : List NameAt) (from : Place)
    → Yields (λ _. Within c (steps_use p c at xs from)) (in_turn (step p c at) xs from)
in_steps p c at [] from = always (in_nothing c)
in_steps p c at (x ∷ xs) from =
    next (step p c at x from) λ t e.
    weaker (λ _ k. in_both c (reach_use from.held) (of_judged (step p c at x from) (steps_use p c at xs))
    ((step_reaches p c at x from).value t e)
    (in_judged c (step p c at x from) (steps_use p c at xs) t e k)) (in_steps p c at xs t)

pub root_seen : (p : Code) (c : Context) (path : Path)
    → Yields (λ _. is_seen c (resource.Local path.root.name) ≡ true) (walk p c path)
root_seen p c path =
    next (found (c.local path.root.name) rule.UnknownName path.root.at) λ l e.
    always (thing_is_there (c.local path.root.name) l
    (found_is (c.local path.root.name) rule.UnknownName path.root.at l e))

pub in_walk : (p : Code) (c : Context) (path : Path) → Yields (λ _. Within c (walk_uses p c path)) (walk p c path)
in_walk p c path =
    next (found (c.local path.root.name) rule.UnknownName path.root.at) λ (l : Local) e.
    let from : Place = record { form = l.form; held = l.held } in
    weaker (λ _ k. in_found c (c.local path.root.name) _
    (λ (y : Local) h. same_steps l y (found_is (c.local path.root.name) rule.UnknownName path.root.at l e) h k))
    (in_steps p c path.root.at path.steps from)
  where
    same_steps : (l y : Local) → c.local path.root.name ≡ Some l → c.local path.root.name ≡ Some y
        → Within c (steps_use p c path.root.at path.steps (record { form = l.form; held = l.held }))
        → Within c (steps_use p c path.root.at path.steps (record { form = y.form; held = y.held }))
    same_steps l y e h k =
        let same : l ≡ y = option_holds_one (c.local path.root.name) l y e h in
        subst (λ (z : Local). Within c
        (steps_use p c path.root.at path.steps (record { form = z.form; held = z.held }))) same k

pub in_path : (p : Code) (c : Context) (path : Path) → Yields (λ _. Within c (path_uses p c path)) (walk p c path)
in_path p c path = record {
  value = λ w e. in_both c (read_use path.root.name) (walk_uses p c path)
      (in_read c path.root.name ((root_seen p c path).value w e)) ((in_walk p c path).value w e);
}

in_end : (p : Code) (c : Context) (path : Path) (at : Spot) (w : Place) (u : ⊤) → walk p c path ≡ Holds w
    → access c at w.held ≡ Holds u → Within c (end_uses p c path)
in_end p c path at w u e h =
    in_both c (walk_uses p c path) (of_judged (walk p c path) (λ (x : Place). reach_use x.held))
    ((in_walk p c path).value w e)
    (in_judged c (walk p c path) (λ (x : Place). reach_use x.held) w e (in_reach c at w.held u h))

in_root_written : (c : Context) (h : Held) (x : ℕ) → is_seen c (resource.Local x) ≡ true → Within c (root_written h x)
in_root_written c held.Unique x s = in_changed c x s
in_root_written c (held.Split n) x s = in_read c x s
in_root_written c held.Immutable x s = in_read c x s
in_root_written c held.Lent x s = in_read c x s
in_root_written c (held.Shared g) x s = in_read c x s
in_root_written c (held.Inner g) x s = in_read c x s
in_root_written c held.None x s = in_read c x s

in_written : (p : Code) (c : Context) (path : Path) (at : Spot) (w : Place) (u : ⊤) → walk p c path ≡ Holds w
    → access c at w.held ≡ Holds u → Within c (write_uses p c path)
in_written p c path at w u e h =
    in_both c (end_uses p c path) (of_judged (walk p c path) (λ (x : Place). root_written x.held path.root.name))
    (in_end p c path at w u e h)
    (in_judged c (walk p c path) (λ (x : Place). root_written x.held path.root.name) w e
    (in_root_written c w.held path.root.name ((root_seen p c path).value w e)))

pub in_write : (p : Code) (c : Context) (path : Path) (at : Spot) (w : Place) → walk p c path ≡ Holds w
    → Yields (λ _. Within c (write_uses p c path)) (write_access c at w.held)
in_write p c path at w e =
    next (access c at w.held) λ u h.
    always (in_written p c path at w u e h)

pub in_owner : (p : Code) (c : Context) (path : Path) → Yields (λ _. Within c (write_uses p c (owner path)))
    (owner_write_access p c path)
in_owner p c path = next (walk p c (owner path)) λ w e. in_write p c (owner path) path.root.at w e

-- ---- expressions

has_form_is : (p : Code) (c : Context) (u : Uses) (wanted : Form) (v : Verdict Form) (at : Spot)
    → Yields (λ _. Within c u) v → Yields (λ _. Within c u) (has_form wanted v at)
has_form_is p c u wanted v at y = next v λ form e. always (y.value form e)

beside_is : (b : Expression) (at : Spot) (pair : Compared) → path_beside_null b at ≡ Some pair → b ≡ Read pair.path
beside_is (Number n s) at pair e = absurd (cc)
beside_is (Truth n s) at pair e = absurd (cc)
beside_is (Nothing s) at pair e = absurd (cc)
beside_is (Read path) at pair e = ap (λ o. Read (given o path (λ (x : Compared). x.path))) e
beside_is (Item path i) at pair e = absurd (cc)
beside_is (Length path s) at pair e = absurd (cc)
beside_is (Grouped i s) at pair e = absurd (cc)
beside_is (Negated i s) at pair e = absurd (cc)
beside_is (Minus i s) at pair e = absurd (cc)
beside_is (Binary o i j) at pair e = absurd (cc)

-- the operands are a `null` and a path
abbrev NullAndPath : Expression → Expression → Compared → Type 0
NullAndPath a b pair = ((at : Spot) × (a ≡ Nothing at) × (b ≡ Read pair.path))
    ⊎ ((at : Spot) × (a ≡ Read pair.path) × (b ≡ Nothing at))

after_path : (path : Path) (b : Expression) (pair : Compared) → beside_null (Read path) b ≡ Some pair
    → NullAndPath (Read path) b pair
after_path path (Number n s) pair e = absurd (cc)
after_path path (Truth n s) pair e = absurd (cc)
after_path path (Nothing s) pair e = inr (s, ap (λ o. Read (given o path (λ (x : Compared). x.path))) e, refl)
after_path path (Read other) pair e = absurd (cc)
after_path path (Item other i) pair e = absurd (cc)
after_path path (Length other s) pair e = absurd (cc)
after_path path (Grouped i s) pair e = absurd (cc)
after_path path (Negated i s) pair e = absurd (cc)
after_path path (Minus i s) pair e = absurd (cc)
after_path path (Binary o i j) pair e = absurd (cc)

null_and_path_are : (a b : Expression) (pair : Compared) → beside_null a b ≡ Some pair → NullAndPath a b pair
null_and_path_are (Number n s) b pair e = absurd (cc)
null_and_path_are (Truth n s) b pair e = absurd (cc)
null_and_path_are (Nothing s) b pair e = inl (s, refl, beside_is b s pair e)
null_and_path_are (Read path) b pair e = after_path path b pair e
null_and_path_are (Item path i) b pair e = absurd (cc)
null_and_path_are (Length path s) b pair e = absurd (cc)
null_and_path_are (Grouped i s) b pair e = absurd (cc)
null_and_path_are (Negated i s) b pair e = absurd (cc)
null_and_path_are (Minus i s) b pair e = absurd (cc)
null_and_path_are (Binary o i j) b pair e = absurd (cc)

abbrev InTwo : Code → Context → Expression → Expression → Type 0
InTwo p c a b = Within c (value_uses p c a ∪ value_uses p c b)

in_null_and_path : (p : Code) (c : Context) (a b : Expression) (pair : Compared) → NullAndPath a b pair
    → Within c (path_uses p c pair.path) → InTwo p c a b
in_null_and_path p c a b pair (inl x) h =
    in_both c (value_uses p c a) (value_uses p c b)
    (subst (λ e. Within c (value_uses p c e)) (sym x.1) (in_nothing c))
    (subst (λ e. Within c (value_uses p c e)) (sym x.2) h)
in_null_and_path p c a b pair (inr x) h =
    in_both c (value_uses p c a) (value_uses p c b)
    (subst (λ e. Within c (value_uses p c e)) (sym x.1) h)
    (subst (λ e. Within c (value_uses p c e)) (sym x.2) (in_nothing c))

abbrev Judged : Code → Context → Expression → Type 0
Judged p c e = Yields (λ _. Within c (value_uses p c e)) (judge_value p c e)

in_both_have : (p : Code) (c : Context) (wanted : Form) (a b : Expression) → Judged p c a → Judged p c b
    → Yields (λ _. InTwo p c a b) (both_have wanted (judge_value p c a) (expression_spot a) (judge_value p c b)
    (expression_spot b))
in_both_have p c wanted a b h k =
    next (has_form wanted (judge_value p c a) (expression_spot a)) λ u e.
    weaker (λ _ z. in_both c (value_uses p c a) (value_uses p c b)
    ((has_form_is p c (value_uses p c a) wanted (judge_value p c a) (expression_spot a) h).value u e) z)
    (has_form_is p c (value_uses p c b) wanted (judge_value p c b) (expression_spot b) k)

in_alike : (p : Code) (c : Context) (a b : Expression) → Judged p c a → Judged p c b
    → Yields (λ _. InTwo p c a b) (two_alike (judge_value p c a) (judge_value p c b) (expression_spot b))
in_alike p c a b h k =
    next (judge_value p c a) λ form e.
    weaker (λ _ z. in_both c (value_uses p c a) (value_uses p c b) (h.value form e) z)
    (has_form_is p c (value_uses p c b) form (judge_value p c b) (expression_spot b) k)

in_equal : (p : Code) (c : Context) (a b : Expression) (o : Option Compared) → beside_null a b ≡ o → Judged p c a
    → Judged p c b
    → Yields (λ _. InTwo p c a b) (equal_operands p c o (judge_value p c a) (judge_value p c b) (expression_spot b))
in_equal p c a b None e h k = in_alike p c a b h k
in_equal p c a b (Some pair) e h k =
    next (walk p c pair.path) λ w z.
    always (in_null_and_path p c a b pair (null_and_path_are a b pair e) ((in_path p c pair.path).value w z))

in_operands : (p : Code) (c : Context) (o : Operands) (a b : Expression) → Judged p c a → Judged p c b
    → Yields (λ _. InTwo p c a b) (judge_operands p c o a b (judge_value p c a) (judge_value p c b))
in_operands p c Numbers a b h k = in_both_have p c f.Int a b h k
in_operands p c Truths a b h k = in_both_have p c f.Bool a b h k
in_operands p c Equals a b h k = in_equal p c a b (beside_null a b) refl h k

in_length : (p : Code) (c : Context) (path : Path) (w : Place) (u : ⊤) → walk p c path ≡ Holds w
    → access c path.root.at w.held ≡ Holds u → Within c (read_use path.root.name ∪ end_uses p c path)
in_length p c path w u e h =
    in_both c (read_use path.root.name) (end_uses p c path)
    (in_read c path.root.name ((root_seen p c path).value w e)) (in_end p c path path.root.at w u e h)

in_item : (p : Code) (c : Context) (path : Path) (i : Expression) (w : Place) (u : ⊤) → walk p c path ≡ Holds w
    → access c path.root.at w.held ≡ Holds u → Within c (value_uses p c i)
    → Within c (read_use path.root.name ∪ end_uses p c path ∪ value_uses p c i)
in_item p c path i w u e h k =
    in_both c (read_use path.root.name) (end_uses p c path ∪ value_uses p c i)
    (in_read c path.root.name ((root_seen p c path).value w e))
    (in_both c (end_uses p c path) (value_uses p c i) (in_end p c path path.root.at w u e h) k)

pub in_value : (p : Code) (c : Context) (e : Expression) → Yields (λ _. Within c (value_uses p c e)) (judge_value p c e)
in_value p c (Number n at) = always (in_nothing c)
in_value p c (Truth b at) = always (in_nothing c)
in_value p c (Nothing at) = always (in_nothing c)
in_value p c (Read path) = next (walk p c path) λ w e. always ((in_path p c path).value w e)
in_value p c (Item path i) =
    next (walk p c path) λ (w : Place) e.
    asks (is_ints w.form) _ _ λ _.
    next (access c path.root.at w.held) λ u h.
    next (has_form f.Int (judge_value p c i) (expression_spot i)) λ t k.
    gives (in_item p c path i w u e h
    ((has_form_is p c (value_uses p c i) f.Int (judge_value p c i) (expression_spot i) (in_value p c i)).value t
    k))
in_value p c (Length path at) =
    next (walk p c path) λ (w : Place) e.
    asks (is_ints w.form) _ _ λ _.
    next (access c path.root.at w.held) λ u h.
    gives (in_length p c path w u e h)
in_value p c (Grouped e at) = in_value p c e
in_value p c (Negated e at) =
    next (has_form f.Bool (judge_value p c e) (expression_spot e)) λ t k.
    always ((has_form_is p c (value_uses p c e) f.Bool (judge_value p c e) (expression_spot e) (in_value p c e)).value
    t k)
in_value p c (Minus e at) =
    next (has_form f.Int (judge_value p c e) (expression_spot e)) λ t k.
    always ((has_form_is p c (value_uses p c e) f.Int (judge_value p c e) (expression_spot e) (in_value p c e)).value
    t k)
in_value p c (Binary o a b) =
    next (judge_operands p c (operands o) a b (judge_value p c a) (judge_value p c b)) λ t k.
    always ((in_operands p c (operands o) a b (in_value p c a) (in_value p c b)).value t k)

pub in_is_value : (p : Code) (c : Context) (wanted : Form) (e : Expression)
    → Yields (λ _. Within c (value_uses p c e)) (is_value p c wanted e)
in_is_value p c wanted e = has_form_is p c (value_uses p c e) wanted (judge_value p c e) (expression_spot e)
    (in_value p c e)
