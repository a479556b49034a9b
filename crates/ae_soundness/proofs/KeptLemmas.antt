-- The root of what is given to a unique parameter that comes back is as before after the call.
use Rattle.std.proofs.Common.{◌≡◌, ◌⊎◌, inl, inr, refl, sym, ap, ◌∙◌, subst, ℕ, nat_eq, Bool, true, false, ◌&&◌}
use Rattle.std.proofs.Common.{◌||◌, not}
use Rattle.std.proofs.Common.{if◌then◌else◌, List, [], ◌∷◌, map, zip, Option, None, Some}
use Rattle.std.specs.List.{cons_option}
use Rattle.std.specs.Prelude.{filter_map, option_map, is_some, ⊤}
use Rattle.std.proofs.lemmas.Bool.{and_from, eqb-true}
use Rattle.ae_text.specs.declared.refusal.Spot.{Spot}
use Rattle.ae_text.specs.declared.refusal.Rule.TheVariants as rule
use Rattle.ae_tree.specs.declared.tree.Path.{Path}
use Rattle.ae_tree.specs.declared.tree.Me.{Me}
use Rattle.ae_tree.specs.declared.tree.Param.{Param}
use Rattle.ae_tree.specs.declared.form.Perm.TheVariants as perm
use Rattle.ae_tree.specs.declared.form.Kind.{Kind}
use Rattle.ae_tree.specs.declared.form.Form.{Form}
use Rattle.ae_tree.specs.declared.form.Form.TheVariants as f
use Rattle.ae_tree.specs.Form.{form}
use Rattle.ae_tree.specs.Names.{this}
use Rattle.ae_tree.specs.Plain.{Code, Definition, Expression, Read}
use Rattle.ae_rules.specs.declared.held.Held.{Held}
use Rattle.ae_rules.specs.declared.held.Held.TheVariants as held
use Rattle.ae_rules.specs.Verdict.{Holds, require, in_turn, given}
use Rattle.ae_rules.specs.Forms.{is_object_of, is_unique, form_with}
use Rattle.ae_rules.specs.Context.{Context}
use Rattle.ae_rules.specs.Walks.{Place, walk, is_name}
use Rattle.ae_rules.specs.Into.{Source, Null, From, source, source_moves, name_into}
use Rattle.ae_rules.specs.Calls.{Roots, meets, with_root, root_apart, ParamSlot, param_slot}
use Rattle.ae_rules.specs.Calls.{me_form, me_slot, if_some, slots, to_param, to_unique, to_form, to_slot}
use Rattle.ae_rules.specs.Calls.{LentPart, argument_parts}
use Rattle.ae_rules.specs.Laws.{none_away, none_of}
use Rattle.ae_semantics.specs.Calls.{Taker, takers}
use Rattle.ae_semantics.specs.Calls.{given_away}
use Rattle.ae_soundness.specs.Returns.{name_away}
use Rattle.ae_soundness.proofs.GivenLemmas.{same_roots, part_of, StaysHere, GoesAway, IsGiven, form_is_given}
use Rattle.ae_soundness.proofs.AwayLemmas.{IsKept, stays_kept}
use Rattle.ae_soundness.proofs.AwayLemmas.{still_new, filtered}
use Rattle.ae_soundness.proofs.from_rules.PathLemmas.{first_holds}
use Rattle.ae_soundness.proofs.from_rules.SeenLemmas.{required}
use Rattle.ae_soundness.proofs.from_text.Basics.{first_of_both, second_of_both, number_is_itself}

-- ---- parameters

-- a parameter's name, its form, and whether what is given to it is gone
pub record Shape : Type 0 where
  pub name : ℕ
  pub form : Form
  pub away : Bool

-- the slot, with these groups
abbrev pub slot_as : (ℕ → ℕ) → Shape → ParamSlot
slot_as new w = record { form = form_with new w.form; away = w.away }

-- the slot with its own groups, under its name
abbrev pub taker_as : Shape → Taker
taker_as w = (w.name, slot_as (λ g. g) w)

abbrev pub shape_of : Param → Shape
shape_of z = record { name = z.name.name; form = form z.ty; away = is_some z.away }

abbrev pub me_shape : Code → Definition → Me → Shape
me_shape p m me = record { name = this; form = me_form p m me; away = is_some me.away }

-- the receiver, where the method has one, and the parameters
abbrev pub shapes : Code → Definition → List Shape
shapes p m = if_some (option_map (me_shape p m) m.me) (map shape_of m.params)

param_slots : (new : ℕ → ℕ) (ps : List Param) → map (param_slot new) ps ≡ map (slot_as new) (map shape_of ps)
param_slots new [] = refl
param_slots new (z ∷ ps) = ap (λ (xs : List ParamSlot). param_slot new z ∷ xs) (param_slots new ps)

-- The slots of a method are those of its shapes.
pub slots_are : (p : Code) (new : ℕ → ℕ) (m : Definition) → slots p new m ≡ map (slot_as new) (shapes p m)
slots_are p new m = by_me m.me
  where
    by_me : (o : Option Me) → if_some (option_map (me_slot p new m) o) (map (param_slot new) m.params)
        ≡ map (slot_as new) (if_some (option_map (me_shape p m) o) (map shape_of m.params))
    by_me None = param_slots new m.params
    by_me (Some me) = ap (λ (xs : List ParamSlot). me_slot p new m me ∷ xs) (param_slots new m.params)

param_takers : (ps : List Param)
    → zip (map (λ (z : Param). z.name.name) ps) (map (param_slot (λ g. g)) ps) ≡ map taker_as (map shape_of ps)
param_takers [] = refl
param_takers (z ∷ ps) = ap (λ (xs : List Taker). taker_as (shape_of z) ∷ xs) (param_takers ps)

-- Its parameters are those of its shapes.
pub takers_are : (p : Code) (m : Definition) → takers p m ≡ map taker_as (shapes p m)
takers_are p m = by_me m.me
  where
    by_me : (o : Option Me)
        → zip (if_some (option_map (λ (x : Me). this) o) (map (λ (z : Param). z.name.name) m.params))
        (if_some (option_map (me_slot p (λ g. g) m) o) (map (param_slot (λ g. g)) m.params))
        ≡ map taker_as (if_some (option_map (me_shape p m) o) (map shape_of m.params))
    by_me None = param_takers m.params
    by_me (Some me) = ap (λ (xs : List Taker). taker_as (me_shape p m me) ∷ xs) (param_takers m.params)

-- ---- names

-- no name
abbrev no_name : Option ℕ
no_name = None

no_move : (a b : ℕ) (o : Option Source) → given o no_name (source_moves (perm.Shared a))
    ≡ given o no_name (source_moves (perm.Shared b))
no_move a b None = refl
no_move a b (Some Null) = refl
no_move a b (Some (From path)) = refl

same_move : (new : ℕ → ℕ) (t : Form) (e : Expression)
    → name_into (form_with (λ g. g) t) e ≡ name_into (form_with new t) e
same_move new f.Int e = refl
same_move new f.Bool e = refl
same_move new (f.Object perm.Unique k) e = refl
same_move new (f.Object perm.Immutable k) e = refl
same_move new (f.Object perm.Lent k) e = refl
same_move new (f.Object (perm.Shared g) k) e = no_move g (new g) (source e)

-- The names that go away are those of the judgement.
pub same_names : (new : ℕ → ℕ) (ws : List Shape) (es : List Expression)
    → filter_map given_away (zip (map taker_as ws) es) ≡ filter_map name_away (zip (map (slot_as new) ws) es)
same_names new [] es = refl
same_names new (w ∷ ws) [] = refl
same_names new (w ∷ ws) (e ∷ es) =
    ap (λ (n : Option ℕ). cons_option (if w.away then n else None) (filter_map given_away (zip (map taker_as ws) es)))
    (same_move new w.form e)
    ∙ ap (λ (xs : List ℕ). cons_option (name_away (slot_as new w, e)) xs) (same_names new ws es)

-- ---- roots that stay

none_of_away : (xs : List LentPart) (y : ℕ) → none_of xs y ≡ true → none_away xs y ≡ true
none_of_away [] y h = refl
none_of_away (x ∷ xs) y h = and_from (not (nat_eq x.root y && x.away)) (none_away xs y)
    (either (nat_eq x.root y) x.away (first_of_both (not (nat_eq x.root y)) (none_of xs y) h))
    (none_of_away xs y (second_of_both (not (nat_eq x.root y)) (none_of xs y) h))
  where
    either : (a b : Bool) → not a ≡ true → not (a && b) ≡ true
    either true b i = absurd (cc i)
    either false b i = refl

-- a name that may not be is another one
other_root : (test : ℕ → Bool) (x y : ℕ) (b : Bool) → test x ≡ b → test y ≡ not b → nat_eq x y ≡ false
other_root test x y b e n = by_test (nat_eq x y) refl
  where
    differ : (b : Bool) → b ≡ not b → ⊥
    differ true i = absurd (cc i)
    differ false i = absurd (cc i)

    by_test : (d : Bool) → nat_eq x y ≡ d → nat_eq x y ≡ false
    by_test true i = absurd (differ b (sym e ∙ ap test (eqb-true x y i) ∙ n))
    by_test false i = i

-- no later part is of a root that is used alone
later_apart : (p : Code) (c : Context) (xs : List (ParamSlot × Expression)) (before after : Roots) (r : ℕ)
    → in_turn (to_slot p c) xs before ≡ Holds after → before.alone r ≡ true → none_of (argument_parts c xs) r ≡ true
later_apart p c [] before after r h a = refl
later_apart p c (x ∷ xs) before after r h a =
    let b = first_holds (to_slot p c x before) (in_turn (to_slot p c) xs) after h in
    let j : IsGiven c before b.0 x = form_is_given p c x.0.form x.0.away x.1 before b.0 b.1 in
    let rest : none_of (argument_parts c xs) r ≡ true = later_apart p c xs b.0 after r b.2 (j.still r a) in
    subst (λ (ps : List LentPart). none_of ps r ≡ true) (sym (filtered (part_of c) x xs))
    (by_part b.0 j (argument_parts c xs) rest (part_of c x) refl)
  where
    by_part : (mid : Roots) → IsGiven c before mid x → (ps : List LentPart) → none_of ps r ≡ true
        → (o : Option LentPart)
        → part_of c x ≡ o → none_of (if_some o ps) r ≡ true
    by_part mid j ps k None e = k
    by_part mid j ps k (Some part) e = and_from (not (nat_eq part.root r)) (none_of ps r)
        (ap not (other_root before.alone part.root r false (j.apart part e) a)) k

-- what is given to a unique parameter that comes back keeps its root, which no argument before had
abbrev pub KeepsRoot : Context → Roots → List LentPart → ParamSlot × Expression → Type 0
KeepsRoot c before parts x = (path : Path) → x.1 ≡ Read path → is_unique x.0.form ≡ true → x.0.away ≡ false
    → (none_away parts path.root.name ≡ true) × (before.used path.root.name ≡ false)

-- each of these does
abbrev pub EachKeepsRoot : Context → Roots → List LentPart → List (ParamSlot × Expression) → Type 0
EachKeepsRoot c before parts [] = Unit {0}
EachKeepsRoot c before parts (x ∷ xs) = KeepsRoot c before parts x × EachKeepsRoot c before parts xs

one_earlier : (c : Context) (before mid : Roots) (x : ParamSlot × Expression) (parts : List LentPart) (r : ℕ)
    → IsGiven c before mid x → none_away parts r ≡ true → mid.used r ≡ false → (o : Option LentPart) → part_of c x ≡ o
    → none_away (if_some o parts) r ≡ true
one_earlier c before mid x parts r j k n None e = k
one_earlier c before mid x parts r j k n (Some part) e = and_from (not (nat_eq part.root r && part.away))
    (none_away parts r)
    (ap (λ (b : Bool). not (b && part.away)) (other_root mid.used part.root r true (j.uses part e) n)) k

each_earlier : (c : Context) (before mid : Roots) (x : ParamSlot × Expression) (parts : List LentPart)
    (xs : List (ParamSlot × Expression)) → IsGiven c before mid x → EachKeepsRoot c mid parts xs
    → EachKeepsRoot c before (if_some (part_of c x) parts) xs
each_earlier c before mid x parts [] j k = tt
each_earlier c before mid x parts (y ∷ ys) j k = (
  λ path e u a. let r = k.0 path e u a in
      let away : none_away (if_some (part_of c x) parts) path.root.name ≡ true
      = one_earlier c before mid x parts path.root.name j r.0 r.1 (part_of c x) refl in
      (away, still_new before mid path.root.name j.grows r.1),
  each_earlier c before mid x parts ys j k.1,
)

-- ---- what is given to a unique parameter that comes back

-- the walk that is judged of it
pub record IsLentWhole (p : Code) (c : Context) (before after : Roots) (k : Kind) (path : Path) : Type 0 where
  pub place : Place
  pub is : walk p c path ≡ Holds place
  pub object : is_object_of k place.form ≡ true
  pub alone : place.held ≡ held.Unique
  pub used : before.used path.root.name ≡ false
  pub taken : after.alone path.root.name ≡ true

all_held : (named : Bool) (h : Held) (at : Spot) (u : ⊤) → to_unique false named h at ≡ Holds u → h ≡ held.Unique
all_held named held.None at u e = absurd (cc e)
all_held named held.Unique at u e = refl
all_held named (held.Split n) at u e = absurd (cc e)
all_held named held.Immutable at u e = absurd (cc e)
all_held named held.Lent at u e = absurd (cc e)
all_held named (held.Shared g) at u e = absurd (cc e)
all_held named (held.Inner g) at u e = absurd (cc e)

no_use : (a b : Bool) → not (a || (true && b)) ≡ true → b ≡ false
no_use true b i = absurd (cc i)
no_use false true i = absurd (cc i)
no_use false false i = refl

lent_whole : (p : Code) (c : Context) (k : Kind) (path : Path) (before after : Roots)
    → to_form p c (f.Object perm.Unique k) false (Read path) before ≡ Holds after → IsLentWhole p c before after k path
lent_whole p c k path before after h =
    let at : Spot = path.root.at in
    let a = first_holds (walk p c path) _ after h in
    let w : Place = a.0 in
    let b = first_holds (require (is_object_of k w.form) rule.TypeMismatch at) _ after a.2 in
    let r = first_holds (root_apart true path at before) _ after b.2 in
    let d = first_holds (to_param perm.Unique false (is_name path) w.held at) (λ _. Holds r.0) after r.2 in
    let m = first_holds (require (not (meets true path.root.name before)) rule.UsedTwice at)
    (λ _. Holds (with_root true path.root.name before)) r.0 r.1 in
    let same : with_root true path.root.name before ≡ after = same_roots _ after (m.2 ∙ d.2) in
    record {
      place = w;
      is = a.1;
      object = required (is_object_of k w.form) rule.TypeMismatch at b.0 b.1;
      alone = all_held (is_name path) w.held at d.0 d.1;
      used = no_use (before.alone path.root.name) (before.used path.root.name)
          (required (not (meets true path.root.name before)) rule.UsedTwice at m.0 m.1);
      taken = subst (λ (r : Roots). r.alone path.root.name ≡ true) same
          (ap (λ (b : Bool). b || before.alone path.root.name) (number_is_itself path.root.name));
    }

unique_form : (t : Form) → is_unique t ≡ true → (k : Kind) × (t ≡ f.Object perm.Unique k)
unique_form f.Int e = absurd (cc e)
unique_form f.Bool e = absurd (cc e)
unique_form (f.Object perm.Unique k) e = (k, refl)
unique_form (f.Object perm.Immutable k) e = absurd (cc e)
unique_form (f.Object perm.Lent k) e = absurd (cc e)
unique_form (f.Object (perm.Shared g) k) e = absurd (cc e)

-- What is judged of a unique argument that comes back is so.
pub lent_so : (p : Code) (c : Context) (t : Form) (away : Bool) (path : Path) (before after : Roots)
    → is_unique t ≡ true → away ≡ false → to_form p c t away (Read path) before ≡ Holds after
    → (k : Kind) × (t ≡ f.Object perm.Unique k) × IsLentWhole p c before after k path
lent_so p c t away path before after u a h =
    let k = unique_form t u in
    let whole : IsLentWhole p c before after k.0 path = lent_whole p c k.0 path before after
    (subst (λ (b : Bool). to_form p c (f.Object perm.Unique k.0) b (Read path) before ≡ Holds after) a
    (subst (λ (v : Form). to_form p c v away (Read path) before ≡ Holds after) k.1 h)) in
    (k.0, k.1, whole)

here_kept : (p : Code) (c : Context) (x : ParamSlot × Expression) (xs : List (ParamSlot × Expression))
    (before mid after : Roots) → to_slot p c x before ≡ Holds mid → in_turn (to_slot p c) xs mid ≡ Holds after
    → KeepsRoot c before (if_some (part_of c x) (argument_parts c xs)) x
here_kept p c x xs before mid after h k path e u a =
    let l = lent_so p c x.0.form x.0.away path before mid u a
    (subst (λ (y : Expression). to_form p c x.0.form x.0.away y before ≡ Holds mid) e h) in
    let r : IsLentWhole p c before mid l.0 path = l.2 in
    let rest : none_away (argument_parts c xs) path.root.name ≡ true = none_of_away (argument_parts c xs) path.root.name
    (later_apart p c xs mid after path.root.name k r.taken) in
    let j : IsGiven c before mid x = form_is_given p c x.0.form x.0.away x.1 before mid h in
    let kept : IsKept (if_some (part_of c x) (argument_parts c xs)) [] path.root.name
    = stays_kept (part_of c x) (argument_parts c xs) [] path.root.name (stays j.away)
    (record { held = rest; value = λ s. refl }) in
    (kept.held, r.used)
  where
    stays : StaysHere c x ⊎ GoesAway c before x → (part : LentPart) → part_of c x ≡ Some part → part.away ≡ false
    stays (inl y) = y.1
    stays (inr g) =
        let none : name_away x ≡ no_name
        = ap (λ (b : Bool). if b then name_into x.0.form x.1 else no_name) a in absurd (cc (none, g.name))

-- Each root of a unique argument that comes back is as before.
pub each_kept : (p : Code) (c : Context) (xs : List (ParamSlot × Expression)) (before after : Roots)
    → in_turn (to_slot p c) xs before ≡ Holds after → EachKeepsRoot c before (argument_parts c xs) xs
each_kept p c [] before after h = tt
each_kept p c (x ∷ xs) before after h =
    let b = first_holds (to_slot p c x before) (in_turn (to_slot p c) xs) after h in
    let j : IsGiven c before b.0 x = form_is_given p c x.0.form x.0.away x.1 before b.0 b.1 in
    let here : KeepsRoot c before (if_some (part_of c x) (argument_parts c xs)) x
    = here_kept p c x xs before b.0 after b.1 b.2 in
    let later : EachKeepsRoot c before (if_some (part_of c x) (argument_parts c xs)) xs
    = each_earlier c before b.0 x (argument_parts c xs) xs j (each_kept p c xs b.0 after b.2) in
    subst (λ (ps : List LentPart). EachKeepsRoot c before ps (x ∷ xs)) (sym (filtered (part_of c) x xs)) (here, later)
