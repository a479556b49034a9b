-- What is judged of one argument of a call: its root, the part that it is, and the name that goes away with it.
use Rattle.std.proofs.Common.{◌≡◌, ◌⊎◌, inl, inr, refl, sym, ap, ◌∙◌, subst, ℕ, nat_eq, Bool, true, false}
use Rattle.std.proofs.Common.{◌&&◌, ◌||◌, not, if◌then◌else◌, Option, None, Some}
use Rattle.std.specs.Prelude.{⊤}
use Rattle.std.proofs.lemmas.Bool.{or_right}
use Rattle.ae_text.specs.declared.refusal.Spot.{Spot}
use Rattle.ae_text.specs.declared.refusal.Rule.TheVariants as rule
use Rattle.ae_tree.specs.declared.tree.Path.{Path}
use Rattle.ae_tree.specs.declared.form.Perm.{Perm}
use Rattle.ae_tree.specs.declared.form.Perm.TheVariants as perm
use Rattle.ae_tree.specs.declared.form.Kind.{Kind}
use Rattle.ae_tree.specs.declared.form.Form.{Form}
use Rattle.ae_tree.specs.declared.form.Form.TheVariants as f
use Rattle.ae_tree.specs.Plain.{Code, Expression, Number, Truth, Nothing, Read, Item, Length, Grouped, Negated, Minus}
use Rattle.ae_tree.specs.Plain.{Binary}
use Rattle.ae_rules.specs.declared.held.Held.{Held}
use Rattle.ae_rules.specs.declared.held.Held.TheVariants as held
use Rattle.ae_rules.specs.Verdict.{Holds, require, found, given}
use Rattle.ae_rules.specs.Forms.{is_object_of, is_unique, is_object, is_unique_perm}
use Rattle.ae_rules.specs.Context.{Local, Context, held_in, is_held_alone}
use Rattle.ae_rules.specs.Walks.{Place, walk, is_name}
use Rattle.ae_rules.specs.Expressions.{is_value}
use Rattle.ae_rules.specs.Into.{source}
use Rattle.ae_rules.specs.Calls.{Roots, meets, with_root, root_apart, ParamSlot, to_unique}
use Rattle.ae_rules.specs.Calls.{to_param, to_form}
use Rattle.ae_rules.specs.Calls.{is_part, LentPart, lent_part_of}
use Rattle.ae_soundness.specs.Fits.{place_held}
use Rattle.ae_soundness.specs.Returns.{name_away}
use Rattle.ae_soundness.proofs.LocalLemmas.{IsObjectThere}
use Rattle.ae_soundness.proofs.MoveLemmas.{bare_walk, object_of}
use Rattle.ae_soundness.proofs.from_rules.PathLemmas.{first_holds}
use Rattle.ae_soundness.proofs.from_rules.SeenLemmas.{found_is, required}
use Rattle.ae_soundness.proofs.from_text.Basics.{number_is_itself}

-- ---- one argument

-- the part that an argument is
abbrev pub part_of : Context → ParamSlot × Expression → Option LentPart
part_of c x = lent_part_of c x.0.form x.0.away (source x.1)

-- the part that goes away with this name
abbrev pub away_part : ℕ → LentPart
away_part r = record { root = r; need = perm.Unique; away = true }

-- no name goes away, and no part
abbrev pub StaysHere : Context → ParamSlot × Expression → Type 0
StaysHere c x = (name_away x ≡ None) × ((part : LentPart) → part_of c x ≡ Some part → part.away ≡ false)

-- a name goes away, of which all is held, and which no argument before had for its root
pub record GoesAway (c : Context) (before : Roots) (x : ParamSlot × Expression) : Type 0 where
  pub root : ℕ
  pub name : name_away x ≡ Some root
  pub part : part_of c x ≡ Some (away_part root)
  pub alone : held_in c root ≡ held.Unique
  pub new : before.used root ≡ false
  pub object : IsObjectThere c root

-- what is judged of an argument
pub record IsGiven (c : Context) (before after : Roots) (x : ParamSlot × Expression) : Type 0 where
  pub grows : (y : ℕ) → before.used y ≡ true → after.used y ≡ true
  pub uses : (part : LentPart) → part_of c x ≡ Some part → after.used part.root ≡ true
  pub still : (y : ℕ) → before.alone y ≡ true → after.alone y ≡ true
  pub apart : (part : LentPart) → part_of c x ≡ Some part → before.alone part.root ≡ false
  pub away : StaysHere c x ⊎ GoesAway c before x

-- Roots that are judged to be known are one.
pub same_roots : (u v : Roots) → Holds u ≡ Holds v → u ≡ v
same_roots u v e = cc e

-- an argument that is no path
no_path : (c : Context) (before after : Roots) (x : ParamSlot × Expression) → Holds before ≡ Holds after
    → name_away x ≡ None → part_of c x ≡ None → IsGiven c before after x
no_path c before after x e n k = record {
  grows = λ y h. subst (λ (r : Roots). r.used y ≡ true) (same_roots before after e) h;
  uses = λ part i. absurd (cc (k, i));
  still = λ y h. subst (λ (r : Roots). r.alone y ≡ true) (same_roots before after e) h;
  apart = λ part i. absurd (cc (k, i));
  away = inl (n, λ part i. absurd (cc (k, i)));
}

alone_named : (named : Bool) (h : Held) (at : Spot) (u : ⊤) → to_unique true named h at ≡ Holds u
    → (h ≡ held.Unique) × (named ≡ true)
alone_named named held.None at u e = absurd (cc e)
alone_named named held.Unique at u e = (refl, required named rule.NeedsUnique at u e)
alone_named named (held.Split n) at u e = absurd (cc e)
alone_named named held.Immutable at u e = absurd (cc e)
alone_named named held.Lent at u e = absurd (cc e)
alone_named named (held.Shared g) at u e = absurd (cc e)
alone_named named (held.Inner g) at u e = absurd (cc e)

-- what a name without steps leads to
record IsLocal (c : Context) (x : ℕ) (w : Place) : Type 0 where
  local : Local
  is : c.local x ≡ Some local
  form : w.form ≡ local.form
  held : w.held ≡ local.held

name_leads : (p : Code) (c : Context) (path : Path) (w : Place) → walk p c path ≡ Holds w → is_name path ≡ true
    → IsLocal c path.root.name w
name_leads p c path w e n =
    let g = first_holds (found (c.local path.root.name) rule.UnknownName path.root.at) _ w e in
    let same : w ≡ place_held g.0 = bare_walk p c path.root.at path.steps (place_held g.0) w g.2 n in
    record {
      local = g.0;
      is = found_is (c.local path.root.name) rule.UnknownName path.root.at g.0 g.1;
      form = ap (λ (y : Place). y.form) same;
      held = ap (λ (y : Place). y.held) same;
    }

-- the part of a path, if it is one
abbrev part_if : Bool → ℕ → Perm → Bool → Option LentPart
part_if b r q away = if b then Some (record { root = r; need = q; away = away }) else None

part_root : (b : Bool) (r : ℕ) (q : Perm) (away : Bool) (part : LentPart) → part_if b r q away ≡ Some part
    → (part.root ≡ r) × (part.away ≡ away)
part_root true r q away part e = (cc e, cc e)
part_root false r q away part e = absurd (cc e)

away_unique : (p : Code) (c : Context) (k : Kind) (path : Path) (w : Place) (at : Spot) (u : ⊤) (before : Roots)
    → walk p c path ≡ Holds w → is_object_of k w.form ≡ true → to_unique true (is_name path) w.held at ≡ Holds u
    → not (meets true path.root.name before) ≡ true
    → GoesAway c before (record { form = f.Object perm.Unique k; away = true }, Read path)
away_unique p c k path w at u before e o h n =
    let a = alone_named (is_name path) w.held at u h in
    let l : IsLocal c path.root.name w = name_leads p c path w e a.1 in
    let alone : held_in c path.root.name ≡ held.Unique
    = ap (λ (o : Option Local). given o held.None (λ (l : Local). l.held)) l.is ∙ sym l.held ∙ a.0 in
    record {
      root = path.root.name;
      name = refl;
      part = ap (λ (h : Held). part_if (is_held_alone h) path.root.name perm.Unique true) alone;
      alone = alone;
      new = no_use (before.alone path.root.name) (before.used path.root.name) n;
      object = λ y i. subst (λ (t : Form). is_object t ≡ true) (l.form ∙ same_form l.local y (sym l.is ∙ i))
          (object_of k w.form o);
    }
  where
    no_use : (a b : Bool) → not (a || (true && b)) ≡ true → b ≡ false
    no_use true b i = absurd (cc i)
    no_use false true i = absurd (cc i)
    no_use false false i = refl

    same_form : (x y : Local) → Some x ≡ Some y → x.form ≡ y.form
    same_form x y i = let same : x ≡ y = cc i in ap (λ (l : Local). l.form) same

away_or_not : (p : Code) (c : Context) (q : Perm) (k : Kind) (away : Bool) (path : Path) (w : Place) (at : Spot) (u : ⊤)
    (before : Roots) → walk p c path ≡ Holds w → is_object_of k w.form ≡ true
    → to_param q away (is_name path) w.held at ≡ Holds u
    → not (meets (is_unique_perm q) path.root.name before) ≡ true
    → StaysHere c (record { form = f.Object q k; away = away }, Read path)
    ⊎ GoesAway c before (record { form = f.Object q k; away = away }, Read path)
away_or_not p c perm.Unique k true path w at u before e o h n = inr (away_unique p c k path w at u before e o h n)
away_or_not p c perm.Unique k false path w at u before e o h n = inl (
  refl,
  λ part i.
      (part_root (is_held_alone (held_in c path.root.name)) path.root.name perm.Unique false part i).1,
)
away_or_not p c perm.Lent k true path w at u before e o h n = inl (
  refl,
  λ part i.
      (part_root (is_held_alone (held_in c path.root.name)) path.root.name perm.Lent false part i).1,
)
away_or_not p c perm.Lent k false path w at u before e o h n = inl (
  refl,
  λ part i.
      (part_root (is_held_alone (held_in c path.root.name)) path.root.name perm.Lent false part i).1,
)
away_or_not p c perm.Immutable k true path w at u before e o h n = inl (refl, λ part i. absurd (cc i))
away_or_not p c perm.Immutable k false path w at u before e o h n = inl (refl, λ part i. absurd (cc i))
away_or_not p c (perm.Shared g) k true path w at u before e o h n = inl (refl, λ part i. absurd (cc i))
away_or_not p c (perm.Shared g) k false path w at u before e o h n = inl (refl, λ part i. absurd (cc i))

still_alone : (root : ℕ) (before : Roots) (unique : Bool) (y : ℕ) → before.alone y ≡ true
    → (with_root unique root before).alone y ≡ true
still_alone root before true y i = or_right (nat_eq root y) (before.alone y) i
still_alone root before false y i = i

not_alone : (a b : Bool) → not (a || b) ≡ true → a ≡ false
not_alone true b i = absurd (cc i)
not_alone false b i = refl

path_is_given : (p : Code) (c : Context) (q : Perm) (k : Kind) (away : Bool) (path : Path) (before after : Roots)
    → to_form p c (f.Object q k) away (Read path) before ≡ Holds after
    → IsGiven c before after (record { form = f.Object q k; away = away }, Read path)
path_is_given p c q k away path before after h =
    let at : Spot = path.root.at in
    let a = first_holds (walk p c path) _ after h in
    let w : Place = a.0 in
    let b = first_holds (require (is_object_of k w.form) rule.TypeMismatch at) _ after a.2 in
    let r = first_holds (root_apart (is_unique (f.Object q k)) path at before) _ after b.2 in
    let d = first_holds (to_param q away (is_name path) w.held at) (λ _. Holds r.0) after r.2 in
    let m = first_holds (require (not (meets (is_unique (f.Object q k)) path.root.name before)) rule.UsedTwice at)
    (λ _. Holds (with_root (is_unique (f.Object q k)) path.root.name before)) r.0 r.1 in
    let same : with_root (is_unique (f.Object q k)) path.root.name before ≡ after
    = same_roots (with_root (is_unique (f.Object q k)) path.root.name before) after (m.2 ∙ d.2) in
    record {
      grows = λ y i. subst (λ (r : Roots). r.used y ≡ true) same (or_right (nat_eq path.root.name y) (before.used y) i);
      uses = λ part i. subst (λ (r : Roots). r.used part.root ≡ true) same
          (subst (λ (y : ℕ). nat_eq path.root.name y || before.used y ≡ true)
          (sym (part_root (is_part q && is_held_alone (held_in c path.root.name)) path.root.name q
          (away && is_unique_perm q) part i).0)
          (ap (λ (b : Bool). b || before.used path.root.name) (number_is_itself path.root.name)));
      still = λ y i. subst (λ (r : Roots). r.alone y ≡ true) same
          (still_alone path.root.name before (is_unique (f.Object q k)) y i);
      apart = λ part i. subst (λ (y : ℕ). before.alone y ≡ false)
          (sym (part_root (is_part q && is_held_alone (held_in c path.root.name)) path.root.name q
          (away && is_unique_perm q) part i).0)
          (not_alone (before.alone path.root.name) (is_unique_perm q && before.used path.root.name)
          (required (not (meets (is_unique_perm q) path.root.name before)) rule.UsedTwice at m.0 m.1));
      away = away_or_not p c q k away path w at d.0 before a.1
          (required (is_object_of k w.form) rule.TypeMismatch at b.0 b.1) d.1
          (required (not (meets (is_unique_perm q) path.root.name before)) rule.UsedTwice at m.0 m.1);
    }

-- no name
abbrev no_name : Option ℕ
no_name = None

no_name_away : (away : Bool) → (if away then no_name else no_name) ≡ no_name
no_name_away true = refl
no_name_away false = refl

-- What is judged of an argument is so.
pub form_is_given : (p : Code) (c : Context) (t : Form) (away : Bool) (e : Expression) (before after : Roots)
    → to_form p c t away e before ≡ Holds after → IsGiven c before after (record { form = t; away = away }, e)
form_is_given p c f.Int away e before after h =
    let a = first_holds (is_value p c f.Int e) (λ _. Holds before) after h
    in no_path c before after (record { form = f.Int; away = away }, e) a.2 (no_name_away away) refl
form_is_given p c f.Bool away e before after h =
    let a = first_holds (is_value p c f.Bool e) (λ _. Holds before) after h in
    no_path c before after (record { form = f.Bool; away = away }, e) a.2 (no_name_away away) refl
form_is_given p c (f.Object q k) away (Nothing at) before after h =
    no_path c before after (record { form = f.Object q k; away = away }, Nothing at) h (no_name_away away) refl
form_is_given p c (f.Object q k) away (Read path) before after h = path_is_given p c q k away path before after h
form_is_given p c (f.Object q k) away (Number n at) before after h = absurd (cc h)
form_is_given p c (f.Object q k) away (Truth b at) before after h = absurd (cc h)
form_is_given p c (f.Object q k) away (Item path i) before after h = absurd (cc h)
form_is_given p c (f.Object q k) away (Length path at) before after h = absurd (cc h)
form_is_given p c (f.Object q k) away (Grouped i at) before after h = absurd (cc h)
form_is_given p c (f.Object q k) away (Negated i at) before after h = absurd (cc h)
form_is_given p c (f.Object q k) away (Minus i at) before after h = absurd (cc h)
form_is_given p c (f.Object q k) away (Binary o a b) before after h = absurd (cc h)
