-- Where a method ends its parameters have the values that come back.
use Rattle.std.proofs.Common.{◌≡◌, ◌≢◌, refl, sym, ap, ◌∙◌, subst, ℕ, nat_eq, Bool, true, false, ◌&&◌, ◌||◌}
use Rattle.std.proofs.Common.{not, if◌then◌else◌, List, [], ◌∷◌, map, Option, None, Some}
use Rattle.std.specs.Prelude.{option_map, is_some, is_none, All, ⊤}
use Rattle.std.proofs.lemmas.Bool.{eqb-true, and_parts}
use Rattle.std.proofs.lemmas.List.Elements.{All-head, All-tail}
use Rattle.ae_text.specs.declared.refusal.Spot.{Spot}
use Rattle.ae_text.specs.declared.refusal.Rule.TheVariants as rule
use Rattle.ae_tree.specs.declared.tree.NameAt.{NameAt}
use Rattle.ae_tree.specs.declared.tree.Me.{Me}
use Rattle.ae_tree.specs.declared.tree.Param.{Param}
use Rattle.ae_tree.specs.declared.form.Perm.TheVariants as perm
use Rattle.ae_tree.specs.declared.form.Kind.{Kind}
use Rattle.ae_tree.specs.declared.form.Form.{Form}
use Rattle.ae_tree.specs.declared.form.Form.TheVariants as f
use Rattle.ae_tree.specs.Form.{form}
use Rattle.ae_tree.specs.Names.{this}
use Rattle.ae_tree.specs.FreeThis.{IsNotThis}
use Rattle.ae_tree.specs.Plain.{Code, Definition, Lines, End, Next}
use Rattle.ae_rules.specs.declared.held.Held.{Held}
use Rattle.ae_rules.specs.declared.held.Held.TheVariants as held
use Rattle.ae_rules.specs.Verdict.{Holds, require, each, in_turn, if_there, given}
use Rattle.ae_rules.specs.Forms.{is_unique, form_with}
use Rattle.ae_rules.specs.Lookups.{Names}
use Rattle.ae_rules.specs.Types.{forms_type}
use Rattle.ae_rules.specs.Table.{and_also, is_new, form_goes, param_holds}
use Rattle.ae_rules.specs.Context.{Local, Context, is_held_alone, held_in, closed}
use Rattle.ae_rules.specs.Statements.{judge_statement, judge_lines, groups_stay}
use Rattle.ae_rules.specs.Judges.{me_local, param_local, param_called, start, returns, must_come_back, me_comes_back}
use Rattle.ae_rules.specs.Judges.{param_comes_back}
use Rattle.ae_rules.specs.Laws.{Keeps, StatementsKeep}
use Rattle.ae_rules.specs.Calls.{me_form, if_some}
use Rattle.ae_semantics.specs.Values.{Val, fits_object, value_fits}
use Rattle.ae_semantics.specs.Places.{State}
use Rattle.ae_soundness.specs.Fits.{SameButPermission, HoldsNoMember, FitsHeld}
use Rattle.ae_soundness.specs.Fits.{FitsLocal, FitsContext, place_held, has_value}
use Rattle.ae_soundness.specs.Returns.{IsThereFor, EachIsThere, EndsIn}
use Rattle.ae_soundness.proofs.FieldLemmas.{same_value_fit}
use Rattle.ae_soundness.proofs.IntoLemmas.{as_unique, no_member}
use Rattle.ae_soundness.proofs.KeptLemmas.{Shape, taker_as, shapes, shape_of, me_shape}
use Rattle.ae_soundness.proofs.from_rules.PathLemmas.{first_holds}
use Rattle.ae_soundness.proofs.from_rules.SeenLemmas.{required}
use Rattle.ae_soundness.proofs.from_text.Basics.{number_is_itself}

-- ---- what is visible stays

keeps_then : (c d e : Context) → Keeps c d → Keeps d e → Keeps c e
keeps_then c d e k l = record {
  local = λ x a i.
      let r = k.local x a i in
      let q = l.local x (record a { held = r.0 }) r.1 in (q.0, q.1);
  group = λ g q i. l.group g q (k.group g q i);
}

-- Judged lines take nothing out of the context.
pub lines_keep : StatementsKeep → (p : Code) (m : Definition) (b : Lines) (c d : Context)
    → judge_lines p m b c ≡ Holds d → Keeps c d
lines_keep law p m End c d h =
    let same : c ≡ d = cc h in
    subst (λ (e : Context). Keeps c e) same (record { local = λ x a i. (a.held, i); group = λ g q i. i })
lines_keep law p m (Next at a rest) c d h =
    let r = first_holds (judge_statement p m at a c) (judge_lines p m rest) d h in
    (keeps_then) c r.0 d (law p m at a c r.0 r.1) (lines_keep law p m rest r.0 d r.2)

-- what there is at a method's end of what there was at its start
pub record EndKeeps (p : Code) (m : Definition) (d : Context) : Type 0 where
  pub groups : d.group ≡ (start p m).group
  pub local : (x : ℕ) (l : Local) → (start p m).local x ≡ Some l
      → (h : Held) × (d.local x ≡ Some (record l { held = h }))

-- At a method's end there is what there was at its start.
pub end_keeps : StatementsKeep → (p : Code) (m : Definition) (d : Context) → EndsIn p m d → EndKeeps p m d
end_keeps law p m d e =
    let k : Keeps (start p m) e.0 = lines_keep law p m m.body (start p m) e.0 e.1 in
    let a = first_holds (groups_stay p (start p m) e.0 m.body) (λ _. Holds (closed (start p m) e.0)) d e.2 in
    let same : closed (start p m) e.0 ≡ d = cc (a.2) in
    subst (λ (y : Context). EndKeeps p m y) same (record {
      groups = refl;
      local = λ x l i.
          let r = k.local x l i in
          (r.0, ap (λ (o : Option Local). if is_some o then e.0.local x else None) i ∙ r.1);
    })

-- ---- one parameter

-- the local of a parameter at a method's end; a unique one that comes back is held Unique
record HasEnd (d : Context) (w : Shape) : Type 0 where
  local : Local
  is : d.local w.name ≡ Some local
  form : local.form ≡ w.form
  alone : is_unique w.form ≡ true → w.away ≡ false → local.held ≡ held.Unique

no_shared : HoldsNoMember held.Unique
no_shared g e = absurd (cc e)

-- an object that is held Unique is one of its form, whatever its form is now
unique_fits : (p : Code) (t now : Form) (v : Val) → is_unique t ≡ true → SameButPermission t now
    → FitsHeld now held.Unique → value_fits p now v ≡ true → value_fits p t v ≡ true
unique_fits p f.Int now v u a b h = absurd (cc u)
unique_fits p f.Bool now v u a b h = absurd (cc u)
unique_fits p (f.Object perm.Immutable k) now v u a b h = absurd (cc u)
unique_fits p (f.Object perm.Lent k) now v u a b h = absurd (cc u)
unique_fits p (f.Object (perm.Shared g) k) now v u a b h = absurd (cc u)
unique_fits p (f.Object perm.Unique k) f.Int v u a b h = absurd a
unique_fits p (f.Object perm.Unique k) f.Bool v u a b h = absurd a
unique_fits p (f.Object perm.Unique k) (f.Object r l) v u a b h =
    subst (λ (y : Kind). fits_object p perm.Unique y v ≡ true) (sym a)
    (sym (as_unique p r l v (no_member r held.Unique b no_shared)) ∙ h)

shape_there : (p : Code) (d : Context) (t : State) (w : Shape) → FitsContext p d t → HasEnd d w
    → IsThereFor p t (taker_as w)
shape_there p d t w z e v =
    let both = and_parts (is_unique (form_with (λ g. g) w.form)) (not w.away) v in
    let unique : is_unique w.form ≡ true = own_unique w.form both.0 in
    let alone : e.local.held ≡ held.Unique = e.alone unique (not_so w.away both.1) in
    let r : FitsLocal p t w.name (place_held e.local) = z.local w.name e.local e.is
    (subst (λ (h : Held). has_value (record { form = e.local.form; held = h }) ≡ true) (sym alone) refl) in
    let fit : value_fits p w.form r.bound.value ≡ true = unique_fits p w.form r.bound.form r.bound.value unique
    (subst (λ (y : Form). SameButPermission y r.bound.form) e.form r.fits.form)
    (subst (λ (h : Held). FitsHeld r.bound.form h) alone r.fits.held) r.fits.value.0 in
    (r.bound, r.is, (same_value_fit p (λ g. g) w.form r.bound.value ∙ fit, r.fits.value.1))
  where
    own_unique : (x : Form) → is_unique (form_with (λ g. g) x) ≡ true → is_unique x ≡ true
    own_unique f.Int u = u
    own_unique f.Bool u = u
    own_unique (f.Object perm.Unique k) u = u
    own_unique (f.Object perm.Immutable k) u = u
    own_unique (f.Object perm.Lent k) u = u
    own_unique (f.Object (perm.Shared g) k) u = absurd (cc u)

    not_so : (b : Bool) → not b ≡ true → b ≡ false
    not_so true h = absurd (cc h)
    not_so false h = refl

-- each parameter has its local at the end
abbrev EachHasEnd : Context → List Shape → Type 0
EachHasEnd d [] = Unit {0}
EachHasEnd d (w ∷ ws) = HasEnd d w × EachHasEnd d ws

each_there : (p : Code) (d : Context) (t : State) (ws : List Shape) → FitsContext p d t → EachHasEnd d ws
    → EachIsThere p t (map taker_as ws)
each_there p d t [] z e = tt
each_there p d t (w ∷ ws) z e = (shape_there p d t w z e.0, each_there p d t ws z e.1)

-- ---- a parameter by its name

-- a parameter is the first with its name
abbrev IsFirst : List Param → Param → Type 0
IsFirst qs z = param_called qs z.name.name ≡ Some z

abbrev AreFirst : List Param → List Param → Type 0
AreFirst qs [] = Unit {0}
AreFirst qs (z ∷ zs) = IsFirst qs z × AreFirst qs zs

param_is_new : (p : Code) (known : Names) (z : Param) (before after : Names)
    → param_holds p known z before ≡ Holds after
    → (not (before z.name.name) ≡ true) × (and_also z.name.name before ≡ after)
param_is_new p known z before after h =
    let a = first_holds (forms_type p known true z.ty) _ after h in
    let b = first_holds (if_there z.away (form_goes (form z.ty))) (λ _. is_new rule.DuplicateLocal z.name before) after
    a.2 in
    let d = first_holds (require (not (before z.name.name)) rule.DuplicateLocal z.name.at)
    (λ _. Holds (and_also z.name.name before)) after b.2 in
    (required (not (before z.name.name)) rule.DuplicateLocal z.name.at d.0 d.1, same_names d.2)
  where
    same_names : {u v : Names} → Holds u ≡ Holds v → u ≡ v
    same_names e = cc e

-- no later parameter has a name that was used
none_later : (p : Code) (known : Names) (ps : List Param) (before after : Names) (y : ℕ)
    → in_turn (param_holds p known) ps before ≡ Holds after → before y ≡ true → param_called ps y ≡ None
none_later p known [] before after y h u = refl
none_later p known (z ∷ ps) before after y h u =
    let a = first_holds (param_holds p known z before) (in_turn (param_holds p known) ps) after h in
    let n = param_is_new p known z before a.0 a.1 in
    by_test (nat_eq z.name.name y) refl n.0
    (none_later p known ps a.0 after y a.2 (ap (λ (k : Names). k y) (sym n.1) ∙ still (nat_eq z.name.name y)))
  where
    still : (b : Bool) → (b || before y) ≡ true
    still true = refl
    still false = u

    by_test : (b : Bool) → nat_eq z.name.name y ≡ b → not (before z.name.name) ≡ true → param_called ps y ≡ None
        → (if b then Some z else param_called ps y) ≡ None
    by_test true e n k =
        let there : before z.name.name ≡ true = ap before (eqb-true z.name.name y e) ∙ u in absurd (cc (there, n))
    by_test false e n k = k

one_further : (z : Param) (ps zs : List Param) → param_called ps z.name.name ≡ None → AreFirst ps zs
    → AreFirst (z ∷ ps) zs
one_further z ps [] n h = tt
one_further z ps (x ∷ zs) n h = (by_test (nat_eq z.name.name x.name.name) refl, one_further z ps zs n h.1)
  where
    by_test : (b : Bool) → nat_eq z.name.name x.name.name ≡ b
        → (if b then Some z else param_called ps x.name.name) ≡ Some x
    by_test true e =
        let none : param_called ps x.name.name ≡ None
        = ap (param_called ps) (sym (eqb-true z.name.name x.name.name e)) ∙ n in absurd (cc (none, h.0))
    by_test false e = h.0

params_are_first : (p : Code) (known : Names) (ps : List Param) (before after : Names)
    → in_turn (param_holds p known) ps before ≡ Holds after → AreFirst ps ps
params_are_first p known [] before after h = tt
params_are_first p known (z ∷ ps) before after h =
    let a = first_holds (param_holds p known z before) (in_turn (param_holds p known) ps) after h in
    let n = param_is_new p known z before a.0 a.1 in
    let used : a.0 z.name.name ≡ true = ap (λ (k : Names). k z.name.name) (sym n.1)
    ∙ ap (λ (b : Bool). b || before z.name.name) (number_is_itself z.name.name) in (
      ap (λ (b : Bool). if b then Some z else param_called ps z.name.name) (number_is_itself z.name.name),
      one_further z ps ps (none_later p known ps a.0 after z.name.name a.2 used)
          (params_are_first p known ps a.0 after a.2),
    )

-- ---- all parameters

-- the local is one of a form of which all is held
held_alone : (b : Bool) (h : Held) → (not b || is_held_alone h) ≡ true → b ≡ true → h ≡ held.Unique
held_alone false h e u = absurd (cc u)
held_alone true held.Unique e u = refl
held_alone true held.None e u = absurd (cc e)
held_alone true (held.Split n) e u = absurd (cc e)
held_alone true held.Immutable e u = absurd (cc e)
held_alone true held.Lent e u = absurd (cc e)
held_alone true (held.Shared g) e u = absurd (cc e)
held_alone true (held.Inner g) e u = absurd (cc e)

has_end : (p : Code) (m : Definition) (d : Context) (x : NameAt) (t : Form) (away : Option Spot) (l : Local) (u : ⊤)
    → EndKeeps p m d → (start p m).local x.name ≡ Some l → l.form ≡ t → must_come_back d x t away ≡ Holds u
    → HasEnd d (record { name = x.name; form = t; away = is_some away })
has_end p m d x t away l u k e i h =
    let r = k.local x.name l e in
    let now : held_in d x.name ≡ r.0 = ap (λ (o : Option Local). given o held.None (λ (l : Local). l.held)) r.1 in
    let asked = required (not (is_unique t && is_none away) || is_held_alone (held_in d x.name)) rule.NotReturned x.at u
    h in
    record {
      local = record l { held = r.0 };
      is = r.1;
      form = i;
      alone = λ v a. sym now ∙ held_alone (is_unique t && is_none away) (held_in d x.name) asked
          (both (is_unique t) away v a);
    }
  where
    both : (b : Bool) (o : Option Spot) → b ≡ true → is_some o ≡ false → (b && is_none o) ≡ true
    both true None v a = refl
    both true (Some y) v a = absurd (cc a)
    both false o v a = absurd (cc v)

params_have_ends : (p : Code) (m : Definition) (d : Context) (zs : List Param) (u : ⊤) → EndKeeps p m d
    → AreFirst m.params zs → All (λ (z : Param). IsNotThis z.name) zs → each (param_comes_back d) zs ≡ Holds u
    → EachHasEnd d (map shape_of zs)
params_have_ends p m d [] u k e n h = tt
params_have_ends p m d (z ∷ zs) u k e n h =
    let a = first_holds (param_comes_back d z) (λ _. each (param_comes_back d) zs) u h in (
      (has_end) p m d z.name (form z.ty) z.away (param_local z) a.0 k
          (by_test (nat_eq this z.name.name) refl (All-head (λ (z : Param). IsNotThis z.name) z zs n)) refl a.1,
      params_have_ends p m d zs u k e.1 (All-tail (λ (z : Param). IsNotThis z.name) z zs n) a.2,
    )
  where
    by_test : (b : Bool) → nat_eq this z.name.name ≡ b → z.name.name ≢ this
        → (if b then option_map (me_local p m) m.me else option_map param_local (param_called m.params z.name.name))
        ≡ Some (param_local z)
    by_test true i j = absurd (j (sym (eqb-true this z.name.name i)))
    by_test false i j = ap (option_map param_local) e.0

-- Where a method may end its parameters have the values that come back, in a state that fits.
pub parameters_there : (law : StatementsKeep) (p : Code) (m : Definition) (known before after : Names) (d : Context)
    (t : State)
    → in_turn (param_holds p known) m.params before ≡ Holds after
    → All (λ (z : Param). IsNotThis z.name) m.params → EndsIn p m d → FitsContext p d t
    → EachIsThere p t (map taker_as (shapes p m))
parameters_there law p m known before after d t h n e z =
    let a = first_holds (require (is_none m.result || returns m.body) rule.ReturnMissing m.name.at) _ tt e.3 in
    let b = first_holds (if_there m.me (me_comes_back p m d)) (λ _. each (param_comes_back d) m.params) tt a.2 in
    each_there p d t (shapes p m) z (by_me m.me refl b.0 b.1
    (params_have_ends p m d m.params tt k (params_are_first p known m.params before after h) n b.2))
  where
    k : EndKeeps p m d
    k = end_keeps law p m d e

    by_me : (o : Option Me) → m.me ≡ o → (u : ⊤) → if_there o (me_comes_back p m d) ≡ Holds u
        → EachHasEnd d (map shape_of m.params)
        → EachHasEnd d (if_some (option_map (me_shape p m) o) (map shape_of m.params))
    by_me None i u r rest = rest
    by_me (Some me) i u r rest = (
      (has_end) p m d (record { name = this; at = me.at }) (me_form p m me) me.away (me_local p m me) u k
          (ap (option_map (me_local p m)) i) refl r,
      rest,
    )
