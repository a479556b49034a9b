-- The names after a judged statement are those that are known then.
use Rattle.std.proofs.Common.{◌≡◌, refl, ap, sym, subst, ◌∙◌, ℕ, nat_eq, Bool, true, false, not, ◌||◌}
use Rattle.std.proofs.Common.{if◌then◌else◌, List, [], ◌∷◌, ◌++◌, Option, None, Some}
use Rattle.std.specs.Prelude.{is_some, option_map}
use Rattle.std.proofs.lemmas.Bool.{eqb-true}
use Rattle.std.proofs.lemmas.List.{append-nil}
use Rattle.ae_text.specs.declared.refusal.Spot.{Spot}
use Rattle.ae_tree.specs.declared.tree.NameAt.{NameAt}
use Rattle.ae_tree.specs.declared.tree.Ty.{Ty}
use Rattle.ae_tree.specs.declared.form.Form.{Form}
use Rattle.ae_tree.specs.Form.{form}
use Rattle.ae_tree.specs.Plain.{RightSide, End, Next, Definition, Code}
use Rattle.ae_tree.specs.Plain.{Action, Declares, Assigns, Stores, StoresAt, Calls, Chooses, ChoosesElse, Repeats}
use Rattle.ae_tree.specs.Plain.{Groups, Splits, Locks, Freezes, Shares, Prints, PrintsText, Asserts, Returns}
use Rattle.ae_rules.specs.declared.held.GroupPerm.{GroupPerm}
use Rattle.ae_rules.specs.declared.held.GroupPerm.TheVariants as group
use Rattle.ae_text.specs.declared.refusal.Rule.TheVariants as rule
use Rattle.ae_rules.specs.Verdict.{Verdict, Holds, Broken, ◌>>=◌, require, given, in_turn}
use Rattle.ae_rules.specs.Types.{forms_type}
use Rattle.ae_rules.specs.Groups.{Groups as GroupsKnown}
use Rattle.ae_rules.specs.Groups.{known, with_group, declare}
use Rattle.ae_rules.specs.Context.{Local, Context, is_visible}
use Rattle.ae_rules.specs.Statements.{judge_let, judge_group, judge_statement, judge_lines}
use Rattle.ae_rules.specs.BlockLaws.{Shape as LocalShape}
use Rattle.ae_rules.specs.BlockLaws.{shape_of, with_let, groups_in_lines, LinesDeclare}
use Rattle.ae_values.specs.declared.env.Bind.{Bind}
use Rattle.ae_values.specs.declared.env.Bound.{Bound}
use Rattle.ae_values.specs.Binding.{bound_in}
use Rattle.ae_values.specs.Shapes.{NameShape, OfLocal, OfGroup, shapes, shape_in}
use Rattle.ae_names.specs.Known.{local_form, is_of_group, form_in, AreKnown, names_declared, NamesAreKnown, DeclaredAreFree}
use Rattle.ae_names.proofs.KnownLemmas.{HasShape, has_shape}
use Rattle.ae_names.proofs.from_rules.PathLemmas.{first_holds}
use Rattle.ae_names.proofs.from_rules.SeenLemmas.{required}

one_line : (p : Code) (m : Definition) (at : Spot) (a : Action) (c d : Context) → judge_statement p m at a c ≡ Holds d
    → judge_lines p m (Next at a End) c ≡ Holds d
one_line p m at a c d e = ap (λ (v : Verdict Context). v >>= judge_lines p m End) e

-- the form of a local, without whether it stays
abbrev form_of_local : LocalShape → Form
form_of_local s = s.0

forms_of_shapes : (o : Option Local) → option_map form_of_local (option_map (λ (l : Local). (l.form, l.stays)) o)
    ≡ option_map (λ (l : Local). l.form) o
forms_of_shapes None = refl
forms_of_shapes (Some l) = refl

-- after one statement the forms are those before, and that of the local which it declares
forms_after : LinesDeclare → (p : Code) (m : Definition) (at : Spot) (a : Action) (c d : Context)
    → judge_statement p m at a c ≡ Holds d → (x : ℕ)
    → option_map (λ (l : Local). l.form) (d.local x) ≡ option_map form_of_local (with_let a (shape_of c) x)
forms_after law p m at a c d e x = sym (forms_of_shapes (d.local x))
    ∙ ap (option_map form_of_local) ((law p m (Next at a End) c d (one_line p m at a c d e)).0 x)

-- ---- statements that declare nothing

-- the statement declares no name
abbrev DeclaresNothing : Action → Type 0
DeclaresNothing a = names_declared a ≡ []

same_lets : (a : Action) (before : ℕ → Option LocalShape) (x : ℕ) → DeclaresNothing a → with_let a before x ≡ before x
same_lets (Declares t y e) before x h = absurd (cc)
same_lets (Assigns y e) before x h = refl
same_lets (Stores path e) before x h = refl
same_lets (StoresAt path i e) before x h = refl
same_lets (Calls i) before x h = refl
same_lets (Chooses e n b) before x h = refl
same_lets (ChoosesElse e n b k c) before x h = refl
same_lets (Repeats e n b) before x h = refl
same_lets (Groups g) before x h = refl
same_lets (Splits gs n b) before x h = refl
same_lets (Locks g n b) before x h = refl
same_lets (Freezes y) before x h = refl
same_lets (Shares y g) before x h = refl
same_lets (Prints e) before x h = refl
same_lets (PrintsText t) before x h = refl
same_lets (Asserts e) before x h = refl
same_lets (Returns e) before x h = refl

same_groups : (at : Spot) (a : Action) → DeclaresNothing a → groups_in_lines (Next at a End) ≡ []
same_groups at (Declares t y e) h = absurd (cc)
same_groups at (Assigns y e) h = refl
same_groups at (Stores path e) h = refl
same_groups at (StoresAt path i e) h = refl
same_groups at (Calls i) h = refl
same_groups at (Chooses e n b) h = refl
same_groups at (ChoosesElse e n b k c) h = refl
same_groups at (Repeats e n b) h = refl
same_groups at (Groups g) h = absurd (cc)
same_groups at (Splits gs n b) h = refl
same_groups at (Locks g n b) h = refl
same_groups at (Freezes y) h = refl
same_groups at (Shares y g) h = refl
same_groups at (Prints e) h = refl
same_groups at (PrintsText t) h = refl
same_groups at (Asserts e) h = refl
same_groups at (Returns e) h = refl

same_held_groups : (gs hs : GroupsKnown) → Holds gs ≡ Holds hs → gs ≡ hs
same_held_groups gs hs e = cc

same_known : (gs hs : GroupsKnown) (xs : List NameAt) → xs ≡ [] → in_turn declare xs gs ≡ Holds hs → gs ≡ hs
same_known gs hs xs e h = same_held_groups gs hs (ap (λ ys. in_turn declare ys gs) (sym e) ∙ h)

-- the names are known after a statement that declares nothing
pub known_still : LinesDeclare → (p : Code) (m : Definition) (at : Spot) (a : Action) (c d : Context)
    (names : List (ℕ × NameShape)) → judge_statement p m at a c ≡ Holds d → DeclaresNothing a → AreKnown c names
    → AreKnown d names
known_still law p m at a c d names e h k = record {
  local = λ x. k.local x ∙ sym (forms_after law p m at a c d e x
      ∙ ap (option_map form_of_local) (same_lets a (shape_of c) x h) ∙ forms_of_shapes (c.local x));
  group = λ x i. subst (λ (gs : GroupsKnown). known gs x ≡ true)
      (same_known c.group d.group _ (same_groups at a h) ((law p m (Next at a End) c d (one_line p m at a c d e)).1))
      (k.group x i);
}

-- ---- names that are declared

no_shape : (s : Option NameShape) (l : Option Local) (test : Bool)
    → given s None local_form ≡ option_map (λ (y : Local). y.form) l → (is_of_group s ≡ true → test ≡ true)
    → is_some l || test ≡ false → s ≡ None
no_shape None l test e g v = refl
no_shape (Some (OfLocal t)) None test e g v = absurd (cc)
no_shape (Some (OfLocal t)) (Some l) test e g v = absurd (cc)
no_shape (Some (OfGroup other)) (Some l) test e g v = absurd (cc)
no_shape (Some (OfGroup other)) None true e g v = absurd (cc)
no_shape (Some (OfGroup other)) None false e g v = absurd (cc (g refl))

-- a name that is not visible has no shape
not_named : (c : Context) (names : List (ℕ × NameShape)) (x : ℕ) → AreKnown c names → is_visible c x ≡ false
    → shape_in names x ≡ None
not_named c names x k v = no_shape (shape_in names x) (c.local x) (known c.group x) (k.local x) (k.group x) v

abbrev or_else_shape : Option NameShape → Option NameShape → Option NameShape
or_else_shape None o = o
or_else_shape (Some s) o = Some s

or_else_test : (test : Bool) (s : NameShape) (o r : Option NameShape)
    → (if test then Some s else or_else_shape o r) ≡ or_else_shape (if test then Some s else o) r
or_else_test true s o r = refl
or_else_test false s o r = refl

-- the first of two look-ups
shape_in_both : (xs : List (ℕ × NameShape)) (y : ℕ × NameShape) (z : ℕ)
    → shape_in (xs ++ (y ∷ [])) z ≡ or_else_shape (shape_in xs z) (if nat_eq y.0 z then Some y.1 else None)
shape_in_both [] y z = refl
shape_in_both (x ∷ xs) y z = ap (λ (o : Option NameShape). if nat_eq x.0 z then Some x.1 else o) (shape_in_both xs y z)
    ∙ or_else_test (nat_eq x.0 z) x.1 (shape_in xs z) (if nat_eq y.0 z then Some y.1 else None)

by_name : (test : Bool) (t : Form) (s : Option NameShape) (b : Option LocalShape)
    → (test ≡ true → s ≡ None) → given s None local_form ≡ option_map form_of_local b
    → given (or_else_shape s (if test then Some (OfLocal t) else None)) None local_form
    ≡ option_map form_of_local (if test then Some (t, false) else b)
by_name true t None b n e = refl
by_name true t (Some s) b n e = absurd (cc (n refl))
by_name false t None b n e = e
by_name false t (Some s) b n e = e

-- a local that was not visible is declared: its name is known, too
let_known : (names : List (ℕ × NameShape)) (x : ℕ) (t : Form) (before : ℕ → Option LocalShape) (y : ℕ)
    → shape_in names x ≡ None → form_in names y ≡ option_map form_of_local (before y)
    → form_in (names ++ ((x, OfLocal t) ∷ [])) y
    ≡ option_map form_of_local (if nat_eq x y then Some (t, false) else before y)
let_known names x t before y new e = ap (λ (o : Option NameShape). given o None local_form)
    (shape_in_both names (x, OfLocal t) y)
    ∙ by_name (nat_eq x y) t (shape_in names y) (before y)
    (λ i. subst (λ z. shape_in names z ≡ None) (eqb-true x y i) new) e

is_false : (b c : Bool) → not b ≡ c → c ≡ true → b ≡ false
is_false true c e t = absurd (cc)
is_false false c e t = refl

-- a local that is declared was not visible
let_is_new : (p : Code) (c : Context) (t : Ty) (x : NameAt) (e : RightSide) (d : Context) → judge_let p c t x e ≡ Holds d
    → is_visible c x.name ≡ false
let_is_new p c t x e d h =
    let a = first_holds (forms_type p (known c.group) false t) _ d h in
    let b = first_holds (require (not (is_visible c x.name)) rule.DuplicateLocal x.at) _ d a.2 in
    is_false (is_visible c x.name) _ refl (required (not (is_visible c x.name)) rule.DuplicateLocal x.at b.0 b.1)

-- a group in the names with a local more was there before
group_before : (test : Bool) (t : Form) (s : Option NameShape)
    → is_of_group (or_else_shape s (if test then Some (OfLocal t) else None)) ≡ true → is_of_group s ≡ true
group_before true t None e = absurd (cc)
group_before false t None e = absurd (cc)
group_before test t (Some s) e = e

-- after a local was declared its name is known, too
pub known_with_let : LinesDeclare → (p : Code) (m : Definition) (at : Spot) (t : Ty) (x : NameAt) (e : RightSide)
    (c d : Context) (names : List (ℕ × NameShape)) → judge_statement p m at (Declares t x e) c ≡ Holds d → AreKnown c names
    → AreKnown d (names ++ ((x.name, OfLocal (form t)) ∷ []))
known_with_let law p m at t x e c d names h k =
    let new : shape_in names x.name ≡ None = not_named c names x.name k (let_is_new p c t x e d h) in
    let groups : c.group ≡ d.group = same_known c.group d.group [] refl
    ((law p m (Next at (Declares t x e) End) c d (one_line p m at (Declares t x e) c d h)).1) in
    record {
      local = λ y. let_known names x.name (form t) (shape_of c) y new (k.local y ∙ sym (forms_of_shapes (c.local y)))
          ∙ sym (forms_after law p m at (Declares t x e) c d h y);
      group = λ y i. subst (λ (gs : GroupsKnown). known gs y ≡ true) groups (k.group y
          (group_before (nat_eq x.name y) (form t) (shape_in names y)
          (sym (ap is_of_group (shape_in_both names (x.name, OfLocal (form t)) y)) ∙ i)));
    }

-- ---- groups that are declared

-- the groups of a verdict
abbrev group_in : Verdict Context → Context → GroupsKnown
group_in (Holds d) c = d.group
group_in (Broken r at) c = c.group

-- a group that is declared was not visible, and then it is known
group_is_new : (c : Context) (g : NameAt) (d : Context) → judge_group c g ≡ Holds d
    → (is_visible c g.name ≡ false) × (d.group ≡ with_group g.name group.Exclusive c.group)
group_is_new c g d h =
    let a = first_holds (require (not (is_some (c.local g.name))) rule.DuplicateLocal g.at) _ d h in
    let b = first_holds (declare g c.group) _ d a.2 in
    let r = first_holds (require (not (known c.group g.name)) rule.DuplicateLocal g.at) _ b.0 b.1 in
    let l : is_some (c.local g.name) ≡ false = is_false (is_some (c.local g.name)) _ refl
    (required (not (is_some (c.local g.name))) rule.DuplicateLocal g.at a.0 a.1) in
    let k : known c.group g.name ≡ false = is_false (known c.group g.name) _ refl
    (required (not (known c.group g.name)) rule.DuplicateLocal g.at r.0 r.1) in
    let same : b.0 ≡ with_group g.name group.Exclusive c.group = sym (same_held_groups _ b.0 r.2) in
    (ap (λ (z : Bool). z || known c.group g.name) l ∙ k, ap (λ (v : Verdict Context). group_in v c) (sym b.2) ∙ same)

group_by_name : (test : Bool) (s : Option NameShape) → (test ≡ true → s ≡ None)
    → given (or_else_shape s (if test then Some (OfGroup None) else None)) None local_form ≡ given s None local_form
group_by_name true None n = refl
group_by_name true (Some s) n = absurd (cc (n refl))
group_by_name false None n = refl
group_by_name false (Some s) n = refl

group_or_new : (test : Bool) (s : Option NameShape) (o : Option GroupPerm)
    → is_of_group (or_else_shape s (if test then Some (OfGroup None) else None)) ≡ true
    → (is_of_group s ≡ true → is_some o ≡ true)
    → is_some (if test then Some group.Exclusive else o) ≡ true
group_or_new true s o e h = refl
group_or_new false None o e h = absurd (cc)
group_or_new false (Some s) o e h = h e

-- after a group was declared its name is known, too
pub known_with_group : LinesDeclare → (p : Code) (m : Definition) (at : Spot) (g : NameAt) (c d : Context)
    (names : List (ℕ × NameShape)) → judge_statement p m at (Groups g) c ≡ Holds d → AreKnown c names
    → AreKnown d (names ++ ((g.name, OfGroup None) ∷ []))
known_with_group law p m at g c d names h k =
    let is = group_is_new c g d h in
    let new : shape_in names g.name ≡ None = not_named c names g.name k is.0 in
    record {
      local = λ y. ap (λ (o : Option NameShape). given o None local_form) (shape_in_both names (g.name, OfGroup None) y)
          ∙ group_by_name (nat_eq g.name y) (shape_in names y)
          (λ i. subst (λ z. shape_in names z ≡ None) (eqb-true g.name y i) new)
          ∙ k.local y
          ∙ sym (forms_after law p m at (Groups g) c d h y ∙ forms_of_shapes (c.local y));
      group = λ y i. subst (λ (gs : GroupsKnown). known gs y ≡ true) (sym is.1)
          (group_or_new (nat_eq g.name y) (shape_in names y) (c.group y)
          (sym (ap is_of_group (shape_in_both names (g.name, OfGroup None) y)) ∙ i) (k.group y));
    }

-- ---- each statement

still : LinesDeclare → (p : Code) (m : Definition) (at : Spot) (a : Action) (c d : Context) (names : List (ℕ × NameShape))
    → judge_statement p m at a c ≡ Holds d → AreKnown c names → DeclaresNothing a → AreKnown d (names ++ names_declared a)
still law p m at a c d names h k e = subst (λ (xs : List (ℕ × NameShape)). AreKnown d xs)
    (sym (ap (λ (xs : List (ℕ × NameShape)). names ++ xs) e ∙ append-nil names))
    (known_still law p m at a c d names h e k)

-- after a judged statement the names are known that were known before, and those that it declares
pub names_known : LinesDeclare → NamesAreKnown
names_known law p m at (Declares t x e) c d names h k = known_with_let law p m at t x e c d names h k
names_known law p m at (Groups g) c d names h k = known_with_group law p m at g c d names h k
names_known law p m at (Assigns y e) c d names h k = still law p m at (Assigns y e) c d names h k refl
names_known law p m at (Stores path e) c d names h k = still law p m at (Stores path e) c d names h k refl
names_known law p m at (StoresAt path i e) c d names h k = still law p m at (StoresAt path i e) c d names h k refl
names_known law p m at (Calls i) c d names h k = still law p m at (Calls i) c d names h k refl
names_known law p m at (Chooses e n b) c d names h k = still law p m at (Chooses e n b) c d names h k refl
names_known law p m at (ChoosesElse e n b l f) c d names h k = still law p m at (ChoosesElse e n b l f) c d names h k refl
names_known law p m at (Repeats e n b) c d names h k = still law p m at (Repeats e n b) c d names h k refl
names_known law p m at (Splits gs n b) c d names h k = still law p m at (Splits gs n b) c d names h k refl
names_known law p m at (Locks g n b) c d names h k = still law p m at (Locks g n b) c d names h k refl
names_known law p m at (Freezes y) c d names h k = still law p m at (Freezes y) c d names h k refl
names_known law p m at (Shares y g) c d names h k = still law p m at (Shares y g) c d names h k refl
names_known law p m at (Prints e) c d names h k = still law p m at (Prints e) c d names h k refl
names_known law p m at (PrintsText t) c d names h k = still law p m at (PrintsText t) c d names h k refl
names_known law p m at (Asserts e) c d names h k = still law p m at (Asserts e) c d names h k refl
names_known law p m at (Returns e) c d names h k = still law p m at (Returns e) c d names h k refl

unbound : (s : Option NameShape) (o : Option Bound) → HasShape s o → s ≡ None → o ≡ None
unbound None None h e = refl
unbound None (Some b) h e = absurd h
unbound (Some s) o h e = absurd (cc)

-- where a name has no shape nothing is bound under it
pub nothing_bound : (bs : List Bind) (x : ℕ) → shape_in (shapes bs) x ≡ None → bound_in bs x ≡ None
nothing_bound bs x e = unbound (shape_in (shapes bs) x) (bound_in bs x) (has_shape bs x) e

-- the first of these names
abbrev first_name : List (ℕ × NameShape) → ℕ
first_name [] = 0
first_name (z ∷ zs) = z.0

declared_free : (c : Context) (bs : List Bind) (z : ℕ × NameShape) (x : ℕ) (s : NameShape) → AreKnown c (shapes bs)
    → is_visible c z.0 ≡ false → z ∷ [] ≡ (x, s) ∷ [] → bound_in bs x ≡ None
declared_free c bs z x s k v e = subst (λ y. bound_in bs y ≡ None) (ap first_name e)
    (nothing_bound bs z.0 (not_named c (shapes bs) z.0 k v))

-- what a judged statement declares is bound to nothing
pub declared_are_free : DeclaredAreFree
declared_are_free p m at (Declares t x e) c d bs h k y s i =
    (declared_free) c bs (x.name, OfLocal (form t)) y s k (let_is_new p c t x e d h) i
declared_are_free p m at (Groups g) c d bs h k y s i =
    (declared_free) c bs (g.name, OfGroup None) y s k ((group_is_new c g d h).0) i
declared_are_free p m at (Assigns z e) c d bs h k y s i = absurd (cc)
declared_are_free p m at (Stores path e) c d bs h k y s i = absurd (cc)
declared_are_free p m at (StoresAt path j e) c d bs h k y s i = absurd (cc)
declared_are_free p m at (Calls j) c d bs h k y s i = absurd (cc)
declared_are_free p m at (Chooses e n b) c d bs h k y s i = absurd (cc)
declared_are_free p m at (ChoosesElse e n b l f) c d bs h k y s i = absurd (cc)
declared_are_free p m at (Repeats e n b) c d bs h k y s i = absurd (cc)
declared_are_free p m at (Splits gs n b) c d bs h k y s i = absurd (cc)
declared_are_free p m at (Locks g n b) c d bs h k y s i = absurd (cc)
declared_are_free p m at (Freezes z) c d bs h k y s i = absurd (cc)
declared_are_free p m at (Shares z g) c d bs h k y s i = absurd (cc)
declared_are_free p m at (Prints e) c d bs h k y s i = absurd (cc)
declared_are_free p m at (PrintsText t) c d bs h k y s i = absurd (cc)
declared_are_free p m at (Asserts e) c d bs h k y s i = absurd (cc)
declared_are_free p m at (Returns e) c d bs h k y s i = absurd (cc)
