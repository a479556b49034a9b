-- Judged statements leave the context ready for the next ones.
use Rattle.std.proofs.Common.{◌≡◌, refl, sym, ap, subst, ◌∙◌, ℕ, nat_eq, Bool, true, false, ◌&&◌, not, if◌then◌else◌}
use Rattle.std.proofs.Common.{List, [], ◌∷◌, Option, None, Some}
use Rattle.std.specs.Prelude.{is_some, option_map, ⊤}
use Rattle.std.specs.List.{All}
use Rattle.std.proofs.lemmas.List.Elements.{All-nil, All-cons, All-weaker}
use Rattle.ae_text.specs.declared.refusal.Spot.{Spot}
use Rattle.ae_text.specs.declared.refusal.Rule.TheVariants as rule
use Rattle.ae_tree.specs.declared.tree.NameAt.{NameAt}
use Rattle.ae_tree.specs.declared.tree.PermAt.{PermAt}
use Rattle.ae_tree.specs.declared.tree.PermAt.TheVariants as perm_at
use Rattle.ae_tree.specs.declared.tree.Ty.{Ty}
use Rattle.ae_tree.specs.declared.tree.Ty.TheVariants as ty
use Rattle.ae_tree.specs.Form.{form, bare_names, perm_of}
use Rattle.ae_tree.specs.Names.{io}
use Rattle.ae_tree.specs.Plain.{Lines, End, Next, Definition, Code}
use Rattle.ae_tree.specs.Plain.{Action, Declares}
use Rattle.ae_rules.specs.declared.held.GroupPerm.{GroupPerm}
use Rattle.ae_rules.specs.declared.held.GroupPerm.TheVariants as group
use Rattle.ae_rules.specs.declared.held.Held.TheVariants as held
use Rattle.ae_rules.specs.Verdict.{Verdict, Holds, ◌>>=◌, require, in_turn}
use Rattle.ae_rules.specs.Lookups.{Names, has_name}
use Rattle.ae_rules.specs.Groups.{Groups as GroupsKnown}
use Rattle.ae_rules.specs.Groups.{known, declare, with_group, held_back}
use Rattle.ae_rules.specs.Types.{forms_perm, forms_kind, forms_type}
use Rattle.ae_rules.specs.Context.{Local, Context, held_by, held_of}
use Rattle.ae_rules.specs.Statements.{judge_statement, judge_lines, while_split, while_locked}
use Rattle.ae_rules.specs.Laws.{Keeps, StatementsKeep}
use Rattle.ae_rules.specs.BlockLaws.{Shape, shape_of, with_let, groups_in_lines, LinesDeclare}
use Rattle.ae_check.specs.Ready.{FormsAreKnown}
use Rattle.ae_check.proofs.from_text.Basics.{first_of_both}
use Rattle.ae_check.proofs.from_rules.PathLemmas.{first_holds, mapped}
use Rattle.ae_check.proofs.from_rules.SeenLemmas.{required}
use Rattle.ae_check.proofs.from_rules.VisibleLemmas.{back_known}

-- ---- types

-- the group of a permission that may be written is known
pub perm_known : (names : Names) (b : Bool) (q : PermAt) (u : ⊤) (g : ℕ) → forms_perm names b q ≡ Holds u
    → held_by (perm_of q) ≡ held.Shared g → names g ≡ true
perm_known names b (perm_at.Unique at) u g e f = absurd (cc)
perm_known names b (perm_at.Immutable at) u g e f = absurd (cc)
perm_known names b (perm_at.Lent at) u g e f = absurd (cc)
perm_known names b (perm_at.Shared at x) u g e f =
    let q : x.name ≡ g = cc in
    subst (λ (y : ℕ). names y ≡ true) q (first_of_both (names x.name) (not (nat_eq io x.name))
    (required (names x.name && not (nat_eq io x.name)) rule.UnknownGroup x.at u e))

-- the group of a type that may be written is known
pub type_known : (p : Code) (names : Names) (b : Bool) (t : Ty) (u : ⊤) (g : ℕ) → forms_type p names b t ≡ Holds u
    → held_of (form t) ≡ held.Shared g → names g ≡ true
type_known p names b (ty.Int at) u g e f = absurd (cc)
type_known p names b (ty.Bool at) u g e f = absurd (cc)
type_known p names b (ty.Object q k) u g e f =
    let t = first_holds (forms_perm names b q) (λ _. forms_kind p names k) u e in perm_known names b q t.0 g t.1 f

-- ---- statements

-- a known group stays known
still_known : (c d : Context) → Keeps c d → (g : ℕ) → known c.group g ≡ true → known d.group g ≡ true
still_known c d k g e = by_group (c.group g) refl e
  where
    by_group : (o : Option GroupPerm) → c.group g ≡ o → is_some o ≡ true → known d.group g ≡ true
    by_group None q h = absurd (cc)
    by_group (Some x) q h = ap is_some (k.group g x q)

-- a local whose shape is known
shape_known : (c : Context) (x g : ℕ) (s : Shape) → FormsAreKnown c → shape_of c x ≡ Some s
    → held_of s.0 ≡ held.Shared g → known c.group g ≡ true
shape_known c x g s k e f =
    let r = mapped (λ (l : Local). (l.form, l.stays)) (c.local x) s e in
    k x g r.0 r.1 (ap (λ (z : Shape). held_of z.0) r.2 ∙ f)

-- the locals after a statement have known groups, those of before and that of a `let`
let_known : (p : Code) (m : Definition) (at : Spot) (a : Action) (c d : Context) (x g : ℕ) (s : Shape)
    → FormsAreKnown c → judge_statement p m at a c ≡ Holds d → with_let a (shape_of c) x ≡ Some s
    → held_of s.0 ≡ held.Shared g → known c.group g ≡ true
let_known p m at (Declares t y e) c d x g s k j w h = by_name (nat_eq y.name x) w
  where
    by_name : (b : Bool) → (if b then Some (form t, false) else shape_of c x) ≡ Some s → known c.group g ≡ true
    by_name true v =
        let r = first_holds (forms_type p (known c.group) false t) _ d j in
        let i : form t ≡ s.0 = cc in
        type_known p (known c.group) false t r.0 g r.1 (ap held_of i ∙ h)
    by_name false v = shape_known c x g s k v h
let_known p m at _ c d x g s k j w h = shape_known c x g s k w h

-- after a judged statement the groups of forms are known
pub forms_stay_known : LinesDeclare → StatementsKeep → (p : Code) (m : Definition) (at : Spot) (a : Action)
    (c d : Context) → FormsAreKnown c → judge_statement p m at a c ≡ Holds d → FormsAreKnown d
forms_stay_known lines keep p m at a c d k j x g l e h =
    let i : judge_lines p m (Next at a End) c ≡ Holds d = ap (λ (v : Verdict Context). v >>= judge_lines p m End) j in
    let s : shape_of d x ≡ with_let a (shape_of c) x = (lines p m (Next at a End) c d i).0 x in
    let w : with_let a (shape_of c) x ≡ Some (l.form, l.stays) =
    sym s ∙ ap (option_map (λ (z : Local). (z.form, z.stays))) e in
    still_known c d (keep p m at a c d j) g (let_known p m at a c d x g (l.form, l.stays) k j w h)

-- ---- the beginning of blocks

either_known : (b : Bool) (q : GroupPerm) (o : Option GroupPerm) → is_some o ≡ true
    → is_some (if b then Some q else o) ≡ true
either_known true q o e = refl
either_known false q o e = e

-- what is known outside a split block is known inside
pub known_while_split : (gs : List NameAt) (c : Context) (g : ℕ) → known c.group g ≡ true
    → known (while_split gs c).group g ≡ true
known_while_split gs c g e = either_known (has_name (bare_names gs) g) group.Shared (c.group g) e

-- what is known outside an atomic block is known inside
pub known_while_locked : (g : ℕ) (c : Context) (h : ℕ) → known c.group h ≡ true
    → known (while_locked g c).group h ≡ true
known_while_locked g c h e = either_known (nat_eq g h) group.Protected (held_back (c.group h)) (back_known (c.group
    h) e)

pub forms_known_while_split : (gs : List NameAt) (c : Context) → FormsAreKnown c → FormsAreKnown (while_split gs c)
forms_known_while_split gs c k x g l e h = known_while_split gs c g (k x g l e h)

pub forms_known_while_locked : (g : ℕ) (c : Context) → FormsAreKnown c → FormsAreKnown (while_locked g c)
forms_known_while_locked y c k x g l e h = known_while_locked y c g (k x g l e h)

-- ---- declared groups

-- what is new once a group is declared was new before
new_before : (b : Bool) (o : Option GroupPerm) → is_some (if b then Some group.Exclusive else o) ≡ false
    → is_some o ≡ false
new_before true o e = absurd (cc)
new_before false o e = e

not_known : (b : Bool) → not b ≡ true → b ≡ false
not_known true e = absurd (cc)
not_known false e = refl

-- groups that are declared in turn were not known before
declared_were_new : (xs : List NameAt) (gs hs : GroupsKnown) → in_turn declare xs gs ≡ Holds hs
    → All (λ (x : NameAt). known gs x.name ≡ false) xs
declared_were_new [] gs hs e = All-nil (λ (x : NameAt). known gs x.name ≡ false)
declared_were_new (x ∷ xs) gs hs e =
    let t = first_holds (declare x gs) (in_turn declare xs) hs e in
    let r = first_holds (require (not (known gs x.name)) rule.DuplicateLocal x.at) _ t.0 t.1 in
    let s : with_group x.name group.Exclusive gs ≡ t.0 = cc in
    All-cons (λ (y : NameAt). known gs y.name ≡ false) x xs
    (not_known (known gs x.name) (required (not (known gs x.name)) rule.DuplicateLocal x.at r.0 r.1))
    (All-weaker (λ (y : NameAt). known t.0 y.name ≡ false) (λ (y : NameAt). known gs y.name ≡ false)
    (λ y h. new_before (nat_eq x.name y.name) (gs y.name) (ap (λ (k : GroupsKnown). known k y.name) s ∙ h)) xs
    (declared_were_new xs t.0 hs t.2))

pub groups_were_new : LinesDeclare → (p : Code) (m : Definition) (b : Lines) (c d : Context)
    → judge_lines p m b c ≡ Holds d → All (λ (g : NameAt). known c.group g.name ≡ false) (groups_in_lines b)
groups_were_new lines p m b c d j = declared_were_new (groups_in_lines b) c.group d.group (lines p m b c d j).1
